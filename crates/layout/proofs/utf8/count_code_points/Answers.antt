-- `layout::utf8::count_code_points` meets its contract.
-- The loop keeps what it has counted, and that the rest decides.
use mathlib.Core.Path.{◌∙◌}
use borrow.Author.Tests.{tests}
use Rattle.std.proofs.Common.{rules}
use Rattle.layout.proofs.Texts.{counting, bad_character, left_less, character_counted, all_counted}
use Rattle.layout.proofs.utf8.count_code_points.Goals as goal

pub loop-left-init : goal.loop-left-init
loop-left-init c = counting _

pub returns-in_err-left : goal.returns-in_err-left
returns-in_err-left c =
    c.from_residual.ensures
    ∙ bad_character c.loop-left.invariant (search (rules, tests)) _ c.behind_character.ensures c.in_err-left.was

pub loop-left-smaller : goal.loop-left-smaller
loop-left-smaller c = left_less c.loop-left.invariant (search (rules, tests)) _ c.behind_character.ensures _ c.in_ok-left.was

pub loop-left-preserved : goal.loop-left-preserved
loop-left-preserved c = character_counted c.loop-left.invariant (search (rules, tests)) _ c.behind_character.ensures _ c.in_ok-left.was

pub returns : goal.returns
returns c = all_counted c.loop-left.invariant (search (rules, tests))
