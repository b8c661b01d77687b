-- `layout::sound::is_rising` meets its contract.
use mathlib.Core.Path.{◌∙◌}
use borrow.Author.Tests.{tests}
use Rattle.std.proofs.Common.{rules}
use Rattle.std.proofs.lemmas.Iterator.Consumers.{YieldsList-from_first}
use Rattle.layout.specs.Order.{before}
use Rattle.layout.specs.Left.{Placed, left, shown}
use Rattle.layout.proofs.Lefts.{names_rise}
use Rattle.layout.proofs.Neighbours.{sorted_from_yields_List}
use Rattle.layout.proofs.sound.is_rising.Goals as goal

pub returns : goal.returns
returns c =
    sorted_from_yields_List _ (λ (x y : Placed). before x.bytes y.bytes) _ (λ x y r q k. search (rules, tests)) _
    c.is_sorted_by.ensures.ran (YieldsList-from_first shown left _ c.starting_at.ensures)
    ∙ names_rise c.args.s.now _ _
