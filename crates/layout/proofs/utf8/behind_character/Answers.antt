-- `layout::utf8::behind_character` meets its contract.
use mathlib.Core.Path.{ap, ◌∙◌}
use Rattle.std.specs.Prelude.{option_copied}
use Rattle.layout.proofs.Texts.{at_end, no_first, first_decides, due_few}
use Rattle.layout.proofs.utf8.behind_character.Goals as goal

pub returns-in_err-first : goal.returns-in_err-first
returns-in_err-first c = ap option_copied c.from_residual.ensures ∙ at_end _ c.in_err-first.ensures.cases

pub returns-in_err-lead_of : goal.returns-in_err-lead_of
returns-in_err-lead_of c =
    ap option_copied c.from_residual-in_err-lead_of.ensures
    ∙ no_first _ c.in_ok-first.ensures.cases.0 c.lead_of.ensures c.in_err-lead_of.was

pub behind_tails-requires : goal.behind_tails-requires
behind_tails-requires c = due_few _ _ _ c.lead_of.ensures c.in_ok-lead_of.was

pub returns : goal.returns
returns c = c.behind_tails.ensures ∙ first_decides _ c.in_ok-first.ensures.cases.0 c.lead_of.ensures _ c.in_ok-lead_of.was
