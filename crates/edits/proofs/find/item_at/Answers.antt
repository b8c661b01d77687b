-- `edits::find::item_at` meets its contract.
use mathlib.Core.Path.{◌∙◌}
use Rattle.edits.proofs.Finds.{place_none, place_found}
use Rattle.edits.proofs.find.item_at.Goals as goal

pub returns-in_err-k : goal.returns-in_err-k
returns-in_err-k c = c.from_residual.ensures ∙ place_none _ _ _ c.in_err-k.was

pub returns : goal.returns
returns c = place_found _ _ _ _ c.in_ok-k.was _ c.part_at.ensures
