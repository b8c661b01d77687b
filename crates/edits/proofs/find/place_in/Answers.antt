-- `edits::find::place_in` meets its contract.
use mathlib.Core.Path.{sym, ◌∙◌}
use mir.Syntax.{w64}
use mir.Val.{to_z, of_z}
use mir.ValLaws.{to_z-of_z}
use Rattle.edits.proofs.Indexes.{no_place, a_place}
use Rattle.edits.proofs.find.place_in.Goals as goal

pub returns-in_err-k : goal.returns-in_err-k
returns-in_err-k c =
    c.from_residual.ensures
    ∙ no_place (to_z w64 (of_z w64 c.args.z)) _ _ _ (to_z-of_z w64 _ c.ranges.z) c.try_from.ensures c.ranges.z
    (sym c.ok.ensures.value ∙ c.in_err-k.was)

pub returns : goal.returns
returns c =
    c.then_some.ensures
    ∙ a_place (to_z w64 (of_z w64 c.args.z)) _ _ _ (to_z-of_z w64 _ c.ranges.z) c.try_from.ensures _ (sym c.ok.ensures.value ∙ c.in_ok-k.was)
