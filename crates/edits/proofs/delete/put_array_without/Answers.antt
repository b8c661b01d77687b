-- `edits::delete::put_array_without` meets its contract.
use native.Mathlib.Omega.{arith}
use mathlib.Core.Path.{refl}
use Rattle.layout.proofs.Words.{slice_octets}
use Rattle.layout.proofs.Pieces.{same_part}
use Rattle.edits.proofs.Tables.{parted}
use Rattle.edits.proofs.Runs.{behind_run}
use Rattle.edits.proofs.Cuts.{IsPartAt, at_part}
use Rattle.edits.proofs.Withouts.{array_gone}
use Rattle.edits.proofs.delete.put_array_without.Goals.{After-put_run-arg-1, After-put_run-arg-2-1, After-shared_slice_known-1}
use Rattle.edits.proofs.delete.put_array_without.Goals as goal

known : (c : After-shared_slice_known-1) → IsPartAt c.args.s.now c.args.n c.args.item
known c =
    at_part c.args.s.now _ c.args.item
    (parted _ _ (slice_octets c.args.s.now c.type_inv.s) c.requires.0)
    c.requires.1

pub first_part-first-requires : goal.first_part-first-requires
first_part-first-requires c = omega (arith, known (goal.at.first_part-first-requires c).After-shared_slice_known-1)

pub overflow_mul-start : goal.overflow_mul-start
overflow_mul-start c = omega (arith, known (goal.at.overflow_mul-start c).After-shared_slice_known-1)

pub overflow_add-start-2 : goal.overflow_add-start-2
overflow_add-start-2 c = omega (arith, known (goal.at.overflow_add-start-2 c).After-shared_slice_known-1, c.requires)

pub overflow_cast-n : goal.overflow_cast-n
overflow_cast-n c = omega (arith, known (goal.at.overflow_cast-n c).After-shared_slice_known-1)

pub put_run-middle-requires : goal.put_run-middle-requires
put_run-middle-requires c = omega (arith, known (goal.at.put_run-middle-requires c).After-shared_slice_known-1, c.requires, same_part c.first_part-first.ensures)

pub part_behind-requires : goal.part_behind-requires
part_behind-requires c = omega (arith, known (goal.at.part_behind-requires c).After-shared_slice_known-1)

pub put_run-end-requires : goal.put_run-end-requires
put_run-end-requires c =
    let asked = put_run-middle-requires (goal.at.put_run-end-requires c).After-put_run-arg-1 in
    omega (
      arith,
      known (goal.at.put_run-end-requires c).After-shared_slice_known-1,
      c.requires,
      same_part c.first_part-first.ensures,
      same_part c.parts_end-last.ensures,
      behind_run _ _ _ c.put_run-middle.ensures.is asked.0 asked.2,
      same_part c.part_behind.ensures,
    )

pub overflow_sub-result : goal.overflow_sub-result
overflow_sub-result c =
    let asked₁ = put_run-middle-requires (goal.at.overflow_sub-result c).After-put_run-arg-1 in
    let asked₂ = put_run-end-requires (goal.at.overflow_sub-result c).After-put_run-arg-2-1 in
    omega (
      arith,
      known (goal.at.overflow_sub-result c).After-shared_slice_known-1,
      same_part c.first_part-first.ensures,
      same_part c.parts_end-last.ensures,
      behind_run _ _ _ c.put_run-middle.ensures.is asked₁.0 asked₁.2,
      same_part c.part_behind.ensures,
      behind_run _ _ _ c.put_run-end.ensures.is asked₂.0 asked₂.2,
    )

pub returns : goal.returns
returns c =
    array_gone _ _ _ (known (goal.at.returns c).After-shared_slice_known-1) _ _ _ _ _ _ _ _ _ _ _ _
    c.first_part-first.ensures
    c.parts_end-last.ensures
    refl
    c.put_u32.ensures
    refl
    refl
    (c.put_run-middle.ensures.is, c.put_run-middle.ensures.kept)
    c.part_behind.ensures
    (c.put_run-end.ensures.is, c.put_run-end.ensures.kept)
