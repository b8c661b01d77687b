-- `edits::delete::put_object_without` meets its contract.
use Prim.Native.Nat.{◌+◌}
use native.Mathlib.Omega.{arith}
use mathlib.Core.Path.{refl}
use Rattle.layout.proofs.Words.{slice_octets}
use Rattle.layout.proofs.Pieces.{same_part}
use Rattle.edits.proofs.Tables.{Parted, parted}
use Rattle.edits.proofs.Runs.{behind_run}
use Rattle.edits.proofs.Withouts.{Bounds, bounds, object_gone}
use Rattle.edits.proofs.delete.put_object_without.Goals.{After-put_run-arg-1, After-put_run-arg-2-1, After-put_run-arg-3-1, After-shared_slice_known-1}
use Rattle.edits.proofs.delete.put_object_without.Goals as goal

part : (c : After-shared_slice_known-1) → Parted c.args.s.now (c.args.n + c.args.n)
part c = parted _ _ (slice_octets c.args.s.now c.type_inv.s) c.requires.0

known : (c : After-shared_slice_known-1) → Bounds c.args.s.now c.args.n (part c) c.args.val c.requires.1 c.requires.2
known c = bounds _ _ (part c) _ c.requires.1 c.requires.2

pub overflow_add-n : goal.overflow_add-n
overflow_add-n c = omega (arith, known (goal.at.overflow_add-n c).After-shared_slice_known-1)

pub first_part-first-requires : goal.first_part-first-requires
first_part-first-requires c = omega (arith, known (goal.at.first_part-first-requires c).After-shared_slice_known-1)

pub overflow_add-n-2 : goal.overflow_add-n-2
overflow_add-n-2 c = omega (arith, known (goal.at.overflow_add-n-2 c).After-shared_slice_known-1)

pub part_at-key-requires : goal.part_at-key-requires
part_at-key-requires c = omega (arith, known (goal.at.part_at-key-requires c).After-shared_slice_known-1, c.requires)

pub overflow_add-start-3 : goal.overflow_add-start-3
overflow_add-start-3 c = omega (arith, known (goal.at.overflow_add-start-3 c).After-shared_slice_known-1)

pub overflow_mul-start : goal.overflow_mul-start
overflow_mul-start c = omega (arith, known (goal.at.overflow_mul-start c).After-shared_slice_known-1)

pub overflow_add-start-4 : goal.overflow_add-start-4
overflow_add-start-4 c = omega (arith, known (goal.at.overflow_add-start-4 c).After-shared_slice_known-1, c.requires)

pub overflow_cast-n : goal.overflow_cast-n
overflow_cast-n c = omega (arith, known (goal.at.overflow_cast-n c).After-shared_slice_known-1)

pub put_run-keys-requires : goal.put_run-keys-requires
put_run-keys-requires c =
    omega (
      arith,
      known (goal.at.put_run-keys-requires c).After-shared_slice_known-1,
      c.requires,
      same_part c.first_part-first.ensures,
      same_part c.part_at-key.ensures,
    )

pub part_behind-requires : goal.part_behind-requires
part_behind-requires c = omega (arith, known (goal.at.part_behind-requires c).After-shared_slice_known-1, c.requires, same_part c.part_at-key.ensures)

pub put_run-vals-requires : goal.put_run-vals-requires
put_run-vals-requires c =
    let asked = put_run-keys-requires (goal.at.put_run-vals-requires c).After-put_run-arg-1 in
    omega (
      arith,
      known (goal.at.put_run-vals-requires c).After-shared_slice_known-1,
      c.requires,
      same_part c.first_part-first.ensures,
      same_part c.part_at-key.ensures,
      behind_run _ _ _ c.put_run-keys.ensures.is asked.0 asked.2,
      same_part (rw c.part_at-key.ensures at c.part_behind.ensures),
    )

pub part_behind-requires-2 : goal.part_behind-requires-2
part_behind-requires-2 c = omega (arith, known (goal.at.part_behind-requires-2 c).After-shared_slice_known-1, c.requires)

pub put_run-end-requires : goal.put_run-end-requires
put_run-end-requires c =
    let asked₁ = put_run-keys-requires (goal.at.put_run-end-requires c).After-put_run-arg-1 in
    let asked₂ = put_run-vals-requires (goal.at.put_run-end-requires c).After-put_run-arg-2-1 in
    omega (
      arith,
      known (goal.at.put_run-end-requires c).After-shared_slice_known-1,
      c.requires,
      same_part c.first_part-first.ensures,
      same_part c.parts_end-last.ensures,
      same_part c.part_at-key.ensures,
      behind_run _ _ _ c.put_run-keys.ensures.is asked₁.0 asked₁.2,
      same_part (rw c.part_at-key.ensures at c.part_behind.ensures),
      behind_run _ _ _ c.put_run-vals.ensures.is asked₂.0 asked₂.2,
      same_part c.part_behind-2.ensures,
    )

pub overflow_sub-result : goal.overflow_sub-result
overflow_sub-result c =
    let asked₁ = put_run-keys-requires (goal.at.overflow_sub-result c).After-put_run-arg-1 in
    let asked₂ = put_run-vals-requires (goal.at.overflow_sub-result c).After-put_run-arg-2-1 in
    let asked₃ = put_run-end-requires (goal.at.overflow_sub-result c).After-put_run-arg-3-1 in
    omega (
      arith,
      known (goal.at.overflow_sub-result c).After-shared_slice_known-1,
      c.requires,
      same_part c.first_part-first.ensures,
      same_part c.parts_end-last.ensures,
      same_part c.part_at-key.ensures,
      behind_run _ _ _ c.put_run-keys.ensures.is asked₁.0 asked₁.2,
      same_part (rw c.part_at-key.ensures at c.part_behind.ensures),
      behind_run _ _ _ c.put_run-vals.ensures.is asked₂.0 asked₂.2,
      same_part c.part_behind-2.ensures,
      behind_run _ _ _ c.put_run-end.ensures.is asked₃.0 asked₃.2,
    )

pub returns : goal.returns
returns c =
    object_gone _ _ (part (goal.at.returns c).After-shared_slice_known-1) _ c.requires.1 c.requires.2 _ _ _ _ _ _ _ _ _ _ _ _ _ _ _ _
    c.first_part-first.ensures
    c.parts_end-last.ensures
    refl
    c.part_at-key.ensures
    c.put_u32.ensures
    refl
    refl
    (c.put_run-keys.ensures.is, c.put_run-keys.ensures.kept)
    c.part_behind.ensures
    (c.put_run-vals.ensures.is, c.put_run-vals.ensures.kept)
    c.part_behind-2.ensures
    (c.put_run-end.ensures.is, c.put_run-end.ensures.kept)
