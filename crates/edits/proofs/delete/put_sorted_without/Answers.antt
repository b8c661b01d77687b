-- `edits::delete::put_sorted_without` meets its contract.
use Prim.Native.Nat.{◌+◌, ◌*◌, ◌≤◌}
use native.Mathlib.Omega.{arith}
use mathlib.Core.Path.{◌≡◌, refl}
use Rattle.layout.specs.Read.{header}
use Rattle.layout.proofs.Words.{slice_octets}
use Rattle.edits.specs.Keypath.{Step}
use Rattle.edits.specs.Spot.{spot}
use Rattle.edits.proofs.Sorteds.{ValueAt, value_at, same_places, gone_room, gone_stored}
use Rattle.edits.proofs.delete.put_sorted_without.Goals.{After-measure_members-sizes, After-shared_slice_known-1}
use Rattle.edits.proofs.delete.put_sorted_without.Goals as goal
use Rattle.std.specs.Prelude.{Some}

-- The value that a step finds.
found_by : (c : After-shared_slice_known-1) (p : Step)
    → spot (header c.args.s.now) c.args.s.now p ≡ Some c.args.val
    → ValueAt c.args.s.now c.args.n c.args.val p
found_by c p q = value_at c.args.s.now _ c.args.val p (slice_octets c.args.s.now c.type_inv.s) c.requires.0 c.requires.1 c.requires.2 q

-- By the step that led to it.
found : (c : After-shared_slice_known-1) → ValueAt c.args.s.now c.args.n c.args.val c.requires.3.0
found c = found_by c c.requires.3.0 c.requires.3.1

-- What is left is no longer than the object was.
room : (c : After-measure_members-sizes) → 4 + 8 * c.measure_members-sizes.result.count + c.measure_members-sizes.result.keys + c.measure_members-sizes.result.vals ≤ 65536
room c =
    let v = value_at c.args.s.now _ c.args.val c.requires.3.0 (slice_octets c.args.s.now c.type_inv.s)
    c.requires.0 c.requires.1 c.requires.2 c.requires.3.1 in
    gone_room c.args.s.now _ _ _ v _ _ c.members_of.ensures c.measure_members-sizes.ensures

pub members_of-requires : goal.members_of-requires
members_of-requires c = let v = found (goal.at.members_of-requires c).After-shared_slice_known-1 in omega (arith, v.table, v.short)

pub overflow_sub-members : goal.overflow_sub-members
overflow_sub-members c = omega (arith, (found (goal.at.overflow_sub-members c).After-shared_slice_known-1).index)

pub invariant_of-members : goal.invariant_of-members
invariant_of-members c =
    let v = found (goal.at.invariant_of-members c).After-shared_slice_known-1 in
    record { near = omega (arith, v.table, v.short, v.values, same_places c.members_of.ensures) }

pub places_for-to-requires : goal.places_for-to-requires
places_for-to-requires c = omega (arith, room c, c.requires.4)

pub overflow_cast-sizes : goal.overflow_cast-sizes
overflow_cast-sizes c = omega (arith, room (goal.at.overflow_cast-sizes c).After-measure_members-sizes)

pub put_members-requires : goal.put_members-requires
put_members-requires c =
    let behind = same_places c.places_for-to.ensures in
    omega (arith, room (goal.at.put_members-requires c).After-measure_members-sizes, c.requires.4, behind)

pub overflow_add-result : goal.overflow_add-result
overflow_add-result c = omega (arith, room (goal.at.overflow_add-result c).After-measure_members-sizes, c.requires.4, (same_places c.places_for-to.ensures).3)

pub overflow_sub-result : goal.overflow_sub-result
overflow_sub-result c = omega (arith, (same_places c.places_for-to.ensures).3)

pub returns : goal.returns
returns c =
    λ p q.
    gone_stored c.args.s.now _ c.args.val p (found_by (goal.at.returns c).After-shared_slice_known-1 p q) _ _ c.members_of.ensures c.measure_members-sizes.ensures
    _ _ _ _ _ _ c.places_for-to.ensures refl c.put_u32.ensures c.put_members.ensures
