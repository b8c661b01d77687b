-- `builders::builder::write_sorted` meets its contract.
use native.Mathlib.Omega.{arith}
use mathlib.Core.Path.{refl}
use Rattle.builders.proofs.Knowns.{both_octets}
use Rattle.builders.proofs.Builds.{Bounds, Paired, pairs_bounds, pairs_refused, pairs_measured, pairs_done}
use Rattle.layout.proofs.HandedOn.{handed_on}
use Rattle.builders.proofs.builder.write_sorted.Goals.{After-slice_known-1}
use Rattle.builders.proofs.builder.write_sorted.Goals as goal

-- What is known from the start.
paired : (c : After-slice_known-1) → Paired c.args.names.now c.args.values.now c.args.n
paired c =
    record {
      octets = both_octets c.args.names.now c.args.values.now c.type_inv.names c.type_inv.values;
      pairs = c.requires.0;
    }

bounds : (c : After-slice_known-1) → Bounds c.args.names.now c.args.values.now c.args.n
bounds c = pairs_bounds (paired c)

pub overflow_sub-len : goal.overflow_sub-len
overflow_sub-len c = omega (arith, bounds c)

pub returns-in_err-check_room : goal.returns-in_err-check_room
returns-in_err-check_room c =
    rw (handed_on _ c.from_residual.ensures)
    (pairs_refused (paired (goal.at.returns-in_err-check_room c).After-slice_known-1) _ _ c.requires.1 _ refl _ c.check_room.ensures _ c.in_err-check_room.was)

pub returns-then-out-eq0 : goal.returns-then-out-eq0
returns-then-out-eq0 c =
    pairs_measured (paired (goal.at.returns-then-out-eq0 c).After-slice_known-1) _ _ c.requires.1 _ refl _ c.check_room.ensures
    c.in_ok-check_room.was c.if-out-eq0.true

pub overflow_mul-start : goal.overflow_mul-start
overflow_mul-start c = omega (arith, bounds (goal.at.overflow_mul-start c).After-slice_known-1)

pub overflow_add-start : goal.overflow_add-start
overflow_add-start c = omega (arith, bounds (goal.at.overflow_add-start c).After-slice_known-1)

pub overflow_mul-to : goal.overflow_mul-to
overflow_mul-to c = omega (arith, bounds (goal.at.overflow_mul-to c).After-slice_known-1)

pub overflow_add-to : goal.overflow_add-to
overflow_add-to c = omega (arith, bounds (goal.at.overflow_add-to c).After-slice_known-1)

pub overflow_mul-to-2 : goal.overflow_mul-to-2
overflow_mul-to-2 c = omega (arith, bounds (goal.at.overflow_mul-to-2 c).After-slice_known-1)

pub overflow_add-to-2 : goal.overflow_add-to-2
overflow_add-to-2 c = omega (arith, bounds (goal.at.overflow_add-to-2 c).After-slice_known-1)

pub overflow_cast-n : goal.overflow_cast-n
overflow_cast-n c = omega (arith, bounds (goal.at.overflow_cast-n c).After-slice_known-1)

pub invariant_of-members : goal.invariant_of-members
invariant_of-members c = record { near = omega (arith, bounds (goal.at.invariant_of-members c).After-slice_known-1) }

pub put_members-requires : goal.put_members-requires
put_members-requires c = omega (arith, bounds (goal.at.put_members-requires c).After-slice_known-1)

pub returns : goal.returns
returns c =
    pairs_done (paired (goal.at.returns c).After-slice_known-1) _ _ c.requires.1 _ refl _ c.check_room.ensures _ _ _
    c.in_ok-check_room.was refl c.put_u32.ensures c.put_members.ensures
