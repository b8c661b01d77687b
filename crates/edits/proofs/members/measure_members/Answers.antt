-- `edits::members::measure_members` meets its contract.
use native.Mathlib.Omega.{arith}
use Rattle.builders.proofs.Storing.{payload_short, few_searched}
use Rattle.edits.proofs.Measures.{measured_none, measured_early, measured_full, measured_more}
use Rattle.edits.proofs.members.measure_members.Goals as goal

pub loop-init : goal.loop-init
loop-init c = measured_none _ _ _

pub returns-in_default : goal.returns-in_default
returns-in_default c = measured_early _ _ _ _ _ _ c.loop.invariant _ c.next_member.ensures c.in_default.is

pub overflow_add-sizes : goal.overflow_add-sizes
overflow_add-sizes c = omega (arith, c.loop.invariant.count, c.args.members.now.near)

pub overflow_add-sizes-in-loop : goal.overflow_add-sizes-in-loop
overflow_add-sizes-in-loop c =
    omega (
      arith,
      c.loop.invariant.near_keys,
      c.args.members.now.near,
      payload_short c.args.members.now.keys.now _ c.in-Some.member.key c.payload_at-name.ensures,
    )

pub overflow_add-sizes-in-loop-2 : goal.overflow_add-sizes-in-loop-2
overflow_add-sizes-in-loop-2 c =
    omega (
      arith,
      c.loop.invariant.near_vals,
      c.args.members.now.near,
      payload_short c.args.members.now.vals.now _ c.in-Some.member.val c.payload_at.ensures,
    )

pub loop-preserved : goal.loop-preserved
loop-preserved c =
    measured_more _ _ _ _ _ _ c.loop.invariant _ c.next_member.ensures _ _ _
    c.in-Some.is c.payload_at-name.ensures c.payload_at.ensures

pub returns : goal.returns
returns c = measured_full _ _ _ _ _ _ c.loop.invariant _ (few_searched _ _ _ _ _) c.loop-test.false
