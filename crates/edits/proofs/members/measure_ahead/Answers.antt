-- `edits::members::measure_ahead` meets its contract.
-- The loop keeps the sizes so far beside those of what is ahead, and that its places are the table's.
use native.Mathlib.Omega.{arith}
use Prim.Native.Nat.{◌+◌}
use Rattle.builders.proofs.Storing.{payload_short}
use Rattle.edits.proofs.Standings.{sized_starts, sized_ends, sized_room, sized_on, sized_passed}
use Rattle.edits.proofs.Standings.{ahead_at, behind_at, near_on, carried_ahead, one_kept, one_passed, none_left}
use Rattle.edits.proofs.members.measure_ahead.Goals.{then-is_kept, else-is_kept}
use Rattle.edits.proofs.members.measure_ahead.Goals as goal

pub loop-i-init : goal.loop-i-init
loop-i-init c = sized_starts _ _ _ c.requires

pub overflow_add-sizes-then-is_kept : goal.overflow_add-sizes-then-is_kept
overflow_add-sizes-then-is_kept c =
    omega (
      arith,
      (sized_room _ _ _ _ _ c.loop-i.invariant).1,
      payload_short c.args.s.now _ c.read_member-member.result.key c.payload_at.ensures,
    )

pub overflow_add-sizes-then-is_kept-2 : goal.overflow_add-sizes-then-is_kept-2
overflow_add-sizes-then-is_kept-2 c =
    omega (
      arith,
      (sized_room _ _ _ _ _ c.loop-i.invariant).2,
      payload_short c.args.s.now _ c.read_member-member.result.val c.payload_at-then-is_kept.ensures,
    )

pub loop-i-preserved : goal.loop-i-preserved
loop-i-preserved c =
    let here = ahead_at c.args.ahead c.loop-i.at c.loop-i.i in
    let next = ahead_at c.args.ahead c.places_behind-at.result (c.loop-i.i + 1) in
    let m = c.read_member-member.result in
    let behind = behind_at c.args.ahead c.loop-i.at _ c.loop-i.i m c.places_behind-at.ensures in
    let near = near_on here m next c.loop-i.invariant.near c.loop-i-test.true behind in
    let carried = carried_ahead _ c.args.ahead here m next c.loop-i.invariant.carried c.read_member-member.ensures behind in
    elim c.if-is_kept.branch [
      | then-is_kept w ↦ rw w.sizes-is
          (sized_on _ _ _ _ _ c.loop-i.invariant _ next
          (one_kept _ _ here c.loop-i-test.true _ c.read_member-member.ensures next behind _ c.is_kept.ensures w.if-is_kept.true)
          near carried _ _ w.payload_at.ensures w.payload_at-then-is_kept.ensures)
      | else-is_kept w ↦ rw w.sizes-is
          (sized_passed _ _ _ _ _ c.loop-i.invariant next
          (one_passed _ _ here c.loop-i-test.true _ c.read_member-member.ensures next behind _ c.is_kept.ensures w.if-is_kept.false)
          near carried)
    ]

pub returns : goal.returns
returns c = sized_ends _ _ _ _ _ c.loop-i.invariant (none_left _ _ (ahead_at c.args.ahead c.loop-i.at c.loop-i.i) c.loop-i-test.false)
