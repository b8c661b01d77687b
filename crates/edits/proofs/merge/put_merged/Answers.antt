-- `edits::merge::put_merged` meets its contract.
use Prim.Native.Nat.{◌+◌, ◌^◌, ◌≤◌, ◌<◌}
use mathlib.Core.Path.{ap, ◌∙◌}
use Rattle.std.specs.Prelude.{Some}
use native.Mathlib.Omega.{arith}
use Rattle.layout.proofs.Words.{slice_octets}
use Rattle.edits.proofs.Sorteds.{ObjectAt}
use Rattle.edits.proofs.Merges.{objects_at, few_both, starts_ready, ready_left, ready_right, ready_both, goes_left, goes_right, goes_both}
use Rattle.edits.proofs.Merges.{merging_starts, merging_near, merging_full, merging_end}
use Rattle.edits.proofs.merge.put_merged.Goals.{After-slice_known-1, At-loop}
use Rattle.edits.proofs.merge.put_merged.Goals.{in-Left, in-Right, in-Both}
use Rattle.edits.proofs.merge.put_merged.Goals as goal

-- The two objects, at the entry.
objects : (c : After-slice_known-1) → ObjectAt c.args.left.now c.args.m × ObjectAt c.args.right.now c.args.n
objects c =
    objects_at _ _ _ _ (slice_octets c.args.left.now c.type_inv.left)
    (slice_octets c.args.right.now c.type_inv.right) c.requires.0

few : (c : After-slice_known-1) → c.args.m + c.args.n ≤ 16384
few c = few_both c.args.left.now _ c.args.right.now _ (objects c)

-- At the head of the loop: the places are within what a call takes.
near : (c : At-loop) → (c.loop.at.key_jentry < 2 ^ 60) × (c.loop.at.val_jentry < 2 ^ 60) × (c.loop.at.key < 2 ^ 60) × (c.loop.at.val < 2 ^ 60)
near c = merging_near _ _ _ _ _ _ _ _ _ _ _ c.loop.invariant.2 c.loop.invariant.0 c.loop.invariant.1 (c.requires.1, c.requires.2, c.requires.3, c.requires.4)

pub members_ahead-requires : goal.members_ahead-requires
members_ahead-requires c = omega (arith, few c)

pub next_in_order-l-requires : goal.next_in_order-l-requires
next_in_order-l-requires c = starts_ready c.args.left.now _ (objects (goal.at.next_in_order-l-requires c).After-slice_known-1).0 _ c.members_ahead.ensures

pub members_ahead-requires-2 : goal.members_ahead-requires-2
members_ahead-requires-2 c = omega (arith, few (goal.at.members_ahead-requires-2 c).After-slice_known-1)

pub next_in_order-r-requires : goal.next_in_order-r-requires
next_in_order-r-requires c = starts_ready c.args.right.now _ (objects (goal.at.next_in_order-r-requires c).After-slice_known-1).1 _ c.members_ahead-2.ensures

pub loop-init : goal.loop-init
loop-init c = (
  omega arith,
  few (goal.at.loop-init c).After-slice_known-1,
  merging_starts _ _ _ _ _ _ (objects (goal.at.loop-init c).After-slice_known-1).0 (objects (goal.at.loop-init c).After-slice_known-1).1 _ _ c.members_ahead.ensures c.members_ahead-2.ensures _ _
      c.next_in_order-l.ensures c.next_in_order-r.ensures,
)

pub put_member-at-requires : goal.put_member-at-requires
put_member-at-requires c = near (goal.at.put_member-at-requires c).At-loop

pub next_in_order-l-requires-in-Left : goal.next_in_order-l-requires-in-Left
next_in_order-l-requires-in-Left c = ready_left _ _ _ _ _ _ _ _ _ _ _ c.loop.invariant.2 _ c.turn_of.ensures _ _ (c.in-Some.is ∙ ap Some c.in-Left.is)

pub put_member-at-requires-in-Right : goal.put_member-at-requires-in-Right
put_member-at-requires-in-Right c = near (goal.at.put_member-at-requires-in-Right c).At-loop

pub next_in_order-r-requires-in-Right : goal.next_in_order-r-requires-in-Right
next_in_order-r-requires-in-Right c = ready_right _ _ _ _ _ _ _ _ _ _ _ c.loop.invariant.2 _ c.turn_of.ensures _ _ (c.in-Some.is ∙ ap Some c.in-Right.is)

pub put_member-at-requires-in-Both : goal.put_member-at-requires-in-Both
put_member-at-requires-in-Both c = near (goal.at.put_member-at-requires-in-Both c).At-loop

pub next_in_order-l-requires-in-Both : goal.next_in_order-l-requires-in-Both
next_in_order-l-requires-in-Both c = (ready_both _ _ _ _ _ _ _ _ _ _ _ c.loop.invariant.2 _ c.turn_of.ensures _ _ _ (c.in-Some.is ∙ ap Some c.in-Both.is)).0

pub next_in_order-r-requires-in-Both : goal.next_in_order-r-requires-in-Both
next_in_order-r-requires-in-Both c = (ready_both _ _ _ _ _ _ _ _ _ _ _ c.loop.invariant.2 _ c.turn_of.ensures _ _ _ (c.in-Some.is ∙ ap Some c.in-Both.is)).1

-- None is left.
pub returns-in_default : goal.returns-in_default
returns-in_default c = let all = merging_end _ _ _ _ _ _ _ _ _ _ _ c.loop.invariant.2 _ c.turn_of.ensures c.in_default.is in record { is = all.0; kept = all.1 }

pub loop-preserved : goal.loop-preserved
loop-preserved c =
    elim c.match-turn.branch [
      | in-Left w ↦ (
        omega arith,
        c.loop.invariant.1,
        goes_left c.args.left.now c.args.m c.args.right.now c.args.n c.args.out.now c.args.to
            c.loop.out c.loop.l c.loop.r c.loop.at c.loop.counter c.loop.invariant.2
            _ c.turn_of.ensures _ _ _ _ _ _ _ w.out-is w.at-is _ _ _
            (c.in-Some.is ∙ ap Some w.in-Left.is) w.payload_at-name.ensures (w.put_member-at.ensures.is, w.put_member-at.ensures.kept)
            (record { stands = w.next_in_order-l-in-Left.ensures.stands; searched = w.next_in_order-l-in-Left.ensures.searched }) w.l-is w.r-is,
      )
      | in-Right w ↦ (
        omega arith,
        c.loop.invariant.1,
        goes_right c.args.left.now c.args.m c.args.right.now c.args.n c.args.out.now c.args.to
            c.loop.out c.loop.l c.loop.r c.loop.at c.loop.counter c.loop.invariant.2
            _ c.turn_of.ensures _ _ _ _ _ _ _ w.out-is w.at-is _ _ _
            (c.in-Some.is ∙ ap Some w.in-Right.is) w.payload_at-name-in-Right.ensures (w.put_member-at-in-Right.ensures.is, w.put_member-at-in-Right.ensures.kept)
            (record { stands = w.next_in_order-r-in-Right.ensures.stands; searched = w.next_in_order-r-in-Right.ensures.searched }) w.l-is w.r-is,
      )
      | in-Both w ↦ (
        omega arith,
        c.loop.invariant.1,
        goes_both c.args.left.now c.args.m c.args.right.now c.args.n c.args.out.now c.args.to
            c.loop.out c.loop.l c.loop.r c.loop.at c.loop.counter c.loop.invariant.2
            _ c.turn_of.ensures _ _ _ _ _ _ _ w.out-is w.at-is _ _ _ _ _
            (c.in-Some.is ∙ ap Some w.in-Both.is) w.payload_at-name-in-Both.ensures (w.put_member-at-in-Both.ensures.is, w.put_member-at-in-Both.ensures.kept)
            (record { stands = w.next_in_order-l-in-Both.ensures.stands; searched = w.next_in_order-l-in-Both.ensures.searched })
            (record { stands = w.next_in_order-r-in-Both.ensures.stands; searched = w.next_in_order-r-in-Both.ensures.searched }) w.l-is w.r-is,
      )
    ]

pub returns : goal.returns
returns c = let all = merging_full _ _ _ _ _ _ _ _ _ _ _ c.loop.invariant.2 (omega arith) in record { is = all.0; kept = all.1 }
