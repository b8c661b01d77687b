-- `edits::merge::put_rising` meets its contract.
-- The loop keeps what is stored so far, and that the places of both sides are those of their tables.
use Prim.Native.Nat.{◌+◌, ◌^◌, ◌≤◌, ◌<◌}
use native.Mathlib.Omega.{arith}
use borrow.Author.Rules.{rules}
use mathlib.Core.Path.{◌≡◌, ◌∙◌}
use Rattle.layout.specs.Parts.{behind_member}
use Rattle.layout.specs.Table.{nth_member}
use Rattle.layout.specs.declared.parts.Places.{Places}
use Rattle.layout.proofs.Words.{slice_octets}
use Rattle.layout.proofs.Carries.{object_start, object_on}
use Rattle.edits.proofs.Merges.{objects_at, few_both}
use Rattle.edits.proofs.Sorteds.{ObjectAt}
use Rattle.edits.proofs.Walks.{Under, under_up, near_under, both_more, behind_near}
use Rattle.edits.proofs.Walks.{walking_starts, walking_near, walks_left, walks_both, walks_right, walking_rest}
use Rattle.edits.proofs.merge.put_rising.Goals.{After-compare, After-shared_slice_known-2-1, At-loop-i}
use Rattle.edits.proofs.merge.put_rising.Goals as goal

-- The two objects, at the entry.
objects : (c : After-shared_slice_known-2-1) → ObjectAt c.args.left.now c.args.m × ObjectAt c.args.right.now c.args.n
objects c =
    objects_at _ _ _ _ (slice_octets c.args.left.now c.type_inv.left)
    (slice_octets c.args.right.now c.type_inv.right) c.requires.0

few : (c : After-shared_slice_known-2-1) → c.args.m + c.args.n ≤ 16384
few c = few_both c.args.left.now _ c.args.right.now _ (objects c)

-- At the head of the loop: the places are within what a call takes.
left_near : (c : At-loop-i) → Under (2 ^ 58) c.loop-i.l
left_near c = near_under c.args.left.now _ _ _ c.loop-i.invariant.1.left_near

right_near : (c : At-loop-i) → Under (2 ^ 58) c.loop-i.r
right_near c = near_under c.args.right.now _ _ _ c.loop-i.invariant.1.right_near

out_near : (c : At-loop-i) → Under (2 ^ 48) c.loop-i.at
out_near c = walking_near _ _ _ _ _ _ _ _ _ _ _ _ c.loop-i.invariant.1 c.loop-i.invariant.0 (c.requires.3, c.requires.4, c.requires.5, c.requires.6)

-- In a turn: neither side is done.
more : (c : After-compare) → (c.loop-i.i < c.args.m) × (c.loop-i.j < c.args.n)
more c = both_more _ _ _ _ c.loop-i-test.true

-- A side that is behind its member is where its table gives the next one.
left_on : (c : After-compare) {next : Places} → next ≡ behind_member c.loop-i.l c.read_member-left_member.result
    → next ≡ nth_member c.args.left.now c.args.m (c.loop-i.i + 1)
left_on c e = object_on _ _ _ _ _ _ c.loop-i.invariant.2 c.read_member-left_member.ensures e

right_on : (c : After-compare) {next : Places} → next ≡ behind_member c.loop-i.r c.read_member-right_member.result
    → next ≡ nth_member c.args.right.now c.args.n (c.loop-i.j + 1)
right_on c e = object_on _ _ _ _ _ _ c.loop-i.invariant.3 c.read_member-right_member.ensures e

pub members_of-l-requires : goal.members_of-l-requires
members_of-l-requires c = omega (arith, few (goal.at.members_of-l-requires c).After-shared_slice_known-2-1)

pub members_of-r-requires : goal.members_of-r-requires
members_of-r-requires c = omega (arith, few (goal.at.members_of-r-requires c).After-shared_slice_known-2-1)

pub loop-i-init : goal.loop-i-init
loop-i-init c = (
  few (goal.at.loop-i-init c).After-shared_slice_known-2-1,
  walking_starts _ _ _ _ _ _ (objects (goal.at.loop-i-init c).After-shared_slice_known-2-1)
      c.requires.1 c.requires.2 _ _ c.members_of-l.ensures c.members_of-r.ensures,
  c.members_of-l.ensures ∙ object_start _ _,
  c.members_of-r.ensures ∙ object_start _ _,
)

-- The left name is less.
pub put_member-at-requires : goal.put_member-at-requires
put_member-at-requires c = under_up _ _ _ (omega arith) (out_near (goal.at.put_member-at-requires c).At-loop-i)

pub places_behind-l-requires : goal.places_behind-l-requires
places_behind-l-requires c = under_up _ _ _ (omega arith) (left_near (goal.at.places_behind-l-requires c).At-loop-i)

pub overflow_add-i : goal.overflow_add-i
overflow_add-i c = omega (arith, more (goal.at.overflow_add-i c).After-compare, c.loop-i.invariant.0)

pub loop-i-smaller-in-Less : goal.loop-i-smaller-in-Less
loop-i-smaller-in-Less c = omega (arith, more (goal.at.loop-i-smaller-in-Less c).After-compare)

pub loop-i-preserved-in-Less : goal.loop-i-preserved-in-Less
loop-i-preserved-in-Less c = (
  c.loop-i.invariant.0,
  walks_left _ _ _ _ _ _ _ _ _ _ _ _ c.loop-i.invariant.1 (more (goal.at.loop-i-preserved-in-Less c).After-compare).0 (more (goal.at.loop-i-preserved-in-Less c).After-compare).1 _ _
      c.read_member-left_member.ensures c.read_member-right_member.ensures _ _ _
      c.payload_at.ensures c.payload_at-in-loop-i.ensures c.compare.ensures _ _ _
      c.in-Less.is (c.put_member-at.ensures.is, c.put_member-at.ensures.kept) c.places_behind-l.ensures,
  left_on (goal.at.loop-i-preserved-in-Less c).After-compare c.places_behind-l.ensures,
  c.loop-i.invariant.3,
)

-- The names are the same.
pub put_member-at-requires-in-Equal : goal.put_member-at-requires-in-Equal
put_member-at-requires-in-Equal c = under_up _ _ _ (omega arith) (out_near (goal.at.put_member-at-requires-in-Equal c).At-loop-i)

pub places_behind-l-requires-in-Equal : goal.places_behind-l-requires-in-Equal
places_behind-l-requires-in-Equal c = under_up _ _ _ (omega arith) (left_near (goal.at.places_behind-l-requires-in-Equal c).At-loop-i)

pub places_behind-r-requires : goal.places_behind-r-requires
places_behind-r-requires c = under_up _ _ _ (omega arith) (right_near (goal.at.places_behind-r-requires c).At-loop-i)

pub overflow_add-i-in-Equal : goal.overflow_add-i-in-Equal
overflow_add-i-in-Equal c = omega (arith, more (goal.at.overflow_add-i-in-Equal c).After-compare, c.loop-i.invariant.0)

pub overflow_add-j : goal.overflow_add-j
overflow_add-j c = omega (arith, more (goal.at.overflow_add-j c).After-compare, c.loop-i.invariant.0)

pub loop-i-smaller-in-Equal : goal.loop-i-smaller-in-Equal
loop-i-smaller-in-Equal c = omega (arith, more (goal.at.loop-i-smaller-in-Equal c).After-compare)

pub loop-i-preserved-in-Equal : goal.loop-i-preserved-in-Equal
loop-i-preserved-in-Equal c = (
  c.loop-i.invariant.0,
  walks_both _ _ _ _ _ _ _ _ _ _ _ _ c.loop-i.invariant.1 (more (goal.at.loop-i-preserved-in-Equal c).After-compare).0 (more (goal.at.loop-i-preserved-in-Equal c).After-compare).1 _ _
      c.read_member-left_member.ensures c.read_member-right_member.ensures _ _ _
      c.payload_at.ensures c.payload_at-in-loop-i.ensures c.compare.ensures _ _ _ _
      c.in-Equal.is (c.put_member-at-in-Equal.ensures.is, c.put_member-at-in-Equal.ensures.kept)
      c.places_behind-l-in-Equal.ensures c.places_behind-r.ensures,
  left_on (goal.at.loop-i-preserved-in-Equal c).After-compare c.places_behind-l-in-Equal.ensures,
  right_on (goal.at.loop-i-preserved-in-Equal c).After-compare c.places_behind-r.ensures,
)

-- The right name is less.
pub put_member-at-requires-in-Greater : goal.put_member-at-requires-in-Greater
put_member-at-requires-in-Greater c = under_up _ _ _ (omega arith) (out_near (goal.at.put_member-at-requires-in-Greater c).At-loop-i)

pub places_behind-r-requires-in-Greater : goal.places_behind-r-requires-in-Greater
places_behind-r-requires-in-Greater c = under_up _ _ _ (omega arith) (right_near (goal.at.places_behind-r-requires-in-Greater c).At-loop-i)

pub overflow_add-j-in-Greater : goal.overflow_add-j-in-Greater
overflow_add-j-in-Greater c = omega (arith, more (goal.at.overflow_add-j-in-Greater c).After-compare, c.loop-i.invariant.0)

pub loop-i-smaller : goal.loop-i-smaller
loop-i-smaller c = omega (arith, more (goal.at.loop-i-smaller c).After-compare)

pub loop-i-preserved : goal.loop-i-preserved
loop-i-preserved c = (
  c.loop-i.invariant.0,
  walks_right _ _ _ _ _ _ _ _ _ _ _ _ c.loop-i.invariant.1 (more (goal.at.loop-i-preserved c).After-compare).0 (more (goal.at.loop-i-preserved c).After-compare).1 _ _
      c.read_member-left_member.ensures c.read_member-right_member.ensures _ _ _
      c.payload_at.ensures c.payload_at-in-loop-i.ensures c.compare.ensures _ _ _
      c.in-Greater.is (c.put_member-at-in-Greater.ensures.is, c.put_member-at-in-Greater.ensures.kept) c.places_behind-r-in-Greater.ensures,
  c.loop-i.invariant.2,
  right_on (goal.at.loop-i-preserved c).After-compare c.places_behind-r-in-Greater.ensures,
)

-- One side is done: what stands on the other follows.
pub overflow_sub-m : goal.overflow_sub-m
overflow_sub-m c = c.loop-i.invariant.1.left_near.inside

pub put_standing-at-requires : goal.put_standing-at-requires
put_standing-at-requires c = omega (arith, left_near (goal.at.put_standing-at-requires c).At-loop-i, out_near (goal.at.put_standing-at-requires c).At-loop-i, c.loop-i.invariant.0)

pub overflow_sub-n : goal.overflow_sub-n
overflow_sub-n c = c.loop-i.invariant.1.right_near.inside

pub put_standing-requires : goal.put_standing-requires
put_standing-requires c =
    let b = behind_near c.args.left.now _ _ _ _ c.put_standing-at.ensures.is
    (omega (arith, c.loop-i.invariant.0)) (out_near (goal.at.put_standing-requires c).At-loop-i) in
    omega (arith, right_near (goal.at.put_standing-requires c).At-loop-i, b, c.loop-i.invariant.0)

pub shape_of-out : goal.shape_of-out
shape_of-out c = search rules

pub returns : goal.returns
returns c =
    let all = walking_rest _ _ _ _ _ _ _ _ _ _ _ _ c.loop-i.invariant.1 _ _ _ _ (c.put_standing-at.ensures.is, c.put_standing-at.ensures.kept)
    (c.put_standing.ensures.is, c.put_standing.ensures.kept) c.loop-i-test.false in
    record { is = all.0; kept = all.1 }
