-- `edits::merge::write_merged` meets its contract.
use Prim.Native.Nat.{◌+◌, ◌≤◌}
use native.Mathlib.Omega.{arith}
use mathlib.Core.Path.{refl, ap₂}
use mathlib.Core.Bool.{◌&&◌}
use Rattle.builders.proofs.Knowns.{both_octets}
use Rattle.edits.proofs.Overlays.{Overlaid, length_by, few_members, measured_short, measured_near}
use Rattle.edits.proofs.Overlays.{overlay_repeated, overlay_refused, overlay_measured, overlay_length, overlay_done}
use Rattle.layout.proofs.HandedOn.{handed_on}
use borrow.Author.Rules.{rules}
use Rattle.edits.proofs.merge.write_merged.Goals.{After-put_both-end, After-slice_known-1}
use Rattle.edits.proofs.merge.write_merged.Goals as goal

-- What is known from the start.
overlaid : (c : After-slice_known-1) → Overlaid c.args.left.now c.args.m c.args.right.now c.args.n
overlaid c =
    record {
      octets = both_octets c.args.left.now c.args.right.now c.type_inv.left c.type_inv.right;
      objects = c.requires;
    }

few : (c : After-slice_known-1) → c.args.m + c.args.n ≤ 16384
few c = few_members (overlaid c)

-- What the measuring run shows.
short : (c : After-put_both-end) → length_by c.put_both-end.result ≤ 131072
short c =
    measured_short
    (record { octets = both_octets c.args.left.now c.args.right.now c.type_inv.left c.type_inv.right; objects = c.requires })
    (c.put_both-end.ensures.is, c.put_both-end.ensures.kept)

pub overflow_add-n : goal.overflow_add-n
overflow_add-n c = omega (arith, few c)

pub overflow_mul-n : goal.overflow_mul-n
overflow_mul-n c = omega (arith, few c)

pub overflow_add-n-2 : goal.overflow_add-n-2
overflow_add-n-2 c = omega (arith, few c)

pub is_distinct-requires : goal.is_distinct-requires
is_distinct-requires c = omega (arith, few c)

pub overflow_add-m : goal.overflow_add-m
overflow_add-m c = omega (arith, few (goal.at.overflow_add-m c).After-slice_known-1)

pub overflow_mul-m : goal.overflow_mul-m
overflow_mul-m c = omega (arith, few (goal.at.overflow_mul-m c).After-slice_known-1)

pub overflow_add-m-2 : goal.overflow_add-m-2
overflow_add-m-2 c = omega (arith, few (goal.at.overflow_add-m-2 c).After-slice_known-1)

pub is_rising-requires : goal.is_rising-requires
is_rising-requires c = omega (arith, few (goal.at.is_rising-requires c).After-slice_known-1)

pub overflow_add-n-3 : goal.overflow_add-n-3
overflow_add-n-3 c = omega (arith, few (goal.at.overflow_add-n-3 c).After-slice_known-1)

pub overflow_mul-n-2 : goal.overflow_mul-n-2
overflow_mul-n-2 c = omega (arith, few (goal.at.overflow_mul-n-2 c).After-slice_known-1)

pub overflow_add-n-4 : goal.overflow_add-n-4
overflow_add-n-4 c = omega (arith, few (goal.at.overflow_add-n-4 c).After-slice_known-1)

pub is_rising-requires-2 : goal.is_rising-requires-2
is_rising-requires-2 c = omega (arith, few (goal.at.is_rising-requires-2 c).After-slice_known-1)

pub put_both-end-requires : goal.put_both-end-requires
put_both-end-requires c = (
  c.requires,
  ap₂ ◌&&◌ c.is_rising.ensures c.is_rising-2.ensures,
  search rules,
  search rules,
  search rules,
  search rules,
)

pub overflow_mul-len : goal.overflow_mul-len
overflow_mul-len c = omega (arith, short (goal.at.overflow_mul-len c).After-put_both-end)

pub overflow_add-len-2 : goal.overflow_add-len-2
overflow_add-len-2 c = omega (arith, short (goal.at.overflow_add-len-2 c).After-put_both-end)

pub overflow_add-len-3 : goal.overflow_add-len-3
overflow_add-len-3 c = omega (arith, short (goal.at.overflow_add-len-3 c).After-put_both-end)

pub overflow_add-len-4 : goal.overflow_add-len-4
overflow_add-len-4 c = omega (arith, short (goal.at.overflow_add-len-4 c).After-put_both-end)

pub returns-in_err-check_room : goal.returns-in_err-check_room
returns-in_err-check_room c =
    rw (handed_on _ c.from_residual.ensures)
    (overlay_refused (overlaid (goal.at.returns-in_err-check_room c).After-slice_known-1) c.is_distinct.ensures c.if-not-is_distinct.false
    (c.put_both-end.ensures.is, c.put_both-end.ensures.kept) _ _ c.check_room.ensures c.in_err-check_room.was)

pub returns-then-out-eq0 : goal.returns-then-out-eq0
returns-then-out-eq0 c =
    overlay_measured (overlaid (goal.at.returns-then-out-eq0 c).After-slice_known-1) c.is_distinct.ensures c.if-not-is_distinct.false
    (c.put_both-end.ensures.is, c.put_both-end.ensures.kept) _ _ c.check_room.ensures c.in_ok-check_room.was c.if-out-eq0.true

pub overflow_cast-sizes : goal.overflow_cast-sizes
overflow_cast-sizes c = omega (arith, short (goal.at.overflow_cast-sizes c).After-put_both-end)

pub places_for-requires : goal.places_for-requires
places_for-requires c = omega (arith, short (goal.at.places_for-requires c).After-put_both-end)

pub put_both-requires : goal.put_both-requires
put_both-requires c =
    let near = measured_near (overlaid (goal.at.put_both-requires c).After-slice_known-1) (c.put_both-end.ensures.is, c.put_both-end.ensures.kept) c.places_for.ensures in
    (c.requires, ap₂ ◌&&◌ c.is_rising.ensures c.is_rising-2.ensures, near.0, near.1, near.2, near.3)

pub shape_of-out : goal.shape_of-out
shape_of-out c =
    overlay_length (overlaid (goal.at.shape_of-out c).After-slice_known-1) c.is_distinct.ensures c.if-not-is_distinct.false
    (c.put_both-end.ensures.is, c.put_both-end.ensures.kept) _ 0 refl c.put_u32.ensures c.places_for.ensures (c.put_both.ensures.is, c.put_both.ensures.kept)

pub returns : goal.returns
returns c =
    overlay_done (overlaid (goal.at.returns c).After-slice_known-1) c.is_distinct.ensures c.if-not-is_distinct.false
    (c.put_both-end.ensures.is, c.put_both-end.ensures.kept) _ _ refl c.put_u32.ensures c.places_for.ensures (c.put_both.ensures.is, c.put_both.ensures.kept)
    c.check_room.ensures c.in_ok-check_room.was

pub returns-then-not-is_distinct : goal.returns-then-not-is_distinct
returns-then-not-is_distinct c =
    overlay_repeated (overlaid (goal.at.returns-then-not-is_distinct c).After-slice_known-1) c.is_distinct.ensures c.if-not-is_distinct.true _
