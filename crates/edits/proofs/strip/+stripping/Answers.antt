-- `edits::strip::put_stripped` and what it calls in a cycle meet their contracts: the allowance falls with each level.
use Prim.Native.Nat.{ℕ, ◌+◌, ◌-◌}
use native.Mathlib.Omega.{arith}
use mathlib.Core.Path.{◌≡◌, refl, ap, sym, ◌∙◌}
use lib.ListN.{length, take}
use Rattle.layout.specs.Bytes.{Octets}
use Rattle.layout.specs.Entry.{length_of}
use Rattle.layout.specs.Parts.{name_in, behind_member, first_part}
use Rattle.layout.specs.declared.parts.PartAt.{PartAt}
use Rattle.layout.specs.declared.parts.Places.{Places}
use Rattle.layout.proofs.Words.{slice_octets}
use Rattle.layout.proofs.Pieces.{same_part}
use Rattle.layout.proofs.Carries.{part_start, part_on}
use Rattle.layout.proofs.Patches.{length_patch}
use Rattle.builders.specs.Search.{least}
use Rattle.builders.specs.declared.search.Kept.TheVariants.{NonNull}
use Rattle.edits.specs.Stripping.{Prepared}
use Rattle.edits.proofs.Aheads.{searched}
use Rattle.edits.proofs.Standings.{ahead_at, behind_at}
use Rattle.edits.proofs.Stripped.{NestedItem, item_asked, item_repeats, item_short, item_stripped, item_as_is, member_stripped}
use Rattle.edits.proofs.Stripped.{no_scalar, no_refusal, handed_asks, handed_back}
use Rattle.edits.proofs.StripItems.{ArrayAt, array_at, storing_starts, storing_room, ItemNext, item_asks}
use Rattle.edits.proofs.StripItems.{storing_repeats, storing_len, storing_on, storing_ends}
use Rattle.edits.proofs.StripMembers.{ObjectStripped, object_stripped, handed_near, handed_members}
use Rattle.edits.proofs.StripMembers.{sizes_measured, sizes_fit, setting_of, all_places, found_among}
use Rattle.edits.proofs.StripMembers.{members_starts, members_room, members_few, members_asks}
use Rattle.edits.proofs.StripMembers.{members_repeats, past_room, members_on, members_ends}
use Rattle.edits.proofs.StripRising.{rising_starts, RisingNext, rising_found, rising_asks, rising_on, rising_passed, rising_ends}
use Rattle.edits.proofs.strip.+stripping.Goals.{put_item_stripped-Then-type_code-eq-CONTAINER_CODE, put_items_stripped-After-jentry_at-jentry, put_items_stripped-After-shared_slice_known-1}
use Rattle.edits.proofs.strip.+stripping.Goals.{put_items_stripped-After-struct_known-2-1, put_members_stripped-After-measure_ahead-sizes, put_members_stripped-After-shared_slice_known-1}
use Rattle.edits.proofs.strip.+stripping.Goals.{put_rising_stripped-After-is_kept, put_rising_stripped-After-shared_slice_known-1, put_rising_stripped-After-struct_known-2-1}
use Rattle.edits.proofs.strip.+stripping.Goals.{put_rising_stripped-Then-is_kept, put_sorted_stripped-After-shared_slice_known-1, put_sorted_stripped-At-loop, put_sorted_stripped-In-Some}
use Rattle.edits.proofs.strip.+stripping.Goals.{put_stripped-After-read_header}
use Rattle.edits.proofs.strip.+stripping.Goals.{put_rising_stripped-then-is_kept+in_ok-len, put_rising_stripped-else-is_kept}
use Rattle.edits.proofs.strip.+stripping.Goals as goal
use Rattle.std.specs.Prelude.{Ok, Some, None, option_copied}

nested : (t : ℕ) (c : put_item_stripped-Then-type_code-eq-CONTAINER_CODE t) → NestedItem c.args.s.now c.args.item
    c.payload_at-payload.result.now c.args.allowance
nested t c =
    record {
      octets = slice_octets c.args.s.now c.type_inv.s;
      payload_is = c.payload_at-payload.ensures;
      is_container = sym c.type_code.ensures ∙ c.if-type_code-eq-CONTAINER_CODE.true;
      asked = c.requires.0;
    }

pub put_item_stripped-put_stripped-requires : goal.put_item_stripped-put_stripped-requires
put_item_stripped-put_stripped-requires t c = (omega (arith, c.decreases), (item_asked (nested t (goal.at.put_item_stripped-put_stripped-requires t c).Then-type_code-eq-CONTAINER_CODE), c.requires.2))

pub put_item_stripped-returns-in_err-len : goal.put_item_stripped-returns-in_err-len
put_item_stripped-returns-in_err-len t c =
    rw c.from_residual.ensures
    (item_repeats (nested t (goal.at.put_item_stripped-returns-in_err-len t c).Then-type_code-eq-CONTAINER_CODE) _ _ c.put_stripped.ensures c.in_err-len.was)

pub put_item_stripped-overflow_cast-len : goal.put_item_stripped-overflow_cast-len
put_item_stripped-overflow_cast-len t c =
    omega (
      arith,
      item_short (nested t (goal.at.put_item_stripped-overflow_cast-len t c).Then-type_code-eq-CONTAINER_CODE) _ _
          c.put_stripped.ensures c.in_ok-len.was,
    )

pub put_item_stripped-returns-then-type_code-eq-CONTAINER_CODE : goal.put_item_stripped-returns-then-type_code-eq-CONTAINER_CODE
put_item_stripped-returns-then-type_code-eq-CONTAINER_CODE t c =
    item_stripped (nested t (goal.at.put_item_stripped-returns-then-type_code-eq-CONTAINER_CODE t c).Then-type_code-eq-CONTAINER_CODE) c.args.at c.args.out.now _ _
    c.put_stripped.ensures
    c.in_ok-len.was
    c.encoded.ensures
    c.put_u32.ensures
    c.requires.1

pub put_item_stripped-returns : goal.put_item_stripped-returns
put_item_stripped-returns t c =
    item_as_is c.args.s.now c.args.item _ _ c.args.at c.args.out.now _ _
    c.payload_at-payload.ensures
    c.type_code.ensures
    c.if-type_code-eq-CONTAINER_CODE.false
    c.put_u32-2.ensures
    c.copy.ensures

-- What is known at the entry, and of the item read.
array_known : (t : ℕ) (c : put_items_stripped-After-shared_slice_known-1 t) → ArrayAt c.args.s.now c.args.n c.args.allowance
array_known t c = array_at (slice_octets c.args.s.now c.type_inv.s) c.requires.0 c.requires.1

item_next : (t : ℕ) (c : put_items_stripped-After-jentry_at-jentry t) → ItemNext c.args.s.now c.args.n
    (record { index = c.loop-i.i; place = c.loop-i.place }) (record { jentry = c.jentry_at-jentry.result; place = c.loop-i.place })
item_next t c = record { more = c.loop-i-test.true; entry = c.jentry_at-jentry.ensures; place = refl }

pub put_items_stripped-first_part-first-requires : goal.put_items_stripped-first_part-first-requires
put_items_stripped-first_part-first-requires t c =
    let known = array_known t (goal.at.put_items_stripped-first_part-first-requires t c).After-shared_slice_known-1 in omega (arith, known.table, known.short)

pub put_items_stripped-overflow_add-here : goal.put_items_stripped-overflow_add-here
put_items_stripped-overflow_add-here t c = omega (arith, c.requires.2)

pub put_items_stripped-overflow_add-here-2 : goal.put_items_stripped-overflow_add-here-2
put_items_stripped-overflow_add-here-2 t c =
    let known = array_known t (goal.at.put_items_stripped-overflow_add-here-2 t c).After-shared_slice_known-1 in
    omega (arith, c.requires.2, known.table, known.short, same_part c.first_part-first.ensures)

pub put_items_stripped-overflow_cast-n : goal.put_items_stripped-overflow_cast-n
put_items_stripped-overflow_cast-n t c =
    let known = array_known t (goal.at.put_items_stripped-overflow_cast-n t c).After-shared_slice_known-1 in
    omega (arith, known.table, known.short)

pub put_items_stripped-loop-i-init : goal.put_items_stripped-loop-i-init
put_items_stripped-loop-i-init t c =
    let start : record { index = 0; place = c.first_part-first.result.place } ≡ first_part c.args.n =
    ap (λ (p : PartAt). record { index = 0; place = p.place }) c.first_part-first.ensures in
    (array_known t (goal.at.put_items_stripped-loop-i-init t c).After-shared_slice_known-1, storing_starts _ _ _ start, part_start _ _ _ start)

pub put_items_stripped-jentry_at-jentry-requires : goal.put_items_stripped-jentry_at-jentry-requires
put_items_stripped-jentry_at-jentry-requires t c = omega (arith, storing_room c.loop-i.invariant.1, c.loop-i-test.true)

pub put_items_stripped-overflow_sub-allowance : goal.put_items_stripped-overflow_sub-allowance
put_items_stripped-overflow_sub-allowance t c = omega (arith, c.loop-i.invariant.0.deep)

pub put_items_stripped-put_item_stripped-requires : goal.put_items_stripped-put_item_stripped-requires
put_items_stripped-put_item_stripped-requires t c =
    let room = storing_room c.loop-i.invariant.1 in (
      omega (arith, c.decreases, c.loop-i.invariant.0.deep),
      (
        item_asks c.loop-i.invariant.1 (item_next t (goal.at.put_items_stripped-put_item_stripped-requires t c).After-jentry_at-jentry),
        omega (arith, room, c.loop-i-test.true),
        omega (arith, room, c.requires.2, c.loop-i.invariant.0.deep, c.loop-i.invariant.0.allowed),
      ),
    )

pub put_items_stripped-returns-in_err-len : goal.put_items_stripped-returns-in_err-len
put_items_stripped-returns-in_err-len t c =
    rw c.from_residual.ensures
    (storing_repeats c.loop-i.invariant.1 (item_next t (goal.at.put_items_stripped-returns-in_err-len t c).After-jentry_at-jentry) _ _ c.put_item_stripped.ensures c.in_err-len.was)

pub put_items_stripped-overflow_add-here-in-loop-i : goal.put_items_stripped-overflow_add-here-in-loop-i
put_items_stripped-overflow_add-here-in-loop-i t c = omega (arith, storing_room c.loop-i.invariant.1, c.requires.2, c.loop-i-test.true)

pub put_items_stripped-overflow_add-here-in-loop-i-2 : goal.put_items_stripped-overflow_add-here-in-loop-i-2
put_items_stripped-overflow_add-here-in-loop-i-2 t c =
    omega (
      arith,
      storing_room c.loop-i.invariant.1,
      c.requires.2,
      storing_len c.loop-i.invariant.1 (item_next t (goal.at.put_items_stripped-overflow_add-here-in-loop-i-2 t c).After-jentry_at-jentry) _ _ c.put_item_stripped.ensures c.in_ok-len.was,
    )

pub put_items_stripped-overflow_add-place : goal.put_items_stripped-overflow_add-place
put_items_stripped-overflow_add-place t c = omega (arith, storing_room c.loop-i.invariant.1)

pub put_items_stripped-loop-i-preserved : goal.put_items_stripped-loop-i-preserved
put_items_stripped-loop-i-preserved t c =
    let len = c.payload_len.ensures ∙ ap length_of c.jentry_at-jentry.ensures in
    let behind = ap (λ (k : ℕ). record { index = c.loop-i.i + 1; place = c.loop-i.place + k }) len in (
      c.loop-i.invariant.0,
      storing_on c.loop-i.invariant.1 (item_next t (goal.at.put_items_stripped-loop-i-preserved t c).After-jentry_at-jentry) _ _
          c.put_item_stripped.ensures c.in_ok-len.was behind,
      part_on _ _ _ _ c.loop-i.invariant.2 behind,
    )

pub put_items_stripped-overflow_sub-result : goal.put_items_stripped-overflow_sub-result
put_items_stripped-overflow_sub-result t c = omega (arith, storing_room c.loop-i.invariant.1)

pub put_items_stripped-returns : goal.put_items_stripped-returns
put_items_stripped-returns t c = storing_ends c.loop-i.invariant.1 _ c.loop-i-test.false refl c.put_u32.ensures

pub put_items_stripped-shape_of-out : goal.put_items_stripped-shape_of-out
put_items_stripped-shape_of-out t c = ap length (put_items_stripped-returns t (goal.at.put_items_stripped-shape_of-out t c).After-struct_known-2-1).2 ∙ length_patch _ _ _

pub put_member_stripped-put_item_stripped-requires : goal.put_member_stripped-put_item_stripped-requires
put_member_stripped-put_item_stripped-requires t c = (omega (arith, c.decreases), (c.requires.0, c.requires.4, c.requires.5))

pub put_member_stripped-returns : goal.put_member_stripped-returns
put_member_stripped-returns t c =
    member_stripped c.args.s.now c.args.member c.args.at _ c.args.out.now _ _ _ c.put_item_stripped.result
    c.payload_at.ensures
    c.put_u32.ensures
    c.copy.ensures
    c.requires.3
    c.put_item_stripped.ensures

object_known : (t : ℕ) (c : put_members_stripped-After-shared_slice_known-1 t) → ObjectStripped c.args.s.now c.args.n c.args.allowance
object_known t c =
    object_stripped (slice_octets c.args.s.now c.type_inv.s)
    c.requires.0
    c.requires.1

prepared : (t : ℕ) (c : put_members_stripped-After-measure_ahead-sizes t) → Prepared (take (length c.args.s.now - 0) c.args.s.now) c.members_ahead-ahead.result
    c.measure_ahead-sizes.result c.args.allowance
prepared t c = handed_members c.requires.0 c.requires.1 c.members_ahead-ahead.ensures c.measure_ahead-sizes.ensures

pub put_members_stripped-members_ahead-ahead-requires : goal.put_members_stripped-members_ahead-ahead-requires
put_members_stripped-members_ahead-ahead-requires t c =
    let object = (object_known t (goal.at.put_members_stripped-members_ahead-ahead-requires t c).After-shared_slice_known-1).object_is in
    omega (arith, object.table, object.short)

pub put_members_stripped-measure_ahead-sizes-requires : goal.put_members_stripped-measure_ahead-sizes-requires
put_members_stripped-measure_ahead-sizes-requires t c =
    handed_near (object_known t (goal.at.put_members_stripped-measure_ahead-sizes-requires t c).After-shared_slice_known-1) c.members_ahead-ahead.ensures

pub put_members_stripped-put_rising_stripped-requires : goal.put_members_stripped-put_rising_stripped-requires
put_members_stripped-put_rising_stripped-requires t c =
    (omega (arith, c.decreases), (prepared t (goal.at.put_members_stripped-put_rising_stripped-requires t c).After-measure_ahead-sizes, c.requires.2, c.if-ahead.true))

pub put_members_stripped-returns-then-ahead : goal.put_members_stripped-returns-then-ahead
put_members_stripped-returns-then-ahead t c =
    handed_back c.put_rising_stripped.result c.args.s.now c.args.out.now
    c.put_rising_stripped.new.out c.args.at c.put_rising_stripped.ensures

pub put_members_stripped-put_sorted_stripped-requires : goal.put_members_stripped-put_sorted_stripped-requires
put_members_stripped-put_sorted_stripped-requires t c =
    (omega (arith, c.decreases), (prepared t (goal.at.put_members_stripped-put_sorted_stripped-requires t c).After-measure_ahead-sizes, c.requires.2))

pub put_members_stripped-returns : goal.put_members_stripped-returns
put_members_stripped-returns t c =
    handed_back c.put_sorted_stripped.result c.args.s.now c.args.out.now
    c.put_sorted_stripped.new.out c.args.at c.put_sorted_stripped.ensures

-- What is known at the entry, of the member read, and of one that is kept.
rising_octets : (t : ℕ) (c : put_rising_stripped-After-shared_slice_known-1 t) → Octets c.args.s.now
rising_octets t c = slice_octets c.args.s.now c.type_inv.s

rising_next : (t : ℕ) (c : put_rising_stripped-After-is_kept t) (at : Places) → at ≡ behind_member c.loop-i.from c.read_member-member.result
    → RisingNext c.args.s.now (ahead_at c.args.ahead c.loop-i.from c.loop-i.i) c.read_member-member.result
    (ahead_at c.args.ahead at (c.loop-i.i + 1)) c.is_kept.result
rising_next t c at e =
    record {
      more = c.loop-i-test.true;
      member_is = c.read_member-member.ensures;
      behind = behind_at c.args.ahead c.loop-i.from at c.loop-i.i c.read_member-member.result e;
      kept_is = c.is_kept.ensures;
    }

rising_least : (t : ℕ) (c : put_rising_stripped-Then-is_kept t) → Some c.read_member-member.result
    ≡ least (name_in c.args.s.now)
    c.loop-i.invariant.last None
    (searched c.args.s.now c.args.ahead.count NonNull)
rising_least t c =
    rising_found c.loop-i.invariant (
    record {
      more = c.loop-i-test.true;
      member_is = c.read_member-member.ensures;
      behind = behind_at c.args.ahead c.loop-i.from _ c.loop-i.i c.read_member-member.result refl;
      kept_is = c.is_kept.ensures;
    }
    ) c.if-is_kept.true

pub put_rising_stripped-places_for-to-requires : goal.put_rising_stripped-places_for-to-requires
put_rising_stripped-places_for-to-requires t c =
    omega (arith, sizes_fit (rising_octets t (goal.at.put_rising_stripped-places_for-to-requires t c).After-shared_slice_known-1) c.requires.0, c.requires.1)

pub put_rising_stripped-overflow_cast-sizes : goal.put_rising_stripped-overflow_cast-sizes
put_rising_stripped-overflow_cast-sizes t c = omega (arith, sizes_fit (rising_octets t (goal.at.put_rising_stripped-overflow_cast-sizes t c).After-shared_slice_known-1) c.requires.0)

pub put_rising_stripped-loop-i-init : goal.put_rising_stripped-loop-i-init
put_rising_stripped-loop-i-init t c =
    rising_starts (setting_of (rising_octets t (goal.at.put_rising_stripped-loop-i-init t c).After-shared_slice_known-1) c.requires.0 c.requires.1 c.places_for-to.ensures)
    c.requires.0.all c.requires.2

pub put_rising_stripped-overflow_sub-allowance : goal.put_rising_stripped-overflow_sub-allowance
put_rising_stripped-overflow_sub-allowance t c = omega (arith, c.loop-i.invariant.storing.setting.object_is.levels)

pub put_rising_stripped-put_member_stripped-requires : goal.put_rising_stripped-put_member_stripped-requires
put_rising_stripped-put_member_stripped-requires t c = (
  omega (arith, c.decreases, c.loop-i.invariant.storing.setting.object_is.levels),
  rising_asks c.loop-i.invariant (rising_next t (goal.at.put_rising_stripped-put_member_stripped-requires t c).After-is_kept _ refl) c.if-is_kept.true,
)

pub put_rising_stripped-returns-in_err-len : goal.put_rising_stripped-returns-in_err-len
put_rising_stripped-returns-in_err-len t c =
    rw c.from_residual.ensures
    (members_repeats c.loop-i.invariant.storing (rising_least t (goal.at.put_rising_stripped-returns-in_err-len t c).Then-is_kept) _ _
    c.put_member_stripped.ensures
    c.in_err-len.was)

pub put_rising_stripped-places_past-to-requires : goal.put_rising_stripped-places_past-to-requires
put_rising_stripped-places_past-to-requires t c =
    past_room c.loop-i.invariant.storing (rising_least t (goal.at.put_rising_stripped-places_past-to-requires t c).Then-is_kept) _ _
    c.put_member_stripped.ensures
    c.in_ok-len.was
    c.payload_at.ensures

pub put_rising_stripped-loop-i-preserved : goal.put_rising_stripped-loop-i-preserved
put_rising_stripped-loop-i-preserved t c =
    let read = rising_next t (goal.at.put_rising_stripped-loop-i-preserved t c).After-is_kept _ c.places_behind-from.ensures in
    elim c.if-is_kept.branch [
      | put_rising_stripped-then-is_kept+in_ok-len w ↦ rw (w.out-is, w.to-is)
          (rising_on c.loop-i.invariant read w.if-is_kept.true _ _ w.put_member_stripped.ensures w.in_ok-len.was w.payload_at.ensures
          w.places_past-to.ensures)
      | put_rising_stripped-else-is_kept w ↦ rw (w.out-is, w.to-is) (rising_passed c.loop-i.invariant read w.if-is_kept.false)
    ]

pub put_rising_stripped-overflow_sub-result : goal.put_rising_stripped-overflow_sub-result
put_rising_stripped-overflow_sub-result t c = omega (arith, members_room c.loop-i.invariant.storing)

pub put_rising_stripped-returns : goal.put_rising_stripped-returns
put_rising_stripped-returns t c =
    rising_ends c.loop-i.invariant _ c.loop-i-test.false (sizes_measured (rising_octets t (goal.at.put_rising_stripped-returns t c).After-shared_slice_known-1) c.requires.0)
    refl c.put_u32.ensures

pub put_rising_stripped-shape_of-out : goal.put_rising_stripped-shape_of-out
put_rising_stripped-shape_of-out t c = ap length (put_rising_stripped-returns t (goal.at.put_rising_stripped-shape_of-out t c).After-struct_known-2-1).2 ∙ length_patch _ _ _

-- What is known at the entry, at the loop, and of the member found.
sorted_octets : (t : ℕ) (c : put_sorted_stripped-After-shared_slice_known-1 t) → Octets c.args.s.now
sorted_octets t c = slice_octets c.args.s.now c.type_inv.s

sorted_long : (t : ℕ) (c : put_sorted_stripped-At-loop t) → length c.loop.out ≡ length c.args.out.now
sorted_long t c = c.loop.invariant.stored.as_long ∙ ap length c.put_u32.ensures ∙ length_patch _ _ _

sorted_least : (t : ℕ) (c : put_sorted_stripped-In-Some t) → Some c.in-Some.member
    ≡ least (name_in c.args.s.now)
    (option_copied c.loop.last) None
    (searched c.args.s.now c.args.ahead.count NonNull)
sorted_least t c = sym c.in-Some.is ∙ found_among (slice_octets c.args.s.now c.type_inv.s) c.requires.0 _ c.next_searched.ensures

pub put_sorted_stripped-places_for-to-requires : goal.put_sorted_stripped-places_for-to-requires
put_sorted_stripped-places_for-to-requires t c =
    omega (arith, sizes_fit (sorted_octets t (goal.at.put_sorted_stripped-places_for-to-requires t c).After-shared_slice_known-1) c.requires.0, c.requires.1)

pub put_sorted_stripped-overflow_cast-sizes : goal.put_sorted_stripped-overflow_cast-sizes
put_sorted_stripped-overflow_cast-sizes t c = omega (arith, sizes_fit (sorted_octets t (goal.at.put_sorted_stripped-overflow_cast-sizes t c).After-shared_slice_known-1) c.requires.0)

pub put_sorted_stripped-loop-init : goal.put_sorted_stripped-loop-init
put_sorted_stripped-loop-init t c =
    members_starts (setting_of (sorted_octets t (goal.at.put_sorted_stripped-loop-init t c).After-shared_slice_known-1) c.requires.0 c.requires.1 c.places_for-to.ensures) _

pub put_sorted_stripped-next_searched-requires : goal.put_sorted_stripped-next_searched-requires
put_sorted_stripped-next_searched-requires t c = all_places (sorted_octets t (goal.at.put_sorted_stripped-next_searched-requires t c).After-shared_slice_known-1) c.requires.0

pub put_sorted_stripped-shape_of-out-in_default : goal.put_sorted_stripped-shape_of-out-in_default
put_sorted_stripped-shape_of-out-in_default t c = sorted_long t (goal.at.put_sorted_stripped-shape_of-out-in_default t c).At-loop

pub put_sorted_stripped-returns-in_default : goal.put_sorted_stripped-returns-in_default
put_sorted_stripped-returns-in_default t c =
    members_few c.loop.invariant c.loop-test.true
    (found_among (sorted_octets t (goal.at.put_sorted_stripped-returns-in_default t c).After-shared_slice_known-1) c.requires.0 _ c.next_searched.ensures)
    c.in_default.is

pub put_sorted_stripped-overflow_sub-allowance : goal.put_sorted_stripped-overflow_sub-allowance
put_sorted_stripped-overflow_sub-allowance t c = omega (arith, c.loop.invariant.setting.object_is.levels)

pub put_sorted_stripped-put_member_stripped-requires : goal.put_sorted_stripped-put_member_stripped-requires
put_sorted_stripped-put_member_stripped-requires t c = (
  omega (arith, c.decreases, c.loop.invariant.setting.object_is.levels),
  members_asks c.loop.invariant (sorted_least t (goal.at.put_sorted_stripped-put_member_stripped-requires t c).In-Some) c.loop-test.true,
)

pub put_sorted_stripped-returns-in_err-len : goal.put_sorted_stripped-returns-in_err-len
put_sorted_stripped-returns-in_err-len t c =
    rw c.from_residual.ensures
    (members_repeats c.loop.invariant (sorted_least t (goal.at.put_sorted_stripped-returns-in_err-len t c).In-Some) _ _
    c.put_member_stripped.ensures c.in_err-len.was)

pub put_sorted_stripped-places_past-to-requires : goal.put_sorted_stripped-places_past-to-requires
put_sorted_stripped-places_past-to-requires t c =
    past_room c.loop.invariant (sorted_least t (goal.at.put_sorted_stripped-places_past-to-requires t c).In-Some) _ _
    c.put_member_stripped.ensures
    c.in_ok-len.was
    c.payload_at-name.ensures

pub put_sorted_stripped-loop-preserved : goal.put_sorted_stripped-loop-preserved
put_sorted_stripped-loop-preserved t c =
    members_on c.loop.invariant (sorted_least t (goal.at.put_sorted_stripped-loop-preserved t c).In-Some) _ _
    c.put_member_stripped.ensures
    c.in_ok-len.was
    c.payload_at-name.ensures
    c.places_past-to.ensures

pub put_sorted_stripped-overflow_sub-result : goal.put_sorted_stripped-overflow_sub-result
put_sorted_stripped-overflow_sub-result t c = omega (arith, members_room c.loop.invariant)

pub put_sorted_stripped-shape_of-out : goal.put_sorted_stripped-shape_of-out
put_sorted_stripped-shape_of-out t c = sorted_long t (goal.at.put_sorted_stripped-shape_of-out t c).At-loop

pub put_sorted_stripped-returns : goal.put_sorted_stripped-returns
put_sorted_stripped-returns t c = members_ends c.loop.invariant _ c.loop-test.false refl c.put_u32.ensures

container_octets : (t : ℕ) (c : put_stripped-After-read_header t) → Octets c.args.s.now
container_octets t c = slice_octets c.args.s.now c.type_inv.s

pub put_stripped-put_items_stripped-requires : goal.put_stripped-put_items_stripped-requires
put_stripped-put_items_stripped-requires t c =
    let asked = handed_asks c.requires.0 (sym c.read_header.ensures ∙ c.in-Ok.is ∙ ap Ok c.in-Array.is) in
    (omega (arith, c.decreases), (asked.0, asked.1, c.requires.1))

pub put_stripped-put_members_stripped-requires : goal.put_stripped-put_members_stripped-requires
put_stripped-put_members_stripped-requires t c =
    let asked = handed_asks c.requires.0 (sym c.read_header.ensures ∙ c.in-Ok.is ∙ ap Ok c.in-Object.is) in
    (omega (arith, c.decreases), (asked.0, asked.1, c.requires.1))

pub put_stripped-returns-in-Scalar : goal.put_stripped-returns-in-Scalar
put_stripped-returns-in-Scalar t c =
    no_scalar (container_octets t (goal.at.put_stripped-returns-in-Scalar t c).After-read_header) c.requires.0
    (sym c.read_header.ensures ∙ c.in-Ok.is ∙ ap Ok c.in-Scalar.is)

pub put_stripped-returns-in_default : goal.put_stripped-returns-in_default
put_stripped-returns-in_default t c =
    no_refusal (container_octets t (goal.at.put_stripped-returns-in_default t c).After-read_header) c.requires.0 (sym c.read_header.ensures ∙ c.in_default.is)
