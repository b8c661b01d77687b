-- `edits::delete::put_deleted` and what it calls in a cycle meet their contracts: the allowance falls with each level.
use Prim.Native.Nat.{ℕ, ◌+◌, ◌*◌, ◌≤◌}
use lib.ListN.{length}
use native.Mathlib.Omega.{arith}
use mathlib.Core.Path.{◌≡◌, refl, ap, sym, ◌∙◌}
use mathlib.Core.Logic.{inl, inr}
use Rattle.layout.specs.Bytes.{Octets}
use Rattle.layout.specs.Read.{header}
use Rattle.layout.specs.Parts.{name_in}
use Rattle.layout.proofs.Words.{slice_octets}
use Rattle.layout.proofs.Checks.{told_object}
use Rattle.layout.proofs.Pieces.{same_part}
use Rattle.builders.proofs.Searches.{bytes_short}
use Rattle.builders.proofs.Storing.{payload_short, sought_nth, sought_end, sought_all, few_searched}
use Rattle.builders.proofs.Storing.{begins, goes, ends_early, ends_full, ends_val}
use Rattle.edits.specs.Way.{Onward}
use Rattle.edits.specs.Remains.{remains_of}
use Rattle.edits.proofs.Cuts.{IsPartAt}
use Rattle.edits.proofs.Runs.{behind_run}
use Rattle.edits.proofs.Sorteds.{same_places}
use Rattle.edits.proofs.Onwards.{next_spot, leads_is, leads_nowhere, last_step, whole_levels}
use Rattle.edits.proofs.Leds.{manner_array, manner_object, manner_search, no_manner, stores_as, stores_length}
use Rattle.edits.proofs.Anews.{RunsAnew, Behind, here, down, child_cuts, child_short, part_anew_stored}
use Rattle.edits.proofs.Reweaves.{is_named, Named, value_cuts, value_short, named_stored, other_stored, stored_length}
use Rattle.edits.proofs.SortedAnews.{SortedAnew, Measured, at_value, allows, anew_room, anew_count, anew_cuts}
use Rattle.edits.proofs.SortedAnews.{value_anew_short, anew_remains}
use Rattle.edits.proofs.delete.+deletions.Goals.{put_deleted-After-find_step, put_deleted-After-shared_slice_known-1, put_deleted-After-slice_known-in-Items-1}
use Rattle.edits.proofs.delete.+deletions.Goals.{put_deleted-After-slice_known-in-Rising-1, put_deleted-After-slice_known-in-Unsorted-1, put_deleted-After-slice_known-then-way-1}
use Rattle.edits.proofs.delete.+deletions.Goals.{put_deleted-Else-way, put_deleted-In-Some, put_member_anew-After-payload_at, put_member_anew-After-places_past}
use Rattle.edits.proofs.delete.+deletions.Goals.{put_member_anew-After-slice_known-2-1, put_part_anew-After-put_deleted-len, put_part_anew-After-put_run-arg-2-1}
use Rattle.edits.proofs.delete.+deletions.Goals.{put_part_anew-After-put_run-here, put_part_anew-After-shared_slice_known-1, put_part_anew-After-struct_known-4-1}
use Rattle.edits.proofs.delete.+deletions.Goals.{put_part_anew-After-part_behind, put_sorted_anew-After-measure_members-sizes, put_sorted_anew-After-shared_slice_known-1}
use Rattle.edits.proofs.delete.+deletions.Goals.{put_sorted_anew-After-struct_known-3-1, put_sorted_anew-After-struct_known-in_default-1}
use Rattle.edits.proofs.delete.+deletions.Goals as goal
use Rattle.std.specs.Prelude.{Some}
use Rattle.layout.specs.declared.parts.PartAt.{PartAt}
use Rattle.edits.specs.declared.delete.Way.{Way}

deleted_octets : (t : ℕ) (c : put_deleted-After-shared_slice_known-1 t) → Octets c.args.s.now
deleted_octets t c = slice_octets c.args.s.now c.type_inv.s

-- Where the next step leads: to a spot, and to a part.
spot_is : (t : ℕ) (c : put_deleted-After-find_step t) → c.find_step.result ≡ next_spot c.args.s.now c.args.way.path.now c.args.way
spot_is t c =
    leads_is c.args.s.now c.args.way.path.now c.args.way _ _ _ _
    c.jentry_at-jentry.ensures
    c.payload_len.ensures
    c.slice-text.ensures
    c.find_step.ensures

part_is : (t : ℕ) (c : put_deleted-In-Some t) → next_spot c.args.s.now c.args.way.path.now c.args.way ≡ Some c.in-Some.part
part_is t c =
    sym (leads_is c.args.s.now c.args.way.path.now c.args.way _ _ _ _
    c.jentry_at-jentry.ensures
    c.payload_len.ensures
    c.slice-text.ensures
    c.find_step.ensures)
    ∙ c.in-Some.is

onward : (t : ℕ) (c : put_deleted-Else-way t) → Onward c.args.s.now c.args.way.path.now c.args.way
    c.in-Some.part
onward t c = record {
  leads =
      sym (leads_is c.args.s.now c.args.way.path.now c.args.way _ _ _ _
      c.jentry_at-jentry.ensures
      c.payload_len.ensures
      c.slice-text.ensures
      c.find_step.ensures)
      ∙ c.in-Some.is;
  more = omega (arith, c.if-way.false, c.requires.0);
}

pub put_deleted-jentry_at-jentry-requires : goal.put_deleted-jentry_at-jentry-requires
put_deleted-jentry_at-jentry-requires t c = omega (arith, c.requires.0)

pub put_deleted-returns-in_default : goal.put_deleted-returns-in_default
put_deleted-returns-in_default t c =
    leads_nowhere (deleted_octets t (goal.at.put_deleted-returns-in_default t c).After-shared_slice_known-1) c.requires.0
    (sym (spot_is t (goal.at.put_deleted-returns-in_default t c).After-find_step) ∙ c.in_default.is)

pub put_deleted-overflow_add-way : goal.put_deleted-overflow_add-way
put_deleted-overflow_add-way t c = omega (arith, c.requires.0)

pub put_deleted-put_without-requires : goal.put_deleted-put_without-requires
put_deleted-put_without-requires t c = (
  whole_levels (deleted_octets t (goal.at.put_deleted-put_without-requires t c).After-shared_slice_known-1) c.requires.0,
  c.requires.0.short,
  (_, part_is t (goal.at.put_deleted-put_without-requires t c).In-Some),
  omega (arith, c.requires),
)

pub put_deleted-returns-then-way : goal.put_deleted-returns-then-way
put_deleted-returns-then-way t c =
    stores_as
    (ap (remains_of c.args.s.now) (last_step c.args.way.path.now c.args.way c.if-way.true))
    (c.put_without.ensures _ (part_is t (goal.at.put_deleted-returns-then-way t c).In-Some))

pub put_deleted-shape_of-out-then-way : goal.put_deleted-shape_of-out-then-way
put_deleted-shape_of-out-then-way t c = stores_length (put_deleted-returns-then-way t (goal.at.put_deleted-shape_of-out-then-way t c).After-slice_known-then-way-1)

pub put_deleted-put_part_anew-requires : goal.put_deleted-put_part_anew-requires
put_deleted-put_part_anew-requires t c = (
  omega (arith, c.decreases),
  (
    c.requires.0,
    onward t (goal.at.put_deleted-put_part_anew-requires t c).Else-way,
    inl (manner_array c.args.s.now _ _ (sym (c.in-Some-manner_of.is ∙ ap Some c.in-Items.is) ∙ c.manner_of.ensures)),
    c.requires.1,
  ),
)

pub put_deleted-overflow_add-n : goal.put_deleted-overflow_add-n
put_deleted-overflow_add-n t c =
    let is = manner_object c.args.s.now (header c.args.s.now) c.in-Rising.n (sym (c.in-Some-manner_of.is ∙ ap Some c.in-Rising.is) ∙ c.manner_of.ensures) in
    omega (arith, (told_object c.args.s.now _ refl _ is.0).1)

pub put_deleted-put_part_anew-requires-in-Rising : goal.put_deleted-put_part_anew-requires-in-Rising
put_deleted-put_part_anew-requires-in-Rising t c =
    let is = manner_object c.args.s.now (header c.args.s.now) c.in-Rising.n (sym (c.in-Some-manner_of.is ∙ ap Some c.in-Rising.is) ∙ c.manner_of.ensures) in (
      omega (arith, c.decreases),
      (c.requires.0, onward t (goal.at.put_deleted-put_part_anew-requires-in-Rising t c).Else-way, inr (_, is.0, refl, is.1), c.requires.1),
    )

pub put_deleted-put_sorted_anew-requires : goal.put_deleted-put_sorted_anew-requires
put_deleted-put_sorted_anew-requires t c = (
  omega (arith, c.decreases),
  (
    c.requires.0,
    onward t (goal.at.put_deleted-put_sorted_anew-requires t c).Else-way,
    manner_search c.args.s.now _ _ (sym (c.in-Some-manner_of.is ∙ ap Some c.in-Unsorted.is) ∙ c.manner_of.ensures),
    c.requires.1,
  ),
)

pub put_deleted-returns-in-Items : goal.put_deleted-returns-in-Items
put_deleted-returns-in-Items t c = c.put_part_anew.ensures

pub put_deleted-shape_of-out-in-Items : goal.put_deleted-shape_of-out-in-Items
put_deleted-shape_of-out-in-Items t c = stores_length (put_deleted-returns-in-Items t (goal.at.put_deleted-shape_of-out-in-Items t c).After-slice_known-in-Items-1)

pub put_deleted-returns-in-Rising : goal.put_deleted-returns-in-Rising
put_deleted-returns-in-Rising t c = c.put_part_anew-in-Rising.ensures

pub put_deleted-shape_of-out-in-Rising : goal.put_deleted-shape_of-out-in-Rising
put_deleted-shape_of-out-in-Rising t c = stores_length (put_deleted-returns-in-Rising t (goal.at.put_deleted-shape_of-out-in-Rising t c).After-slice_known-in-Rising-1)

pub put_deleted-returns-in-Unsorted : goal.put_deleted-returns-in-Unsorted
put_deleted-returns-in-Unsorted t c = c.put_sorted_anew.ensures

pub put_deleted-shape_of-out-in-Unsorted : goal.put_deleted-shape_of-out-in-Unsorted
put_deleted-shape_of-out-in-Unsorted t c = stores_length (put_deleted-returns-in-Unsorted t (goal.at.put_deleted-shape_of-out-in-Unsorted t c).After-slice_known-in-Unsorted-1)

pub put_deleted-returns-in_default-manner_of : goal.put_deleted-returns-in_default-manner_of
put_deleted-returns-in_default-manner_of t c =
    no_manner c.args.s.now _ (sym c.in_default-manner_of.is ∙ c.manner_of.ensures) _ _
    (part_is t (goal.at.put_deleted-returns-in_default-manner_of t c).In-Some)

named : (t : ℕ) (c : put_member_anew-After-payload_at t) → Named c.args.s.now c.args.next.path.now c.args.name.now c.args.member
    c.args.next c.args.at c.args.allowance c.payload_at-key.result.now
    c.payload_at.result.now
named t c =
    let same = is_named c.args.s.now _ c.args.member c.payload_at-key.ensures c.is_same_bytes.ensures c.if-is_same_bytes.true in
    record {
      octets = slice_octets c.args.s.now c.type_inv.s;
      key_is = c.payload_at-key.ensures;
      value_is = c.payload_at.ensures;
      same = same;
      cuts = (c.requires.5 same).0;
      near = (c.requires.5 same).1;
      key_behind = c.requires.3;
      val_behind = c.requires.4;
    }

pub put_member_anew-put_deleted-len-requires : goal.put_member_anew-put_deleted-len-requires
put_member_anew-put_deleted-len-requires t c = (
  omega (arith, c.decreases),
  (value_cuts (named t (goal.at.put_member_anew-put_deleted-len-requires t c).After-payload_at), (named t (goal.at.put_member_anew-put_deleted-len-requires t c).After-payload_at).near),
)

pub put_member_anew-overflow_cast-len : goal.put_member_anew-overflow_cast-len
put_member_anew-overflow_cast-len t c = omega (arith, value_short (named t (goal.at.put_member_anew-overflow_cast-len t c).After-payload_at) c.put_deleted-len.ensures)

pub put_member_anew-places_past-requires : goal.put_member_anew-places_past-requires
put_member_anew-places_past-requires t c =
    omega (
      arith,
      c.requires,
      payload_short c.args.s.now _ c.args.member.key c.payload_at-key.ensures,
      value_short (named t (goal.at.put_member_anew-places_past-requires t c).After-payload_at) c.put_deleted-len.ensures,
    )

pub put_member_anew-returns-then-is_same_bytes : goal.put_member_anew-returns-then-is_same_bytes
put_member_anew-returns-then-is_same_bytes t c =
    let all = named_stored (named t (goal.at.put_member_anew-returns-then-is_same_bytes t c).After-payload_at) c.put_deleted-len.ensures _
    c.put_u32.ensures
    c.copy.ensures
    c.encoded.ensures
    c.put_u32-then-is_same_bytes.ensures
    c.places_past.ensures in
    record { is = all.0; kept = all.1 }

pub put_member_anew-shape_of-out-then-is_same_bytes : goal.put_member_anew-shape_of-out-then-is_same_bytes
put_member_anew-shape_of-out-then-is_same_bytes t c =
    stored_length _ _ _ _ _ _ _ _ _ _ (put_member_anew-returns-then-is_same_bytes t (goal.at.put_member_anew-shape_of-out-then-is_same_bytes t c).After-places_past).kept

-- Where it has another name.
pub put_member_anew-put_member-requires : goal.put_member_anew-put_member-requires
put_member_anew-put_member-requires t c = omega (arith, c.requires)

pub put_member_anew-returns : goal.put_member_anew-returns
put_member_anew-returns t c =
    let all = other_stored c.args.s.now c.args.name.now c.args.member c.args.at _ _
    (is_named c.args.s.now c.args.name.now c.args.member c.payload_at-key.ensures c.is_same_bytes.ensures
    c.if-is_same_bytes.false)
    (c.put_member.ensures.is, c.put_member.ensures.kept) in
    record { is = all.0; kept = all.1 }

pub put_member_anew-shape_of-out : goal.put_member_anew-shape_of-out
put_member_anew-shape_of-out t c = stored_length _ _ _ _ _ _ _ _ _ _ (put_member_anew-returns t (goal.at.put_member_anew-shape_of-out t c).After-slice_known-2-1).kept

-- What is known at the entry, of the way behind, and of what the nested call stored.
runs_anew : (t : ℕ) (c : put_part_anew-After-shared_slice_known-1 t) → RunsAnew c.args.s.now c.args.way.path.now c.args.total c.args.part c.args.way
    c.args.allowance
runs_anew t c =
    record {
      octets = slice_octets c.args.s.now c.type_inv.s;
      cuts = c.requires.0;
      onward = c.requires.1;
      in_runs = c.requires.2;
    }

known : (t : ℕ) (c : put_part_anew-After-shared_slice_known-1 t) → IsPartAt c.args.s.now c.args.total c.args.part
known t c = here (runs_anew t c)

abbrev rest : (t : ℕ) → put_part_anew-After-part_behind t → Way
rest t c = record { path = c.args.way.path; step = c.part_behind.result; count = c.args.way.count }

behind_part : (t : ℕ) (c : put_part_anew-After-part_behind t) → Behind c.args.s.now c.args.way.path.now c.args.part c.args.way
    c.part_behind-next.result (rest t c)
behind_part t c = record {
  next_is = c.part_behind-next.ensures;
  way_is = ap (λ (p : PartAt). record { path = c.args.way.path; step = p; count = c.args.way.count }) c.part_behind.ensures;
}

stored_short : (t : ℕ) (c : put_part_anew-After-put_deleted-len t) → c.args.part.place + c.put_deleted-len.result ≤ length c.args.s.now
stored_short t c =
    child_short (runs_anew t (goal.at.put_part_anew-After-put_deleted-len t c).After-shared_slice_known-1)
    (behind_part t (goal.at.put_part_anew-After-put_deleted-len t c).After-part_behind)
    c.put_deleted-len.ensures

pub put_part_anew-first_part-first-requires : goal.put_part_anew-first_part-first-requires
put_part_anew-first_part-first-requires t c = omega (arith, known t (goal.at.put_part_anew-first_part-first-requires t c).After-shared_slice_known-1)

pub put_part_anew-part_behind-next-requires : goal.put_part_anew-part_behind-next-requires
put_part_anew-part_behind-next-requires t c = omega (arith, known t (goal.at.put_part_anew-part_behind-next-requires t c).After-shared_slice_known-1)

pub put_part_anew-overflow_add-start : goal.put_part_anew-overflow_add-start
put_part_anew-overflow_add-start t c = omega (arith, c.requires)

pub put_part_anew-overflow_add-start-2 : goal.put_part_anew-overflow_add-start-2
put_part_anew-overflow_add-start-2 t c = omega (arith, known t (goal.at.put_part_anew-overflow_add-start-2 t c).After-shared_slice_known-1, c.requires, same_part c.first_part-first.ensures)

pub put_part_anew-put_run-here-requires : goal.put_part_anew-put_run-here-requires
put_part_anew-put_run-here-requires t c = omega (arith, known t (goal.at.put_part_anew-put_run-here-requires t c).After-shared_slice_known-1, c.requires, same_part c.first_part-first.ensures)

-- The places behind the first run.
part_run : (t : ℕ) (c : put_part_anew-After-put_run-here t) → (c.put_run-here.result.jentry ≡ c.args.at + 4 + 4 * c.args.part.index)
    × (c.put_run-here.result.place ≡ c.args.at + c.args.part.place)
part_run t c =
    let known = known t (goal.at.put_part_anew-After-put_run-here t c).After-shared_slice_known-1 in
    let first = same_part c.first_part-first.ensures in
    omega (
      arith,
      first,
      behind_run _ _ _ c.put_run-here.ensures.is (omega (arith, known, c.requires, first)) (omega (arith, known, c.requires, first)),
    )

pub put_part_anew-slice_bounds-put_deleted-count : goal.put_part_anew-slice_bounds-put_deleted-count
put_part_anew-slice_bounds-put_deleted-count t c = omega (arith, same_part c.part_behind-next.ensures)

pub put_part_anew-slice_bounds-put_deleted-start : goal.put_part_anew-slice_bounds-put_deleted-start
put_part_anew-slice_bounds-put_deleted-start t c = omega (arith, same_part c.part_behind-next.ensures)

pub put_part_anew-slice_bounds-put_deleted-end : goal.put_part_anew-slice_bounds-put_deleted-end
put_part_anew-slice_bounds-put_deleted-end t c = omega (arith, known t (goal.at.put_part_anew-slice_bounds-put_deleted-end t c).After-shared_slice_known-1, same_part c.part_behind-next.ensures)

pub put_part_anew-part_behind-requires : goal.put_part_anew-part_behind-requires
put_part_anew-part_behind-requires t c = omega (arith, c.requires)

pub put_part_anew-overflow_sub-allowance : goal.put_part_anew-overflow_sub-allowance
put_part_anew-overflow_sub-allowance t c = omega (arith, (down (runs_anew t (goal.at.put_part_anew-overflow_sub-allowance t c).After-shared_slice_known-1)).allowed)

pub put_part_anew-put_deleted-len-requires : goal.put_part_anew-put_deleted-len-requires
put_part_anew-put_deleted-len-requires t c =
    let allowed = (down (runs_anew t (goal.at.put_part_anew-put_deleted-len-requires t c).After-shared_slice_known-1)).allowed in (
      omega (arith, allowed, c.decreases),
      (
        child_cuts (runs_anew t (goal.at.put_part_anew-put_deleted-len-requires t c).After-shared_slice_known-1) (behind_part t (goal.at.put_part_anew-put_deleted-len-requires t c).After-part_behind),
        omega (
          arith,
          allowed,
          known t (goal.at.put_part_anew-put_deleted-len-requires t c).After-shared_slice_known-1,
          c.requires,
          part_run t
              (goal.at.put_part_anew-put_deleted-len-requires t c).After-put_run-here,
        ),
      ),
    )

pub put_part_anew-overflow_cast-len : goal.put_part_anew-overflow_cast-len
put_part_anew-overflow_cast-len t c =
    omega (arith, stored_short t (goal.at.put_part_anew-overflow_cast-len t c).After-put_deleted-len, known t (goal.at.put_part_anew-overflow_cast-len t c).After-shared_slice_known-1)

pub put_part_anew-overflow_add-behind : goal.put_part_anew-overflow_add-behind
put_part_anew-overflow_add-behind t c =
    omega (arith, known t (goal.at.put_part_anew-overflow_add-behind t c).After-shared_slice_known-1, c.requires, part_run t (goal.at.put_part_anew-overflow_add-behind t c).After-put_run-here)

pub put_part_anew-overflow_add-behind-2 : goal.put_part_anew-overflow_add-behind-2
put_part_anew-overflow_add-behind-2 t c =
    omega (
      arith,
      known t (goal.at.put_part_anew-overflow_add-behind-2 t c).After-shared_slice_known-1,
      c.requires,
      part_run t
          (goal.at.put_part_anew-overflow_add-behind-2 t c).After-put_run-here,
      stored_short t (goal.at.put_part_anew-overflow_add-behind-2 t c).After-put_deleted-len,
    )

pub put_part_anew-put_run-end-requires : goal.put_part_anew-put_run-end-requires
put_part_anew-put_run-end-requires t c =
    omega (
      arith,
      known t (goal.at.put_part_anew-put_run-end-requires t c).After-shared_slice_known-1,
      c.requires,
      part_run t (goal.at.put_part_anew-put_run-end-requires t c).After-put_run-here,
      stored_short t (goal.at.put_part_anew-put_run-end-requires t c).After-put_deleted-len,
      same_part c.part_behind-next.ensures,
      same_part c.parts_end-last.ensures,
    )

pub put_part_anew-overflow_sub-result : goal.put_part_anew-overflow_sub-result
put_part_anew-overflow_sub-result t c =
    let asked = put_part_anew-put_run-end-requires t (goal.at.put_part_anew-overflow_sub-result t c).After-put_run-arg-2-1 in
    omega (arith, part_run t (goal.at.put_part_anew-overflow_sub-result t c).After-put_run-here, behind_run _ _ _ c.put_run-end.ensures.is asked.0 asked.2, asked.2)

pub put_part_anew-returns : goal.put_part_anew-returns
put_part_anew-returns t c =
    part_anew_stored (runs_anew t (goal.at.put_part_anew-returns t c).After-shared_slice_known-1) (behind_part t (goal.at.put_part_anew-returns t c).After-part_behind) _ _
    c.first_part-first.ensures
    c.parts_end-last.ensures
    c.read_u32.ensures
    c.put_u32.ensures
    refl
    refl
    (c.put_run-here.ensures.is, c.put_run-here.ensures.kept)
    c.put_deleted-len.ensures
    c.encoded.ensures
    c.put_u32-2.ensures
    refl
    refl
    (c.put_run-end.ensures.is, c.put_run-end.ensures.kept)

pub put_part_anew-shape_of-out : goal.put_part_anew-shape_of-out
put_part_anew-shape_of-out t c = stores_length (put_part_anew-returns t (goal.at.put_part_anew-shape_of-out t c).After-struct_known-4-1)

-- What is known at the entry, and once the members are measured.
sorted_anew : (t : ℕ) (c : put_sorted_anew-After-shared_slice_known-1 t) → SortedAnew c.args.s.now c.args.way.path.now c.args.n c.args.val c.args.way
    c.args.allowance
sorted_anew t c =
    record {
      octets = slice_octets c.args.s.now c.type_inv.s;
      cuts = c.requires.0;
      onward = c.requires.1;
      is_object = c.requires.2;
    }

measured : (t : ℕ) (c : put_sorted_anew-After-measure_members-sizes t) → Measured c.args.s.now c.args.way.path.now c.args.n
    c.args.val c.args.way c.members_of.result c.measure_members-sizes.result
    (record { path = c.args.way.path; step = c.part_behind.result; count = c.args.way.count }) c.name_of-name.result.now
measured t c =
    record {
      from_is = c.members_of.ensures;
      sizes_are = c.measure_members-sizes.ensures;
      next_is = ap (λ (p : PartAt). record { path = c.args.way.path; step = p; count = c.args.way.count }) c.part_behind.ensures;
      name_is = c.name_of-name.ensures;
    }

pub put_sorted_anew-members_of-requires : goal.put_sorted_anew-members_of-requires
put_sorted_anew-members_of-requires t c = omega (arith, at_value (sorted_anew t (goal.at.put_sorted_anew-members_of-requires t c).After-shared_slice_known-1))

pub put_sorted_anew-overflow_sub-val : goal.put_sorted_anew-overflow_sub-val
put_sorted_anew-overflow_sub-val t c = omega (arith, at_value (sorted_anew t (goal.at.put_sorted_anew-overflow_sub-val t c).After-shared_slice_known-1))

pub put_sorted_anew-name_of-name-requires : goal.put_sorted_anew-name_of-name-requires
put_sorted_anew-name_of-name-requires t c = omega (arith, at_value (sorted_anew t (goal.at.put_sorted_anew-name_of-name-requires t c).After-shared_slice_known-1))

pub put_sorted_anew-part_behind-requires : goal.put_sorted_anew-part_behind-requires
put_sorted_anew-part_behind-requires t c = omega (arith, c.requires.0)

pub put_sorted_anew-invariant_of-members : goal.put_sorted_anew-invariant_of-members
put_sorted_anew-invariant_of-members t c =
    record { near = omega (arith, at_value (sorted_anew t (goal.at.put_sorted_anew-invariant_of-members t c).After-shared_slice_known-1), same_places c.members_of.ensures) }

pub put_sorted_anew-places_for-to-requires : goal.put_sorted_anew-places_for-to-requires
put_sorted_anew-places_for-to-requires t c =
    omega (arith, anew_room (sorted_anew t (goal.at.put_sorted_anew-places_for-to-requires t c).After-shared_slice_known-1) (measured t c), c.requires.3, c.requires.0.allowed)

pub put_sorted_anew-overflow_cast-sizes : goal.put_sorted_anew-overflow_cast-sizes
put_sorted_anew-overflow_cast-sizes t c =
    omega (
      arith,
      anew_room (sorted_anew t (goal.at.put_sorted_anew-overflow_cast-sizes t c).After-shared_slice_known-1)
          (measured t (goal.at.put_sorted_anew-overflow_cast-sizes t c).After-measure_members-sizes),
    )

pub put_sorted_anew-loop-init : goal.put_sorted_anew-loop-init
put_sorted_anew-loop-init t c = begins _ _ _ _ _ _

pub put_sorted_anew-overflow_sub-result : goal.put_sorted_anew-overflow_sub-result
put_sorted_anew-overflow_sub-result t c = omega (arith, c.loop.invariant.val_on, same_places c.places_for-to.ensures)

pub put_sorted_anew-returns-in_default : goal.put_sorted_anew-returns-in_default
put_sorted_anew-returns-in_default t c =
    anew_remains (sorted_anew t (goal.at.put_sorted_anew-returns-in_default t c).After-shared_slice_known-1) (measured t (goal.at.put_sorted_anew-returns-in_default t c).After-measure_members-sizes)
    c.places_for-to.ensures
    refl
    c.put_u32.ensures
    (ends_early _ _ _ _ _ _ _ _ _ _ c.loop.invariant _ c.next_member.ensures c.in_default.is)
    (ends_val _ _ _ _ _ _ _ _ _ _ c.loop.invariant
    (sought_end (name_in c.args.s.now) _ _ _ c.loop.invariant.sought _ c.next_member.ensures c.in_default.is))

pub put_sorted_anew-shape_of-out-in_default : goal.put_sorted_anew-shape_of-out-in_default
put_sorted_anew-shape_of-out-in_default t c = stores_length (put_sorted_anew-returns-in_default t (goal.at.put_sorted_anew-shape_of-out-in_default t c).After-struct_known-in_default-1)

pub put_sorted_anew-overflow_sub-allowance : goal.put_sorted_anew-overflow_sub-allowance
put_sorted_anew-overflow_sub-allowance t c = omega (arith, allows (sorted_anew t (goal.at.put_sorted_anew-overflow_sub-allowance t c).After-shared_slice_known-1))

pub put_sorted_anew-put_member_anew-to-requires : goal.put_sorted_anew-put_member_anew-to-requires
put_sorted_anew-put_member_anew-to-requires t c =
    let known = sorted_anew t (goal.at.put_sorted_anew-put_member_anew-to-requires t c).After-shared_slice_known-1 in
    let sizes = measured t (goal.at.put_sorted_anew-put_member_anew-to-requires t c).After-measure_members-sizes in
    let nth = sought_nth (name_in c.args.s.now) _ _ _ c.loop.invariant.sought _ c.next_member.ensures _ c.in-Some.is in
    let places = same_places c.places_for-to.ensures in
    let count = anew_count known sizes _ nth in
    let room = anew_room known sizes in
    let allowed = allows known in (
      omega (arith, allowed, c.decreases),
      (
        omega (arith, c.loop.invariant, places, count, room, c.requires.3, c.requires.0.allowed),
        omega (arith, c.loop.invariant, places, count, room, c.requires.3, c.requires.0.allowed),
        omega (arith, c.loop.invariant, places, count, room, c.requires.3, c.requires.0.allowed),
        omega (arith, c.loop.invariant, places, count),
        omega (arith, c.loop.invariant, places, count),
        λ q. (anew_cuts known sizes _ nth q, omega (arith, c.loop.invariant, places, room, allowed, c.requires.3, c.requires.0.allowed)),
      ),
    )

pub put_sorted_anew-loop-preserved : goal.put_sorted_anew-loop-preserved
put_sorted_anew-loop-preserved t c =
    let nth = sought_nth (name_in c.args.s.now) _ _ _ c.loop.invariant.sought _ c.next_member.ensures _ c.in-Some.is in
    goes _ _ _ _ _ _ _ _ _ _ c.loop.invariant _ c.next_member.ensures _ _ _ _ c.in-Some.is
    (c.put_member_anew-to.ensures.is, c.put_member_anew-to.ensures.kept)
    c.payload_at.ensures
    (bytes_short c.args.s.now c.in-Some.member.key)
    (value_anew_short (sorted_anew t (goal.at.put_sorted_anew-loop-preserved t c).After-shared_slice_known-1)
    (measured t (goal.at.put_sorted_anew-loop-preserved t c).After-measure_members-sizes) _ nth)

pub put_sorted_anew-overflow_sub-result-2 : goal.put_sorted_anew-overflow_sub-result-2
put_sorted_anew-overflow_sub-result-2 t c = omega (arith, c.loop.invariant.val_on, same_places c.places_for-to.ensures)

pub put_sorted_anew-returns : goal.put_sorted_anew-returns
put_sorted_anew-returns t c =
    anew_remains (sorted_anew t (goal.at.put_sorted_anew-returns t c).After-shared_slice_known-1) (measured t (goal.at.put_sorted_anew-returns t c).After-measure_members-sizes)
    c.places_for-to.ensures
    refl
    c.put_u32.ensures
    (ends_full _ _ _ _ _ _ _ _ _ _ c.loop.invariant _ (few_searched _ _ _ _ _) c.loop-test.false)
    (ends_val _ _ _ _ _ _ _ _ _ _ c.loop.invariant
    (sought_all (name_in c.args.s.now) _ _ _ (few_searched _ _ _ _ _) c.loop-test.false))

pub put_sorted_anew-shape_of-out : goal.put_sorted_anew-shape_of-out
put_sorted_anew-shape_of-out t c = stores_length (put_sorted_anew-returns t (goal.at.put_sorted_anew-shape_of-out t c).After-struct_known-3-1)
