-- Two objects written as one: the members of both in byte order are the object's record; 8 by the names of the right one, 9 by the
-- length, 10.
use Rattle.layout.specs.Parts.{start_of}
use Prim.Native.Nat.{ℕ, ◌+◌, ◌*◌, ◌/◌, ◌^◌, ◌≤◌, ◌<◌}
use native.Mathlib.Omega.{arith}
use mathlib.Core.Path.{◌≡◌, refl, sym, ap, ◌∙◌}
use mathlib.Core.Bool.{Bool, true, false}
use mathlib.Core.List.{List, [], ◌∷◌, ◌++◌}
use lib.Bits.{bit_or}
use lib.ListN.{length}
use Rattle.layout.specs.Bytes.{Bytes, Octets, be32}
use Rattle.layout.specs.Answer.{gives}
use Rattle.layout.specs.Tree.{object, Members, names}
use Rattle.layout.specs.Encode.{payload}
use Rattle.layout.specs.Read.{read}
use Rattle.layout.specs.Place.{parts_at}
use Rattle.layout.specs.Patch.{patch}
use Rattle.layout.specs.Room.{EndedIn}
use Rattle.layout.specs.declared.refusal.Refusal.{Refusal}
use Rattle.layout.specs.declared.refusal.Refusal.TheVariants.{Repeated}
use Rattle.layout.proofs.Patches.{length_patch, patch_empty, patch_none}
use Rattle.layout.proofs.Readables.{reads, size_payload}
use Rattle.builders.specs.Order.{distinct, in_order, follow}
use Rattle.layout.specs.Parts.{texts, name_in, value_in, members_at}
use Rattle.builders.specs.Weave.{own_entry, woven, column}
use Rattle.builders.specs.Build.{on_two}
use Rattle.builders.specs.Room.{room_for, sized}
use Rattle.layout.specs.declared.parts.MemberAt.{MemberAt}
use Rattle.layout.specs.declared.parts.Places.{Places}
use Rattle.builders.proofs.Knowns.{BothOctets}
use Rattle.builders.proofs.Stands.{Stand, stand_sorted}
use Rattle.builders.proofs.Rooms.{sized_refused, sized_done}
use Rattle.builders.proofs.Twos.{two_edit, two_sized}
use Rattle.edits.specs.Concat.{concat}
use Rattle.layout.specs.Parts.{members_of}
use Rattle.edits.specs.Members.{places_for}
use Rattle.edits.specs.Merge.{Objects, in_a_row, merged, behind_all}
use Rattle.edits.specs.declared.members.Sizes.{Sizes}
use Rattle.edits.proofs.Concats.{concat_given, concat_refused, concat_depth, concat_size}
use Rattle.edits.proofs.Spots.{texts_names}
use Rattle.edits.proofs.Tables.{object_names}
use Rattle.edits.proofs.Withouts.{object_word}
use Rattle.edits.proofs.Sorteds.{ObjectAt, stand_sizes, stand_woven}
use Rattle.edits.proofs.Moves.{both_stand}
use Rattle.edits.proofs.Merges.{objects_at, few_both}
use Rattle.std.specs.Prelude.{Ok, Err, Some, Result}
use Rattle.layout.specs.Ended.{Ending}

object_reads : (s : Bytes) (n : ℕ) → Octets s → (w : ObjectAt s n) → read s ≡ gives (object w.members)
object_reads s n o w =
    let k = w.contained in
    (reads s (object w.members) o).1
    (k.bytes, (k.valid, k.deep, omega (arith, size_payload (object w.members), ap length k.bytes, w.short)))

-- On no bytes nothing is stored.
woven_empty : (name value : MemberAt → Bytes) (entry : MemberAt → ℕ) (a b c d : ℕ) (ms : List MemberAt) → woven name value entry [] a b c d ms ≡ []
unfolding woven
woven_empty name value entry a b c d [] = refl
woven_empty name value entry a b c d (m ∷ ms) =
    ap (λ (o : Bytes). woven name value entry o (a + 4) (b + 4) (c + length (name m)) (d + length (value m)) ms)
    (rw (patch_empty, patch_empty, patch_empty, patch_empty))
    ∙ woven_empty name value entry (a + 4) (b + 4) (c + length (name m)) (d + length (value m)) ms

-- The place of what is measured.
abbrev nowhere : Places
nowhere = record { key_jentry = 0; val_jentry = 0; key = 0; val = 0 }

-- Two objects of bytes: the left one has m members, the right one n.
pub record Overlaid (l : Bytes) (m : ℕ) (r : Bytes) (n : ℕ) : Type 0 where
  pub octets : BothOctets l r
  pub objects : Objects l m r n

-- What the writer left when it was lent no bytes: the places behind the members of both, and nothing stored.
abbrev pub Measured : Bytes → ℕ → Bytes → ℕ → Places → Bytes → Type 0
Measured l m r n end e =
    (end ≡ behind_all l m r n nowhere)
    × (e ≡ woven (name_in (r ++ l)) (value_in (r ++ l)) own_entry [] 0 0 0 0 (merged l m r n))

-- How long the object is by these places.
abbrev pub length_by : Places → ℕ
length_by end = 4 + 4 * (end.key_jentry / 4 + end.key_jentry / 4) + end.key + end.val

abbrev pub sizes_by : Places → Sizes
sizes_by end = record { count = end.key_jentry / 4; keys = end.key; vals = end.val }

module _ {l : Bytes} {m : ℕ} {r : Bytes} {n : ℕ} (s : Overlaid l m r n) where
  left : ObjectAt l m
  left = (objects_at l m r n s.octets.left s.octets.right s.objects).0

  right : ObjectAt r n
  right = (objects_at l m r n s.octets.left s.octets.right s.objects).1

  abbrev ls : Members
  ls = left.members

  abbrev rs : Members
  rs = right.members

  right_names : texts (parts_at r 0 (start_of (n + n)) n) ≡ names rs
  right_names = ap texts (object_names rs r n right.bytes right.short right.count) ∙ texts_names (names rs)

  -- The object of both, and its members by their places.
  abbrev all : Members
  all = in_order (follow rs ls)

  abbrev result : Bytes
  result = payload (object all)

  standing : Stand (name_in (r ++ l)) (value_in (r ++ l)) own_entry (merged l m r n) all
  standing =
      stand_sorted (name_in (r ++ l)) (value_in (r ++ l)) own_entry (in_a_row l m r n) (follow rs ls)
      (both_stand r l (members_at r r (members_of r n) n) (members_at l l (members_of l m) m) rs ls right.stand left.stand)

  result_short : length result ≤ 131072
  result_short =
      omega (
        arith,
        size_payload (object all),
        concat_size ls rs,
        size_payload (object ls),
        size_payload (object rs),
        ap length left.bytes,
        ap length right.bytes,
        left.short,
        right.short,
      )

  pub few_members : m + n ≤ 16384
  few_members = few_both l m r n (left, right)

  module _ {end : Places} {e : Bytes} (he : Measured l m r n end e) where
    counted : end.key_jentry / 4 ≡ length (merged l m r n)
    counted = omega (arith, ap (λ (p : Places). p.key_jentry) he.0)

    keyed : end.key ≡ length (column (name_in (r ++ l)) (merged l m r n))
    keyed = omega (arith, ap (λ (p : Places). p.key) he.0)

    measured : length_by end ≡ length result
    measured =
        omega (
          arith,
          counted,
          keyed,
          ap (λ (p : Places). p.val) he.0,
          stand_sizes (name_in (r ++ l)) (value_in (r ++ l)) own_entry (merged l m r n) all standing,
        )

    pub measured_short : length_by end ≤ 131072
    measured_short = omega (arith, measured, result_short)

    -- The places for the result are near.
    pub measured_near : {to : Places} → to ≡ places_for (sizes_by end) 0
        → (to.key_jentry < 2 ^ 32) × (to.val_jentry < 2 ^ 32) × (to.key < 2 ^ 32) × (to.val < 2 ^ 32)
    measured_near et =
        let b = measured_short in
        rw et (omega arith, omega arith, omega arith, omega arith)

    untouched : (o : Bytes) → e ++ o ≡ o
    untouched o = ap (λ (x : Bytes). x ++ o) (he.1 ∙ woven_empty (name_in (r ++ l)) (value_in (r ++ l)) own_entry 0 0 0 0 (merged l m r n))

  -- The numbers, in their order. First the names of the right object: `d` is what `is_distinct` answered.
  module _ {d : Bool} (hd : d ≡ distinct (texts (parts_at r 0 (start_of (n + n)) n))) where
    told : {b : Bool} → d ≡ b → distinct (names rs) ≡ b
    told q = ap distinct (sym right_names) ∙ sym hd ∙ q

    pub overlay_repeated : d ≡ false → {o : Bytes} (room : ℕ) → EndedIn (Err Repeated) o o (on_two concat l r room)
    overlay_repeated q {o} room =
        two_edit concat l r o room (object ls) (object_reads l m s.octets.left left) (object rs)
        (object_reads r n s.octets.right right) Repeated (concat_refused ls rs (told q))

    -- Then the length of the result, with the buffer `o` before the call.
    module _ (q : d ≡ true) {end : Places} {e : Bytes} (he : Measured l m r n end e) (o : Bytes) (room : ℕ) where
      sized_ends : (x : Ending) (o' : Bytes) → EndedIn x o o' (sized room result) → EndedIn x o o' (on_two concat l r room)
      sized_ends x o' w =
          two_sized concat l r o room (object ls) (object_reads l m s.octets.left left) (object rs)
          (object_reads r n s.octets.right right) (object all)
          (concat_given ls rs (told q)) x o' result
          (concat_depth ls rs 64 left.contained.deep right.contained.deep) refl w

      pub overlay_refused : {x : Result (Unit {0}) Refusal} → x ≡ room_for (length_by end) room → {y : Refusal} → x ≡ Err y
          → EndedIn (Err y) o (e ++ o) (on_two concat l r room)
      overlay_refused {x} hx {y} p =
          rw (untouched he o)
          (sized_ends (Err y) o (sized_refused result o room (length_by end) (measured he) x hx y p))

      -- Lent no bytes, nothing is stored.
      pub overlay_measured : {x : Result (Unit {0}) Refusal} → x ≡ room_for (length_by end) room → x ≡ Ok tt → length (e ++ o) ≡ 0
          → EndedIn (Ok (Some (length_by end))) o (e ++ o) (on_two concat l r room)
      overlay_measured {x} hx p h =
          let none : length o ≡ 0 = rw (untouched he o) at h in
          rw (untouched he o)
          (sized_ends (Ok (Some (length_by end))) o
          (sized_done result o room (length_by end) (measured he) x hx o p (patch_none o 0 result none)))

      -- What the header and the second run of the writer stored.
      module _ {v : ℕ} {to after : Places} {o₁ o₂ : Bytes} (ev : v ≡ bit_or (2 ^ 30) (end.key_jentry / 4))
          (e₁ : o₁ ≡ patch (e ++ o) 0 (be32 v)) (et : to ≡ places_for (sizes_by end) 0)
          (e₂ : (after ≡ behind_all l m r n to)
          × (o₂ ≡ woven (name_in (r ++ l)) (value_in (r ++ l)) own_entry o₁ to.key_jentry to.val_jentry to.key to.val (merged l m r n))) where
        written : o₂ ≡ patch o 0 result
        written =
            let w : v ≡ 2 ^ 30 + end.key_jentry / 4 = ev ∙ object_word (end.key_jentry / 4) (omega (arith, measured_short he)) in
            rw (← untouched he o)
            (stand_woven (name_in (r ++ l)) (value_in (r ++ l)) own_entry (merged l m r n) all standing (e ++ o) o₁ o₂ 0
            (sizes_by end) (counted he) (keyed he) (rw w at e₁) (rw et at e₂.1))

        pub overlay_length : length o₂ ≡ length o
        overlay_length = ap length written ∙ length_patch o 0 result

        pub overlay_done : {x : Result (Unit {0}) Refusal} → x ≡ room_for (length_by end) room → x ≡ Ok tt
            → EndedIn (Ok (Some (length_by end))) o o₂ (on_two concat l r room)
        overlay_done {x} hx p = sized_ends (Ok (Some (length_by end))) o₂ (sized_done result o room (length_by end) (measured he) x hx o₂ p written)
