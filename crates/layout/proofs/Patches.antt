-- The laws of `patch`, and of the promise of a function that writes. None of `patch` but `patch_eq` and `patch_zero` asks that the
-- bytes fit: what falls outside is dropped on both sides.
use mathlib.Core.Path.{◌≡◌, refl, sym, ap, ◌∙◌}
use Prim.Native.Nat.{ℕ, suc, ◌+◌, ◌-◌, ◌≤◌, ◌<◌, min}
use native.Mathlib.Decide.{dec_le}
use native.Mathlib.Nat.{add-zero, zero-add, add-suc, suc-add}
use native.Mathlib.Numerals.{add-one}
use native.Mathlib.Omega.{arith}
use mathlib.Core.Bool.{cond}
use mathlib.Core.List.{List, [], ◌∷◌, ◌++◌, append_assoc}
use lib.Dec.{ltb}
use lib.ListN.{length, take, drop, get_or, set, length-set, take-append-drop}
use lib.Seq.{sets, sets-eq, set_comm, set_out, take-suc, take_all, length-take-le, drop-drop}
use borrow.Rule.Slice.PartMut.{put_mid}
use borrow.Author.Tests.{lt-ltb, le-ltb}
use Rattle.layout.specs.Bytes.{Bytes}
use Rattle.layout.specs.Patch.{patch}
use Rattle.layout.specs.Ended.{Ended, Outcome, result, absence, refusal, into}
use Rattle.layout.specs.Room.{EndedIn, Fits}
use Rattle.layout.specs.declared.refusal.Refusal.{Refusal}
use Rattle.layout.specs.declared.refusal.Refusal.TheVariants.{Buffer}
use Rattle.std.specs.Prelude.{Ok, Err, Some}
use Rattle.layout.specs.Ended.{Ending}

pub length_patch : (o : List ℕ) (at : ℕ) (bs : List ℕ) → length (patch o at bs) ≡ length o
unfolding patch
length_patch o at [] = refl
length_patch o at (b ∷ bs) = length_patch (set o at b) (suc at) bs ∙ length-set o at b

-- Consecutive patches are one patch.
pub patch_append : (o : List ℕ) (at : ℕ) (a b : List ℕ) → patch (patch o at a) (at + length a) b ≡ patch o at (a ++ b)
unfolding patch
patch_append o at [] b = rw (add-zero at)
patch_append o at (x ∷ a) b = rw (add-suc at (length a), ← suc-add at (length a)) (patch_append (set o at x) (suc at) a b)

-- One byte more.
pub patch_snoc : (o : List ℕ) (at : ℕ) (a : List ℕ) (x : ℕ)
    → set (patch o at a) (at + length a) x ≡ patch o at (a ++ (x ∷ []))
unfolding patch
patch_snoc o at a x = patch_append o at a (x ∷ [])

-- The next byte of what is stored.
pub patch_next : (o out src : List ℕ) (at i : ℕ) → i < length src → out ≡ patch o at (take i src)
    → set out (at + i) (get_or src i 0) ≡ patch o at (take (i + 1) src)
patch_next o out src at i h e =
    let n : length (take i src) ≡ i = length-take-le i src (omega arith) in
    rw (e, add-one i, take-suc src i 0 h, ← patch_snoc, n)

-- A buffer with no room stays as it is.
pub patch_empty : (at : ℕ) (bs : List ℕ) → patch [] at bs ≡ []
unfolding patch
patch_empty at [] = refl
patch_empty at (b ∷ bs) = patch_empty (suc at) bs

-- The same of one that is known by its length.
pub patch_none : (o : List ℕ) (at : ℕ) (bs : List ℕ) → length o ≡ 0 → o ≡ patch o at bs
patch_none [] at bs h = sym (patch_empty at bs)
patch_none (x ∷ o) at bs h = let z : ⊥ = omega arith in absurd z

-- A store before a patch and one after it commute.
pub set_patch : (o : List ℕ) (i x p : ℕ) (bs : List ℕ) → i < p → patch (set o i x) p bs ≡ set (patch o p bs) i x
unfolding patch
set_patch o i x p [] h = refl
set_patch o i x p (b ∷ bs) h =
    ap (λ (l : List ℕ). patch l (suc p) bs) (set_comm o i p x b (λ e. omega arith))
    ∙ set_patch (set o p b) i x (suc p) bs (omega arith)

-- Patches of places apart commute.
pub patch_comm : (o : List ℕ) (at p : ℕ) (a b : List ℕ) → at + length a ≤ p
    → patch (patch o p b) at a ≡ patch (patch o at a) p b
unfolding patch
patch_comm o at p [] b h = refl
patch_comm o at p (x ∷ a) b h =
    ap (λ (l : List ℕ). patch l (suc at) a) (sym (set_patch o at x p b (omega arith)))
    ∙ patch_comm (set o at x) (suc at) p a b (omega arith)

-- What lies outside is not stored.
pub patch_out : (o : List ℕ) (at : ℕ) (bs : List ℕ) → length o ≤ at → patch o at bs ≡ o
unfolding patch
patch_out o at [] h = refl
patch_out o at (b ∷ bs) h = rw (set_out o at b h) (patch_out o (suc at) bs (omega arith))

-- So that the bytes that lie inside are enough.
pub patch_clip : (o : List ℕ) (at : ℕ) (bs : List ℕ) (n : ℕ) → n ≡ min (length bs) (length o - at)
    → patch o at (take n bs) ≡ patch o at bs
patch_clip o at bs n e = by_room (dec_le (length bs) n)
  where
    by_room : Dec (length bs ≤ n) → patch o at (take n bs) ≡ patch o at bs
    by_room (yes h) = ap (patch o at) (take_all n bs h)
    by_room (no h) =
        let l : length (take n bs) ≡ n = length-take-le n bs (omega arith) in
        let q : length (patch o at (take n bs)) ≡ length o = length_patch o at (take n bs) in
        sym (patch_out (patch o at (take n bs)) (at + length (take n bs)) (drop n bs) (omega arith))
        ∙ patch_append o at (take n bs) (drop n bs)
        ∙ ap (patch o at) (take-append-drop n bs)

patch_sets : (o : List ℕ) (at : ℕ) (bs : List ℕ) → patch o at bs ≡ sets o at bs
unfolding patch
patch_sets o at [] = refl
patch_sets o at (b ∷ bs) = patch_sets (set o at b) (suc at) bs

-- Where the bytes fit: what is before, the bytes, what is after.
pub patch_eq : (o : List ℕ) (at : ℕ) (bs : List ℕ) → at + length bs ≤ length o
    → patch o at bs ≡ take at o ++ (bs ++ drop (at + length bs) o)
patch_eq o at bs h = patch_sets o at bs ∙ sets-eq bs o at h ∙ append_assoc (take at o) bs (drop (at + length bs) o)

-- So it is what the library's copy into a part leaves.
pub patch_mid : (o : Bytes) (at k : ℕ) (ys bs : Bytes) → ys ≡ bs → k ≡ length bs → at + length bs ≤ length o
    → put_mid at k o ys ≡ patch o at bs
patch_mid o at k ys bs e q h = rw (e, q, drop-drop) (sym (patch_eq o at bs h))

pub patch_zero : (o bs : List ℕ) → length bs ≤ length o → patch o 0 bs ≡ bs ++ drop (length bs) o
patch_zero o bs h = patch_eq o 0 bs (omega arith) ∙ ap (λ (n : ℕ). bs ++ drop n o) (zero-add (length bs))

-- ---- the promise of a function that writes

-- A buffer too short is left as it is.
pub ended_short : (b before : Bytes) → length before < length b → Ended (Err Buffer) before before (into (length before) b)
unfolding into
ended_short b before h = rw (lt-ltb (length before) (length b) h) (record { answer = refl; bytes = refl })

-- Otherwise the result was stored from the first byte on.
pub ended_full : (b before after : Bytes) (n : ℕ) → length b ≤ length before → n ≡ length b → after ≡ patch before 0 b
    → Ended (Ok (Some n)) before after (into (length before) b)
unfolding into
ended_full b before after n h e p =
    rw (le-ltb (length before) (length b) h) (record { answer = ap (λ x. Ok (Some x)) e; bytes = p ∙ patch_zero before b h })

-- The same result in other words.
pub ended_as : {r : Ending} {before after : Bytes} (n : ℕ) (a b : Bytes) → a ≡ b → Ended r before after (into n a)
    → Ended r before after (into n b)
ended_as n a b e h = rw e at h

-- ---- the same with room beside the buffer

-- A refusal leaves the buffer.
pub in_refused : (o : Bytes) (p : Outcome) (x : Refusal) → p ≡ refusal x → EndedIn (Err x) o o p
in_refused o p x e = rw e (record { answer = refl; bytes = refl })

-- So does a room that is too short.
pub in_short : (b before : Bytes) (room : ℕ) → room < length b → EndedIn (Err Buffer) before before (into room b)
unfolding into
in_short b before room h = rw (lt-ltb room (length b) h) (record { answer = refl; bytes = refl })

-- Otherwise the result was stored, as far as it has a place.
pub in_full : (b before : Bytes) (room : ℕ) (after : Bytes) (n : ℕ) → length b ≤ room → n ≡ length b → after ≡ patch before 0 b
    → EndedIn (Ok (Some n)) before after (into room b)
unfolding into
in_full b before room after n h e p = rw (le-ltb room (length b) h) (record { answer = ap (λ x. Ok (Some x)) e; bytes = p })

-- The same result in other words.
pub in_as : {r : Ending} {before after : Bytes} (n : ℕ) (a b : Bytes) → a ≡ b → EndedIn r before after (into n a)
    → EndedIn r before after (into n b)
in_as n a b e h = rw e at h

-- A result goes into the room.
pub into_fits : (room : ℕ) (b : Bytes) → Fits room (into room b)
unfolding into
into_fits room b = by_room (dec_le (length b) room)
  where
    by_room : Dec (length b ≤ room) → Fits room (cond (ltb room (length b)) (refusal Buffer) (result b))
    by_room (yes h) = rw (le-ltb room (length b) h) h
    by_room (no h) = rw (lt-ltb room (length b) (omega arith)) tt

-- With the buffer's length as room the two promises are one.
pub ended_in : {r : Ending} {before after : Bytes} (o : Outcome) → Fits (length before) o → EndedIn r before after o
    → Ended r before after o
ended_in {before = before} (result b) h e = record { answer = e.answer; bytes = e.bytes ∙ patch_zero before b h }
ended_in absence h e = record { answer = e.answer; bytes = e.bytes }
ended_in (refusal x) h e = record { answer = e.answer; bytes = e.bytes }
