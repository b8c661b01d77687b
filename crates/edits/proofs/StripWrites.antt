-- A container stripped: measured first, by the same writer on a part of no bytes, then stored where there is room; and the numbers
-- of strip in their order.
use Prim.Native.Nat.{ℕ, ◌≤◌, ◌<◌}
use native.Mathlib.Omega.{arith}
use mathlib.Core.Path.{◌≡◌, refl, ap, sym, ◌∙◌}
use mathlib.Core.Bool.{Bool, true, false, cond}
use mathlib.Core.List.{[], ◌∷◌, ◌++◌}
use lib.ListN.{length, length-append}
use Rattle.layout.specs.Bytes.{Bytes}
use Rattle.layout.specs.Answer.{Answer, gives, refused, ◌>>=◌}
use Rattle.layout.specs.Tree.{Tree, kind}
use Rattle.layout.specs.Encode.{payload}
use Rattle.layout.specs.Read.{header, nested, read}
use Rattle.layout.specs.Check.{checked}
use Rattle.layout.specs.Patch.{patch}
use Rattle.layout.specs.Ended.{refusal, into}
use Rattle.layout.specs.Room.{EndedIn, Fits}
use Rattle.layout.specs.declared.refusal.Refusal.{Refusal}
use Rattle.layout.specs.declared.refusal.Refusal.TheVariants.{Buffer, Repeated}
use Rattle.layout.specs.declared.item.Kind.TheVariants.{Container}
use Rattle.layout.specs.declared.util.Header.{Header}
use Rattle.layout.specs.declared.util.Header.TheVariants.{Array, Object, Scalar}
use Rattle.layout.proofs.Answers.{gives_inj}
use Rattle.layout.proofs.Decoding.{container_encode}
use Rattle.layout.proofs.Nestings.{head_of, refused_as}
use Rattle.layout.proofs.Patches.{patch_empty, patch_none, in_short, in_full}
use Rattle.layout.specs.Pipeline.{found, written, on_record, alone}
use Rattle.layout.proofs.Pipelines.{found_written, record_fits}
use Rattle.builders.proofs.Knowns.{Known}
use Rattle.edits.specs.Strip.{stripped, unrepeated, strip, on_one}
use Rattle.edits.specs.Stripping.{stripped_of, unrepeated_of, Strippable, Strips, strip_out}
use Rattle.edits.proofs.Strips.{kind_stripped, strip_given, strip_refused}
use Rattle.edits.proofs.Tables.{contains}
use Rattle.edits.proofs.Stripped.{own_strip, neither}
use Rattle.edits.proofs.Descents.{container_ready, nested_read, Passed, passed_tree}
use Rattle.std.specs.Prelude.{Ok, Err, Some, Result, Option, None}
use Rattle.layout.specs.Ended.{Ending}

pub whole_strips : (s : Bytes) → checked (nested 64 s) ≡ Ok tt → length s ≤ 65536 → Strippable s 64
whole_strips s c l = record { readable = c; allowed = omega arith; short = l }

no_bytes : (e : Bytes) → length e ≡ 0 → e ≡ []
no_bytes [] h = refl
no_bytes (x ∷ e) h = let z : ⊥ = omega arith in absurd z

-- What was measured on no bytes.
module _ (s o : Bytes) (room : ℕ) (e : Bytes) (r : Option ℕ) (d : Strips r (unrepeated_of s) (stripped_of s) e (patch [] 0 (stripped_of s))) where
  pub strip_repeated : r ≡ None → length (e ++ o) ≡ length o → EndedIn (Err Repeated) o (e ++ o) (strip_out s room)
  unfolding strip_out
  strip_repeated q l =
      let f : unrepeated_of s ≡ false = rw q at d in
      let n : e ≡ [] = no_bytes e (omega (arith, l, length-append e o)) in
      rw (f, n) (record { answer = refl; bytes = refl })

  module _ (len : ℕ) (q : r ≡ Some len) where
    told : (unrepeated_of s ≡ true) × (len ≡ length (stripped_of s)) × (e ≡ patch [] 0 (stripped_of s))
    told = rw q at d

    untouched : e ++ o ≡ o
    untouched = rw (told.2, patch_empty)

    pub strip_no_room : room < len → EndedIn (Err Buffer) o (e ++ o) (strip_out s room)
    unfolding strip_out
    strip_no_room h = rw (told.0, untouched) (in_short (stripped_of s) o room (omega (arith, told.1, h)))

    -- Lent no bytes, nothing is stored.
    pub strip_measured : len ≤ room → length (e ++ o) ≡ 0 → EndedIn (Ok (Some len)) o (e ++ o) (strip_out s room)
    unfolding strip_out
    strip_measured h l =
        let b = stripped_of s in
        let none : length o ≡ 0 = rw untouched at l in
        rw (told.0, untouched) (in_full b o room o len (omega (arith, told.1, h)) told.1 (patch_none o 0 b none))

    pub strip_has_room : (r₂ : Option ℕ) (o' : Bytes) → len ≤ room → Strips r₂ (unrepeated_of s) (stripped_of s) o' (patch (e ++ o) 0 (stripped_of s))
        → EndedIn (Ok (Some len)) o o' (strip_out s room)
    unfolding strip_out
    strip_has_room r₂ o' h st = rw told.0 (in_full (stripped_of s) o room o' len (omega (arith, told.1, h)) told.1 (again r₂ st ∙ rw untouched))
      where
        again : (r₂ : Option ℕ) → Strips r₂ (unrepeated_of s) (stripped_of s) o' (patch (e ++ o) 0 (stripped_of s)) → o' ≡ patch (e ++ o) 0 (stripped_of s)
        again (Some n) st = st.2
        again None st = let z : true ≡ false = sym told.0 ∙ st in let y : ◌≡◌ {A = ℕ} 0 1 = cc in let w : ⊥ = omega arith in absurd w

-- A scalar is its own strip.
scalar_strip : (t : Tree) (m : ℕ) → head_of t ≡ Ok (Scalar m) → (stripped t ≡ t) × (unrepeated t ≡ true)
scalar_strip t m h = own_strip t (λ k. neither t (Ok (Scalar m)) k (sym h) no_array no_object)
  where
    no_array : (n : ℕ) → ◌≡◌ {A = Result Header Refusal} (Ok (Scalar m)) (Ok (Array n)) → ⊥
    no_array n e = let z : ◌≡◌ {A = ℕ} 0 1 = cc in omega arith

    no_object : (n : ℕ) → ◌≡◌ {A = Result Header Refusal} (Ok (Scalar m)) (Ok (Object n)) → ⊥
    no_object n e = let z : ◌≡◌ {A = ℕ} 0 1 = cc in omega arith

-- An edit of one record, without the pipeline's second line.
pub on_one_is : (edit : Tree → Answer Tree) (s : Bytes) (room : ℕ) → on_one edit s room ≡ written room (read s >>= edit)
unfolding on_one on_record ◌>>=◌
on_one_is edit s room = by_read (read s)
  where
    by_read : (a : Answer Tree) → found room (a >>= λ t. alone [] >>= λ _. edit t >>= λ v. gives (Some v)) ≡ written room (a >>= edit)
    by_read (gives t) = found_written room (edit t)
    by_read (refused x) = refl

-- The numbers of strip.
abbrev On : Bytes → ℕ → Ending → Bytes → Bytes → Type 0
On a room e o o' = EndedIn e o o' (on_one strip a room)

pub strip_left : (a o : Bytes) (room : ℕ) {c : Result (Unit {0}) Refusal} → c ≡ checked (read a) → {x : Refusal} → c ≡ Err x → On a room (Err x) o o
unfolding ◌>>=◌
strip_left a o room {c} hc {x} q = rw (on_one_is strip a room, refused_as (read a) c x hc q) (record { answer = refl; bytes = refl })

-- A readable container.
pub record ContainerAt (a : Bytes) : Type 0 where
  pub passed : Passed a
  pub container : (m : ℕ) → header a ≡ Ok (Scalar m) → ⊥

module _ {a : Bytes} where
  -- A root scalar comes back as it is.
  pub strip_scalar : Passed a → {m : ℕ} → header a ≡ Ok (Scalar m) → {e : Ending} {o o' : Bytes} (room : ℕ) → EndedIn e o o' (into room a)
      → On a room e o o'
  unfolding ◌>>=◌
  strip_scalar p {m} q room w =
      let t = passed_tree p in
      let s = scalar_strip t.0 m (sym t.1.head ∙ q) in
      let r : (read a >>= strip) ≡ gives t.0 = rw t.1.reads (strip_given t.0 s.1 ∙ ap gives s.0) in
      rw (on_one_is strip a room, r, t.1.bytes) w

  module _ (s : ContainerAt a) where
    abbrev t : Tree
    t = (passed_tree s.passed).0

    known_target : Known a t
    known_target = (passed_tree s.passed).1

    pub strip_ready : (checked (nested 64 a) ≡ Ok tt) × (length a ≤ 65536)
    strip_ready = let w = container_ready a t known_target s.container in (w.1, w.0)

    -- A container: 8, then 10.
    out_is : (room : ℕ) → on_one strip a room ≡ strip_out a room
    unfolding strip_out stripped_of unrepeated_of ◌>>=◌
    out_is room =
        let n : nested 64 a ≡ gives t = nested_read a t known_target.reads s.container in
        let k = contains 64 a s.passed.octets known_target.short strip_ready.0 in
        let same : k.0 ≡ t = gives_inj (sym k.1.reads ∙ n) in
        let kc : kind (stripped t) ≡ Container = kind_stripped t ∙ ap kind (sym same) ∙ k.1.container in
        rw (on_one_is strip a room, known_target.reads, n) (go (unrepeated t) refl kc)
      where
        go : (b : Bool) → unrepeated t ≡ b → kind (stripped t) ≡ Container
            → written room (strip t) ≡ cond b (into room (payload (stripped t))) (refusal Repeated)
        go true u kc = rw (strip_given t u) (ap (into room) (container_encode (stripped t) (payload (stripped t)) (rw kc)))
        go false u kc = rw (strip_refused t u)

    pub strip_ends : {e : Ending} {o o' : Bytes} (room : ℕ) → EndedIn e o o' (strip_out a room) → On a room e o o'
    strip_ends room w = rw (out_is room) w

pub strip_fits : (a : Bytes) (room : ℕ) → Fits room (on_one strip a room)
unfolding on_one
strip_fits a room = record_fits alone (λ t _. strip t >>= λ v. gives (Some v)) a [] room
