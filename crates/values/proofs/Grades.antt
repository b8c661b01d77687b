-- Equal values and grades: what the code answers is `equal_values` and `grade_of`, and these say what `EqualValues` and `Graded` say.
use Prim.Native.Nat.{ℕ, ◌≤◌}
use mathlib.Core.Path.{◌≡◌, refl, ap, sym, subst, ◌∙◌}
use mathlib.Core.Logic.{◌↔◌}
use mathlib.Core.Bool.{Bool, true, false, cond}
use lib.Dec.{T}
use lib.ListN.{length, get_or}
use Rattle.layout.specs.Bytes.{Bytes, Octets}
use Rattle.layout.specs.Answer.{Answer, gives, refused}
use Rattle.layout.specs.Tree.{Tree}
use Rattle.layout.specs.Encode.{encode}
use Rattle.layout.specs.Read.{read}
use Rattle.layout.specs.Sound.{Sound}
use Rattle.layout.specs.Value.{Same, same}
use Rattle.layout.specs.Order.{same_bytes}
use Rattle.layout.specs.Every.{sound_ask}
use Rattle.layout.specs.EveryAt.{sound_at}
use Rattle.layout.specs.Check.{checked}
use Rattle.layout.specs.declared.refusal.Refusal.{Refusal}
use Rattle.layout.proofs.Answers.{gives_inj}
use Rattle.layout.proofs.Decoding.{read_sound}
use Rattle.layout.proofs.Nestings.{readable_gives, refused_as}
use Rattle.layout.proofs.Values.{same_refl, sound_bytes}
use Rattle.layout.proofs.Asks.{every_read}
use Rattle.layout.proofs.Sounds.{sound_test}
use Rattle.layout.proofs.Sames.{same_test}
use Rattle.layout.proofs.Orders.{bytes_test, alike_bytes, unlike_bytes}
use Rattle.values.specs.Alike.{same_at}
use Rattle.values.specs.Value.{EqualValues, both_same, equal_values}
use Rattle.values.specs.Grade.{grade_by, grade_of, Graded}
use Rattle.values.specs.declared.grade.Grade.{Grade}
use Rattle.values.specs.declared.grade.Grade.TheVariants.{Right, SameValue, OtherValue, Damaged, Ungraded}
use Rattle.values.proofs.Likes.{one_test, holds, fails}
use Rattle.values.proofs.Alikes.{record_test}
use Rattle.std.specs.Prelude.{Ok, Err, Result}
use Rattle.std.proofs.Common.{Fits, w8}
use Rattle.layout.proofs.Words.{slice_octets}

equal_by : (a b : Bytes) → equal_values a b ≡ both_same (read a) (read b)
unfolding equal_values
equal_by a b = refl

graded_by : (c e : Bytes) → grade_of c e ≡ grade_by (read c) (read e) (same_bytes c e)
unfolding grade_of
graded_by c e = refl

graded_read : (c e : Bytes) {t u : Tree} → read c ≡ gives t → read e ≡ gives u
    → grade_of c e ≡ cond (same_bytes c e) Right (cond (same t u) SameValue OtherValue)
graded_read c e p q = rw (graded_by c e, p, q)

-- ---- What they say

pub equal_values_is : (a b : Bytes) → T (equal_values a b) ↔ EqualValues a b
equal_values_is a b =
    rw (equal_by a b) (go (read a) (read b) refl refl, λ h. rw (h.2, h.3) ((same_test h.0 h.1).1 h.4))
  where
    go : (x y : Answer Tree) → read a ≡ x → read b ≡ y → T (both_same x y) → EqualValues a b
    go (gives t) (gives u) p q h = (t, u, p, q, (same_test t u).0 h)
    go (gives t) (refused r) p q h = absurd h
    go (refused r) y p q h = absurd h

-- The grade that is given is true.
given : (c e : Bytes) → Graded (grade_of c e) c e
given c e = rw (graded_by c e) (go (read c) (read e) (same_bytes c e) refl refl (bytes_test c e))
  where
    by_value : (t u : Tree) → read c ≡ gives t → read e ≡ gives u → (c ≡ e → ⊥) → (b : Bool) → T b ↔ Same t u
        → Graded (cond b SameValue OtherValue) c e
    by_value t u p q n true k = (n, (t, u, p, q, k.0 tt))
    by_value t u p q n false k = (t, u, p, q, λ h. k.1 h)

    go : (x y : Answer Tree) (s : Bool) → read c ≡ x → read e ≡ y → T s ↔ (c ≡ e) → Graded (grade_by x y s) c e
    go x (refused r) s p q k = q
    go (refused r) (gives u) s p q k = (u, q, p)
    go (gives t) (gives u) true p q k = (t, p, k.0 tt)
    go (gives t) (gives u) false p q k = by_value t u p q k.1 (same t u) (same_test t u)

-- And no other is.
only : (g : Grade) (c e : Bytes) → Graded g c e → g ≡ grade_of c e
only Right c e h =
    let q : read e ≡ gives h.0 = ap read (sym h.2) ∙ h.1 in
    rw (graded_read c e h.1 q, ← alike_bytes c e h.2)
only SameValue c e h =
    let (t, u, p, q, k) = h.1 in
    rw (graded_read c e p q, ← unlike_bytes c e h.0, holds (same t u) ((same_test t u).1 k))
only OtherValue c e h =
    let (t, u, p, q, n) = h in
    let differ : c ≡ e → ⊥ = λ k. n (subst (Same t) (gives_inj (sym p ∙ ap read k ∙ q)) (same_refl t)) in
    rw (graded_read c e p q, ← unlike_bytes c e differ, fails (same t u) (λ k. n ((same_test t u).0 k)))
only (Damaged r) c e h = rw (graded_by c e, h.1, h.2)
only (Ungraded r) c e h = rw (graded_by c e, h)

-- Of any two records one grade is true and no other: `grade_of`.
pub graded_is : (g : Grade) (c e : Bytes) → Graded g c e ↔ (g ≡ grade_of c e)
graded_is g c e = (only g c e, λ h. subst (λ x. Graded x c e) (sym h) (given c e))

-- ---- In the terms of the code

-- A record that passed the check, and what it reads as.
pub record Reading (s : Bytes) : Type 0 where
  pub octets : Octets s
  pub tree : Tree
  pub reads : read s ≡ gives tree

pub reading : (s : Bytes) (k : Result (Unit {0}) Refusal) → Octets s → k ≡ checked (read s) → k ≡ Ok tt → Reading s
reading s k o e q =
    let w = readable_gives (read s) k e q in
    record { octets = o; tree = w.0; reads = w.1 }

-- The test by places of two such records.
same_read : {a b : Bytes} (p : Reading a) (q : Reading b) → same_at 64 a b ≡ same p.tree q.tree
same_read {a} {b} p q =
    let d = read_sound a p.tree p.octets p.reads in
    let g = read_sound b q.tree q.octets q.reads in
    let l : length (encode p.tree) ≤ 65536 = rw d.0.bytes d.1 in
    let m : length (encode q.tree) ≤ 65536 = rw g.0.bytes g.1 in
    let x : T (same_at 64 a b) ↔ Same p.tree q.tree =
    rw (d.0.bytes, g.0.bytes) at (record_test p.tree q.tree d.0.deep l m) in
    let y = same_test p.tree q.tree in
    one_test _ _ (λ h. y.1 (x.0 h)) (λ h. x.1 (y.0 h))

sound_read : {s : Bytes} (p : Reading s) → sound_at 64 s ≡ true → Sound p.tree
sound_read {s} p q = (sound_test p.tree).0 (subst T (sym q ∙ every_read sound_ask s p.tree p.octets p.reads) tt)

-- The answers of `is_same_value`.
pub first_unread : (a b : Bytes) (k : Result (Unit {0}) Refusal) (r : Refusal) → k ≡ checked (read a) → k ≡ Err r → false ≡ equal_values a b
first_unread a b k r e q = rw (equal_by a b, refused_as (read a) k r e q)

pub second_unread : {a : Bytes} → Reading a → (b : Bytes) (k : Result (Unit {0}) Refusal) (r : Refusal) → k ≡ checked (read b) → k ≡ Err r
    → false ≡ equal_values a b
second_unread {a} p b k r e q = rw (equal_by a b, p.reads, refused_as (read b) k r e q)

pub both_read : {a b : Bytes} → Reading a → Reading b → (g : Bool) → g ≡ same_at 64 a b → g ≡ equal_values a b
both_read {a} {b} p q g h = rw (h, same_read p q, equal_by a b, p.reads, q.reads)

-- The answers of `grade_record`.
pub graded_ungraded : (c e : Bytes) (k : Result (Unit {0}) Refusal) (r : Refusal) → k ≡ checked (read e) → k ≡ Err r
    → Ungraded r ≡ grade_of c e
graded_ungraded c e k r h q = rw (graded_by c e, refused_as (read e) k r h q)

pub graded_damaged : (c : Bytes) {e : Bytes} → Reading e → (k : Result (Unit {0}) Refusal) (r : Refusal) → k ≡ checked (read c) → k ≡ Err r
    → Damaged r ≡ grade_of c e
graded_damaged c {e} q k r h l = rw (graded_by c e, q.reads, refused_as (read c) k r h l)

pub graded_right : {c e : Bytes} → Reading c → Reading e → (s : Bool) → s ≡ same_bytes c e → s ≡ true → Right ≡ grade_of c e
graded_right {c} {e} p q s h l = rw (graded_read c e p.reads q.reads, ← h, l)

-- Readable records of other bytes.
pub record Unequal (c e : Bytes) : Type 0 where
  pub candidate : Reading c
  pub expected : Reading e
  pub differ : same_bytes c e ≡ false

module _ {c e : Bytes} (w : Unequal c e) where
  by_value : (b : Bool) → same w.candidate.tree w.expected.tree ≡ b → cond b SameValue OtherValue ≡ grade_of c e
  by_value b h = rw (graded_read c e w.candidate.reads w.expected.reads, w.differ, h)

  -- Sound records of other bytes have other values.
  pub graded_sound : true ≡ sound_at 64 c → true ≡ sound_at 64 e → OtherValue ≡ grade_of c e
  graded_sound hc he =
      let p = w.candidate in
      let u = w.expected in
      let equal = sound_bytes c e p.tree u.tree p.octets u.octets p.reads u.reads (sound_read p (sym hc)) (sound_read u (sym he)) in
      by_value false (fails _ (λ h. subst T w.differ ((bytes_test c e).1 (equal.0 ((same_test p.tree u.tree).0 h)))))

  pub graded_values : (g b : Bool) → g ≡ same_at 64 c e → g ≡ b → cond b SameValue OtherValue ≡ grade_of c e
  graded_values g b h q = by_value b (sym (same_read w.candidate w.expected) ∙ sym h ∙ q)

-- The same of what the code knows where it answers, in whichever way it asks whether both are sound.
pub graded_other : (c e : Bytes) → ((i : ℕ) → Fits w8 (get_or c i 0)) → ((i : ℕ) → Fits w8 (get_or e i 0)) → Ok tt ≡ checked (read c)
    → Ok tt ≡ checked (read e) → false ≡ same_bytes c e → true ≡ sound_at 64 c → true ≡ sound_at 64 e → OtherValue ≡ grade_of c e
graded_other c e fc fe rc re d hc he =
    graded_sound (record {
      candidate = reading c _ (slice_octets c fc) rc refl;
      expected = reading e _ (slice_octets e fe) re refl;
      differ = sym d;
    }) hc he
