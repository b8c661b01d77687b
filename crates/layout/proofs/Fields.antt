-- Laws of bytes, fields and entries by their places.
use Prim.Native.Nat.{ℕ, zero, suc, ◌+◌, ◌*◌, ◌-◌, ◌^◌, ◌<◌, ◌≤◌}
use native.Mathlib.Omega.{arith}
use native.Mathlib.Nat.{add-zero}
use mathlib.Core.Path.{◌≡◌, refl, sym, ap, ◌∙◌}
use mathlib.Core.Bool.{Bool, true, false}
use mathlib.Core.List.{[], ◌∷◌, ◌++◌}
use Rattle.std.specs.Int.{w32, from_be_bytes}
use lib.Dec.{leb}
use lib.ListN.{length, take, drop, get_or, drop_of_length-le}
use lib.Seq.{take_all, take-nil, get_or-drop}
use borrow.Author.Tests.{leb-true, leb-false, lt-leb, le-leb, lt-ltb, le-ltb, ne_eqb}
use Rattle.layout.specs.Bytes.{Bytes, be32, word, inside, word_at}
use Rattle.layout.specs.Entry.{top_of, code_of, length_of, entry_of, sort_of, count_of, kind_of}
use Rattle.layout.specs.Read.{header}
use Rattle.layout.specs.declared.item.Kind.TheVariants.{Null}
use Rattle.layout.specs.declared.refusal.Refusal.TheVariants.{Short, Layout}
use Rattle.layout.specs.declared.util.Header.TheVariants.{Array, Object, Scalar}
use Rattle.layout.proofs.Words.{word_is, word_be32}
use Rattle.std.specs.Prelude.{Ok, Err}

-- Bytes inside a slice.
pub inside_none : (s : Bytes) (at n : ℕ) → length s < n → false ≡ inside s at n
unfolding inside
inside_none s at n h = rw (lt-leb (at + n) (length s) (omega arith))

-- Two tests that are true together are equal.
same_leb : (b : Bool) (x y m n : ℕ) → leb x y ≡ b → (x ≤ y → m ≤ n) → (y < x → n < m) → b ≡ leb m n
same_leb true x y m n q f g = sym (le-leb m n (f (leb-true x y q)))
same_leb false x y m n q f g = sym (lt-leb m n (g (leb-false x y q)))

pub inside_some : (s : Bytes) (at n : ℕ) → n ≤ length s → leb at (length s - n) ≡ inside s at n
unfolding inside
inside_some s at n h =
    same_leb (leb at (length s - n)) at (length s - n) (at + n) (length s) refl (λ p. omega arith) (λ p. omega arith)

pub inside_le : (s : Bytes) (at n : ℕ) (g : Bool) → g ≡ inside s at n → g ≡ true → at + n ≤ length s
unfolding inside
inside_le s at n g hg q = leb-true (at + n) (length s) (sym hg ∙ q)

-- A part of a slice from behind its end on is empty.
pub part_none : (at n : ℕ) (s : Bytes) → length s < at → [] ≡ take n (drop at s)
part_none at n s h = let k : length s ≤ at = omega arith in sym (ap (take n) (drop_of_length-le s k) ∙ take-nil n)

pub part_all : (s : Bytes) → take (length s - 0) (drop 0 s) ≡ s
part_all s = take_all (length s - 0) s (omega arith)

-- A field by its bytes.
pub word_at_bytes : (s : Bytes) (at : ℕ) →
    ((get_or s at 0 * 256 + get_or s (at + 1) 0) * 256 + get_or s (at + 2) 0) * 256 + get_or s (at + 3) 0 ≡ word_at s at
unfolding word_at
word_at_bytes s at = rw (add-zero at) (omega arith)

-- The field at a place is the field that the bytes from there on start with.
pub word_at_drop : (s : Bytes) (at : ℕ) → word_at s at ≡ word (drop at s)
word_at_drop s at =
    sym (word_at_bytes s at)
    ∙ rw (word_is (drop at s), get_or-drop at s 0 0, get_or-drop at s 1 0, get_or-drop at s 2 0, get_or-drop at s 3 0, add-zero at)

-- The header of a record.
pub word_at_be32 : (w : ℕ) (r : Bytes) → w < 2 ^ 32 → word_at (be32 w ++ r) 0 ≡ w
word_at_be32 w r h = word_at_drop (be32 w ++ r) 0 ∙ word_be32 w r h

-- A code that is no other kind's counts as null.
pub kind_null : (c : ℕ) → (c ≡ 1 → ⊥) → (c ≡ 2 → ⊥) → (c ≡ 3 → ⊥) → (c ≡ 4 → ⊥) → (c ≡ 5 → ⊥) → (c ≡ 6 → ⊥) → Null ≡ kind_of c
unfolding kind_of
kind_null zero p q r s t u = refl
kind_null (suc zero) p q r s t u = absurd (p refl)
kind_null (suc (suc zero)) p q r s t u = absurd (q refl)
kind_null (suc (suc (suc zero))) p q r s t u = absurd (r refl)
kind_null (suc (suc (suc (suc zero)))) p q r s t u = absurd (s refl)
kind_null (suc (suc (suc (suc (suc zero))))) p q r s t u = absurd (t refl)
kind_null (suc (suc (suc (suc (suc (suc zero)))))) p q r s t u = absurd (u refl)
kind_null (suc (suc (suc (suc (suc (suc (suc n))))))) p q r s t u = refl

-- An entry's parts are below what their bits can hold.
pub code_lt : (w : ℕ) → code_of w < 8
unfolding code_of
code_lt w = omega arith

pub length_lt : (w : ℕ) → length_of w < 2 ^ 28
unfolding length_of
length_lt w = omega arith

-- Splitting an entry and putting it together undo each other.
pub code_entry : (c n : ℕ) → c < 8 → n < 2 ^ 28 → code_of (entry_of c n) ≡ c
unfolding code_of
code_entry c n h k = omega arith

pub length_entry : (c n : ℕ) → n < 2 ^ 28 → length_of (entry_of c n) ≡ n
unfolding length_of
length_entry c n k = omega arith

pub entry_split : (w : ℕ) → top_of w ≡ 0 → entry_of (code_of w) (length_of w) ≡ w
unfolding top_of code_of length_of
entry_split w h = omega arith

-- A header by the tests of its sort.
module _ (s : Bytes) where
  pub header_short : length s < 4 → Err Short ≡ header s
  unfolding header
  header_short h = rw (lt-ltb (length s) 4 h)

  module _ (le : 4 ≤ length s) (w k n : ℕ) (hw : w ≡ word_at s 0) (hk : k ≡ sort_of w) (hn : n ≡ count_of w) where
    sort_is : k ≡ sort_of (word s)
    sort_is = hk ∙ ap sort_of (hw ∙ word_at_drop s 0)

    count_is : n ≡ count_of (word s)
    count_is = hn ∙ ap count_of (hw ∙ word_at_drop s 0)

    pub header_array : k ≡ 4 → Ok (Array n) ≡ header s
    unfolding header
    header_array q = rw (le-ltb (length s) 4 le, ← sort_is, q, count_is)

    module _ (p : k ≡ 4 → ⊥) where
      pub header_object : k ≡ 2 → Ok (Object n) ≡ header s
      unfolding header
      header_object q = rw (le-ltb (length s) 4 le, ← sort_is, q, count_is)

      module _ (q : k ≡ 2 → ⊥) where
        pub header_scalar : k ≡ 1 → Ok (Scalar n) ≡ header s
        unfolding header
        header_scalar r = rw (le-ltb (length s) 4 le, ← sort_is, r, count_is)

        pub header_none : (k ≡ 1 → ⊥) → Err Layout ≡ header s
        unfolding header
        header_none r = rw (le-ltb (length s) 4 le, ← sort_is, ne_eqb k 4 p, ne_eqb k 2 q, ne_eqb k 1 r)

-- A field that the library reads from its bytes.
pub word_from : (s : Bytes) (at w x y z u : ℕ) → w ≡ from_be_bytes w32 (x ∷ y ∷ z ∷ u ∷ []) → x ≡ get_or s at 0 → y ≡ get_or s (at + 1) 0
    → z ≡ get_or s (at + 2) 0 → u ≡ get_or s (at + 3) 0 → w ≡ word_at s at
word_from s at w x y z u e hx hy hz hu =
    let q : w ≡ ((x * 256 + y) * 256 + z) * 256 + u = omega (arith, e) in
    q ∙ rw (hx, hy, hz, hu) (word_at_bytes s at)
