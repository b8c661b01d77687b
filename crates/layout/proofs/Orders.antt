-- Byte order: the comparison of names says what `◌≺◌` says, and how its loop goes.
use Prim.Native.Nat.{ℕ, ◌+◌, ◌<◌, ◌≤◌, min}
use native.Mathlib.Omega.{arith}
use mathlib.Core.Path.{◌≡◌, refl, ap, ap₂, sym, ◌∙◌}
use mathlib.Core.Logic.{inl, inr, ◌↔◌}
use mathlib.Core.Bool.{Bool, true, false, not, cond}
use mathlib.Core.List.{[], ◌∷◌, reverse}
use lib.Pointwise.{pointwise, bytes_decides}
use Rattle.std.proofs.lemmas.List.{reverse-reverse}
use lib.ListN.{length, drop, get_or, drop_of_length-le}
use lib.Seq.{drop-cons}
use native.Mathlib.Numerals.{add-one}
use lib.Dec.{T, eqb, ltb, ltb→lt, nltb→le}
use native.Mathlib.Decide.{dec_lt}
use Rattle.std.proofs.lemmas.Bool.{eq-eqb}
use borrow.Author.Tests.{lt-ltb, le-ltb, ne_eqb}
use Rattle.layout.specs.Bytes.{Bytes}
use Rattle.std.specs.Ordering.{is_lt, is_eq, nat_cmp, ordering_then}
use Rattle.std.specs.Cmp.Lexicographic.{slice_cmp}
use Rattle.layout.specs.Order.{order, before, same_bytes}
use Rattle.layout.specs.Sound.{◌≺◌}
use Rattle.std.specs.declared.cmp.Ordering.{Ordering}
use Rattle.std.specs.declared.cmp.Ordering.TheVariants.{Less, Equal, Greater}
use Rattle.layout.proofs.Values.{≺-irrefl, ≺-trans}

-- What an answer of `order` says.
abbrev pub Says : Bytes → Bytes → Ordering → Type 0
Says a b Less = a ≺ b
Says a b Equal = a ≡ b
Says a b Greater = b ≺ a

pub says : (a b : Bytes) → Says a b (order a b)
unfolding order
says [] [] = refl
says [] (y ∷ b) = tt
says (x ∷ a) [] = tt
says (x ∷ a) (y ∷ b) = go (ltb x y) (ltb y x) (ltb→lt x y) (nltb→le x y) (ltb→lt y x) (nltb→le y x) (order a b) (says a b)
  where
    go : (p q : Bool) → (T p → x < y) → (T (not p) → y ≤ x) → (T q → y < x) → (T (not q) → x ≤ y) → (o : Ordering) → Says a b o →
        Says (x ∷ a) (y ∷ b) (cond p Less (cond q Greater o))
    go true q h₁ h₂ h₃ h₄ o s = inl (h₁ tt)
    go false true h₁ h₂ h₃ h₄ o s = inl (h₃ tt)
    go false false h₁ h₂ h₃ h₄ Less s = inr (omega (arith, h₂ tt, h₄ tt), s)
    go false false h₁ h₂ h₃ h₄ Equal s =
        let e : x ≡ y = omega (arith, h₂ tt, h₄ tt) in
        ap₂ ◌∷◌ e s
    go false false h₁ h₂ h₃ h₄ Greater s = inr (omega (arith, h₂ tt, h₄ tt), s)

-- `before` is the test of `◌≺◌`.
pub before_is : (a b : Bytes) → T (before a b) ↔ (a ≺ b)
unfolding before
before_is a b = go (order a b) (says a b)
  where
    go : (o : Ordering) → Says a b o → T (is_lt o) ↔ (a ≺ b)
    go Less s = (λ _. s, λ _. tt)
    go Equal s = (λ h. absurd h, λ h. ≺-irrefl a (rw (← s) at h))
    go Greater s = (λ h. absurd h, λ h. ≺-irrefl a (≺-trans a b a h s))

-- `same_bytes` is the test of equal bytes.
pub bytes_test : (a b : Bytes) → T (same_bytes a b) ↔ (a ≡ b)
unfolding same_bytes
bytes_test a b = go (order a b) (says a b)
  where
    go : (o : Ordering) → Says a b o → T (is_eq o) ↔ (a ≡ b)
    go Less s = (λ h. absurd h, λ h. ≺-irrefl b (rw h at s))
    go Equal s = (λ _. s, λ _. tt)
    go Greater s = (λ h. absurd h, λ h. ≺-irrefl b (rw h at s))

pub unlike_bytes : (a b : Bytes) → (a ≡ b → ⊥) → false ≡ same_bytes a b
unlike_bytes a b h = go (same_bytes a b) (bytes_test a b)
  where
    go : (g : Bool) → T g ↔ (a ≡ b) → false ≡ g
    go true k = absurd (h (k.0 tt))
    go false k = refl

pub alike_bytes : (a b : Bytes) → a ≡ b → true ≡ same_bytes a b
alike_bytes a b h = go (same_bytes a b) (bytes_test a b)
  where
    go : (g : Bool) → T g ↔ (a ≡ b) → true ≡ g
    go true k = refl
    go false k = absurd (k.1 h)

-- The library's order of slices is this order.
heads_by : (x y : ℕ) (o : Ordering) → Dec (x < y) → Dec (y < x)
    → ordering_then (nat_cmp x y) o ≡ cond (ltb x y) Less (cond (ltb y x) Greater o)
heads_by x y o (yes l) d = rw (lt-ltb x y l) refl
heads_by x y o (no h) (yes l) = rw (le-ltb x y (omega arith), lt-ltb y x l, ne_eqb x y (λ e. omega arith)) refl
heads_by x y o (no h) (no l) = rw (le-ltb x y (omega arith), le-ltb y x (omega arith), eq-eqb x y (omega arith)) refl

pub order_is : (a b : Bytes) → slice_cmp nat_cmp a b ≡ order a b
unfolding order
order_is [] [] = refl
order_is [] (y ∷ b) = refl
order_is (x ∷ a) [] = refl
order_is (x ∷ a) (y ∷ b) = ap (ordering_then (nat_cmp x y)) (order_is a b) ∙ heads_by x y (order a b) (dec_lt x y) (dec_lt y x)

-- Bytes that are equal from their ends are equal.
pub reversed_same : (a b : Bytes) → pointwise eqb (reverse a) (reverse b) ≡ same_bytes a b
reversed_same a b = go (pointwise eqb (reverse a) (reverse b)) (same_bytes a b) (bytes_decides (reverse a) (reverse b)) (bytes_test a b)
  where
    go : (p q : Bool) → (p ≡ true → reverse a ≡ reverse b) × (reverse a ≡ reverse b → p ≡ true) → T q ↔ (a ≡ b) → p ≡ q
    go true true h k = refl
    go true false h k = absurd (k.1 (sym (reverse-reverse a) ∙ ap reverse (h.0 refl) ∙ reverse-reverse b))
    go false true h k = h.1 (ap reverse (k.0 tt))
    go false false h k = refl

-- The comparison, byte by byte.
module _ (a b : Bytes) (i : ℕ) (e : order a b ≡ order (drop i a) (drop i b)) where
  module _ (la : i < length a) (lb : i < length b) where
    heads : order a b ≡ cond (ltb (get_or a i 0) (get_or b i 0)) Less (cond (ltb (get_or b i 0) (get_or a i 0)) Greater
        (order (drop (i + 1) a) (drop (i + 1) b)))
    unfolding order
    heads = e ∙ rw (drop-cons a i 0 la, drop-cons b i 0 lb, add-one i) refl

    pub byte_unlike : (get_or a i 0 ≡ get_or b i 0 → ⊥) → nat_cmp (get_or a i 0) (get_or b i 0) ≡ order a b
    byte_unlike h = go (dec_lt (get_or a i 0) (get_or b i 0)) (dec_lt (get_or b i 0) (get_or a i 0)) ∙ sym heads
      where
        go : Dec (get_or a i 0 < get_or b i 0) → Dec (get_or b i 0 < get_or a i 0) → nat_cmp (get_or a i 0) (get_or b i 0)
            ≡ cond (ltb (get_or a i 0) (get_or b i 0)) Less (cond (ltb (get_or b i 0) (get_or a i 0)) Greater (order (drop (i + 1) a) (drop (i + 1) b)))
        go (yes l) d = rw (lt-ltb _ _ l) refl
        go (no k) (yes l) = rw (le-ltb (get_or a i 0) (get_or b i 0) (omega arith), lt-ltb _ _ l, ne_eqb _ _ h) refl
        go (no k) (no l) = absurd (h (omega arith))

    pub byte_same : get_or a i 0 ≡ get_or b i 0 → order a b ≡ order (drop (i + 1) a) (drop (i + 1) b)
    byte_same h = heads ∙ rw (le-ltb (get_or a i 0) (get_or b i 0) (omega (arith, h)), le-ltb (get_or b i 0) (get_or a i 0) (omega (arith, h))) refl

  pub ends_compared : min (length a) (length b) ≤ i → i ≤ min (length a) (length b) → nat_cmp (length a) (length b) ≡ order a b
  unfolding order
  ends_compared m n = go (dec_lt (length a) (length b)) (dec_lt (length b) (length a))
    where
      go : Dec (length a < length b) → Dec (length b < length a) → nat_cmp (length a) (length b) ≡ order a b
      go (yes l) d =
          let p : length a ≤ i = omega (arith, m, l) in
          let q : i < length b = omega (arith, n, l) in
          rw (lt-ltb _ _ l, e, drop_of_length-le a p, drop-cons b i 0 q) refl
      go (no k) (yes l) =
          let p : length b ≤ i = omega (arith, m, l) in
          let q : i < length a = omega (arith, n, l) in
          rw (
            le-ltb (length a) (length b) (omega arith),
            ne_eqb (length a) (length b) (λ q. omega arith),
            e,
            drop-cons a i 0 q,
            drop_of_length-le b p,
          ) refl
      go (no k) (no l) =
          let p : length a ≤ i = omega (arith, m) in
          let q : length b ≤ i = omega (arith, m) in
          rw (
            le-ltb (length a) (length b) (omega arith),
            eq-eqb (length a) (length b) (omega arith),
            e,
            drop_of_length-le a p,
            drop_of_length-le b q,
          ) refl
