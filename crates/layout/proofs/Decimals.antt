-- The decimal digits of a number, as the code stores them.
use Prim.Native.Nat.{ℕ, zero, suc, ◌+◌, ◌-◌, ◌/◌, ◌%◌, ◌<◌, ◌≤◌}
use native.Mathlib.Omega.{arith}
use native.Mathlib.Nat.{add-zero}
use mathlib.Core.Path.{◌≡◌, refl, sym}
use mathlib.Core.List.{[], ◌∷◌, ◌++◌}
use lib.ListN.{length, set, length-append}
use borrow.Author.Tests.{lt-ltb, le-ltb}
use Rattle.layout.specs.Bytes.{Bytes}
use Rattle.layout.specs.Decimal.{decimal}
use Rattle.layout.specs.Patch.{patch}
use Rattle.layout.proofs.Patches.{patch_snoc}

pub decimal_one : (most v : ℕ) → (most ≡ 0 → ⊥) → v < 10 → decimal most v ≡ (48 + v) ∷ []
unfolding decimal
decimal_one zero v z h = absurd (z refl)
decimal_one (suc most) v z h = rw (lt-ltb v 10 h)

pub decimal_more : (most v : ℕ) → (most ≡ 0 → ⊥) → 10 ≤ v → decimal most v ≡ decimal (most - 1) (v / 10) ++ ((48 + v % 10) ∷ [])
unfolding decimal
decimal_more zero v z h = absurd (z refl)
decimal_more (suc most) v z h = let e : suc most - 1 ≡ most = omega arith in rw (le-ltb v 10 h, e)

-- What `put_decimal` promises: where the text ends, that it is short, and that it is stored.
abbrev pub Digits : Bytes → Bytes → ℕ → ℕ → ℕ → ℕ → Type 0
Digits o o' at end most v =
    ((end ≡ at + length (decimal most v)) × (length (decimal most v) ≤ most)) × (o' ≡ patch o at (decimal most v))

pub digits_none : (o : Bytes) (at most v : ℕ) → most ≡ 0 → Digits o o at at most v
unfolding decimal patch
digits_none o at most v z = rw z ((sym (add-zero at), omega arith), refl)

module _ (o : Bytes) (at most v : ℕ) (z : most ≡ 0 → ⊥) where
  pub digits_one : (o' : Bytes) → v < 10 → o' ≡ set o at (48 + v) → Digits o o' at (at + 1) most v
  unfolding patch
  digits_one o' h e = rw (decimal_one most v z h) ((refl, omega arith), e)

  pub digits_more : (o₁ o₂ : Bytes) (end : ℕ) → 10 ≤ v → Digits o o₁ at end (most - 1) (v / 10) → o₂ ≡ set o₁ end (48 + v % 10)
      → Digits o o₂ at (end + 1) most v
  digits_more o₁ o₂ end h d e =
      let l : length (decimal (most - 1) (v / 10) ++ ((48 + v % 10) ∷ [])) ≡ length (decimal (most - 1) (v / 10)) + 1 =
      length-append (decimal (most - 1) (v / 10)) ((48 + v % 10) ∷ []) in
      rw (decimal_more most v z h)
      ((omega arith, omega arith), rw (e, d.1, d.0.0) (patch_snoc o at (decimal (most - 1) (v / 10)) (48 + v % 10)))
