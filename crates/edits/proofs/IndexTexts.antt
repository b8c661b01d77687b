-- The decimal text of an index, as the code stores it.
use Prim.Native.Nat.{ℕ, ◌+◌, ◌<◌, ◌≤◌}
use native.Mathlib.Omega.{arith}
use mathlib.Core.Path.{◌≡◌, refl, ap, ◌∙◌}
use mathlib.Core.Bool.{true, false}
use mathlib.Core.List.{◌∷◌, ◌++◌}
use lib.IntN.{ℤ, pos, negsuc, nat_abs}
use lib.ListN.{length, take, drop, set}
use lib.Seq.{take-append_seam}
use lib.Signed.{lt_z}
use borrow.Author.Tests.{ltb-true}
use Rattle.layout.specs.Bytes.{Bytes}
use Rattle.layout.specs.Decimal.{decimal}
use Rattle.layout.specs.Patch.{patch}
use Rattle.layout.proofs.Patches.{patch_zero}
use Rattle.layout.proofs.Decimals.{Digits}
use Rattle.edits.specs.Keypath.{index_text}

-- Behind its sign. `v` is what the machine reads of i, and `d` its digits' number.

negative_text : (i : ℤ) → lt_z i (pos 0) ≡ true → index_text i ≡ 0x2D ∷ decimal 10 (nat_abs i)
unfolding index_text
negative_text (pos k) q = let h : k < 0 = ltb-true k 0 q in let w : ⊥ = omega arith in absurd w
negative_text (negsuc k) q = refl

positive_text : (i : ℤ) → lt_z i (pos 0) ≡ false → index_text i ≡ decimal 10 (nat_abs i)
unfolding index_text
positive_text (pos k) q = refl
positive_text (negsuc k) q = cc

-- What `put_index` promises.
abbrev Texts : Bytes → Bytes → ℕ → ℤ → Type 0
Texts o o' end i = ((end ≡ length (index_text i)) × (end ≤ 11)) × (o' ≡ patch o 0 (index_text i))

module _ (v i : ℤ) (d : ℕ) (o o₂ : Bytes) (end : ℕ) (e : v ≡ i) where
  pub text_negative : (o₁ : Bytes) → lt_z v (pos 0) ≡ true → d ≡ nat_abs v → o₁ ≡ set o 0 0x2D → Digits o₁ o₂ 1 end 10 d → Texts o o₂ end i
  unfolding patch
  text_negative o₁ q hd h p =
      let hi : d ≡ nat_abs i = hd ∙ ap nat_abs e in
      let l : end ≡ 1 + length (decimal 10 (nat_abs i)) = rw hi at p.0.0 in
      let b : o₂ ≡ patch (set o 0 0x2D) 1 (decimal 10 (nat_abs i)) = rw (h, hi) at p.1 in
      rw (negative_text i (rw e at q)) ((omega arith, omega (arith, p.0.0, p.0.1)), b)

  pub text_positive : lt_z v (pos 0) ≡ false → d ≡ nat_abs v → Digits o o₂ 0 end 10 d → Texts o o₂ end i
  text_positive q hd p =
      let hi : d ≡ nat_abs i = hd ∙ ap nat_abs e in
      let l : end ≡ 0 + length (decimal 10 (nat_abs i)) = rw hi at p.0.0 in
      let b : o₂ ≡ patch o 0 (decimal 10 (nat_abs i)) = rw hi at p.1 in
      rw (positive_text i (rw e at q)) ((omega arith, omega (arith, p.0.0, p.0.1)), b)

-- What was stored in a buffer long enough is read back.
pub text_back : (o o' piece : Bytes) (end : ℕ) (i : ℤ) → length o ≡ 11 → Texts o o' end i → piece ≡ take end (drop 0 o')
    → piece ≡ index_text i
text_back o o' piece end i l h e =
    let n : end ≡ length (index_text i) = h.0.0 in
    let fits : length (index_text i) ≤ length o = omega (arith, h.0.1) in
    let b : o' ≡ index_text i ++ drop (length (index_text i)) o = h.1 ∙ patch_zero o (index_text i) fits in
    e ∙ rw (n, b) (take-append_seam (index_text i) _)
