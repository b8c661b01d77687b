-- The laws of numbers that are read and said: a negative one is turned around at −1, there and back, and a float is made of its
-- bits.
use Prim.Native.Nat.{ℕ, zero, suc, ◌+◌, ◌-◌, ◌*◌, ◌%◌, ◌^◌, ◌≤◌, ◌<◌}
use mathlib.Core.Path.{◌≡◌, refl, sym, ap, subst, ◌∙◌}
use mathlib.Core.Bool.{Bool, true, not}
use native.Mathlib.Omega.{arith}
use native.Mathlib.Nat.{zero-add}
use borrow.Author.Tests.{ltb-true, le-ltb}
use lib.Dec.{T}
use lib.Ieee.{binary64, ones, hid, top, nan_bits}
use lib.Ieee.Bits.{nan_bits_above}
use lib.IntN.{ℤ, pos, negsuc, nat_abs, ◌-ℤ◌}
use lib.Signed.{mag, lt_z}
use mir.Syntax.{w64}
use mir.Val.{Fits, SFits, to_z, of_z}
use mir.ValLaws.{to_z-of_z, to_z_pos}

minus_one : (k : ℕ) → negsuc 0 -ℤ pos k ≡ negsuc k
minus_one zero = refl
minus_one (suc k) = ap (λ (j : ℕ). negsuc (suc j)) (zero-add k)

turn_plain : (z : ℤ) → lt_z z (pos 0) ≡ true → negsuc 0 -ℤ z ≡ pos (mag z)
turn_plain (pos k) q = absurd (let h : k < 0 = ltb-true k 0 q in omega arith)
turn_plain (negsuc k) q = rw (le-ltb (suc k) 1 (omega arith)) (ap pos (omega arith))

-- A negative number turned around at −1 leaves room for one more.
pub turned_more : (v : ℤ) (fits : SFits w64 v) → lt_z (to_z w64 (of_z w64 v)) (pos 0) ≡ true
    → Fits w64 (nat_abs (to_z w64 (of_z w64 (negsuc 0 -ℤ to_z w64 (of_z w64 v)))) + 1)
turned_more v fits q =
    let turned : negsuc 0 -ℤ to_z w64 (of_z w64 v) ≡ pos (mag v) =
    ap (λ (z : ℤ). negsuc 0 -ℤ z) (to_z-of_z w64 v fits) ∙ turn_plain v (rw (to_z-of_z w64 v fits) at q) in
    let within : SFits w64 (negsuc 0 -ℤ to_z w64 (of_z w64 v)) =
    subst (λ (z : ℤ). SFits w64 z) (sym turned) (record { sfits = fits.sfits }) in
    let back : to_z w64 (of_z w64 (negsuc 0 -ℤ to_z w64 (of_z w64 v))) ≡ pos (mag v) = to_z-of_z w64 _ within ∙ turned in
    subst (λ (z : ℤ). Fits w64 (nat_abs z + 1)) (sym back) (record { fits = omega (arith, fits.sfits) })

-- The other way: the number that lies n below zero.
pub turned_below : (n : ℕ) → (0 < n) × (n ≤ 2 ^ 63) → SFits w64 (negsuc 0 -ℤ to_z w64 (n - 1))
turned_below n h =
    let turned : negsuc 0 -ℤ to_z w64 (n - 1) ≡ negsuc (n - 1) =
    ap (λ (z : ℤ). negsuc 0 -ℤ z) (to_z_pos w64 (n - 1) (omega arith)) ∙ minus_one (n - 1) in
    subst (λ (z : ℤ). SFits w64 z) (sym turned) (record { sfits = omega arith })

-- A NaN's bits are above those of infinity, but for the sign.
pub no_nan : (n : ℕ) → n % 9223372036854775808 ≤ 0x7ff0_0000_0000_0000 → T (not (nan_bits binary64 n))
no_nan n h =
    let low = le-ltb (ones binary64 * hid binary64) (n % top binary64) h in
    subst (λ (b : Bool). T (not b)) (sym (nan_bits_above binary64 n ∙ low)) tt
