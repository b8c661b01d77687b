-- The item that an index stands for. A signed local holds bits, so a test or a sum speaks of what the machine reads back,
-- `to_z w (of_z w z)`, which is z where z fits: each law below takes that number as v, with v ≡ z.
use Prim.Native.Nat.{ℕ, suc, ◌-◌, ◌<◌, ◌^◌}
use mathlib.Core.Path.{◌≡◌, refl, ap, ◌∙◌}
use mathlib.Core.Bool.{Bool, true, false, cond}
use native.Mathlib.Decide.{dec_lt}
use native.Mathlib.Nat.{lt_trans}
use native.Mathlib.Omega.{arith}
use lib.Dec.{ltb, lit<}
use lib.IntN.{ℤ, pos, negsuc, nat_abs, ◌+ℤ◌}
use lib.Signed.{mag, lt_z}
use mir.Syntax.{w32, w64}
use mir.Val.{SFits, to_z, of_z}
use mir.ValLaws.{to_z-of_z, to_z_pos}
use borrow.Author.Tests.{ltb-true, lt-ltb, le-ltb}
use Rattle.edits.specs.Find.{place}
use Rattle.edits.specs.Spot.{among}
use Rattle.std.specs.Bool.{then_some}
use Rattle.std.specs.Int.{FitsUnsignedBits}
use Rattle.std.specs.Result.{OkIff, result_ok}
use Rattle.std.specs.Prelude.{Ok, Err, Some, None, Result, Option}

-- A place among n items, by what `usize::try_from` gives of it.

some_plain : (k n : ℕ) → then_some (ltb k n) k ≡ among (pos k) n
unfolding among
some_plain k n = go (ltb k n)
  where
    go : (b : Bool) → then_some b k ≡ cond b (Some k) None
    go true = refl
    go false = refl

none_plain : (z : ℤ) (n : ℕ) → SFits w64 z → (FitsUnsignedBits 64 z → ⊥) → None ≡ among z n
unfolding among
none_plain (pos k) n f h = absurd (h (lt_trans f.sfits (lit< tt)))
none_plain (negsuc k) n f h = refl

fits_plain : (z : ℤ) (n : ℕ) → FitsUnsignedBits 64 z → then_some (ltb (nat_abs z) n) (nat_abs z) ≡ among z n
fits_plain (pos k) n h = some_plain k n
fits_plain (negsuc k) n h = absurd h

module _ {E : Type 0} (v z : ℤ) (n : ℕ) (r : Result ℕ E) (e : v ≡ z) (h : OkIff r (FitsUnsignedBits 64 v) (nat_abs v)) where
  pub no_place : SFits w64 z → result_ok r ≡ None → None ≡ among z n
  no_place f = go r h
    where
      go : (r : Result ℕ E) → OkIff r (FitsUnsignedBits 64 v) (nat_abs v) → result_ok r ≡ None → None ≡ among z n
      go (Ok k) h q = cc
      go (Err x) h q = none_plain z n f (rw e at h)

  pub a_place : (k : ℕ) → result_ok r ≡ Some k → then_some (ltb k n) k ≡ among z n
  a_place = go r h
    where
      go : (r : Result ℕ E) → OkIff r (FitsUnsignedBits 64 v) (nat_abs v) → (k : ℕ) → result_ok r ≡ Some k → then_some (ltb k n) k ≡ among z n
      go (Ok j) h k q = let g : k ≡ nat_abs v = cc in rw (g, e) (fits_plain z n (rw e at h.0))
      go (Err x) h k q = cc

-- The item that an index stands for.

pub wider : (v i : ℤ) → v ≡ i → SFits w32 i → SFits w64 v
wider v i e f = rw e (record { sfits = lt_trans f.sfits (lit< tt) })

pub widened : (i : ℤ) → SFits w32 i → to_z w64 (of_z w64 (to_z w32 (of_z w32 i))) ≡ i
widened i f = ap (λ (z : ℤ). to_z w64 (of_z w64 z)) (to_z-of_z w32 i f) ∙ to_z-of_z w64 i (wider i i refl f)

mag_sub : (b : Bool) (x y m : ℕ) → x < m → y < m → mag (cond b (negsuc x) (pos y)) < m
mag_sub true x y m p q = p
mag_sub false x y m p q = q

sum_mag : (n : ℕ) (i : ℤ) → n < 2 ^ 29 → mag i < 2 ^ 31 → mag (pos n +ℤ i) < 2 ^ 63
sum_mag n (pos k) h f = omega arith
sum_mag n (negsuc k) h f = mag_sub (ltb n (suc k)) (suc k - suc n) (n - suc k) (2 ^ 63) (omega arith) (omega arith)

module _ (n : ℕ) (i : ℤ) (h : n < 2 ^ 29) (f : SFits w32 i) where
  -- What the machine adds.
  added : to_z w64 n +ℤ to_z w64 (of_z w64 (to_z w32 (of_z w32 i))) ≡ pos n +ℤ i
  added = λ j. to_z_pos w64 n (lt_trans h (lit< tt)) j +ℤ widened i f j

  pub sum_fits : SFits w64 (to_z w64 n +ℤ to_z w64 (of_z w64 (to_z w32 (of_z w32 i))))
  sum_fits = rw added (record { sfits = sum_mag n i h f.sfits })

  pub summed : to_z w64 (of_z w64 (to_z w64 n +ℤ to_z w64 (of_z w64 (to_z w32 (of_z w32 i))))) ≡ pos n +ℤ i
  summed = to_z-of_z w64 _ sum_fits ∙ added

from_end : (n k : ℕ) → among (pos n +ℤ negsuc k) n ≡ place (negsuc k) n
unfolding among place
from_end n k = go (dec_lt k n)
  where
    go : Dec (k < n) → among (pos n +ℤ negsuc k) n ≡ place (negsuc k) n
    go (yes h) = rw (le-ltb n (suc k) (omega arith), lt-ltb k n h, lt-ltb (n - suc k) n (omega arith))
    go (no h) = rw (lt-ltb n (suc k) (omega arith), le-ltb k n (omega arith))

back_plain : (i : ℤ) (n : ℕ) → lt_z i (pos 0) ≡ true → among (pos n +ℤ i) n ≡ place i n
back_plain (pos k) n q = let h : k < 0 = ltb-true k 0 q in let w : ⊥ = omega arith in absurd w
back_plain (negsuc k) n q = from_end n k

on_plain : (i : ℤ) (n : ℕ) → lt_z i (pos 0) ≡ false → among i n ≡ place i n
unfolding among place
on_plain (pos k) n q = refl
on_plain (negsuc k) n q = cc

-- v is what the machine's test saw of i, and w what was looked up.
module _ (v w i : ℤ) (n : ℕ) (r : Option ℕ) (e : v ≡ i) (hr : r ≡ among w n) where
  pub index_back : lt_z v (pos 0) ≡ true → w ≡ pos n +ℤ i → r ≡ place i n
  index_back q ew = hr ∙ ap (λ (z : ℤ). among z n) ew ∙ back_plain i n (rw e at q)

  pub index_on : lt_z v (pos 0) ≡ false → w ≡ i → r ≡ place i n
  index_on q ew = hr ∙ ap (λ (z : ℤ). among z n) ew ∙ on_plain i n (rw e at q)
