-- The laws of number payloads.
use Prim.Native.Nat.{ℕ, zero, suc, ◌+◌, ◌-◌, ◌*◌, ◌^◌, ◌≤◌, ◌<◌}
use mathlib.Core.Path.{◌≡◌, refl, sym, ap, subst, ◌∙◌}
use mathlib.Core.Bool.{Bool, true, false, not, cond, ◌&&◌, ◌||◌, or-false}
use mathlib.Core.List.{[], ◌∷◌}
use mathlib.Core.Logic.{◌⊎◌, inl, inr, ◌↔◌}
use native.Mathlib.Nat.{mod-eq_of_lt}
use native.Mathlib.Omega.{arith}
use borrow.Author.Tests.{eq-eqb, ne_eqb}
use lib.Dec.{T, eqb, eqb→eq}
use lib.Ieee.{Float, nan, inf, fin, binary64, ne, eq, fits, up, down, is_nan, of_bits, to_bits}
use lib.Ieee.Bits.{of_bits-to_bits, to_bits-lt, is_true}
use lib.IntN.{ℤ, pos, negsuc}
use lib.ListN.{length, take, drop, get_or, set}
use lib.Seq.{take_all}
use mir.Syntax.{w64}
use mir.Val.{SFits, to_z, of_z}
use Rattle.layout.specs.Bytes.{Bytes, be_bytes, be_value}
use Rattle.layout.specs.Patch.{patch}
use Rattle.layout.specs.Ended.{Ended, into}
use Rattle.layout.specs.Number.{is_integer, is_width, listed, signed, pattern, decimal_of, number_of, decoded, uint_width, int_width, uint_payload, int_payload, float_payload, decimal_payload}
use Rattle.layout.specs.declared.number.Number.{Number}
use Rattle.layout.specs.declared.number.Number.TheVariants.{Nan, Infinity, NegInfinity, Int64, UInt64, Float64, Decimal64, WideDecimal}
use Rattle.layout.specs.declared.refusal.Refusal.{Refusal}
use Rattle.layout.specs.declared.refusal.Refusal.TheVariants.{Number as NotListed, Buffer}
use Rattle.layout.proofs.Patches.{patch_snoc, ended_short, ended_full}
use Rattle.layout.proofs.Patterns.{length_be_bytes, be_value_bytes, signed_pattern, uint_width_good, int_width_good, pattern_held, uint_back, int_back, whole_back}
use Rattle.std.specs.Prelude.{Ok, Err, Some}

-- `listed` by the first byte and how many follow it, as the code tests it.
pub listed_none : (b : Bytes) → length b ≡ 0 → false ≡ listed b
unfolding listed
listed_none [] h = refl
listed_none (x ∷ b) h = let z : ⊥ = omega arith in absurd z

pub listed_is : (b : Bytes) → (length b ≡ 0 → ⊥) →
    listed b
    ≡ (((eqb (get_or b 0 0) 0x00 || (eqb (get_or b 0 0) 0x10 || (eqb (get_or b 0 0) 0x20 || eqb (get_or b 0 0) 0x30)))
    && eqb (length b - 1) 0)
    || (((eqb (get_or b 0 0) 0x40 || eqb (get_or b 0 0) 0x50)
    && (eqb (length b - 1) 1 || (eqb (length b - 1) 2 || (eqb (length b - 1) 4 || eqb (length b - 1) 8))))
    || ((eqb (get_or b 0 0) 0x60 && eqb (length b - 1) 8)
    || (eqb (get_or b 0 0) 0x70 && (eqb (length b - 1) 9 || (eqb (length b - 1) 17 || eqb (length b - 1) 33))))))
unfolding listed
listed_is [] h = absurd (h refl)
listed_is (x ∷ b) h =
    let n : suc (length b) - 1 ≡ length b = omega arith in
    simp (or-false) (rw n)

pub integer_none : (b : Bytes) → length b ≡ 0 → false ≡ is_integer b
unfolding is_integer
integer_none [] h = refl
integer_none (x ∷ b) h = let z : ⊥ = omega arith in absurd z

pub integer_is : (b : Bytes) → (length b ≡ 0 → ⊥) →
    is_integer b ≡ (eqb (get_or b 0 0) 0x00 || (eqb (get_or b 0 0) 0x40 || eqb (get_or b 0 0) 0x50))
unfolding is_integer
integer_is [] h = absurd (h refl)
integer_is (x ∷ b) h = simp (or-false)

-- ---- reading

-- `listed` by the first byte.
pub integer_listed : (x : ℕ) (b : Bytes) → (x ≡ 0x40) ⊎ (x ≡ 0x50) → listed (x ∷ b) ≡ is_width (length b)
unfolding listed
integer_listed x b (inl e) = rw e (or-false (is_width (length b)))
integer_listed x b (inr e) = rw e (or-false (is_width (length b)))

pub integer_within : (x : ℕ) (b : Bytes) → (x ≡ 0x40) ⊎ (x ≡ 0x50) → T (listed (x ∷ b)) → T (is_width (length b))
integer_within x b e h = subst T (integer_listed x b e) h

float_listed : (b : Bytes) → listed (0x60 ∷ b) ≡ eqb (length b) 8
unfolding listed
float_listed b = or-false (eqb (length b) 8)

pub float_within : (x : ℕ) (b : Bytes) → x ≡ 0x60 → T (listed (x ∷ b)) → length b ≡ 8
float_within x b e h = eqb→eq (length b) 8 (subst T (float_listed b) (rw e at h))

-- `number_of` by the tests of the code.
module _ (x : ℕ) (b : Bytes) where
  pub zero_is : x ≡ 0x00 → UInt64 0 ≡ number_of x b
  unfolding number_of
  zero_is e = rw e

  pub nan_is : x ≡ 0x10 → Nan ≡ number_of x b
  unfolding number_of
  nan_is e = rw e

  pub infinity_is : x ≡ 0x20 → Infinity ≡ number_of x b
  unfolding number_of
  infinity_is e = rw e

  pub neg_infinity_is : x ≡ 0x30 → NegInfinity ≡ number_of x b
  unfolding number_of
  neg_infinity_is e = rw e

  pub int_is : (t z : ℤ) (v : ℕ) → x ≡ 0x40 → t ≡ z → z ≡ signed (length b) v → v ≡ be_value b → Int64 t ≡ number_of x b
  unfolding number_of
  int_is t z v e p q r = rw (e, p, q, r)

  pub uint_is : (v : ℕ) → x ≡ 0x50 → v ≡ be_value b → UInt64 v ≡ number_of x b
  unfolding number_of
  uint_is v e r = rw (e, r)

  pub float_is : (v : ℕ) → x ≡ 0x60 → v ≡ be_value b → Float64 v ≡ number_of x b
  unfolding number_of
  float_is v e r = rw (e, r)

  pub decimal_last : (r : Number) → (x ≡ 0x00 → ⊥) → (x ≡ 0x10 → ⊥) → (x ≡ 0x20 → ⊥) → (x ≡ 0x30 → ⊥) → (x ≡ 0x40 → ⊥)
      → (x ≡ 0x50 → ⊥) → (x ≡ 0x60 → ⊥) → r ≡ decimal_of b → r ≡ number_of x b
  unfolding number_of
  decimal_last r n₀ n₁ n₂ n₃ n₄ n₅ n₆ e =
      e
      ∙ rw (ne_eqb x 0x00 n₀, ne_eqb x 0x10 n₁, ne_eqb x 0x20 n₂, ne_eqb x 0x30 n₃)
      (rw (ne_eqb x 0x40 n₄, ne_eqb x 0x50 n₅, ne_eqb x 0x60 n₆))

pub decimal_is : (b : Bytes) (t z : ℤ) (v : ℕ) → length b ≡ 9 → t ≡ z → z ≡ signed 8 v → v ≡ be_value (take 8 b)
    → Decimal64 t (get_or b 8 0) ≡ decimal_of b
unfolding decimal_of
decimal_is b t z v l p q r = rw (p, q, r, eq-eqb (length b) 9 l)

pub wide_is : (b : Bytes) → (length b ≡ 9 → ⊥) → WideDecimal (length b) ≡ decimal_of b
unfolding decimal_of
wide_is b l = rw (ne_eqb (length b) 9 l)

-- A payload that is listed has a first byte.
pub whole : (l : Bytes) (x : ℕ) → listed l ≡ true → x ≡ get_or l 0 0 → l ≡ x ∷ take (length l - 1) (drop 1 l)
unfolding listed
whole [] x h e = cc
whole (y ∷ b) x h e = rw (e, take_all (suc (length b) - 1) b (omega arith))

pub not_empty : (l : Bytes) → listed l ≡ true → 1 ≤ length l
unfolding listed
not_empty [] h = let z : ◌≡◌ {A = ℕ} 0 1 = cc in absurd (omega arith)
not_empty (y ∷ b) h = omega arith

pub listed_whole : (l b : Bytes) (x : ℕ) → listed l ≡ true → l ≡ x ∷ b → T (listed (x ∷ b))
listed_whole l b x h e = rw (← e, h) tt

decoded_listed : (x : ℕ) (b : Bytes) → listed (x ∷ b) ≡ true → decoded (x ∷ b) ≡ Ok (number_of x b)
unfolding decoded
decoded_listed x b h = rw h

pub decoded_whole : (l b : Bytes) (x : ℕ) (r : Number) → listed l ≡ true → l ≡ x ∷ b → r ≡ number_of x b → Ok r ≡ decoded l
decoded_whole l b x r h e q = ap Ok q ∙ sym (decoded_listed x b (rw e at h)) ∙ ap decoded (sym e)

pub decoded_not : (l : Bytes) → listed l ≡ false → Err NotListed ≡ decoded l
unfolding decoded
decoded_not [] h = refl
decoded_not (x ∷ b) h = rw h

-- ---- making

module _ (ty n x : ℕ) (o : Bytes) where
  pub encoded_short : length o < n + 1 → Ended (Err Buffer) o o (into (length o) (ty ∷ be_bytes n x))
  encoded_short h = ended_short (ty ∷ be_bytes n x) o (let l = length_be_bytes n x in omega arith)

  pub encoded_full : (o₁ o₂ : Bytes) → n + 1 ≤ length o → o₁ ≡ set o 0 ty → o₂ ≡ patch o₁ 1 (be_bytes n x)
      → Ended (Ok (Some (n + 1))) o o₂ (into (length o) (ty ∷ be_bytes n x))
  unfolding patch
  encoded_full o₁ o₂ h e₁ e₂ =
      let l = length_be_bytes n x in
      ended_full (ty ∷ be_bytes n x) o o₂ (n + 1) (omega arith) (omega arith) (rw (e₂, e₁))

pub uint_zero : (v : ℕ) → v ≡ 0 → 0x00 ∷ be_bytes 0 0 ≡ uint_payload v
unfolding uint_payload be_bytes
uint_zero v e = rw e

pub uint_some : (v w : ℕ) → (v ≡ 0 → ⊥) → w ≡ uint_width v → 0x50 ∷ be_bytes w v ≡ uint_payload v
unfolding uint_payload
uint_some zero w n e = absurd (n refl)
uint_some (suc v) w n e = rw e

zero_plain : (z : ℤ) → SFits w64 z → pattern z ≡ 0 → 0x00 ∷ be_bytes 0 0 ≡ int_payload z
unfolding int_payload be_bytes pattern
zero_plain (pos zero) f h = refl
zero_plain (pos (suc k)) f h = absurd (omega arith)
zero_plain (negsuc k) f h = absurd (omega (arith, f.sfits))

some_plain : (z : ℤ) → (pattern z ≡ 0 → ⊥) → 0x40 ∷ be_bytes (int_width z) (pattern z) ≡ int_payload z
unfolding int_payload pattern
some_plain (pos zero) n = absurd (n refl)
some_plain (pos (suc k)) n = refl
some_plain (negsuc k) n = refl

module _ (z : ℤ) (x : ℕ) (f : SFits w64 z) (e : x ≡ of_z w64 (to_z w64 (of_z w64 z))) where
  same : x ≡ pattern z
  same = e ∙ pattern_held z f

  pub int_zero : x ≡ 0 → 0x00 ∷ be_bytes 0 0 ≡ int_payload z
  int_zero h = zero_plain z f (sym same ∙ h)

  pub int_some : (w : ℕ) → (x ≡ 0 → ⊥) → w ≡ int_width (signed 8 x) → 0x40 ∷ be_bytes w x ≡ int_payload z
  int_some w n q = rw (q, same, signed_pattern z f) (some_plain z (λ h. n (same ∙ h)))

-- A NaN is told by its being unlike itself, an infinite float by its pattern.
ne_self : (v : Float) → ne v v ≡ is_nan v
unfolding ne eq is_nan
ne_self nan = refl
ne_self (inf true) = refl
ne_self (inf false) = refl
ne_self (fin true m e) = let a = m * up e * down e in rw (eq-eqb a a refl)
ne_self (fin false m e) = let a = m * up e * down e in rw (eq-eqb a a refl)

nan_plain : (v : Float) → is_nan v ≡ true → 0x10 ∷ be_bytes 0 0 ≡ float_payload v
unfolding float_payload be_bytes is_nan
nan_plain nan h = refl
nan_plain (inf s) h = cc
nan_plain (fin s m e) h = cc

inf_plain : (s : Bool) → cond s 0x30 0x20 ∷ be_bytes 0 0 ≡ float_payload (inf s)
unfolding float_payload be_bytes
inf_plain true = refl
inf_plain false = refl

inf_read : (s : Bool) → of_bits binary64 (cond s 0xFFF0000000000000 0x7FF0000000000000) ≡ inf s
unfolding of_bits
inf_read true = refl
inf_read false = refl

pub float_nan : (v : Float) → ne v v ≡ true → 0x10 ∷ be_bytes 0 0 ≡ float_payload v
float_nan v h = nan_plain v (sym (ne_self v) ∙ h)

pub not_nan : (v : Float) → ne v v ≡ false → T (not (is_nan v))
not_nan v h = rw (← ne_self v, h) tt

-- A float of which the pattern is an infinite one's is infinite.
module _ (v : Float) (held : T (fits binary64 v)) where
  is_inf : (s : Bool) → to_bits binary64 v ≡ cond s 0xFFF0000000000000 0x7FF0000000000000 → inf s ≡ v
  is_inf s e = sym (inf_read s) ∙ ap (of_bits binary64) (sym e) ∙ of_bits-to_bits binary64 v held

  pub float_inf : to_bits binary64 v ≡ 0x7FF0000000000000 → 0x20 ∷ be_bytes 0 0 ≡ float_payload v
  float_inf e = inf_plain false ∙ ap float_payload (is_inf false e)

  pub float_neg_inf : to_bits binary64 v ≡ 0xFFF0000000000000 → 0x30 ∷ be_bytes 0 0 ≡ float_payload v
  float_neg_inf e = inf_plain true ∙ ap float_payload (is_inf true e)

pub float_some : (v : Float) → T (not (is_nan v)) → (to_bits binary64 v ≡ 0x7FF0000000000000 → ⊥)
    → (to_bits binary64 v ≡ 0xFFF0000000000000 → ⊥) → 0x60 ∷ be_bytes 8 (to_bits binary64 v) ≡ float_payload v
unfolding float_payload is_nan to_bits
float_some nan h a b = absurd h
float_some (inf false) h a b = absurd (a refl)
float_some (inf true) h a b = absurd (b refl)
float_some (fin s m e) h a b = refl

decimal_length : (z : ℤ) (scale : ℕ) → 10 ≡ length (decimal_payload z scale)
unfolding decimal_payload be_bytes
decimal_length z scale = refl

decimal_patch : (z : ℤ) (scale : ℕ) (o : Bytes)
    → set (patch (set o 0 0x70) 1 (be_bytes 8 (pattern z))) 9 scale ≡ patch o 0 (decimal_payload z scale)
unfolding patch decimal_payload
decimal_patch z scale o =
    let l : 1 + length (be_bytes 8 (pattern z)) ≡ 9 = ap (λ (n : ℕ). 1 + n) (length_be_bytes 8 (pattern z)) in
    ap (λ (n : ℕ). set (patch (set o 0 0x70) 1 (be_bytes 8 (pattern z))) n scale) (sym l)
    ∙ patch_snoc (set o 0 0x70) 1 (be_bytes 8 (pattern z)) scale

module _ (z : ℤ) (scale : ℕ) (o : Bytes) where
  pub decimal_short : length o < 10 → Ended (Err Buffer) o o (into (length o) (decimal_payload z scale))
  decimal_short h = ended_short (decimal_payload z scale) o (rw (← decimal_length z scale) h)

  pub decimal_full : (o₁ o₂ o₃ : Bytes) (x : ℕ) → 10 ≤ length o → SFits w64 z → o₁ ≡ set o 0 0x70
      → x ≡ of_z w64 (to_z w64 (of_z w64 z)) → o₂ ≡ patch o₁ 1 (be_bytes 8 x) → o₃ ≡ set o₂ 9 scale
      → Ended (Ok (Some 10)) o o₃ (into (length o) (decimal_payload z scale))
  decimal_full o₁ o₂ o₃ x h f e₁ e e₂ e₃ =
      let p : x ≡ pattern z = e ∙ pattern_held z f in
      ended_full (decimal_payload z scale) o o₃ 10 (rw (← decimal_length z scale) h) (decimal_length z scale)
      (rw (e₃, e₂, p, e₁) (decimal_patch z scale o))

-- ---- what is made is listed

integer_made : (x n v : ℕ) → (x ≡ 0x40) ⊎ (x ≡ 0x50) → T (is_width n) → T (listed (x ∷ be_bytes n v))
integer_made x n v e h = rw (integer_listed x (be_bytes n v) e, length_be_bytes n v) h

uint_some_made : (v : ℕ) → T (listed (0x50 ∷ be_bytes (uint_width v) v))
uint_some_made v = integer_made 0x50 (uint_width v) v (inr refl) (uint_width_good v)

int_some_made : (z : ℤ) → T (listed (0x40 ∷ be_bytes (int_width z) (pattern z)))
int_some_made z = integer_made 0x40 (int_width z) (pattern z) (inl refl) (int_width_good z)

pub uint_made : (v : ℕ) → T (listed (uint_payload v))
unfolding uint_payload listed
uint_made zero = tt
uint_made (suc v) = uint_some_made (suc v)

pub int_made : (z : ℤ) → T (listed (int_payload z))
unfolding int_payload listed
int_made (pos zero) = tt
int_made (pos (suc k)) = int_some_made (pos (suc k))
int_made (negsuc k) = int_some_made (negsuc k)

pub float_made : (v : Float) → T (listed (float_payload v))
unfolding float_payload be_bytes listed
float_made nan = tt
float_made (inf true) = tt
float_made (inf false) = tt
float_made (fin s m e) = tt

pub decimal_made : (z : ℤ) (scale : ℕ) → T (listed (decimal_payload z scale))
unfolding decimal_payload be_bytes listed
decimal_made z scale = tt

-- ---- what is made is read back

uint_some_read : (v : ℕ) → v < 2 ^ 64 → decoded (0x50 ∷ be_bytes (uint_width v) v) ≡ Ok (UInt64 v)
uint_some_read v h =
    let b = be_bytes (uint_width v) v in
    decoded_listed 0x50 b (is_true _ (uint_some_made v)) ∙ ap Ok (sym (uint_is 0x50 b v refl (sym (uint_back v h))))

int_some_read : (z : ℤ) → SFits w64 z → decoded (0x40 ∷ be_bytes (int_width z) (pattern z)) ≡ Ok (Int64 z)
int_some_read z f =
    let b = be_bytes (int_width z) (pattern z) in
    let q : z ≡ signed (length b) (be_value b) = sym (rw (length_be_bytes (int_width z) (pattern z)) (int_back z f)) in
    decoded_listed 0x40 b (is_true _ (int_some_made z)) ∙ ap Ok (sym (int_is 0x40 b z z (be_value b) refl refl q refl))

-- "00 reads as unsigned zero."
pub uint_read : (v : ℕ) → v < 2 ^ 64 → decoded (uint_payload v) ≡ Ok (UInt64 v)
unfolding uint_payload decoded listed number_of
uint_read zero h = refl
uint_read (suc v) h = uint_some_read (suc v) h

pub int_zero_read : decoded (int_payload (pos 0)) ≡ Ok (UInt64 0)
unfolding int_payload decoded listed number_of
int_zero_read = refl

pub int_read : (z : ℤ) → SFits w64 z → (z ≡ pos 0 → ⊥) → decoded (int_payload z) ≡ Ok (Int64 z)
unfolding int_payload
int_read (pos zero) f n = absurd (n refl)
int_read (pos (suc k)) f n = int_some_read (pos (suc k)) f
int_read (negsuc k) f n = int_some_read (negsuc k) f

pub nan_read : decoded (float_payload nan) ≡ Ok Nan
unfolding float_payload decoded listed number_of
nan_read = refl

pub infinity_read : (s : Bool) → decoded (float_payload (inf s)) ≡ Ok (cond s NegInfinity Infinity)
unfolding float_payload decoded listed number_of
infinity_read true = refl
infinity_read false = refl

pub float_read : (s : Bool) (m : ℕ) (e : ℤ) → T (fits binary64 (fin s m e))
    → decoded (float_payload (fin s m e)) ≡ Ok (Float64 (to_bits binary64 (fin s m e)))
unfolding float_payload
float_read s m e h =
    let v = to_bits binary64 (fin s m e) in
    let b = be_bytes 8 v in
    decoded_listed 0x60 b (float_listed b ∙ eq-eqb (length b) 8 (length_be_bytes 8 v))
    ∙ ap Ok (sym (float_is 0x60 b v refl (sym (be_value_bytes 8 v ∙ mod-eq_of_lt (to_bits-lt binary64 (fin s m e) h)))))

pub decimal_read : (z : ℤ) (scale : ℕ) → SFits w64 z → decoded (decimal_payload z scale) ≡ Ok (Decimal64 z scale)
unfolding decimal_payload decoded listed number_of be_bytes
decimal_read z scale f = ap (λ (t : ℤ). Ok (Decimal64 t scale)) (whole_back z f)

-- ---- what is refused

pub not_listed : (b : Bytes) (r : Refusal) → decoded b ≡ Err r → listed b ≡ false
unfolding listed
not_listed [] r e = refl
not_listed (x ∷ b) r e = by_listed (listed (x ∷ b)) refl
  where
    by_listed : (t : Bool) → listed (x ∷ b) ≡ t → listed (x ∷ b) ≡ false
    by_listed true q = let z : Ok (number_of x b) ≡ Err r = sym (decoded_listed x b q) ∙ e in cc
    by_listed false q = q

-- "A payload not listed is 4", and no other is refused.
pub decoded_refused : (b : Bytes) → (decoded b ≡ Err NotListed) ↔ (listed b ≡ false)
decoded_refused b = (not_listed b NotListed, λ h. sym (decoded_not b h))

-- ---- examples

signed_200 : int_payload (pos 200) ≡ 0x40 ∷ 0x00 ∷ 0xC8 ∷ []
unfolding int_payload int_width be_bytes pattern
signed_200 = refl

unsigned_200 : uint_payload 200 ≡ 0x50 ∷ 0xC8 ∷ []
unfolding uint_payload uint_width be_bytes
unsigned_200 = refl

least_number : int_payload (negsuc 9223372036854775807) ≡ 0x40 ∷ 0x80 ∷ 0 ∷ 0 ∷ 0 ∷ 0 ∷ 0 ∷ 0 ∷ 0 ∷ []
unfolding int_payload int_width be_bytes pattern
least_number = refl

minus_zero : float_payload (fin true 0 (pos 0)) ≡ 0x60 ∷ 0x80 ∷ 0 ∷ 0 ∷ 0 ∷ 0 ∷ 0 ∷ 0 ∷ 0 ∷ []
unfolding float_payload be_bytes to_bits
minus_zero = refl

two_zeros : decoded (0x00 ∷ 0x00 ∷ []) ≡ Err NotListed
unfolding decoded listed
two_zeros = refl

minus_one_read : decoded (0x40 ∷ 0xFF ∷ 0xFF ∷ []) ≡ Ok (Int64 (negsuc 0))
unfolding decoded listed number_of signed be_value
minus_one_read = refl
