-- The laws of numbers as bytes: high byte first, and two's complement.
use Prim.Native.Nat.{ℕ, zero, suc, ◌+◌, ◌-◌, ◌*◌, ◌/◌, ◌%◌, ◌^◌, ◌≤◌, ◌<◌}
use mathlib.Core.Path.{◌≡◌, refl, sym, ap, ◌∙◌}
use mathlib.Core.Bool.{Bool, true, false, cond, or-false}
use mathlib.Core.List.{[], ◌∷◌, ◌++◌}
use native.Mathlib.Decide.{dec_le, dec_lt}
use native.Mathlib.Omega.{arith}
use native.Mathlib.Nat.{zero-add, suc-add, mul_assoc, pow-suc, pow-le-pow_right, suc-mul, lt_of_lt_of_le, mod-eq_of_lt}
use native.Mathlib.Numerals.{add-one}
use borrow.Author.Tests.{ltb-true, lt-ltb, le-ltb, ne_eqb}
use lib.Arith.{mod-mul, digits_mod}
use lib.Dec.{T, ltb, eqb→eq, lit<}
use lib.IntN.{ℤ, pos, negsuc}
use lib.ListN.{length, take, drop, get_or, length-append, length-drop, get_or-eq_default}
use lib.Pow.{pow-add}
use lib.Seq.{take-suc, take_all, get_or-drop}
use lib.Signed.{mag, non_neg}
use mir.Syntax.{Width, w8, w16, w32, w64}
use mir.Val.{SFits, sel}
use mir.ValLaws.{to_z-of_z}
use Rattle.std.specs.Int.{bytes_high_first, to_be_bytes, cast_signed, cast_unsigned}
use Rattle.layout.specs.Bytes.{Bytes, be_bytes, be_value, part_word, word_at}
use Rattle.layout.specs.Entry.{entry_at}
use Rattle.layout.specs.Number.{is_width, signed, pattern, uint_width, int_width}

-- A byte is eight bits.
pub pow_bytes : (k : ℕ) → 2 ^ (8 * k) ≡ 256 ^ k
pow_bytes zero = refl
pow_bytes (suc k) = let e : 8 * suc k ≡ 8 * k + 8 = omega arith in rw (e, pow-add 2 (8 * k) 8, pow_bytes k, pow-suc 256 k)

-- ---- storing the bytes of a number, from the high one on

pub length_be_bytes : (n v : ℕ) → length (be_bytes n v) ≡ n
unfolding be_bytes
length_be_bytes zero v = refl
length_be_bytes (suc n) v = ap suc (length_be_bytes n v)

-- The library's bytes of a number are these.
library_bytes : (n v : ℕ) → bytes_high_first n v ≡ be_bytes n v
unfolding be_bytes
library_bytes zero v = refl
library_bytes (suc zero) v = let whole : v / 1 ≡ v = omega arith in rw whole
library_bytes (suc (suc n)) v = ap (λ b. v / 256 ^ suc n % 256 ∷ b) (library_bytes (suc n) v)

behind_high : (k n v : ℕ) → drop k (be_bytes (k + n) v) ≡ be_bytes n v
unfolding be_bytes
behind_high zero n v = rw (zero-add n)
behind_high (suc k) n v = rw (suc-add k n) (behind_high k n v)

-- The last of a number's eight bytes are its low ones.
pub low_bytes : (n v : ℕ) (b : Bytes) → n ≤ 8 → b ≡ to_be_bytes w64 v → take (8 - (8 - n)) (drop (8 - n) b) ≡ be_bytes n v
low_bytes n v b h e =
    let k : 8 ≡ 8 - n + n = omega arith in
    let q : b ≡ be_bytes (8 - n + n) v = e ∙ library_bytes 8 v ∙ ap (λ m. be_bytes m v) k in
    rw (q, behind_high (8 - n) n v) (take_all (8 - (8 - n)) (be_bytes n v) (omega (arith, length_be_bytes n v)))

-- ---- reading them

be_value_snoc : (a : Bytes) (x : ℕ) → be_value (a ++ (x ∷ [])) ≡ be_value a * 256 + x
unfolding be_value
be_value_snoc [] x = omega arith
be_value_snoc (y ∷ a) x =
    let l : length (a ++ (x ∷ [])) ≡ suc (length a) = length-append a (x ∷ []) ∙ add-one (length a) in
    rw (l, pow-suc 256 (length a), be_value_snoc a x, ← mul_assoc y (256 ^ length a) 256) (omega arith)

pub read_begins : (s : Bytes) → 0 ≡ be_value (take 0 s)
unfolding be_value
read_begins s = refl

pub read_turn : (s : Bytes) (i v : ℕ) → i < length s → v ≡ be_value (take i s)
    → v * 256 + get_or s i 0 ≡ be_value (take (i + 1) s)
read_turn s i v h e = rw (e, add-one i, take-suc s i 0 h, be_value_snoc)

pub read_bound : (i v x : ℕ) → v < 256 ^ i → x < 256 → v * 256 + x < 256 ^ (i + 1)
read_bound i v x h k = rw (add-one i, pow-suc 256 i) (omega arith)

-- Where at most `k + 1` bytes are read, there is room for one more behind each.
pub read_room : (k i v n : ℕ) → v < 256 ^ i → i < n → n ≤ k + 1 → v < 256 ^ k
read_room k i v n h l m = lt_of_lt_of_le h (pow-le-pow_right {n = 256} (lit< tt) {i = i} {j = k} (omega arith))

-- Bytes from a place on of which none is there.
pub part_word_out : (s : Bytes) (at n : ℕ) → length s ≤ at → (0 ≡ part_word s at n) × (0 < 256 ^ n)
unfolding part_word
part_word_out s at zero h = (refl, omega arith)
part_word_out s at (suc n) h =
    let r = part_word_out s at n h in
    let out : length s ≤ at + n = omega arith in
    (rw (← r.0, get_or-eq_default s 0 out), rw (pow-suc 256 n) (omega (arith, r.1)))

-- No slice has an entry so far behind its header.
pub entry_out : (s : Bytes) (i : ℕ) → length s < 2 ^ 63 → 2 ^ 61 ≤ i → 0 ≡ entry_at s i
unfolding entry_at word_at
entry_out s i l h = (part_word_out s (4 + 4 * i) 4 (omega arith)).0

-- Where they are there, it is the number that they write.
pub part_value : (s : Bytes) (at n : ℕ) → at + n ≤ length s → part_word s at n ≡ be_value (take n (drop at s))
unfolding part_word be_value
part_value s at zero h = refl
part_value s at (suc n) h =
    let l : n < length (drop at s) = omega (arith, length-drop at s) in
    rw (take-suc (drop at s) n 0 l, be_value_snoc, get_or-drop at s n 0, part_value s at n (omega arith))

pub read_ends : (s : Bytes) (i v : ℕ) → v ≡ be_value (take i s) → v < 256 ^ i → i ≤ length s → length s ≤ i
    → (v ≡ be_value s) × (v < 256 ^ length s)
read_ends s i v e b h l =
    let n : i ≡ length s = omega arith in
    (e ∙ ap be_value (take_all i s l), rw n at b)

-- What was stored is read back.
pub be_value_bytes : (n v : ℕ) → be_value (be_bytes n v) ≡ v % 256 ^ n
unfolding be_value be_bytes
be_value_bytes zero v = omega arith
be_value_bytes (suc n) v =
    let p : 1 ≤ 256 ^ n = pow-le-pow_right {n = 256} (lit< tt) {i = 0} {j = n} (omega arith) in
    rw (length_be_bytes n v, be_value_bytes n v, pow-suc 256 n)
    (sym (mod-mul v {m = 256} {c = 256 ^ n} (lit< tt) (omega arith)) ∙ ap (λ (m : ℕ). v % m) (omega arith))

-- ---- two's complement

pub last_width : (n : ℕ) → T (is_width n) → (n ≡ 1 → ⊥) → (n ≡ 2 → ⊥) → (n ≡ 4 → ⊥) → n ≡ 8
last_width n h a b d = eqb→eq n 8 (rw (ne_eqb n 1 a, ne_eqb n 2 b, ne_eqb n 4 d, or-false) at h)

pub width_le : (n : ℕ) → T (is_width n) → n ≤ 8
width_le n h = by_order (dec_le n 8)
  where
    by_order : Dec (n ≤ 8) → n ≤ 8
    by_order (yes k) = k
    by_order (no k) =
        absurd
        (rw (ne_eqb n 1 (λ e. omega arith), ne_eqb n 2 (λ e. omega arith), ne_eqb n 4 (λ e. omega arith), ne_eqb n 8 (λ e. omega arith)) at h)

-- The library's cast of a pattern is the number that it stands for, and the other way round.
chosen : (b : Bool) (p q : ℤ) → sel b p q ≡ cond b p q
chosen true p q = refl
chosen false p q = refl

pub signed_byte : (x : ℕ) → cast_signed w8 x ≡ signed 1 x
unfolding signed
signed_byte x = chosen (ltb x 128) (pos x) (negsuc (256 - suc x))

pub signed_half : (x : ℕ) → cast_signed w16 x ≡ signed 2 x
unfolding signed
signed_half x = chosen (ltb x 32768) (pos x) (negsuc (65536 - suc x))

pub signed_word : (x : ℕ) → cast_signed w32 x ≡ signed 4 x
unfolding signed
signed_word x = chosen (ltb x 2147483648) (pos x) (negsuc (4294967296 - suc x))

pub signed_long : (x : ℕ) → cast_signed w64 x ≡ signed 8 x
unfolding signed
signed_long x = chosen (ltb x 9223372036854775808) (pos x) (negsuc (18446744073709551616 - suc x))

pub pattern_is : (z : ℤ) → cast_unsigned w64 z ≡ pattern z
unfolding pattern
pattern_is (pos k) = refl
pattern_is (negsuc k) = refl

-- What the machine reads where a number was put is the number, and so it is where a wider type holds it.
pub pattern_held : (z : ℤ) → SFits w64 z → cast_unsigned w64 (cast_signed w64 (cast_unsigned w64 z)) ≡ pattern z
pattern_held z f = ap (cast_unsigned w64) (to_z-of_z w64 z f) ∙ pattern_is z

pub widened : (w : Width) (r s z : ℤ) → SFits w64 r → SFits w s → r ≡ cast_signed w (cast_unsigned w s) → s ≡ z
    → cast_signed w64 (cast_unsigned w64 r) ≡ z
widened w r s z f g e h = to_z-of_z w64 r f ∙ e ∙ to_z-of_z w s g ∙ h

-- A number that `n` bytes hold is what its pattern stands for.
signed_at : (n : ℕ) (z : ℤ) (x h : ℕ) → 256 ^ n ≡ 2 * h → mag z < h
    → x ≡ cond (non_neg z) (mag z) (2 * h - suc (mag z)) → signed n x ≡ z
unfolding signed
signed_at n (pos k) x h p f e = rw (e, p, lt-ltb k (2 * h / 2) (omega arith))
signed_at n (negsuc k) x h p f e = rw (e, p, le-ltb (2 * h - suc k) (2 * h / 2) (omega arith)) (ap negsuc (omega arith))

pub signed_pattern : (z : ℤ) → SFits w64 z → signed 8 (pattern z) ≡ z
unfolding pattern
signed_pattern (pos k) f = signed_at 8 (pos k) k (2 ^ 63) refl f.sfits refl
signed_pattern (negsuc k) f = signed_at 8 (negsuc k) (2 ^ 64 - suc k) (2 ^ 63) refl f.sfits refl

-- ---- widths

half_test : (m p : ℕ) → ltb (2 * m) (2 * p) ≡ ltb m p
half_test m p = by_order (dec_lt m p)
  where
    by_order : Dec (m < p) → ltb (2 * m) (2 * p) ≡ ltb m p
    by_order (yes h) = rw (lt-ltb m p h, lt-ltb (2 * m) (2 * p) (omega arith))
    by_order (no h) = rw (le-ltb m p (omega arith), le-ltb (2 * m) (2 * p) (omega arith))

-- The sign takes one bit.
pub int_width_is : (z : ℤ) (m : ℕ) → mag z ≡ m → uint_width (2 * m) ≡ int_width z
unfolding uint_width int_width
int_width_is z m e = rw (e, half_test m 128, half_test m 32768, half_test m 2147483648)

pub mag_low : (x : ℕ) → x ≤ 9223372036854775807 → mag (signed 8 x) ≡ x
unfolding signed
mag_low x h = rw (lt-ltb x 9223372036854775808 (omega arith))

pub mag_high : (x : ℕ) → 9223372036854775807 < x → mag (signed 8 x) ≡ 18446744073709551615 - x
unfolding signed
mag_high x h = rw (le-ltb x 9223372036854775808 (omega arith)) (omega arith)

-- What holds of each width where its test passes, and of the last in any case, holds of the shortest.
shortest_holds : (P : ℕ → Type 0) (a b d : Bool) → (a ≡ true → P 1) → (b ≡ true → P 2) → (d ≡ true → P 4) → P 8
    → P (cond a 1 (cond b 2 (cond d 4 8)))
shortest_holds P true b d p₁ p₂ p₄ p₈ = p₁ refl
shortest_holds P false true d p₁ p₂ p₄ p₈ = p₂ refl
shortest_holds P false false true p₁ p₂ p₄ p₈ = p₄ refl
shortest_holds P false false false p₁ p₂ p₄ p₈ = p₈

uint_width_holds : (P : ℕ → Type 0) (v : ℕ) → (v < 256 → P 1) → (v < 65536 → P 2) → (v < 4294967296 → P 4) → P 8
    → P (uint_width v)
unfolding uint_width
uint_width_holds P v p₁ p₂ p₄ p₈ =
    shortest_holds P (ltb v 256) (ltb v 65536) (ltb v 4294967296)
    (λ q. p₁ (ltb-true v 256 q)) (λ q. p₂ (ltb-true v 65536 q)) (λ q. p₄ (ltb-true v 4294967296 q)) p₈

int_width_holds : (P : ℕ → Type 0) (z : ℤ) → (mag z < 128 → P 1) → (mag z < 32768 → P 2) → (mag z < 2147483648 → P 4) → P 8
    → P (int_width z)
unfolding int_width
int_width_holds P z p₁ p₂ p₄ p₈ =
    let k = mag z in
    shortest_holds P (ltb k 128) (ltb k 32768) (ltb k 2147483648)
    (λ q. p₁ (ltb-true k 128 q)) (λ q. p₂ (ltb-true k 32768 q)) (λ q. p₄ (ltb-true k 2147483648 q)) p₈

pub uint_width_good : (v : ℕ) → T (is_width (uint_width v))
uint_width_good v = uint_width_holds (λ n. T (is_width n)) v (λ h. tt) (λ h. tt) (λ h. tt) tt

pub int_width_good : (z : ℤ) → T (is_width (int_width z))
int_width_good z = int_width_holds (λ n. T (is_width n)) z (λ h. tt) (λ h. tt) (λ h. tt) tt

-- ---- what was written is read back

pub uint_back : (v : ℕ) → v < 2 ^ 64 → be_value (be_bytes (uint_width v) v) ≡ v
uint_back v h =
    be_value_bytes (uint_width v) v
    ∙ uint_width_holds (λ n. v % 256 ^ n ≡ v) v (λ k. mod-eq_of_lt k) (λ k. mod-eq_of_lt k) (λ k. mod-eq_of_lt k) (mod-eq_of_lt h)

mod_below : (q p k : ℕ) → k < p → (suc q * p - suc k) % p ≡ p - suc k
mod_below q p k h =
    let e : suc q * p - suc k ≡ q * p + (p - suc k) = rw (suc-mul q p) (omega arith) in
    rw e (digits_mod q (omega arith))

-- The low `n` bytes of a pattern, where `n` bytes hold the number.
signed_back : (n q : ℕ) (z : ℤ) (h : ℕ) → 256 ^ n ≡ 2 * h → 2 ^ 64 ≡ suc q * (2 * h) → mag z < h
    → signed n (pattern z % 256 ^ n) ≡ z
unfolding pattern
signed_back n q (pos k) h p w f = signed_at n (pos k) (k % 256 ^ n) h p f (rw p (mod-eq_of_lt (omega arith)))
signed_back n q (negsuc k) h p w f =
    signed_at n (negsuc k) ((2 ^ 64 - suc k) % 256 ^ n) h p f (rw (p, w) (mod_below q (2 * h) k (omega arith)))

pub whole_back : (z : ℤ) → SFits w64 z → signed 8 (be_value (be_bytes 8 (pattern z))) ≡ z
whole_back z f = ap (signed 8) (be_value_bytes 8 (pattern z)) ∙ signed_back 8 0 z (2 ^ 63) refl refl f.sfits

pub int_back : (z : ℤ) → SFits w64 z → signed (int_width z) (be_value (be_bytes (int_width z) (pattern z))) ≡ z
int_back z f =
    ap (signed (int_width z)) (be_value_bytes (int_width z) (pattern z))
    ∙ int_width_holds (λ n. signed n (pattern z % 256 ^ n) ≡ z) z
    (signed_back 1 (2 ^ 56 - 1) z (2 ^ 7) refl refl)
    (signed_back 2 (2 ^ 48 - 1) z (2 ^ 15) refl refl)
    (signed_back 4 (2 ^ 32 - 1) z (2 ^ 31) refl refl)
    (signed_back 8 0 z (2 ^ 63) refl refl f.sfits)
