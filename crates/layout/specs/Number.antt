-- Number payloads: document 01, "Number payloads".
use Rattle.std.specs.Prelude.{ℕ, zero, suc, ◌-◌, ◌/◌, ◌^◌, Bool, true, false, cond, ◌&&◌, ◌||◌, ltb, eqb, Err, Result, Ok}
use Rattle.std.specs.Prelude.{List, [], ◌∷◌, ◌++◌, ℤ, pos, negsuc, Float, length, take, get_or}
use Rattle.std.specs.Int.Signed.{mag}
use Rattle.std.specs.Float.{nan, inf, fin, binary64}
use Rattle.std.specs.Float.Ieee.{to_bits}
use Rattle.layout.specs.Bytes.{Bytes, be_bytes, be_value}
use Rattle.layout.specs.declared.number.Number.{Number}
use Rattle.layout.specs.declared.number.Number.TheVariants.{Nan, Infinity, NegInfinity, Int64, UInt64, Float64, Decimal64, WideDecimal}
use Rattle.layout.specs.declared.refusal.Refusal.TheVariants.{Number as NotListed}
use Rattle.layout.specs.declared.refusal.Refusal.{Refusal}

-- `x` is one of these.
abbrev pub one_of : List ℕ → ℕ → Bool
one_of [] x = false
one_of (y ∷ ys) x = eqb x y || one_of ys x

-- "First byte: 00 zero, 10 NaN, 20 infinity, 30 minus infinity, each alone; 40 signed, 50 unsigned, each with 1, 2, 4 or 8
-- bytes; 60 float, 8 bytes; 70 decimal, 9, 17 or 33 bytes."
unfoldable pub listed : Bytes → Bool
listed [] = false
listed (x ∷ b) =
    (one_of (0x00 ∷ 0x10 ∷ 0x20 ∷ 0x30 ∷ []) x && eqb (length b) 0)
    || ((one_of (0x40 ∷ 0x50 ∷ []) x && one_of (1 ∷ 2 ∷ 4 ∷ 8 ∷ []) (length b))
    || ((eqb x 0x60 && eqb (length b) 8)
    || (eqb x 0x70 && one_of (9 ∷ 17 ∷ 33 ∷ []) (length b))))

-- Whether a listed payload is an integer: 00, 40 or 50, and no float, decimal, NaN or infinity.
unfoldable pub is_integer : Bytes → Bool
is_integer [] = false
is_integer (x ∷ b) = one_of (0x00 ∷ 0x40 ∷ 0x50 ∷ []) x

-- The widths of an integer.
abbrev pub is_width : ℕ → Bool
is_width n = one_of (1 ∷ 2 ∷ 4 ∷ 8 ∷ []) n

-- ---- bytes and signed numbers

-- Two's complement in `n` bytes: the upper half of the patterns stands for the negative numbers, the last of them for −1.
unfoldable pub signed : ℕ → ℕ → ℤ
signed n x = cond (ltb x (256 ^ n / 2)) (pos x) (negsuc (256 ^ n - suc x))

-- The pattern of a number in 64 bits; its low bytes are the pattern in fewer bytes, where these hold the number.
unfoldable pub pattern : ℤ → ℕ
pattern (pos k) = k
pattern (negsuc k) = 2 ^ 64 - suc k

-- ---- reading

-- "The wider decimals come back as their length only."
unfoldable pub decimal_of : Bytes → Number
decimal_of b =
    cond (eqb (length b) 9) (Decimal64 (signed 8 (be_value (take 8 b))) (get_or b 8 0)) (WideDecimal (length b))

-- The number of a listed payload: its first byte, and the bytes behind that. "00 reads as unsigned zero unless the reader in
-- `util.rs` says otherwise", and it does not.
unfoldable pub number_of : ℕ → Bytes → Number
unfolding decimal_of
number_of x b =
    cond (eqb x 0x00) (UInt64 0)
    (cond (eqb x 0x10) Nan
    (cond (eqb x 0x20) Infinity
    (cond (eqb x 0x30) NegInfinity
    (cond (eqb x 0x40) (Int64 (signed (length b) (be_value b)))
    (cond (eqb x 0x50) (UInt64 (be_value b))
    (cond (eqb x 0x60) (Float64 (be_value b))
    (decimal_of b)))))))

-- "A payload not listed is 4."
unfoldable pub decoded : Bytes → Result Number Refusal
decoded [] = Err NotListed
decoded (x ∷ b) = cond (listed (x ∷ b)) (Ok (number_of x b)) (Err NotListed)

-- ---- making: "The writer takes the shortest width for an integer and 00 for 0."

-- The least of the widths that holds a number.
abbrev pub shortest : (ℕ → Bool) → ℕ
shortest holds = cond (holds 1) 1 (cond (holds 2) 2 (cond (holds 4) 4 8))

unfoldable pub uint_width : ℕ → ℕ
uint_width v = shortest (λ n. ltb v (256 ^ n))

-- In two's complement `n` bytes hold k and −k − 1, each k below half of 256 ^ n; `mag` is that k of either number.
unfoldable pub int_width : ℤ → ℕ
int_width z = shortest (λ n. ltb (mag z) (256 ^ n / 2))

unfoldable pub uint_payload : ℕ → Bytes
uint_payload zero = 0x00 ∷ []
uint_payload (suc v) = 0x50 ∷ be_bytes (uint_width (suc v)) (suc v)

unfoldable pub int_payload : ℤ → Bytes
int_payload (pos zero) = 0x00 ∷ []
int_payload (pos (suc k)) = 0x40 ∷ be_bytes (int_width (pos (suc k))) (pattern (pos (suc k)))
int_payload (negsuc k) = 0x40 ∷ be_bytes (int_width (negsuc k)) (pattern (negsuc k))

-- "A float that is NaN or infinite is made as its one-byte kind."
unfoldable pub float_payload : Float → Bytes
float_payload nan = 0x10 ∷ []
float_payload (inf false) = 0x20 ∷ []
float_payload (inf true) = 0x30 ∷ []
float_payload (fin s m e) = 0x60 ∷ be_bytes 8 (to_bits binary64 (fin s m e))

-- "64-bit decimal payloads (value, then one scale byte)."
unfoldable pub decimal_payload : ℤ → ℕ → Bytes
decimal_payload z scale = 0x70 ∷ (be_bytes 8 (pattern z) ++ (scale ∷ []))
