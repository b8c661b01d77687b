-- Text: UTF-8 by RFC 3629, section 4, "Syntax of UTF-8 Byte Sequences".
--
--   UTF8-1 = 00-7F
--   UTF8-2 = C2-DF tail
--   UTF8-3 = E0 A0-BF tail / E1-EC tail tail / ED 80-9F tail / EE-EF tail tail
--   UTF8-4 = F0 90-BF tail tail / F1-F3 tail tail tail / F4 80-8F tail tail
--   tail   = 80-BF
use Rattle.std.specs.Prelude.{ℕ, zero, suc, Bool, true, false, ◌&&◌, cond, [], ◌∷◌, leb, ltb, Some, None, Option}
use Rattle.layout.specs.Bytes.{Bytes}

abbrev pub between : ℕ → ℕ → ℕ → Bool
between low high x = leb low x && leb x high

-- What a first byte asks for: how many tail bytes, and the range of the first of them.
unfoldable pub lead : ℕ → Option (ℕ × ℕ × ℕ)
lead x =
    cond (between 0x00 0x7F x) (Some (0, 0x80, 0xBF))
    (cond (between 0xC2 0xDF x) (Some (1, 0x80, 0xBF))
    (cond (between 0xE0 0xE0 x) (Some (2, 0xA0, 0xBF))
    (cond (between 0xE1 0xEC x) (Some (2, 0x80, 0xBF))
    (cond (between 0xED 0xED x) (Some (2, 0x80, 0x9F))
    (cond (between 0xEE 0xEF x) (Some (2, 0x80, 0xBF))
    (cond (between 0xF0 0xF0 x) (Some (3, 0x90, 0xBF))
    (cond (between 0xF1 0xF3 x) (Some (3, 0x80, 0xBF))
    (cond (between 0xF4 0xF4 x) (Some (3, 0x80, 0x8F))
    None))))))))

-- The tail bytes that are due, and then whole characters to the end: how many there are, `n` of them so far. A character counts
-- with its first byte.
abbrev pub points_rest : Bytes → ℕ → Option (ℕ × ℕ × ℕ) → Option ℕ
points_rest [] n None = None
points_rest [] n (Some (zero, low, high)) = Some n
points_rest [] n (Some ((suc k), low, high)) = None
points_rest (x ∷ b) n None = None
points_rest (x ∷ b) n (Some (zero, low, high)) = points_rest b (suc n) (lead x)
points_rest (x ∷ b) n (Some ((suc k), low, high)) = cond (between low high x) (points_rest b n (Some (k, 0x80, 0xBF))) None

-- Document 02 §2: "the number of code points by RFC 3629"; nothing where the bytes are no text. `CodePoints` says it in the RFC's
-- own words.
unfoldable pub code_points : Bytes → Option ℕ
unfolding lead
code_points b = points_rest b 0 (Some (0, 0x80, 0xBF))

abbrev pub is_some : Option ℕ → Bool
is_some None = false
is_some (Some n) = true

-- "Text that is not UTF-8 by RFC 3629" has no such number.
unfoldable pub utf8 : Bytes → Bool
unfolding code_points
utf8 b = is_some (code_points b)

-- Every byte is below 128: text of UTF8-1 alone.
unfoldable pub ascii : Bytes → Bool
ascii [] = true
ascii (x ∷ b) = ltb x 0x80 && ascii b
