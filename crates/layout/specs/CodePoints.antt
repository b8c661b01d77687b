-- The code points of a text in the words of RFC 3629, section 3, and what they have to do with `code_points`, which the promises cite.
use Rattle.std.specs.Prelude.{ℕ, ◌+◌, ◌/◌, ◌%◌, ◌^◌, ◌<◌, ◌≡◌, ◌⊎◌, ◌↔◌, cond, List, [], ◌∷◌, ◌++◌, ltb, length, Some}
use Rattle.layout.specs.Bytes.{Bytes}
use Rattle.layout.specs.Text.{code_points}

-- "0000 0000-0000 007F | 0xxxxxxx", "0000 0080-0000 07FF | 110xxxxx 10xxxxxx", "0000 0800-0000 FFFF | 1110xxxx 10xxxxxx 10xxxxxx",
-- "0001 0000-0010 FFFF | 11110xxx 10xxxxxx 10xxxxxx 10xxxxxx": the octets of one code point.
unfoldable pub octet_sequence : ℕ → Bytes
octet_sequence c =
    cond (ltb c 0x80) (c ∷ [])
    (cond (ltb c 0x800) ((0xC0 + c / 2 ^ 6) ∷ (0x80 + c % 2 ^ 6) ∷ [])
    (cond (ltb c 0x10000) ((0xE0 + c / 2 ^ 12) ∷ (0x80 + c / 2 ^ 6 % 2 ^ 6) ∷ (0x80 + c % 2 ^ 6) ∷ [])
    ((0xF0 + c / 2 ^ 18) ∷ (0x80 + c / 2 ^ 12 % 2 ^ 6) ∷ (0x80 + c / 2 ^ 6 % 2 ^ 6) ∷ (0x80 + c % 2 ^ 6) ∷ [])))

-- One behind the other.
abbrev pub encoded : List ℕ → Bytes
encoded [] = []
encoded (c ∷ cs) = octet_sequence c ++ encoded cs

-- "Characters from the U+0000..U+10FFFF range"; "the definition of UTF-8 prohibits encoding character numbers between U+D800 and U+DFFF".
abbrev pub CodePoints : List ℕ → Type 0
CodePoints [] = Unit {0}
CodePoints (c ∷ cs) = (c < 0x110000) × ((c < 0xD800) ⊎ (0xDFFF < c)) × CodePoints cs

-- Bytes are a text of `n` code points exactly where they are the octets of `n` code points, one behind the other.
abbrev pub Counted : Type 0
Counted = (b : Bytes) (n : ℕ) → (code_points b ≡ Some n) ↔ ((cs : List ℕ) × CodePoints cs × (encoded cs ≡ b) × (length cs ≡ n))
