-- Worked cases of document 02 §2, as one table: bytes, and what the text check answers of them. `worked` proves every line, about the
-- definitions that the contract cites.
use mathlib.Core.Path.{◌≡◌, refl}
use mathlib.Core.List.{List, [], ◌∷◌}
use Rattle.layout.specs.Bytes.{Bytes}
use Rattle.layout.specs.Text.{code_points}
use Rattle.layout.specs.Check.{text_checked}
use Rattle.layout.specs.declared.refusal.Refusal.TheVariants.{Text}
use Rattle.layout.proofs.Cases.{letters}
use Rattle.std.specs.Prelude.{Ok, Err, Result, ℕ}
use Rattle.layout.specs.declared.refusal.Refusal.{Refusal}

data Line : Type 0 where
  says : Bytes → Result ℕ Refusal → Line

-- What the lines say, and what the definitions do.
abbrev said : List Line → List (Result ℕ Refusal)
said [] = []
said (says b r ∷ ls) = r ∷ said ls

abbrev checked : List Line → List (Result ℕ Refusal)
checked [] = []
checked (says b r ∷ ls) = text_checked (code_points b) ∷ checked ls

abbrev table : List Line
table =
    -- No text is a text of no characters.
    says [] (Ok 0)
    ∷ says (letters "a") (Ok 1)
    ∷ says (letters "zone1") (Ok 5)
    -- One character of each length: U+00E9, U+20AC, U+1F680.
    ∷ says (0xC3 ∷ 0xA9 ∷ []) (Ok 1)
    ∷ says (0xE2 ∷ 0x82 ∷ 0xAC ∷ []) (Ok 1)
    ∷ says (0xF0 ∷ 0x9F ∷ 0x9A ∷ 0x80 ∷ []) (Ok 1)
    -- The least and the greatest code point of each length.
    ∷ says (0x00 ∷ []) (Ok 1)
    ∷ says (0x7F ∷ []) (Ok 1)
    ∷ says (0xC2 ∷ 0x80 ∷ []) (Ok 1)
    ∷ says (0xDF ∷ 0xBF ∷ []) (Ok 1)
    ∷ says (0xE0 ∷ 0xA0 ∷ 0x80 ∷ []) (Ok 1)
    ∷ says (0xEF ∷ 0xBF ∷ 0xBF ∷ []) (Ok 1)
    ∷ says (0xF0 ∷ 0x90 ∷ 0x80 ∷ 0x80 ∷ []) (Ok 1)
    ∷ says (0xF4 ∷ 0x8F ∷ 0xBF ∷ 0xBF ∷ []) (Ok 1)
    -- A combining mark is a code point of its own, and a byte order mark is one.
    ∷ says (0x61 ∷ 0xCC ∷ 0x81 ∷ []) (Ok 2)
    ∷ says (0xEF ∷ 0xBB ∷ 0xBF ∷ []) (Ok 1)
    -- Characters of several lengths.
    ∷ says (0x61 ∷ 0xC3 ∷ 0xA9 ∷ 0xE2 ∷ 0x82 ∷ 0xAC ∷ 0xF0 ∷ 0x9F ∷ 0x9A ∷ 0x80 ∷ []) (Ok 4)
    -- No first byte, a tail byte alone, a character cut short, and one behind a good one.
    ∷ says (0xFF ∷ []) (Err Text)
    ∷ says (0x80 ∷ []) (Err Text)
    ∷ says (0xC3 ∷ []) (Err Text)
    ∷ says (0xC3 ∷ 0x80 ∷ 0xC3 ∷ []) (Err Text)
    ∷ says (0xC3 ∷ 0x61 ∷ []) (Err Text)
    -- Too many octets for the code point, a surrogate, and beyond U+10FFFF.
    ∷ says (0xC0 ∷ 0x80 ∷ []) (Err Text)
    ∷ says (0xE0 ∷ 0x9F ∷ 0xBF ∷ []) (Err Text)
    ∷ says (0xED ∷ 0xA0 ∷ 0x80 ∷ []) (Err Text)
    ∷ says (0xF4 ∷ 0x90 ∷ 0x80 ∷ 0x80 ∷ []) (Err Text)
    ∷ []

worked : checked table ≡ said table
unfolding text_checked code_points
worked = refl
