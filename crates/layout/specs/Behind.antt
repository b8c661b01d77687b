-- What is behind a character of a text, as the text check goes on from one to the next.
use Rattle.std.specs.Prelude.{ℕ, zero, suc, cond, [], ◌∷◌, Some, None, Option}
use Rattle.layout.specs.Bytes.{Bytes}
use Rattle.layout.specs.Text.{between, lead}

-- What is behind the tail bytes that are due; nothing where one of them is missing or out of its range.
abbrev pub behind_tails : Bytes → Option (ℕ × ℕ × ℕ) → Option Bytes
behind_tails b None = None
behind_tails b (Some (zero, low, high)) = Some b
behind_tails [] (Some ((suc k), low, high)) = None
behind_tails (x ∷ b) (Some ((suc k), low, high)) = cond (between low high x) (behind_tails b (Some (k, 0x80, 0xBF))) None

-- What is behind the first character.
unfoldable pub behind_character : Bytes → Option Bytes
unfolding lead
behind_character [] = None
behind_character (x ∷ b) = behind_tails b (lead x)
