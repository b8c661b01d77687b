-- How the worked cases of every crate are written down: bytes in the document's groups, texts by their letters, outcomes for a
-- buffer of any length.
use Prim.Native.Nat.{ℕ}
use Prim.Native.Char.{code}
use Prim.Native.String.{String, [] as no-letters, ◌∷◌ as ◌letter◌}
use mathlib.Core.List.{[], ◌∷◌, ◌++◌}
use Rattle.layout.specs.Bytes.{Bytes, be32}
use Rattle.layout.specs.Ended.{Outcome, result, absence, refusal, into}

-- Four bytes, and what follows them.
infixr 67 ◌▸◌
abbrev pub ◌▸◌ : ℕ → Bytes → Bytes
w ▸ b = be32 w ++ b

-- A text of ASCII letters as its bytes.
abbrev pub letters : String → Bytes
letters no-letters = []
letters (◌letter◌ c t) = code c ∷ letters t

-- A result goes into a buffer that is long enough; an absence and a number are so with every buffer.
abbrev pub told : Outcome → ℕ → Outcome
told (result b) room = into room b
told absence room = absence
told (refusal r) room = refusal r

-- One case, and those behind it.
infixr 20 ◌also◌
abbrev pub ◌also◌ : {A B : Type 0} → A → B → A × B
a also b = (a, b)
