-- The reading by places in the bytes, as the code goes. proofs/Places.antt ties it to `Read`.
use Rattle.std.specs.Prelude.{ℕ, zero, suc, ◌+◌, Bool, true, ◌&&◌, List, [], ◌∷◌, ltb, take, drop}
use Rattle.layout.specs.Bytes.{Bytes}
use Rattle.layout.specs.Answer.{Answer, ◌>>=◌}
use Rattle.layout.specs.Entry.{code_of, length_of, kind_of, entry_at}
use Rattle.layout.specs.Encode.{Part}
use Rattle.layout.specs.Tree.{Tree, Items}
use Rattle.layout.specs.Order.{before}
use Rattle.layout.specs.Read.{entry_ok, parts, items_in}

-- Rule 5 for the `k` entries from the `i`th on; those before the `names`th are names.
unfoldable pub table_ok : Bytes → ℕ → ℕ → ℕ → Bool
table_ok s names i zero = true
table_ok s names i (suc k) = entry_ok (ltb i names) (entry_at s i) && table_ok s names (i + 1) k

-- Part `i`, whose payload starts at `p`, and the `k` parts from there on.
abbrev pub part_at : Bytes → ℕ → ℕ → Part
part_at s i p =
    record { kind = kind_of (code_of (entry_at s i)); bytes = take (length_of (entry_at s i)) (drop p s) }

unfoldable pub parts_at : Bytes → ℕ → ℕ → ℕ → List Part
parts_at s i p zero = []
parts_at s i p (suc k) = part_at s i p ∷ parts_at s (i + 1) (p + length_of (entry_at s i)) k

-- Rules 4 to 6 for a container of `n` entries, of which the first `names` are names.
unfoldable pub body : (Bytes → Answer Tree) → ℕ → ℕ → Bytes → Answer Items
body inner n names b = parts n names b >>= items_in inner

-- Whether names rise, one after another; `rising` of Order.antt by places, as `texts_rise` of proofs/Sounds.antt says.
unfoldable pub rising_from : Bytes → List Part → Bool
rising_from name [] = true
rising_from name (p ∷ ps) = before name p.bytes && rising_from p.bytes ps

unfoldable pub rising_parts : List Part → Bool
rising_parts [] = true
rising_parts (p ∷ ps) = rising_from p.bytes ps
