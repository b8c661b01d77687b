-- Bytes and their fields: document 01, "All multi-byte fields have their high byte first".
use Rattle.std.specs.Prelude.{ℕ, zero, suc, ◌+◌, ◌*◌, ◌/◌, ◌%◌, ◌^◌, ◌<◌, List, [], ◌∷◌, Bool, leb, length, get_or}

abbrev pub Bytes : Type 0
Bytes = List ℕ

-- Every element is a byte, as in every slice that is lent.
abbrev pub Octets : Bytes → Type 0
Octets [] = Unit {0}
Octets (x ∷ xs) = (x < 256) × Octets xs

-- The low `n` bytes of a number, and the number that bytes write.
unfoldable pub be_bytes : ℕ → ℕ → Bytes
be_bytes zero v = []
be_bytes (suc n) v = v / 256 ^ n % 256 ∷ be_bytes n v

unfoldable pub be_value : Bytes → ℕ
be_value [] = 0
be_value (x ∷ b) = x * 256 ^ length b + be_value b

-- The number in the `n` bytes from a place on; a byte that is not there counts as 0.
unfoldable pub part_word : Bytes → ℕ → ℕ → ℕ
part_word s at zero = 0
part_word s at (suc n) = part_word s at n * 256 + get_or s (at + n) 0

-- A field of 32 bits: its four bytes, the field in the first four bytes, and the field at a place.
unfoldable pub be32 : ℕ → Bytes
unfolding be_bytes
be32 w = be_bytes 4 w

unfoldable pub word : Bytes → ℕ
unfolding part_word
word b = part_word b 0 4

unfoldable pub word_at : Bytes → ℕ → ℕ
unfolding part_word
word_at s at = part_word s at 4

-- Whether `n` bytes from a place on lie in `s`.
unfoldable pub inside : Bytes → ℕ → ℕ → Bool
inside s at n = leb (at + n) (length s)
