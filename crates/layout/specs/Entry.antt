-- Entries and headers: document 01, "Parts, from the leaf up".
use Rattle.std.specs.Prelude.{ℕ, zero, suc, ◌+◌, ◌*◌, ◌/◌, ◌%◌, ◌^◌, Bool, not, ◌&&◌, ◌||◌, [], ◌∷◌, eqb, get_or}
use Rattle.layout.specs.Bytes.{Bytes, word_at}
use Rattle.layout.specs.declared.item.Kind.{Kind}
use Rattle.layout.specs.declared.item.Kind.TheVariants.{Null, String, Number, False, True, Container, Extension}

-- "An entry is 32 bits: bit 31 is clear, the type code is bits 28 to 30, and the length is the low 28 bits."
unfoldable pub top_of : ℕ → ℕ
top_of w = w / 2 ^ 31

unfoldable pub code_of : ℕ → ℕ
code_of w = w / 2 ^ 28 % 2 ^ 3

unfoldable pub length_of : ℕ → ℕ
length_of w = w % 2 ^ 28

abbrev pub entry_of : ℕ → ℕ → ℕ
entry_of code len = code * 2 ^ 28 + len

-- "Codes: 0 null, 1 string, 2 number, 3 false, 4 true, 5 container, 6 extension."
abbrev pub code : Kind → ℕ
code Null = 0
code String = 1
code Number = 2
code False = 3
code True = 4
code Container = 5
code Extension = 6

-- The kind of a code: its place in this list. Code 7 "has no meaning", and counts as null where no test has refused it.
unfoldable pub kind_of : ℕ → Kind
kind_of c = get_or (Null ∷ String ∷ Number ∷ False ∷ True ∷ Container ∷ Extension ∷ []) c Null

-- What the check and the walks both ask of an entry: "code 7, bit 31 set, or a name whose code is not 1 gives 2". The
-- check asks more, `entry_ok` of Read.antt.
unfoldable pub entry_good : Bool → ℕ → Bool
entry_good name w = eqb (top_of w) 0 && (not (eqb (code_of w) 7) && (not name || eqb (code_of w) 1))

-- A header: "the top three bits: 80000000 array, 40000000 object, 20000000 scalar; the low 29 are a count".
unfoldable pub sort_of : ℕ → ℕ
sort_of w = w / 2 ^ 29

unfoldable pub count_of : ℕ → ℕ
count_of w = w % 2 ^ 29

-- A table of entries stands behind the header. Its entry `i`, and the lengths of the `k` entries from the `i`th on.
unfoldable pub entry_at : Bytes → ℕ → ℕ
entry_at s i = word_at s (4 + 4 * i)

unfoldable pub lengths : Bytes → ℕ → ℕ → ℕ
lengths s i zero = 0
lengths s i (suc k) = length_of (entry_at s i) + lengths s (i + 1) k
