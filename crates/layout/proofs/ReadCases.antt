-- Cases of the reading worked out: document 01's bytes for records, but for the starred ones, which stand in the edits' `Worked`, and
-- one for each place where the order of the rules shows.
use Prim.Native.Nat.{ℕ, zero, suc}
use mathlib.Core.Path.{◌≡◌, refl}
use mathlib.Core.List.{[], ◌∷◌}
use lib.ListN.{replicate}
use Rattle.layout.specs.Bytes.{be32}
use Rattle.layout.specs.Answer.{gives, refused}
use Rattle.layout.specs.Tree.{Tree, extension, array, none, item}
use Rattle.layout.specs.Encode.{encode}
use Rattle.layout.specs.Read.{read}
use Rattle.layout.specs.declared.refusal.Refusal.TheVariants.{Short, Layout, Text, Number, Limit}

-- "80000001: 1. .. 80000001 70000000: 2. 80000001 80000000: 2. 20000000 10000001 FF: 3. 20000000 20000001 01: 4."
short_table : read (0x80 ∷ 0 ∷ 0 ∷ 1 ∷ []) ≡ refused Short
unfolding read
short_table = refl

code_seven : read (0x80 ∷ 0 ∷ 0 ∷ 1 ∷ 0x70 ∷ 0 ∷ 0 ∷ 0 ∷ []) ≡ refused Layout
unfolding read
code_seven = refl

top_bit : read (0x80 ∷ 0 ∷ 0 ∷ 1 ∷ 0x80 ∷ 0 ∷ 0 ∷ 0 ∷ []) ≡ refused Layout
unfolding read
top_bit = refl

not_text : read (0x20 ∷ 0 ∷ 0 ∷ 0 ∷ 0x10 ∷ 0 ∷ 0 ∷ 1 ∷ 0xFF ∷ []) ≡ refused Text
unfolding read
not_text = refl

not_number : read (0x20 ∷ 0 ∷ 0 ∷ 0 ∷ 0x20 ∷ 0 ∷ 0 ∷ 1 ∷ 1 ∷ []) ≡ refused Number
unfolding read
not_number = refl

-- "A scalar: inside another record 2": [null] with the null as a record of its own.
nested_scalar : read (0x80 ∷ 0 ∷ 0 ∷ 1 ∷ 0x50 ∷ 0 ∷ 0 ∷ 8 ∷ 0x20 ∷ 0 ∷ 0 ∷ 0 ∷ 0 ∷ 0 ∷ 0 ∷ 0 ∷ []) ≡ refused Layout
unfolding read
nested_scalar = refl

-- "Count not 0: 2" stands before "under 8 bytes: 1".
counted_scalar : read (0x20 ∷ 0 ∷ 0 ∷ 1 ∷ []) ≡ refused Layout
unfolding read
counted_scalar = refl

bare_scalar : read (0x20 ∷ 0 ∷ 0 ∷ 0 ∷ []) ≡ refused Short
unfolding read
bare_scalar = refl

-- The whole table stands before the first payload: a string FF, then code 7.
table_first : read (0x80 ∷ 0 ∷ 0 ∷ 2 ∷ 0x10 ∷ 0 ∷ 0 ∷ 1 ∷ 0x70 ∷ 0 ∷ 0 ∷ 0 ∷ 0xFF ∷ []) ≡ refused Layout
unfolding read
table_first = refl

-- And so does the sum of the lengths: a string FF, and a byte too many.
sum_first : read (0x80 ∷ 0 ∷ 0 ∷ 1 ∷ 0x10 ∷ 0 ∷ 0 ∷ 1 ∷ 0xFF ∷ 0 ∷ []) ≡ refused Layout
unfolding read
sum_first = refl

-- All names stand before the first value: {"a": number 01, FF: null} has its 3 before its 4.
names_first : read
    (0x40 ∷ 0 ∷ 0 ∷ 2 ∷ 0x10 ∷ 0 ∷ 0 ∷ 1 ∷ 0x10 ∷ 0 ∷ 0 ∷ 1 ∷ 0x20 ∷ 0 ∷ 0 ∷ 1 ∷ 0 ∷ 0 ∷ 0 ∷ 0 ∷ 0x61 ∷ 0xFF ∷ 1 ∷ []) ≡ refused Text
unfolding read
names_first = refl

-- Payloads are read to their leaves in turn: [[number 01], FF] has its 4 before its 3.
depth_first : read
    (0x80 ∷ 0 ∷ 0 ∷ 2 ∷ 0x50 ∷ 0 ∷ 0 ∷ 9 ∷ 0x10 ∷ 0 ∷ 0 ∷ 1 ∷ 0x80 ∷ 0 ∷ 0 ∷ 1 ∷ 0x20 ∷ 0 ∷ 0 ∷ 1 ∷ 1 ∷ 0xFF ∷ []) ≡ refused Number
unfolding read
depth_first = refl

-- "Depth 64 passes, 65 gives 5." An array of `n` levels.
abbrev deep : ℕ → Tree
deep zero = array none
deep (suc n) = array (item (deep n) none)

depth_64 : read (encode (deep 63)) ≡ gives (deep 63)
unfolding read be32
depth_64 = refl

depth_65 : read (encode (deep 64)) ≡ refused Limit
unfolding read be32
depth_65 = refl

-- "65,536 bytes pass, 65,537 give 5." An extension of `n` bytes.
long_passes : read (0x20 ∷ 0 ∷ 0 ∷ 0 ∷ 0x60 ∷ 0 ∷ 0xFF ∷ 0xF8 ∷ replicate 65528 0) ≡ gives (extension (replicate 65528 0))
unfolding read
long_passes = refl

long_refused : read (0x20 ∷ 0 ∷ 0 ∷ 0 ∷ 0x60 ∷ 0 ∷ 0xFF ∷ 0xF9 ∷ replicate 65529 0) ≡ refused Limit
unfolding read
long_refused = refl
