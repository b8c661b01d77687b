-- Cases of append and object build worked out: what document 01 says of them, and the order of their numbers.
use Prim.Native.Nat.{ℕ, zero, suc, ◌+◌}
use mathlib.Core.Path.{◌≡◌, refl}
use mathlib.Core.List.{[], ◌∷◌, ◌++◌}
use lib.ListN.{replicate}
use Rattle.layout.specs.Bytes.{Bytes, be32}
use Rattle.layout.specs.Tree.{Tree, array, none, item}
use Rattle.layout.specs.Encode.{encode}
use Rattle.layout.specs.Ended.{result, refusal}
use Rattle.layout.specs.Order.{order, same_bytes}
use Rattle.layout.specs.declared.refusal.Refusal.TheVariants.{Short, Layout, Limit, Kind, Repeated, Result, Buffer}
use Rattle.builders.specs.Order.{has, distinct}
use Rattle.builders.specs.Build.{append, build, on_two}

abbrev empty_array : Bytes
empty_array = 0x80 ∷ 0 ∷ 0 ∷ 0 ∷ []

abbrev root_null : Bytes
root_null = 0x20 ∷ 0 ∷ 0 ∷ 0 ∷ 0 ∷ 0 ∷ 0 ∷ 0 ∷ []

abbrev nulls : Bytes
nulls = 0x80 ∷ 0 ∷ 0 ∷ 1 ∷ 0 ∷ 0 ∷ 0 ∷ 0 ∷ []

-- A scalar goes in as its bare item, a container whole.
scalar_in : on_two append empty_array root_null 8 ≡ result nulls
unfolding on_two be32
scalar_in = refl

container_in : on_two append empty_array empty_array 12 ≡ result (0x80 ∷ 0 ∷ 0 ∷ 1 ∷ 0x50 ∷ 0 ∷ 0 ∷ 4 ∷ 0x80 ∷ 0 ∷ 0 ∷ 0 ∷ [])
unfolding on_two be32
container_in = refl

-- What goes in is copied, an object with a repeated name too.
abbrev twice_a : Bytes
twice_a = 0x40 ∷ 0 ∷ 0 ∷ 2 ∷ 0x10 ∷ 0 ∷ 0 ∷ 1 ∷ 0x10 ∷ 0 ∷ 0 ∷ 1 ∷ 0 ∷ 0 ∷ 0 ∷ 0 ∷ 0x40 ∷ 0 ∷ 0 ∷ 0 ∷ 0x61 ∷ 0x61 ∷ []

unsound_in : on_two append empty_array twice_a 30 ≡ result (0x80 ∷ 0 ∷ 0 ∷ 1 ∷ 0x50 ∷ 0 ∷ 0 ∷ 22 ∷ twice_a)
unfolding on_two be32
unsound_in = refl

-- But a scalar record inside it is refused: "Letting a nested scalar record through" is a trap.
nested_scalar : on_two append empty_array (0x80 ∷ 0 ∷ 0 ∷ 1 ∷ 0x50 ∷ 0 ∷ 0 ∷ 8 ∷ root_null) 100 ≡ refusal Layout
unfolding on_two
nested_scalar = refl

-- "A buffer of exactly the result's length serves; one byte less: 10."
byte_less : on_two append empty_array root_null 7 ≡ refusal Buffer
unfolding on_two be32
byte_less = refl

-- 7, "append to a non-array", behind the numbers of both records and before 10.
to_null : on_two append root_null root_null 0 ≡ refusal Kind
unfolding on_two
to_null = refl

left_first : on_two append (0x80 ∷ []) (0x80 ∷ 0 ∷ 0 ∷ 0 ∷ 0 ∷ []) 0 ≡ refusal Short
unfolding on_two
left_first = refl

right_before_kind : on_two append root_null (0x80 ∷ 0 ∷ 0 ∷ 0 ∷ 0 ∷ []) 0 ≡ refusal Layout
unfolding on_two
right_before_kind = refl

-- "9 result over 65,536 bytes", before 10. With an extension of 65,524 bytes the result has 65,536.
abbrev extended : ℕ → Bytes
extended n = 0x20 ∷ 0 ∷ 0 ∷ 0 ∷ be32 (0x60000000 + n) ++ replicate n 0

just_long : on_two append nulls (extended 65524) 65535 ≡ refusal Buffer
unfolding on_two be32
just_long = refl

too_long : on_two append nulls (extended 65525) 0 ≡ refusal Result
unfolding on_two be32
too_long = refl

-- "Deeper than 64": an array of 63 levels goes in, one of 64 does not, and one of 65 is not readable. An array of `n` levels more:
abbrev deep : ℕ → Tree
deep zero = array none
deep (suc n) = array (item (deep n) none)

levels_63 : on_two append empty_array (encode (deep 62)) 0 ≡ refusal Buffer
unfolding on_two be32
levels_63 = refl

levels_64 : on_two append empty_array (encode (deep 63)) 0 ≡ refusal Result
unfolding on_two be32
levels_64 = refl

levels_65 : on_two append empty_array (encode (deep 64)) 0 ≡ refusal Limit
unfolding on_two be32
levels_65 = refl

-- Names by their bytes: "" before "aa" before "b".
by_bytes :
    on_two build
    (0x80 ∷ 0 ∷ 0 ∷ 3 ∷ 0x10 ∷ 0 ∷ 0 ∷ 1 ∷ 0x10 ∷ 0 ∷ 0 ∷ 2 ∷ 0x10 ∷ 0 ∷ 0 ∷ 0 ∷ 0x62 ∷ 0x61 ∷ 0x61 ∷ [])
    (0x80 ∷ 0 ∷ 0 ∷ 3 ∷ 0 ∷ 0 ∷ 0 ∷ 0 ∷ 0x30 ∷ 0 ∷ 0 ∷ 0 ∷ 0x40 ∷ 0 ∷ 0 ∷ 0 ∷ []) 31
    ≡ result (
    0x40 ∷ 0 ∷ 0 ∷ 3 ∷ 0x10 ∷ 0 ∷ 0 ∷ 0 ∷ 0x10 ∷ 0 ∷ 0 ∷ 2 ∷ 0x10 ∷ 0 ∷ 0 ∷ 1
    ∷ 0x40 ∷ 0 ∷ 0 ∷ 0 ∷ 0x30 ∷ 0 ∷ 0 ∷ 0 ∷ 0 ∷ 0 ∷ 0 ∷ 0 ∷ 0x61 ∷ 0x61 ∷ 0x62 ∷ []
    )
unfolding on_two be32 order same_bytes has distinct
by_bytes = refl

no_members : on_two build empty_array empty_array 4 ≡ result (0x40 ∷ 0 ∷ 0 ∷ 0 ∷ [])
unfolding on_two be32 distinct
no_members = refl

-- "8 repeated name", behind 7 and before 10.
abbrev twice : Bytes
twice = 0x80 ∷ 0 ∷ 0 ∷ 2 ∷ 0x10 ∷ 0 ∷ 0 ∷ 1 ∷ 0x10 ∷ 0 ∷ 0 ∷ 1 ∷ 0x61 ∷ 0x61 ∷ []

repeated : on_two build twice (0x80 ∷ 0 ∷ 0 ∷ 2 ∷ 0 ∷ 0 ∷ 0 ∷ 0 ∷ 0 ∷ 0 ∷ 0 ∷ 0 ∷ []) 0 ≡ refusal Repeated
unfolding on_two order same_bytes has distinct
repeated = refl

-- The result of these would be too long for any buffer.
abbrev long_values : Bytes
long_values = 0x80 ∷ 0 ∷ 0 ∷ 2 ∷ be32 (0x60000000 + 65523) ++ (0 ∷ 0 ∷ 0 ∷ 0 ∷ replicate 65523 0)

repeated_first : on_two build twice long_values 0 ≡ refusal Repeated
unfolding on_two be32 order same_bytes has distinct
repeated_first = refl

unequal_counts : on_two build twice nulls 0 ≡ refusal Kind
unfolding on_two
unequal_counts = refl

no_string : on_two build nulls nulls 0 ≡ refusal Kind
unfolding on_two
no_string = refl
