-- Cases of look-up and delete worked out: what document 01 says of them, and the order of their numbers. Its starred lines are in
-- `Worked`.
use Prim.Native.Nat.{ℕ, ◌+◌}
use mathlib.Core.Path.{◌≡◌, refl}
use mathlib.Core.List.{[], ◌∷◌, ◌++◌}
use lib.ListN.{length, replicate}
use Rattle.layout.specs.Bytes.{Bytes, be32, be_value}
use Rattle.layout.specs.Number.{signed, number_of}
use Rattle.layout.specs.Ended.{result, absence, refusal}
use Rattle.layout.specs.Order.{order}
use Rattle.layout.specs.declared.refusal.Refusal.TheVariants.{Short, Layout, Path, Kind, Buffer}
use Rattle.edits.specs.Keypath.{index_text}
use Rattle.edits.specs.Find.{place}
use Rattle.edits.specs.Path.{get_by, delete_by, on_path}

-- ---- records

-- {"a":1}, and {"a":null,"a":true}.
abbrev object_a : Bytes
object_a = 0x40 ∷ 0 ∷ 0 ∷ 1 ∷ 0x10 ∷ 0 ∷ 0 ∷ 1 ∷ 0x20 ∷ 0 ∷ 0 ∷ 2 ∷ 0x61 ∷ 0x50 ∷ 1 ∷ []

abbrev twice_a : Bytes
twice_a = 0x40 ∷ 0 ∷ 0 ∷ 2 ∷ 0x10 ∷ 0 ∷ 0 ∷ 1 ∷ 0x10 ∷ 0 ∷ 0 ∷ 1 ∷ 0 ∷ 0 ∷ 0 ∷ 0 ∷ 0x40 ∷ 0 ∷ 0 ∷ 0 ∷ 0x61 ∷ 0x61 ∷ []

-- [null], and [null,true,false].
abbrev nulls : Bytes
nulls = 0x80 ∷ 0 ∷ 0 ∷ 1 ∷ 0 ∷ 0 ∷ 0 ∷ 0 ∷ []

abbrev three : Bytes
three = 0x80 ∷ 0 ∷ 0 ∷ 3 ∷ 0 ∷ 0 ∷ 0 ∷ 0 ∷ 0x40 ∷ 0 ∷ 0 ∷ 0 ∷ 0x30 ∷ 0 ∷ 0 ∷ 0 ∷ []

abbrev root_null : Bytes
root_null = 0x20 ∷ 0 ∷ 0 ∷ 0 ∷ 0 ∷ 0 ∷ 0 ∷ 0 ∷ []

abbrev root_true : Bytes
root_true = 0x20 ∷ 0 ∷ 0 ∷ 0 ∷ 0x40 ∷ 0 ∷ 0 ∷ 0 ∷ []

-- An object with one member, true.
abbrev true_at : Bytes → Bytes
true_at n = 0x40 ∷ 0 ∷ 0 ∷ 1 ∷ 0x10 ∷ 0 ∷ 0 ∷ length n ∷ 0x40 ∷ 0 ∷ 0 ∷ 0 ∷ n

-- ---- paths

-- The empty path, and paths of one step: a number by its payload, a name by its text.
abbrev no_steps : Bytes
no_steps = 0x80 ∷ 0 ∷ 0 ∷ 0 ∷ []

abbrev by_number : Bytes → Bytes
by_number b = 0x80 ∷ 0 ∷ 0 ∷ 1 ∷ 0x20 ∷ 0 ∷ 0 ∷ length b ∷ b

abbrev by_name : Bytes → Bytes
by_name b = 0x80 ∷ 0 ∷ 0 ∷ 1 ∷ 0x10 ∷ 0 ∷ 0 ∷ length b ∷ b

abbrev name_a : Bytes
name_a = by_name (0x61 ∷ [])

-- ---- look-up

-- "One byte less: 10."
finds_a_short : on_path get_by object_a name_a 9 ≡ refusal Buffer
unfolding on_path be32 order
finds_a_short = refl

-- Indexes of other widths; 255 is not −1.
index_0_in_two_bytes : on_path get_by nulls (by_number (0x50 ∷ 0 ∷ 0 ∷ [])) 8 ≡ result root_null
unfolding on_path be32 place number_of be_value
index_0_in_two_bytes = refl

index_last_in_four_bytes : on_path get_by nulls (by_number (0x40 ∷ 0xFF ∷ 0xFF ∷ 0xFF ∷ 0xFF ∷ [])) 8 ≡ result root_null
unfolding on_path be32 place number_of signed be_value
index_last_in_four_bytes = refl

index_last_in_eight_bytes :
    on_path get_by nulls
    (by_number (0x40 ∷ 0xFF ∷ 0xFF ∷ 0xFF ∷ 0xFF ∷ 0xFF ∷ 0xFF ∷ 0xFF ∷ 0xFF ∷ [])) 8
    ≡ result root_null
unfolding on_path be32 place number_of signed be_value
index_last_in_eight_bytes = refl

index_255 : on_path get_by nulls (by_number (0x50 ∷ 0xFF ∷ [])) 8 ≡ absence
unfolding on_path place number_of be_value
index_255 = refl

-- Each place of an array, from either end.
index_1_of_three : on_path get_by three (by_number (0x40 ∷ 1 ∷ [])) 8 ≡ result root_true
unfolding on_path be32 place number_of signed be_value
index_1_of_three = refl

index_back_2_of_three : on_path get_by three (by_number (0x40 ∷ 0xFE ∷ [])) 8 ≡ result root_true
unfolding on_path be32 place number_of signed be_value
index_back_2_of_three = refl

index_back_3_of_three : on_path get_by three (by_number (0x40 ∷ 0xFD ∷ [])) 8 ≡ result root_null
unfolding on_path be32 place number_of signed be_value
index_back_3_of_three = refl

-- "A name on an array .. finds nothing", whatever the name.
name_on_array : on_path get_by nulls (by_name (0x30 ∷ [])) 8 ≡ absence
unfolding on_path
name_on_array = refl

-- "On an object an index stands for its decimal text", from 0 to both ends of the range.
index_on_object : on_path get_by (true_at (0x2D ∷ 0x31 ∷ [])) (by_number (0x40 ∷ 0xFF ∷ [])) 8 ≡ result root_true
unfolding on_path be32 order index_text number_of signed be_value
index_on_object = refl

zero_on_object : on_path get_by (true_at (0x30 ∷ [])) (by_number (0 ∷ [])) 8 ≡ result root_true
unfolding on_path be32 order index_text number_of
zero_on_object = refl

ten_on_object : on_path get_by (true_at (0x31 ∷ 0x30 ∷ [])) (by_number (0x50 ∷ 0x0A ∷ [])) 8 ≡ result root_true
unfolding on_path be32 order index_text number_of be_value
ten_on_object = refl

least_on_object :
    on_path get_by
    (true_at (0x2D ∷ 0x32 ∷ 0x31 ∷ 0x34 ∷ 0x37 ∷ 0x34 ∷ 0x38 ∷ 0x33 ∷ 0x36 ∷ 0x34 ∷ 0x38 ∷ []))
    (by_number (0x40 ∷ 0x80 ∷ 0 ∷ 0 ∷ 0 ∷ [])) 8
    ≡ result root_true
unfolding on_path be32 order index_text number_of signed be_value
least_on_object = refl

greatest_on_object :
    on_path get_by
    (true_at (0x32 ∷ 0x31 ∷ 0x34 ∷ 0x37 ∷ 0x34 ∷ 0x38 ∷ 0x33 ∷ 0x36 ∷ 0x34 ∷ 0x37 ∷ []))
    (by_number (0x50 ∷ 0x7F ∷ 0xFF ∷ 0xFF ∷ 0xFF ∷ [])) 8
    ≡ result root_true
unfolding on_path be32 order index_text number_of be_value
greatest_on_object = refl

other_index_on_object : on_path get_by (true_at (0x2D ∷ 0x31 ∷ [])) (by_number (0x50 ∷ 1 ∷ [])) 8 ≡ absence
unfolding on_path order index_text number_of be_value
other_index_on_object = refl

-- "The first member whose name has equal bytes": of two names the first; no name that only begins alike.
finds_first : on_path get_by twice_a name_a 8 ≡ result root_null
unfolding on_path be32 order
finds_first = refl

longer_name : on_path get_by object_a (by_name (0x61 ∷ 0x61 ∷ [])) 10 ≡ absence
unfolding on_path order
longer_name = refl

no_name : on_path get_by object_a (by_name []) 10 ≡ absence
unfolding on_path order
no_name = refl

-- "A step into a scalar, finds nothing": behind a member, in the first of two members, and at the root.
into_number : on_path get_by object_a (0x80 ∷ 0 ∷ 0 ∷ 2 ∷ 0x10 ∷ 0 ∷ 0 ∷ 1 ∷ 0x20 ∷ 0 ∷ 0 ∷ 1 ∷ 0x61 ∷ 0 ∷ []) 10 ≡ absence
unfolding on_path order number_of
into_number = refl

into_first_only :
    on_path get_by
    (
    0x40 ∷ 0 ∷ 0 ∷ 2 ∷ 0x10 ∷ 0 ∷ 0 ∷ 1 ∷ 0x10 ∷ 0 ∷ 0 ∷ 1 ∷ 0 ∷ 0 ∷ 0 ∷ 0 ∷ 0x50 ∷ 0 ∷ 0 ∷ 0x0D ∷ 0x61 ∷ 0x61 ∷ 0x40 ∷ 0 ∷ 0
    ∷ 1 ∷ 0x10 ∷ 0 ∷ 0 ∷ 1 ∷ 0x40 ∷ 0 ∷ 0 ∷ 0 ∷ 0x62 ∷ []
    )
    (0x80 ∷ 0 ∷ 0 ∷ 2 ∷ 0x10 ∷ 0 ∷ 0 ∷ 1 ∷ 0x10 ∷ 0 ∷ 0 ∷ 1 ∷ 0x61 ∷ 0x62 ∷ []) 8
    ≡ absence
unfolding on_path order
into_first_only = refl

into_root : on_path get_by root_null (by_number (0 ∷ [])) 8 ≡ absence
unfolding on_path number_of
into_root = refl

-- A container found is its own record, an object with a repeated name too: it is copied.
abbrev nested_true : Bytes
nested_true = 0x80 ∷ 0 ∷ 0 ∷ 1 ∷ 0x50 ∷ 0 ∷ 0 ∷ 8 ∷ 0x80 ∷ 0 ∷ 0 ∷ 1 ∷ 0x40 ∷ 0 ∷ 0 ∷ 0 ∷ []

finds_array : on_path get_by nested_true (by_number (0 ∷ [])) 8 ≡ result (0x80 ∷ 0 ∷ 0 ∷ 1 ∷ 0x40 ∷ 0 ∷ 0 ∷ 0 ∷ [])
unfolding on_path be32 place number_of
finds_array = refl

finds_inside :
    on_path get_by nested_true
    (0x80 ∷ 0 ∷ 0 ∷ 2 ∷ 0x20 ∷ 0 ∷ 0 ∷ 1 ∷ 0x20 ∷ 0 ∷ 0 ∷ 2 ∷ 0 ∷ 0x40 ∷ 0xFF ∷ []) 8
    ≡ result root_true
unfolding on_path be32 place number_of signed be_value
finds_inside = refl

finds_unsound : on_path get_by (0x80 ∷ 0 ∷ 0 ∷ 1 ∷ 0x50 ∷ 0 ∷ 0 ∷ 22 ∷ twice_a) (by_number (0 ∷ [])) 22 ≡ result twice_a
unfolding on_path be32 place number_of
finds_unsound = refl

-- "An empty path gives the record": of a container, a scalar, and an object with a repeated name; 10 where the room is short.
no_steps_in_array : on_path get_by nulls no_steps 8 ≡ result nulls
unfolding on_path be32
no_steps_in_array = refl

no_steps_in_scalar : on_path get_by root_null no_steps 8 ≡ result root_null
unfolding on_path be32
no_steps_in_scalar = refl

no_steps_in_unsound : on_path get_by twice_a no_steps 22 ≡ result twice_a
unfolding on_path be32
no_steps_in_unsound = refl

no_steps_short : on_path get_by root_null no_steps 7 ≡ refusal Buffer
unfolding on_path be32
no_steps_short = refl

-- ---- 6

-- "The path is unreadable", where its own number would be 1, 2, 3, 4 or 5.
path_short : on_path get_by nulls [] 8 ≡ refusal Path
unfolding on_path
path_short = refl

path_layout : on_path get_by nulls (0x80 ∷ 0 ∷ 0 ∷ 0 ∷ 0 ∷ []) 8 ≡ refusal Path
unfolding on_path
path_layout = refl

path_text : on_path get_by nulls (by_name (0xFF ∷ [])) 8 ≡ refusal Path
unfolding on_path
path_text = refl

path_number : on_path get_by nulls (by_number (1 ∷ [])) 8 ≡ refusal Path
unfolding on_path
path_number = refl

-- A path of one name, `n` bytes long: 65,536 bytes in all are read, 65,537 are not.
abbrev long_name : ℕ → Bytes
long_name n = 0x80 ∷ 0 ∷ 0 ∷ 1 ∷ be32 (0x10000000 + n) ++ replicate n 0x61

path_just_long : on_path get_by object_a (long_name 65528) 10 ≡ absence
unfolding on_path be32 order
path_just_long = refl

path_long : on_path get_by object_a (long_name 65529) 10 ≡ refusal Path
unfolding on_path be32
path_long = refl

-- "No array".
path_object : on_path get_by nulls (0x40 ∷ 0 ∷ 0 ∷ 0 ∷ []) 8 ≡ refusal Path
unfolding on_path
path_object = refl

path_string : on_path get_by object_a (0x20 ∷ 0 ∷ 0 ∷ 0 ∷ 0x10 ∷ 0 ∷ 0 ∷ 1 ∷ 0x61 ∷ []) 10 ≡ refusal Path
unfolding on_path
path_string = refl

-- "Or holds another kind of item", even behind a step that finds nothing.
path_null : on_path get_by object_a (0x80 ∷ 0 ∷ 0 ∷ 2 ∷ 0x10 ∷ 0 ∷ 0 ∷ 1 ∷ 0 ∷ 0 ∷ 0 ∷ 0 ∷ 0x78 ∷ []) 10 ≡ refusal Path
unfolding on_path
path_null = refl

path_true : on_path get_by nulls (0x80 ∷ 0 ∷ 0 ∷ 1 ∷ 0x40 ∷ 0 ∷ 0 ∷ 0 ∷ []) 8 ≡ refusal Path
unfolding on_path
path_true = refl

path_extension : on_path get_by nulls (0x80 ∷ 0 ∷ 0 ∷ 1 ∷ 0x60 ∷ 0 ∷ 0 ∷ 0 ∷ []) 8 ≡ refusal Path
unfolding on_path
path_extension = refl

path_array : on_path get_by nulls (0x80 ∷ 0 ∷ 0 ∷ 1 ∷ 0x50 ∷ 0 ∷ 0 ∷ 4 ∷ 0x80 ∷ 0 ∷ 0 ∷ 0 ∷ []) 8 ≡ refusal Path
unfolding on_path
path_array = refl

path_nan : on_path get_by nulls (by_number (0x10 ∷ [])) 8 ≡ refusal Path
unfolding on_path number_of
path_nan = refl

path_float : on_path get_by nulls (by_number (0x60 ∷ 0 ∷ 0 ∷ 0 ∷ 0 ∷ 0 ∷ 0 ∷ 0 ∷ 0 ∷ [])) 8 ≡ refusal Path
unfolding on_path number_of
path_float = refl

path_decimal : on_path get_by nulls (by_number (0x70 ∷ 0 ∷ 0 ∷ 0 ∷ 0 ∷ 0 ∷ 0 ∷ 0 ∷ 0 ∷ 0 ∷ [])) 8 ≡ refusal Path
unfolding on_path number_of
path_decimal = refl

-- "From −2^31 to 2^31−1": the numbers just outside, and 2^32 − 1 and 2^64 − 1, which are not −1.
index_2_31 : on_path get_by nulls (by_number (0x50 ∷ 0x80 ∷ 0 ∷ 0 ∷ 0 ∷ [])) 8 ≡ refusal Path
unfolding on_path number_of be_value
index_2_31 = refl

index_2_31_signed : on_path get_by nulls (by_number (0x40 ∷ 0 ∷ 0 ∷ 0 ∷ 0 ∷ 0x80 ∷ 0 ∷ 0 ∷ 0 ∷ [])) 8 ≡ refusal Path
unfolding on_path number_of signed be_value
index_2_31_signed = refl

index_below_least :
    on_path get_by nulls
    (by_number (0x40 ∷ 0xFF ∷ 0xFF ∷ 0xFF ∷ 0xFF ∷ 0x7F ∷ 0xFF ∷ 0xFF ∷ 0xFF ∷ [])) 8
    ≡ refusal Path
unfolding on_path number_of signed be_value
index_below_least = refl

index_2_32_less_1 : on_path get_by nulls (by_number (0x50 ∷ 0xFF ∷ 0xFF ∷ 0xFF ∷ 0xFF ∷ [])) 8 ≡ refusal Path
unfolding on_path number_of be_value
index_2_32_less_1 = refl

index_2_64_less_1 :
    on_path get_by nulls
    (by_number (0x50 ∷ 0xFF ∷ 0xFF ∷ 0xFF ∷ 0xFF ∷ 0xFF ∷ 0xFF ∷ 0xFF ∷ 0xFF ∷ [])) 8
    ≡ refusal Path
unfolding on_path number_of be_value
index_2_64_less_1 = refl

-- The ends themselves are indexes: of an array they find nothing.
least_on_array : on_path get_by nulls (by_number (0x40 ∷ 0x80 ∷ 0 ∷ 0 ∷ 0 ∷ [])) 8 ≡ absence
unfolding on_path place number_of signed be_value
least_on_array = refl

greatest_on_array : on_path get_by nulls (by_number (0x50 ∷ 0x7F ∷ 0xFF ∷ 0xFF ∷ 0xFF ∷ [])) 8 ≡ absence
unfolding on_path place number_of be_value
greatest_on_array = refl

-- The record comes first.
record_first : on_path get_by (0x40 ∷ 0 ∷ 0 ∷ []) [] 0 ≡ refusal Short
unfolding on_path
record_first = refl

record_first_in_delete : on_path delete_by (0x80 ∷ 0 ∷ 0 ∷ 0 ∷ 0 ∷ []) [] 0 ≡ refusal Layout
unfolding on_path
record_first_in_delete = refl

-- ---- delete

-- "One byte less: 10."
deletes_only_short : on_path delete_by nulls (by_number (0 ∷ [])) 3 ≡ refusal Buffer
unfolding on_path be32 place number_of
deletes_only_short = refl

-- An item within, and the last.
deletes_middle :
    on_path delete_by three
    (by_number (0x50 ∷ 1 ∷ [])) 12
    ≡ result (0x80 ∷ 0 ∷ 0 ∷ 2 ∷ 0 ∷ 0 ∷ 0 ∷ 0 ∷ 0x30 ∷ 0 ∷ 0 ∷ 0 ∷ [])
unfolding on_path be32 place number_of be_value
deletes_middle = refl

deletes_last :
    on_path delete_by three
    (by_number (0x40 ∷ 0xFF ∷ [])) 12
    ≡ result (0x80 ∷ 0 ∷ 0 ∷ 2 ∷ 0 ∷ 0 ∷ 0 ∷ 0 ∷ 0x40 ∷ 0 ∷ 0 ∷ 0 ∷ [])
unfolding on_path be32 place number_of signed be_value
deletes_last = refl

-- By an index's decimal text.
deletes_by_text :
    on_path delete_by
    (true_at (0x2D ∷ 0x31 ∷ []))
    (by_number (0x40 ∷ 0xFF ∷ [])) 4
    ≡ result (0x40 ∷ 0 ∷ 0 ∷ 0 ∷ [])
unfolding on_path be32 order index_text number_of signed be_value
deletes_by_text = refl

-- Names go into byte order, "aa" before "b"; of another name that is there twice the first is kept.
deletes_in_order :
    on_path delete_by
    (
    0x40 ∷ 0 ∷ 0 ∷ 3 ∷ 0x10 ∷ 0 ∷ 0 ∷ 1 ∷ 0x10 ∷ 0 ∷ 0 ∷ 2 ∷ 0x10 ∷ 0 ∷ 0 ∷ 1 ∷ 0 ∷ 0 ∷ 0 ∷ 0 ∷ 0x40 ∷ 0 ∷ 0 ∷ 0 ∷ 0x30 ∷ 0
    ∷ 0 ∷ 0 ∷ 0x62 ∷ 0x61 ∷ 0x61 ∷ 0x63 ∷ []
    )
    (by_name (0x63 ∷ [])) 23
    ≡ result (
    0x40 ∷ 0 ∷ 0 ∷ 2 ∷ 0x10 ∷ 0 ∷ 0 ∷ 2 ∷ 0x10 ∷ 0 ∷ 0 ∷ 1 ∷ 0x40 ∷ 0 ∷ 0 ∷ 0 ∷ 0 ∷ 0 ∷ 0 ∷ 0 ∷ 0x61 ∷ 0x61 ∷ 0x62 ∷ []
    )
unfolding on_path be32 order
deletes_in_order = refl

deletes_other_repeated :
    on_path delete_by
    (
    0x40 ∷ 0 ∷ 0 ∷ 3 ∷ 0x10 ∷ 0 ∷ 0 ∷ 1 ∷ 0x10 ∷ 0 ∷ 0 ∷ 1 ∷ 0x10 ∷ 0 ∷ 0 ∷ 1 ∷ 0 ∷ 0 ∷ 0 ∷ 0 ∷ 0x40 ∷ 0 ∷ 0 ∷ 0 ∷ 0x30 ∷ 0
    ∷ 0 ∷ 0 ∷ 0x62 ∷ 0x62 ∷ 0x61 ∷ []
    )
    name_a 13
    ≡ result (0x40 ∷ 0 ∷ 0 ∷ 1 ∷ 0x10 ∷ 0 ∷ 0 ∷ 1 ∷ 0 ∷ 0 ∷ 0 ∷ 0 ∷ 0x62 ∷ [])
unfolding on_path be32 order
deletes_other_repeated = refl

-- {"a":null,"b":true,"b":false} without "a" is {"b":true}: names that stood in order, and the second "b" goes all the same.
deletes_later_repeated :
    on_path delete_by
    (
    0x40 ∷ 0 ∷ 0 ∷ 3 ∷ 0x10 ∷ 0 ∷ 0 ∷ 1 ∷ 0x10 ∷ 0 ∷ 0 ∷ 1 ∷ 0x10 ∷ 0 ∷ 0 ∷ 1 ∷ 0 ∷ 0 ∷ 0 ∷ 0 ∷ 0x40 ∷ 0 ∷ 0 ∷ 0 ∷ 0x30 ∷ 0
    ∷ 0 ∷ 0 ∷ 0x61 ∷ 0x62 ∷ 0x62 ∷ []
    )
    name_a 13
    ≡ result (true_at (0x62 ∷ []))
unfolding on_path be32 order
deletes_later_repeated = refl

-- {"a":null,"a":true} without "a": the name then finds the next member that had it, true.
deletes_first_of_two : on_path delete_by twice_a name_a 13 ≡ result (true_at (0x61 ∷ []))
unfolding on_path be32 order
deletes_first_of_two = refl

finds_next_of_two : on_path get_by (true_at (0x61 ∷ [])) name_a 8 ≡ result root_true
unfolding on_path be32 order
finds_next_of_two = refl

-- Every container above is written anew: of {"a":{"b":[null],"b":true}} the item in "a", "b" goes, and with it the second "b".
deletes_inside :
    on_path delete_by
    (
    0x40 ∷ 0 ∷ 0 ∷ 1 ∷ 0x10 ∷ 0 ∷ 0 ∷ 1 ∷ 0x50 ∷ 0 ∷ 0 ∷ 0x1E ∷ 0x61 ∷ 0x40 ∷ 0 ∷ 0 ∷ 2 ∷ 0x10 ∷ 0 ∷ 0 ∷ 1 ∷ 0x10 ∷ 0 ∷ 0 ∷ 1
    ∷ 0x50 ∷ 0 ∷ 0 ∷ 8 ∷ 0x40 ∷ 0 ∷ 0 ∷ 0 ∷ 0x62 ∷ 0x62 ∷ 0x80 ∷ 0 ∷ 0 ∷ 1 ∷ 0 ∷ 0 ∷ 0 ∷ 0 ∷ []
    )
    (0x80 ∷ 0 ∷ 0 ∷ 3 ∷ 0x10 ∷ 0 ∷ 0 ∷ 1 ∷ 0x10 ∷ 0 ∷ 0 ∷ 1 ∷ 0x20 ∷ 0 ∷ 0 ∷ 1 ∷ 0x61 ∷ 0x62 ∷ 0 ∷ []) 30
    ≡ result (
    0x40 ∷ 0 ∷ 0 ∷ 1 ∷ 0x10 ∷ 0 ∷ 0 ∷ 1 ∷ 0x50 ∷ 0 ∷ 0 ∷ 0x11 ∷ 0x61 ∷ 0x40 ∷ 0 ∷ 0 ∷ 1 ∷ 0x10 ∷ 0 ∷ 0 ∷ 1 ∷ 0x50 ∷ 0 ∷ 0 ∷ 4
    ∷ 0x62 ∷ 0x80 ∷ 0 ∷ 0 ∷ 0 ∷ []
    )
unfolding on_path be32 order place number_of
deletes_inside = refl

-- What is not above is copied: in {"a":{"a":null,"a":true},"b":true} "b" goes.
copies_beside :
    on_path delete_by
    (0x40 ∷ 0 ∷ 0 ∷ 2 ∷ 0x10 ∷ 0 ∷ 0 ∷ 1 ∷ 0x10 ∷ 0 ∷ 0 ∷ 1 ∷ 0x50 ∷ 0 ∷ 0 ∷ 0x16 ∷ 0x40 ∷ 0 ∷ 0 ∷ 0 ∷ 0x61 ∷ 0x62 ∷ twice_a)
    (by_name (0x62 ∷ [])) 35
    ≡ result (0x40 ∷ 0 ∷ 0 ∷ 1 ∷ 0x10 ∷ 0 ∷ 0 ∷ 1 ∷ 0x50 ∷ 0 ∷ 0 ∷ 0x16 ∷ 0x61 ∷ twice_a)
unfolding on_path be32 order
copies_beside = refl

-- "An empty path or one that finds nothing returns the input's bytes", though names are repeated; 10 where the room is short.
no_steps_deletes_nothing : on_path delete_by twice_a no_steps 22 ≡ result twice_a
unfolding on_path be32
no_steps_deletes_nothing = refl

missing_deletes_nothing : on_path delete_by twice_a (by_name (0x62 ∷ [])) 22 ≡ result twice_a
unfolding on_path be32 order
missing_deletes_nothing = refl

scalar_deletes_nothing :
    on_path delete_by twice_a
    (0x80 ∷ 0 ∷ 0 ∷ 2 ∷ 0x10 ∷ 0 ∷ 0 ∷ 1 ∷ 0x10 ∷ 0 ∷ 0 ∷ 1 ∷ 0x61 ∷ 0x61 ∷ []) 22
    ≡ result twice_a
unfolding on_path be32 order
scalar_deletes_nothing = refl

count_deletes_nothing : on_path delete_by nulls (by_number (0x50 ∷ 1 ∷ [])) 8 ≡ result nulls
unfolding on_path be32 place number_of be_value
count_deletes_nothing = refl

missing_short : on_path delete_by twice_a (by_name (0x62 ∷ [])) 21 ≡ refusal Buffer
unfolding on_path be32 order
missing_short = refl

-- "Deleting in root null: 7; in a root extension: unchanged." 7 whatever the path finds, but behind 6.
in_root_null : on_path delete_by root_null (by_number (0 ∷ [])) 0 ≡ refusal Kind
unfolding on_path number_of
in_root_null = refl

in_root_true : on_path delete_by root_true no_steps 8 ≡ refusal Kind
unfolding on_path
in_root_true = refl

in_root_number : on_path delete_by (0x20 ∷ 0 ∷ 0 ∷ 0 ∷ 0x20 ∷ 0 ∷ 0 ∷ 1 ∷ 0 ∷ []) no_steps 9 ≡ refusal Kind
unfolding on_path
in_root_number = refl

in_root_string : on_path delete_by (0x20 ∷ 0 ∷ 0 ∷ 0 ∷ 0x10 ∷ 0 ∷ 0 ∷ 1 ∷ 0x61 ∷ []) no_steps 9 ≡ refusal Kind
unfolding on_path
in_root_string = refl

in_root_extension :
    on_path delete_by
    (0x20 ∷ 0 ∷ 0 ∷ 0 ∷ 0x60 ∷ 0 ∷ 0 ∷ 1 ∷ 7 ∷ [])
    (by_number (0 ∷ [])) 9
    ≡ result (0x20 ∷ 0 ∷ 0 ∷ 0 ∷ 0x60 ∷ 0 ∷ 0 ∷ 1 ∷ 7 ∷ [])
unfolding on_path be32 number_of
in_root_extension = refl

path_before_kind : on_path delete_by root_null [] 0 ≡ refusal Path
unfolding on_path
path_before_kind = refl

item_before_kind : on_path delete_by root_null (0x80 ∷ 0 ∷ 0 ∷ 1 ∷ 0 ∷ 0 ∷ 0 ∷ 0 ∷ []) 0 ≡ refusal Path
unfolding on_path
item_before_kind = refl
