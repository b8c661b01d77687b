-- Values and grades worked out: document 01's sentences on values, its A and D, and a case for each grade.
use mathlib.Core.Path.{◌≡◌, refl}
use mathlib.Core.Bool.{true, false}
use mathlib.Core.List.{[], ◌∷◌}
use Rattle.layout.specs.Bytes.{Bytes}
use Rattle.layout.specs.Order.{order, same_bytes}
use Rattle.layout.specs.Tree.{Tree, null, boolean, number, string, extension, array, object, none, item, empty, member}
use Rattle.layout.specs.Value.{same_kind, same}
use Rattle.layout.specs.declared.refusal.Refusal.TheVariants.{Short, Layout}
use Rattle.values.specs.Value.{equal_values}
use Rattle.values.specs.Grade.{grade_of}
use Rattle.values.specs.declared.grade.Grade.TheVariants.{Right, SameValue, OtherValue, Damaged, Ungraded}

-- The names "a" and "b", and the numbers 1 and 2.
abbrev a : Bytes
a = 0x61 ∷ []

abbrev b : Bytes
b = 0x62 ∷ []

abbrev one : Tree
one = number (0x50 ∷ 1 ∷ [])

abbrev two : Tree
two = number (0x50 ∷ 2 ∷ [])

-- ---- Values

-- "That of an object, its names with their values, in no order", inside another too.
members_in_any_order : same (object (member a one (member b two empty))) (object (member b two (member a one empty))) ≡ true
unfolding same_kind same_bytes order
members_in_any_order = refl

nested_in_any_order :
    same (array (item (object (member a one (member b two empty))) none)) (array (item (object (member b two (member a one empty))) none))
    ≡ true
unfolding same_kind same_bytes order
nested_in_any_order = refl

names_with_their_values : same (object (member a one (member b two empty))) (object (member a two (member b one empty))) ≡ false
unfolding same_kind same_bytes order
names_with_their_values = refl

-- Each of two members of one name counts, in any order: {"a":1,"a":1} and {"a":1,"a":2} differ, either way round, and so do
-- {"a":1,"a":1} and {"a":1}.
repeated_in_any_order : same (object (member a one (member a two empty))) (object (member a two (member a one empty))) ≡ true
unfolding same_kind same_bytes order
repeated_in_any_order = refl

repeated_differ : same (object (member a one (member a one empty))) (object (member a one (member a two empty))) ≡ false
unfolding same_kind same_bytes order
repeated_differ = refl

repeated_differ_back : same (object (member a one (member a two empty))) (object (member a one (member a one empty))) ≡ false
unfolding same_kind same_bytes order
repeated_differ_back = refl

counted_twice : same (object (member a one (member a one empty))) (object (member a one empty)) ≡ false
unfolding same_kind same_bytes order
counted_twice = refl

none_left_over : same (object (member a one empty)) (object (member a one (member a one empty))) ≡ false
unfolding same_kind same_bytes order
none_left_over = refl

-- "Of an array, its items' values in order".
items_in_order : same (array (item one (item two none))) (array (item two (item one none))) ≡ false
unfolding same_kind same_bytes order
items_in_order = refl

-- "The value of a number or extension is its kind and payload": 5 signed and 5 unsigned differ, and an extension from a number.
number_kinds : same (number (0x40 ∷ 5 ∷ [])) (number (0x50 ∷ 5 ∷ [])) ≡ false
unfolding same_kind same_bytes order
number_kinds = refl

number_and_extension : same (number (0x50 ∷ 5 ∷ [])) (extension (0x50 ∷ 5 ∷ [])) ≡ false
unfolding same_kind same_bytes order
number_and_extension = refl

-- "Values of unlike sort differ, the empty object, array and string too"; "null, true and false are their own".
empty_object_and_array : same (object empty) (array none) ≡ false
empty_object_and_array = refl

empty_array_and_string : same (array none) (string []) ≡ false
empty_array_and_string = refl

empty_string_and_object : same (string []) (object empty) ≡ false
unfolding same_kind
empty_string_and_object = refl

null_and_false : same null (boolean false) ≡ false
unfolding same_kind
null_and_false = refl

true_and_false : same (boolean true) (boolean false) ≡ false
unfolding same_kind
true_and_false = refl

-- ---- Records

-- "A is 40000001 10000001 20000002 61 5001, that is {"a":1}."
abbrev record_A : Bytes
record_A = 0x40 ∷ 0 ∷ 0 ∷ 1 ∷ 0x10 ∷ 0 ∷ 0 ∷ 1 ∷ 0x20 ∷ 0 ∷ 0 ∷ 2 ∷ 0x61 ∷ 0x50 ∷ 1 ∷ []

-- "D is 40000002 10000001 10000001 00000000 40000000 61 61": {"a":null,"a":true}.
abbrev record_D : Bytes
record_D = 0x40 ∷ 0 ∷ 0 ∷ 2 ∷ 0x10 ∷ 0 ∷ 0 ∷ 1 ∷ 0x10 ∷ 0 ∷ 0 ∷ 1 ∷ 0 ∷ 0 ∷ 0 ∷ 0 ∷ 0x40 ∷ 0 ∷ 0 ∷ 0 ∷ 0x61 ∷ 0x61 ∷ []

-- {"a":1,"b":true}, and with its members the other way round.
abbrev sorted : Bytes
sorted = 0x40 ∷ 0 ∷ 0 ∷ 2 ∷ 0x10 ∷ 0 ∷ 0 ∷ 1 ∷ 0x10 ∷ 0 ∷ 0 ∷ 1 ∷ 0x20 ∷ 0 ∷ 0 ∷ 2 ∷ 0x40 ∷ 0 ∷ 0 ∷ 0 ∷ 0x61 ∷ 0x62 ∷ 0x50 ∷ 1 ∷ []

abbrev unsorted : Bytes
unsorted = 0x40 ∷ 0 ∷ 0 ∷ 2 ∷ 0x10 ∷ 0 ∷ 0 ∷ 1 ∷ 0x10 ∷ 0 ∷ 0 ∷ 1 ∷ 0x40 ∷ 0 ∷ 0 ∷ 0 ∷ 0x20 ∷ 0 ∷ 0 ∷ 2 ∷ 0x62 ∷ 0x61 ∷ 0x50 ∷ 1 ∷ []

-- "400000: 1", and "80000000 00: 2".
abbrev too_short : Bytes
too_short = 0x40 ∷ 0 ∷ 0 ∷ []

abbrev too_long : Bytes
too_long = 0x80 ∷ 0 ∷ 0 ∷ 0 ∷ 0 ∷ []

equal_records : equal_values unsorted sorted ≡ true
unfolding equal_values
equal_records = refl

unequal_records : equal_values record_A record_D ≡ false
unfolding equal_values
unequal_records = refl

-- What is not readable has no value, and so not that of itself.
no_value : equal_values too_short too_short ≡ false
unfolding equal_values
no_value = refl

the_record_itself : grade_of record_A record_A ≡ Right
unfolding grade_of
the_record_itself = refl

another_order : grade_of unsorted sorted ≡ SameValue
unfolding grade_of
another_order = refl

repeated_name :
    grade_of (0x40 ∷ 0 ∷ 0 ∷ 2 ∷ 0x10 ∷ 0 ∷ 0 ∷ 1 ∷ 0x10 ∷ 0 ∷ 0 ∷ 1 ∷ 0x40 ∷ 0 ∷ 0 ∷ 0 ∷ 0 ∷ 0 ∷ 0 ∷ 0 ∷ 0x61 ∷ 0x61 ∷ []) record_D
    ≡ SameValue
unfolding grade_of
repeated_name = refl

-- D against {"a":true}, which has one member and not two.
another_value : grade_of record_D (0x40 ∷ 0 ∷ 0 ∷ 1 ∷ 0x10 ∷ 0 ∷ 0 ∷ 1 ∷ 0x40 ∷ 0 ∷ 0 ∷ 0 ∷ 0x61 ∷ []) ≡ OtherValue
unfolding grade_of
another_value = refl

no_record : grade_of too_short record_A ≡ Damaged Short
unfolding grade_of
no_record = refl

nothing_expected : grade_of record_A too_long ≡ Ungraded Layout
unfolding grade_of
nothing_expected = refl

-- The expected record comes first.
expected_first : grade_of too_short too_long ≡ Ungraded Layout
unfolding grade_of
expected_first = refl
