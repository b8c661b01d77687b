-- Steps that no readable record shows: document 01's rules for walks made by hand, other slices and damaged bytes, worked out; and
-- document 02 §2's, on the characters that a step hands out.
use mathlib.Core.Path.{◌≡◌, refl}
use mathlib.Core.List.{[], ◌∷◌}
use Prim.Native.Nat.{ℕ, ◌+◌, ◌-◌, ◌^◌}
use Rattle.layout.specs.Bytes.{be32, word, inside, word_at}
use Rattle.layout.specs.Answer.{◌>>=◌}
use Rattle.layout.specs.Entry.{top_of, code_of, length_of, kind_of, entry_good}
use Rattle.layout.specs.Walk.{item_of, item_at, ends_with, array_step, member_at, member_step, object_step}
use Rattle.layout.specs.declared.item.Kind.TheVariants.{Null, String, Number, Extension}
use Rattle.layout.specs.declared.refusal.Refusal.TheVariants.{Short, Layout, Text}
use Rattle.layout.specs.declared.iterator.ArrayIterator.{ArrayIterator}
use Rattle.layout.specs.declared.iterator.ObjectIterator.{ObjectIterator}
use Rattle.layout.proofs.Cases.{◌▸◌}
use Rattle.std.specs.Prelude.{Ok, Err, Some, None}

-- "Past the last item a step answers the end", on no bytes too.
end_first : array_step [] (record { jentry_offset = 4; item_offset = 4; remaining = 0 }) ≡ Ok None
unfolding array_step
end_first = refl

-- "An entry outside the slice gives 1", in part too.
entry_outside : array_step (0 ∷ 0 ∷ 0 ∷ []) (record { jentry_offset = 0; item_offset = 0; remaining = 1 }) ≡ Err Short
unfolding array_step inside
entry_outside = refl

-- "A sum beyond the machine's word counts as outside."
sum_outside : array_step (0 ∷ 0 ∷ 0 ∷ 0 ∷ []) (record { jentry_offset = 2 ^ 64 - 1; item_offset = 0; remaining = 1 }) ≡ Err Short
unfolding array_step inside
sum_outside = refl

-- A payload of no bytes at the end of the slice is inside; "a payload outside it [..] gives 2".
payload_at_end : array_step (0 ∷ 0 ∷ 0 ∷ 0 ∷ []) (record { jentry_offset = 0; item_offset = 4; remaining = 1 })
    ≡ Ok (Some ((record { kind = Null; place = 4; length = 0; characters = None }), (record { jentry_offset = 4; item_offset = 4; remaining = 0 })))
unfolding array_step item_at item_of ends_with entry_good inside word_at word top_of code_of length_of kind_of
payload_at_end = refl

payload_outside : array_step (0 ∷ 0 ∷ 0 ∷ 0 ∷ []) (record { jentry_offset = 0; item_offset = 5; remaining = 1 }) ≡ Err Layout
unfolding array_step entry_good inside word_at word top_of code_of length_of
payload_outside = refl

-- "Code 7, bit 31 set [..] gives 2."
code_seven : array_step (0x70 ∷ 0 ∷ 0 ∷ 0 ∷ []) (record { jentry_offset = 0; item_offset = 4; remaining = 1 }) ≡ Err Layout
unfolding array_step entry_good inside word_at word top_of code_of
code_seven = refl

top_bit : array_step (0x80 ∷ 0 ∷ 0 ∷ 0 ∷ []) (record { jentry_offset = 0; item_offset = 4; remaining = 1 }) ≡ Err Layout
unfolding array_step entry_good inside word_at word top_of code_of
top_bit = refl

-- Null with a length, which the check refuses, is handed out with it.
long_null : array_step (0 ∷ 0 ∷ 0 ∷ 1 ∷ 9 ∷ []) (record { jentry_offset = 0; item_offset = 4; remaining = 1 })
    ≡ Ok (Some ((record { kind = Null; place = 4; length = 1; characters = None }), (record { jentry_offset = 4; item_offset = 5; remaining = 0 })))
unfolding array_step item_at item_of ends_with entry_good inside word_at word top_of code_of length_of kind_of
long_null = refl

-- "Name entry, value entry, name, value, each tested whole before the next": a name entry that is no string's stands before a
-- value entry outside the slice, and that before a name outside it.
name_first : object_step (0x20 ∷ 0 ∷ 0 ∷ 1 ∷ [])
    (record { key_jentry_offset = 0; val_jentry_offset = 4; key_offset = 9; val_offset = 9; remaining = 1 })
    ≡ Err Layout
unfolding object_step entry_good inside word_at word top_of code_of
name_first = refl

value_entry_second : object_step (0x10 ∷ 0 ∷ 0 ∷ 1 ∷ [])
    (record { key_jentry_offset = 0; val_jentry_offset = 4; key_offset = 9; val_offset = 9; remaining = 1 })
    ≡ Err Short
unfolding object_step entry_good inside word_at word top_of code_of
value_entry_second = refl

name_third : object_step (0x10 ∷ 0 ∷ 0 ∷ 1 ∷ 0 ∷ 0 ∷ 0 ∷ 0 ∷ [])
    (record { key_jentry_offset = 0; val_jentry_offset = 4; key_offset = 8; val_offset = 8; remaining = 1 })
    ≡ Err Layout
unfolding object_step member_step entry_good inside word_at word top_of code_of length_of
name_third = refl

-- ---- characters: document 02 §2

-- The walk before the only item of an array, and the one behind it.
abbrev first : ArrayIterator
first = record { jentry_offset = 4; item_offset = 8; remaining = 1 }

abbrev behind : ℕ → ArrayIterator
behind n = record { jentry_offset = 8; item_offset = 8 + n; remaining = 0 }

-- "Hand this number out with every [..] string item": ["aé"].
string_counted : array_step (0x80000001 ▸ 0x10000003 ▸ 0x61 ∷ 0xC3 ∷ 0xA9 ∷ []) first
    ≡ Ok (Some ((record { kind = String; place = 8; length = 3; characters = Some 2 }), (behind 3)))
unfolding array_step item_at item_of ends_with entry_good inside word_at word top_of code_of length_of kind_of be32
string_counted = refl

-- "A walk begun on one record and continued on another can now meet 3, [..] without moving": the same walk on [FF] and on ["a"].
walk_continued : array_step (0x80000001 ▸ 0x10000001 ▸ 0xFF ∷ []) first ≡ Err Text
unfolding array_step item_at item_of ends_with entry_good inside word_at word top_of code_of length_of kind_of be32
walk_continued = refl

walk_used_again : array_step (0x80000001 ▸ 0x10000001 ▸ 0x61 ∷ []) first
    ≡ Ok (Some ((record { kind = String; place = 8; length = 1; characters = Some 1 }), (behind 1)))
unfolding array_step item_at item_of ends_with entry_good inside word_at word top_of code_of length_of kind_of be32
walk_used_again = refl

-- The other kinds have none, and are no text to be tested: a number, and an extension of FF.
number_uncounted : array_step (0x80000001 ▸ 0x20000002 ▸ 0x50 ∷ 0x01 ∷ []) first
    ≡ Ok (Some ((record { kind = Number; place = 8; length = 2; characters = None }), (behind 2)))
unfolding array_step item_at item_of ends_with entry_good inside word_at word top_of code_of length_of kind_of be32
number_uncounted = refl

extension_uncounted : array_step (0x80000001 ▸ 0x60000001 ▸ 0xFF ∷ []) first
    ≡ Ok (Some ((record { kind = Extension; place = 8; length = 1; characters = None }), (behind 1)))
unfolding array_step item_at item_of ends_with entry_good inside word_at word top_of code_of length_of kind_of be32
extension_uncounted = refl

-- The walk before the only member of an object whose name has `n` bytes.
abbrev first_member : ℕ → ObjectIterator
first_member n = record { key_jentry_offset = 4; val_jentry_offset = 8; key_offset = 12; val_offset = 12 + n; remaining = 1 }

-- A name and its value: {"é":"aé"}.
both_counted : object_step (0x40000001 ▸ 0x10000002 ▸ 0x10000003 ▸ 0xC3 ∷ 0xA9 ∷ 0x61 ∷ 0xC3 ∷ 0xA9 ∷ []) (first_member 2)
    ≡ Ok (Some (
      (record {
        key = record { kind = String; place = 12; length = 2; characters = Some 1 };
        val = record { kind = String; place = 14; length = 3; characters = Some 2 };
      }),
      (record { key_jentry_offset = 8; val_jentry_offset = 12; key_offset = 14; val_offset = 17; remaining = 0 }),
    ))
unfolding object_step member_step member_at item_at item_of ends_with ◌>>=◌ entry_good inside word_at word top_of code_of length_of kind_of be32
both_counted = refl

-- "3, after all of that step's tests for 1 and 2": a name FF stands behind a value outside the slice.
value_outside_first : object_step (0x40000001 ▸ 0x10000001 ▸ 0x10000001 ▸ 0xFF ∷ []) (first_member 1) ≡ Err Layout
unfolding object_step member_step entry_good inside word_at word top_of code_of length_of be32
value_outside_first = refl

bad_name : object_step (0x40000001 ▸ 0x10000001 ▸ 0x10000001 ▸ 0xFF ∷ 0x61 ∷ []) (first_member 1) ≡ Err Text
unfolding object_step member_step member_at item_at item_of ends_with ◌>>=◌ entry_good inside word_at word top_of code_of length_of kind_of be32
bad_name = refl

bad_value : object_step (0x40000001 ▸ 0x10000001 ▸ 0x10000001 ▸ 0x61 ∷ 0xFF ∷ []) (first_member 1) ≡ Err Text
unfolding object_step member_step member_at item_at item_of ends_with ◌>>=◌ entry_good inside word_at word top_of code_of length_of kind_of be32
bad_value = refl
