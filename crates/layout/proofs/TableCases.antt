-- Document 02 §4, worked out: the places that a table gives, and steps of walks there.
use mathlib.Core.Path.{◌≡◌, refl}
use mathlib.Core.List.{[], ◌∷◌}
use Rattle.layout.specs.Bytes.{Bytes, be32, word, inside, word_at}
use Rattle.layout.specs.Entry.{top_of, code_of, length_of, kind_of, entry_at, lengths, entry_good}
use Rattle.layout.specs.Walk.{item_of, item_at, ends_with, array_step, member_at, member_step, object_step}
use Rattle.layout.specs.Table.{table_place, nth_member, array_at, object_at}
use Rattle.layout.specs.declared.item.Kind.TheVariants.{String, Number, True}
use Rattle.layout.proofs.Cases.{◌▸◌}
use Rattle.std.specs.Prelude.{Ok, Some, None}

-- ["aa", 0, "b"]: 16 bytes of header and table, then 2 bytes, 1 and 1.
abbrev items : Bytes
items = 0x80000003 ▸ 0x10000002 ▸ 0x20000001 ▸ 0x10000001 ▸ 0x61 ∷ 0x61 ∷ 0x00 ∷ 0x62 ∷ []

-- {"a": 1, "b": true}: 20 bytes of header and table, then the names and the values, of which true has no bytes.
abbrev members : Bytes
members = 0x40000002 ▸ 0x10000001 ▸ 0x10000001 ▸ 0x20000002 ▸ 0x40000000 ▸ 0x61 ∷ 0x62 ∷ 0x50 ∷ 0x01 ∷ []

items_stand : (table_place items 3 0 ≡ 16) × (table_place items 3 1 ≡ 18) × (table_place items 3 2 ≡ 19) × (table_place items 3 3 ≡ 20)
unfolding lengths entry_at length_of word_at word be32
items_stand = (refl, refl, refl, refl)

members_stand : (table_place members 4 0 ≡ 20) × (table_place members 4 1 ≡ 21) × (table_place members 4 2 ≡ 22) × (table_place members 4 3 ≡ 24)
    × (nth_member members 2 1 ≡ record { key_jentry = 8; val_jentry = 16; key = 21; val = 24 })
unfolding lengths entry_at length_of word_at word be32
members_stand = (refl, refl, refl, refl, refl)

-- The walks there: before item 1, and before member 1.
items_walked : array_step items (array_at items 3 1)
    ≡ Ok (Some ((record { kind = Number; place = 18; length = 1; characters = None }), (record { jentry_offset = 12; item_offset = 19; remaining = 1 })))
unfolding array_step item_at item_of ends_with entry_good inside lengths entry_at word_at word top_of code_of length_of kind_of be32
items_walked = refl

members_walked : object_step members (object_at members 2 1)
    ≡ Ok (Some (
      (record {
        key = record { kind = String; place = 21; length = 1; characters = Some 1 };
        val = record { kind = True; place = 24; length = 0; characters = None };
      }),
      (record {
        key_jentry_offset = 12;
        val_jentry_offset = 20;
        key_offset = 22;
        val_offset = 24;
        remaining = 0;
      }),
    ))
unfolding object_step member_step member_at item_at item_of ends_with entry_good inside lengths entry_at word_at word top_of code_of
    length_of kind_of be32
members_walked = refl
