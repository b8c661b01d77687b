-- Document 02 §4: "Carry a running sum along each pass over the items [..] Show that each carried place is the one the table gives."
-- Here is the place that the table gives, and what a pass meets there, for each item by itself: nothing is carried from one to the
-- next. `Carried` and its neighbours say that a pass has kept to it; the theorems are in proofs/Carries.antt and proofs/Walked.antt, and
-- in proofs/Carries.antt of the crates above.
use Rattle.std.specs.Prelude.{ℕ, zero, suc, ◌+◌, ◌*◌, ◌-◌, ◌<◌, ◌≡◌, List, [], ◌∷◌, Ok, Some, Option}
use Rattle.layout.specs.Bytes.{Bytes}
use Rattle.layout.specs.Entry.{entry_at, lengths}
use Rattle.layout.specs.Encode.{Part}
use Rattle.layout.specs.Place.{part_at}
use Rattle.layout.specs.Walk.{item_of, array_step, object_step, array_walk, object_walk}
use Rattle.layout.specs.declared.parts.ItemAt.{ItemAt}
use Rattle.layout.specs.declared.parts.MemberAt.{MemberAt}
use Rattle.layout.specs.declared.parts.Places.{Places}
use Rattle.layout.specs.declared.iterator.ArrayIterator.{ArrayIterator}
use Rattle.layout.specs.declared.iterator.ObjectIterator.{ObjectIterator}

-- The place that a table of `n` entries gives item `i`: behind the header, the table, and the payloads before it.
abbrev pub table_place : Bytes → ℕ → ℕ → ℕ
table_place s n i = 4 + 4 * n + lengths s 0 i

-- Item `i` of `n`, its kind and its bytes there; and the `k` from the `i`th on.
abbrev pub table_part : Bytes → ℕ → ℕ → Part
table_part s n i = part_at s i (table_place s n i)

unfoldable pub parts_by_table : Bytes → ℕ → ℕ → ℕ → List Part
parts_by_table s n i zero = []
parts_by_table s n i (suc k) = table_part s n i ∷ parts_by_table s n (i + 1) k

-- The same item by its entry and its place.
abbrev pub table_item : Bytes → ℕ → ℕ → ItemAt
table_item s n i = record { jentry = entry_at s i; place = table_place s n i }

-- A member, whose name is item `i` of the `a` in `ks` and whose value item `j` of the `b` in `vs`; and the `k` members from there on. In
-- an object of `n` member `i` has the items `i` and `n + i` of `n + n`; an object is built of item `i` of the names and item `i` of the
-- values.
abbrev pub table_member : Bytes → ℕ → ℕ → Bytes → ℕ → ℕ → MemberAt
table_member ks a i vs b j = record { key = table_item ks a i; val = table_item vs b j }

unfoldable pub members_by_table : Bytes → ℕ → ℕ → Bytes → ℕ → ℕ → ℕ → List MemberAt
members_by_table ks a i vs b j zero = []
members_by_table ks a i vs b j (suc k) = table_member ks a i vs b j ∷ members_by_table ks a (i + 1) vs b (j + 1) k

-- Where the entries of that member stand, and its name and its value.
abbrev pub table_places : Bytes → ℕ → ℕ → Bytes → ℕ → ℕ → Places
table_places ks a i vs b j =
    record { key_jentry = 4 + 4 * i; val_jentry = 4 + 4 * j; key = table_place ks a i; val = table_place vs b j }

-- Those of member `i` of an object of `n`.
abbrev pub nth_member : Bytes → ℕ → ℕ → Places
nth_member s n i = table_places s (n + n) i s (n + n) (n + i)

-- A pass that starts at item `from`, which stands at `start`, and has come to item `i` with this place: whatever table gives the start
-- gives this place. The same of the four places of members, `k` of them behind the first.
abbrev pub Carried : Bytes → ℕ → ℕ → ℕ → ℕ → Type 0
Carried s from start i place = (n : ℕ) → start ≡ table_place s n from → place ≡ table_place s n i

abbrev pub CarriedPair : Bytes → Bytes → Places → ℕ → Places → Type 0
CarriedPair ks vs from k at =
    (a i b j : ℕ) → from ≡ table_places ks a i vs b j → at ≡ table_places ks a (i + k) vs b (j + k)

-- A walk over an array of `n` before its item `i`, and one over an object of `n` before its member `i`.
abbrev pub array_at : Bytes → ℕ → ℕ → ArrayIterator
array_at s n i = record { jentry_offset = 4 + 4 * i; item_offset = table_place s n i; remaining = n - i }

abbrev pub object_at : Bytes → ℕ → ℕ → ObjectIterator
object_at s n i =
    record {
      key_jentry_offset = 4 + 4 * i;
      val_jentry_offset = 4 + 4 * (n + i);
      key_offset = table_place s (n + n) i;
      val_offset = table_place s (n + n) (n + i);
      remaining = n - i;
    }

-- A step there hands out what stands where the table gives it, with whatever characters it has, and is then before the next one. So a
-- walk that starts before the first keeps to the table.
abbrev pub ItemCarried : Bytes → ℕ → ℕ → Type 0
ItemCarried s n i =
    (c : Option ℕ) × (array_step s (array_at s n i) ≡ Ok (Some ((item_of (entry_at s i) (table_place s n i) c), (array_at s n (i + 1)))))

abbrev pub ArrayCarried : Bytes → ℕ → Type 0
ArrayCarried s n = (array_walk n ≡ array_at s n 0) × ((i : ℕ) → i < n → ItemCarried s n i)

abbrev pub MemberCarried : Bytes → ℕ → ℕ → Type 0
MemberCarried s n i =
    (c : Option ℕ) × (d : Option ℕ)
    × (object_step s (object_at s n i)
    ≡ Ok (Some (
      (record {
        key = item_of (entry_at s i) (table_place s (n + n) i) c;
        val = item_of (entry_at s (n + i)) (table_place s (n + n) (n + i)) d;
      }),
      (object_at s n (i + 1)),
    )))

abbrev pub ObjectCarried : Bytes → ℕ → Type 0
ObjectCarried s n = (object_walk s n ≡ object_at s n 0) × ((i : ℕ) → i < n → MemberCarried s n i)
