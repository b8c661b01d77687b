-- The parts of a container by their places, as the code meets them: part `i` of one container, by the number of its entry; and
-- members, of one object or of an array of names and one of values, by the places of their two entries and payloads. A part with its
-- kind and bytes is `part_at` of Place.antt.
use Rattle.std.specs.Prelude.{ℕ, zero, suc, ◌+◌, ◌*◌, ◌<◌, ◌≡◌, Bool, List, [], ◌∷◌, length, take, drop, Ok, Err, Result}
use Rattle.layout.specs.Bytes.{Bytes, word_at}
use Rattle.layout.specs.Entry.{length_of, entry_at}
use Rattle.layout.specs.Table.{table_place}
use Rattle.layout.specs.Encode.{Part}
use Rattle.layout.specs.Place.{part_at, parts_at, rising_parts}
use Rattle.layout.specs.declared.util.Header.{Header}
use Rattle.layout.specs.declared.util.Header.TheVariants.{Array, Object, Scalar}
use Rattle.layout.specs.declared.parts.ItemAt.{ItemAt}
use Rattle.layout.specs.declared.parts.MemberAt.{MemberAt}
use Rattle.layout.specs.declared.parts.Places.{Places}
use Rattle.layout.specs.declared.parts.PartAt.{PartAt}
use Rattle.layout.specs.declared.refusal.Refusal.{Refusal}

-- Where the payloads of `n` parts start.
abbrev pub start_of : ℕ → ℕ
start_of n = 4 + 4 * n

-- How many parts a container has, names and values each counting as one; and the parts of a container of `n`.
abbrev pub count_parts : Result Header Refusal → ℕ
count_parts (Ok (Array n)) = n
count_parts (Ok (Object n)) = n + n
count_parts (Ok (Scalar n)) = 0
count_parts (Err r) = 0

abbrev pub parts_of : Bytes → ℕ → List Part
parts_of s n = parts_at s 0 (start_of n) n

-- Whether the names of an object of `n` members rise.
abbrev pub rises : Bytes → ℕ → Bool
rises s n = rising_parts (parts_at s 0 (start_of (n + n)) n)

-- The bytes of each of some parts.
abbrev pub texts : List Part → List Bytes
texts [] = []
texts (p ∷ ps) = p.bytes ∷ texts ps

-- The names of an object of `n` members.
abbrev pub names_of : Bytes → ℕ → List Bytes
names_of s n = texts (parts_at s 0 (start_of (n + n)) n)

-- The part behind this one.
abbrev pub next_part : Bytes → PartAt → PartAt
next_part s p = record { index = p.index + 1; place = p.place + length_of (entry_at s p.index) }

-- The first part of a container of `n`; its part `k`; and what stands behind the last, where its bytes end with that one's payload.
abbrev pub first_part : ℕ → PartAt
first_part n = record { index = 0; place = start_of n }

abbrev pub nth_part : Bytes → ℕ → ℕ → PartAt
nth_part s n k = record { index = k; place = table_place s n k }

abbrev pub parts_end : Bytes → ℕ → PartAt
parts_end s n = record { index = n; place = length s }

-- A part with its kind and bytes, by its place; and its payload.
abbrev pub part_in : Bytes → PartAt → Part
part_in s p = part_at s p.index p.place

abbrev pub part_payload : Bytes → PartAt → Bytes
part_payload s p = (part_in s p).bytes

-- That a part is one of the `n` of a container.
pub record PartOf (s : Bytes) (n : ℕ) (p : PartAt) : Type 0 where
  pub inside : p.index < n
  pub is : p ≡ nth_part s n p.index

-- The payload of an item.
abbrev pub bytes_at : Bytes → ItemAt → Bytes
bytes_at s x = take (length_of x.jentry) (drop x.place s)

-- A member's name, which it is ordered by, and its value.
abbrev pub name_in : Bytes → MemberAt → Bytes
name_in keys m = bytes_at keys m.key

abbrev pub value_in : Bytes → MemberAt → Bytes
value_in vals m = bytes_at vals m.val

-- The member whose entries stand at `a` and `b`, and whose name and value at `p` and `q`; and the `k` members from there on.
-- Names are in `ks`, values in `vs`.
abbrev pub member_at : Bytes → Bytes → ℕ → ℕ → ℕ → ℕ → MemberAt
member_at ks vs a b p q =
    record { key = record { jentry = word_at ks a; place = p }; val = record { jentry = word_at vs b; place = q } }

unfoldable pub members_from : Bytes → Bytes → ℕ → ℕ → ℕ → ℕ → ℕ → List MemberAt
members_from ks vs a b p q zero = []
members_from ks vs a b p q (suc k) =
    member_at ks vs a b p q
    ∷ members_from ks vs (a + 4) (b + 4) (p + length_of (word_at ks a)) (q + length_of (word_at vs b)) k

unfoldable pub members_at : Bytes → Bytes → Places → ℕ → List MemberAt
members_at ks vs w k = members_from ks vs w.key_jentry w.val_jentry w.key w.val k

-- The places of the members of an object of `n`.
abbrev pub members_of : Bytes → ℕ → Places
members_of s n =
    record {
      key_jentry = 4;
      val_jentry = start_of n;
      key = start_of (n + n);
      val = table_place s (n + n) n;
    }

-- The places of `n` names and `n` values, the items of two arrays.
abbrev pub pairs_of : ℕ → Places
pairs_of n = record { key_jentry = 4; val_jentry = 4; key = start_of n; val = start_of n }

-- The places behind a member whose name and value are so long; and behind one that stands in a record.
abbrev pub past : Places → ℕ → ℕ → Places
past at k v =
    record {
      key_jentry = at.key_jentry + 4;
      val_jentry = at.val_jentry + 4;
      key = at.key + k;
      val = at.val + v;
    }

abbrev pub behind_member : Places → MemberAt → Places
behind_member at m = past at (length_of m.key.jentry) (length_of m.val.jentry)
