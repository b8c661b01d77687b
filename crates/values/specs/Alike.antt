-- Equal values by places in the bytes, as the code goes. proofs/Alikes.antt ties it to the layout's `Same`.
use Rattle.std.specs.Prelude.{ℕ, zero, suc, ◌+◌, Bool, true, false, cond, ◌&&◌, List, [], ◌∷◌, map, ltb, eqb, Ok, Err, Result}
use Rattle.std.specs.List.{zip}
use Rattle.layout.specs.Bytes.{Bytes, word_at}
use Rattle.layout.specs.Encode.{Part}
use Rattle.layout.specs.Order.{same_bytes}
use Rattle.layout.specs.Place.{parts_at}
use Rattle.layout.specs.Left.{Placed, part_shown, left, shown}
use Rattle.layout.specs.Parts.{next_part, first_part, nth_part, part_in, part_payload, parts_of}
use Rattle.layout.specs.Read.{header}
use Rattle.layout.specs.Value.{same_kind}
use Rattle.layout.specs.declared.item.Kind.{Kind}
use Rattle.layout.specs.declared.item.Kind.TheVariants.{Null, String, Number, False, True, Container, Extension}
use Rattle.layout.specs.declared.util.Header.{Header}
use Rattle.layout.specs.declared.util.Header.TheVariants.{Array, Object, Scalar}
use Rattle.layout.specs.declared.refusal.Refusal.{Refusal}
use Rattle.layout.specs.declared.table.Part.{Part as PartRead}
use Rattle.values.specs.declared.value.PairAt.{PairAt}
use Rattle.values.specs.declared.members.Member.{Member as MemberRead}
use Rattle.values.specs.declared.members.Members.{Members as MembersRead}

-- Items: of one kind, with equal payloads; `f` tells whether containers have equal values.
unfoldable pub same_payload : (Bytes → Bytes → Bool) → Kind → Bytes → Bytes → Bool
same_payload f Null a b = same_bytes a b
same_payload f String a b = same_bytes a b
same_payload f Number a b = same_bytes a b
same_payload f False a b = same_bytes a b
same_payload f True a b = same_bytes a b
same_payload f Container a b = f a b
same_payload f Extension a b = same_bytes a b

unfoldable pub same_part : (Bytes → Bytes → Bool) → Part → Part → Bool
same_part f p q = same_kind p.kind q.kind && same_payload f p.kind p.bytes q.bytes

-- Arrays: items in order.
unfoldable pub same_parts : (Bytes → Bytes → Bool) → List Part → List Part → Bool
same_parts f [] [] = true
same_parts f [] (q ∷ qs) = false
same_parts f (p ∷ ps) [] = false
same_parts f (p ∷ ps) (q ∷ qs) = same_part f p q && same_parts f ps qs

-- Objects: members, each a name and a value.
pub record Member : Type 0 where
  pub name : Bytes
  pub value : Part

-- The member at its places, and the places of the one behind it.
unfoldable pub member_at : Bytes → PairAt → Member
member_at s m = record { name = part_payload s m.key; value = part_in s m.val }

unfoldable pub next : Bytes → PairAt → PairAt
next s m = record { key = next_part s m.key; val = next_part s m.val }

-- `k` members, from `m` on; where the first of `n` stands; and all of them.
unfoldable pub members_from : Bytes → PairAt → ℕ → List Member
members_from s m zero = []
members_from s m (suc k) = member_at s m ∷ members_from s (next s m) k

unfoldable pub first : Bytes → ℕ → PairAt
first s n = record { key = first_part (n + n); val = nth_part s (n + n) n }

abbrev pub members : Bytes → ℕ → List Member
members s n = members_from s (first s n) n

-- An item and a member that the code has read.
abbrev pub part_of : PartRead → Part
part_of x = part_shown (shown x)

abbrev pub member_of : MemberRead → Member
member_of m = record { name = m.name.now; value = part_of m.value }

-- Names beside values, and the members that the code's iterator has still to give.
abbrev pub beside : Placed × Placed → Member
beside p = record { name = p.0.bytes; value = part_shown p.1 }

abbrev pub members_left : MembersRead → List Member
members_left s = map beside (zip (left s.names) (left s.values))

-- Members are alike: equal names, and equal values.
unfoldable pub like : (Bytes → Bytes → Bool) → Member → Member → Bool
like f m n = same_bytes m.name n.name && same_part f m.value n.value

-- How many of them are like `m`.
unfoldable pub likes : (Bytes → Bytes → Bool) → Member → List Member → ℕ
likes f m [] = 0
likes f m (n ∷ ns) = cond (like f m n) 1 0 + likes f m ns

-- Objects of as many members: each member of the one has fewer like it behind it than there are in the other.
unfoldable pub same_members : (Bytes → Bytes → Bool) → List Member → List Member → Bool
same_members f [] ns = true
same_members f (m ∷ ms) ns = ltb (likes f m ms) (likes f m ns) && same_members f ms ns

-- Records with equal headers; a scalar record has one item.
abbrev pub same_by : (Bytes → Bytes → Bool) → Result Header Refusal → Bytes → Bytes → Bool
same_by f (Err r) a b = false
same_by f (Ok (Scalar n)) a b = same_parts f (parts_at a 0 8 1) (parts_at b 0 8 1)
same_by f (Ok (Array n)) a b = same_parts f (parts_of a n) (parts_of b n)
same_by f (Ok (Object n)) a b = same_members f (members a n) (members b n)

-- Down to `k` levels.
unfoldable pub same_at : ℕ → Bytes → Bytes → Bool
same_at zero a b = false
same_at (suc k) a b = eqb (word_at a 0) (word_at b 0) && same_by (same_at k) (header a) a b
