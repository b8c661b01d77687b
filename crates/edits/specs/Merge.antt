-- Two objects' members taken in turn, as the code of concat goes. proofs/Overlays.antt ties it to `concat`.
use Rattle.std.specs.Prelude.{ℕ, ◌+◌, ◌*◌, ◌≤◌, ◌≡◌, List, [], ◌∷◌, ◌++◌, length, Ok, Some, None, Option}
use Rattle.layout.specs.Bytes.{Bytes}
use Rattle.layout.specs.Read.{header, nested}
use Rattle.layout.specs.Check.{checked}
use Rattle.layout.specs.Order.{order}
use Rattle.layout.specs.declared.util.Header.TheVariants.{Object}
use Rattle.builders.specs.Order.{by}
use Rattle.layout.specs.Parts.{name_in, value_in, members_at}
use Rattle.builders.specs.Sorted.{sorted}
use Rattle.builders.specs.Weave.{column}
use Rattle.layout.specs.declared.parts.ItemAt.{ItemAt}
use Rattle.layout.specs.declared.parts.MemberAt.{MemberAt}
use Rattle.layout.specs.declared.parts.Places.{Places}
use Rattle.layout.specs.Parts.{members_of}
use Rattle.edits.specs.declared.merge.Turn.{Turn}
use Rattle.edits.specs.declared.merge.Turn.TheVariants.{Left, Right, Both}
use Rattle.edits.specs.declared.members.Ahead.{Ahead}

-- Which of the next members of both sides is taken, if any is left.
abbrev pub chosen : Bytes → Bytes → Option (MemberAt × Ahead) → Option (MemberAt × Ahead) → Option Turn
chosen l r None None = None
chosen l r None (Some (k, b)) = Some (Right k b)
chosen l r (Some (m, a)) None = Some (Left m a)
chosen l r (Some (m, a)) (Some (k, b)) = by (order (name_in l m) (name_in r k)) (Some (Left m a)) (Some (Both k a b)) (Some (Right k b))

-- Readable objects of `m` and `n` members.
pub record Objects (l : Bytes) (m : ℕ) (r : Bytes) (n : ℕ) : Type 0 where
  pub left_readable : checked (nested 64 l) ≡ Ok tt
  pub right_readable : checked (nested 64 r) ≡ Ok tt
  pub left_short : length l ≤ 65536
  pub right_short : length r ≤ 65536
  pub left_object : header l ≡ Ok (Object m)
  pub right_object : header r ≡ Ok (Object n)

-- The members of both in one row, the right ones first. They stand in the bytes of the right one and those of the left one behind
-- them.
abbrev pub moved : ℕ → ItemAt → ItemAt
moved k x = record { jentry = x.jentry; place = k + x.place }

abbrev pub moved_member : ℕ → MemberAt → MemberAt
moved_member k m = record { key = moved k m.key; val = moved k m.val }

abbrev pub moved_all : ℕ → List MemberAt → List MemberAt
moved_all k [] = []
moved_all k (m ∷ ms) = moved_member k m ∷ moved_all k ms

abbrev pub in_a_row : Bytes → ℕ → Bytes → ℕ → List MemberAt
in_a_row l m r n = members_at r r (members_of r n) n ++ moved_all (length r) (members_at l l (members_of l m) m)

-- In byte order, of equal names the right one's.
abbrev pub merged : Bytes → ℕ → Bytes → ℕ → List MemberAt
merged l m r n = sorted (name_in (r ++ l)) (in_a_row l m r n)

-- The places behind members that are stored from some places on, and behind all of both objects.
abbrev pub behind_members : Bytes → List MemberAt → Places → Places
behind_members s ms to =
    record {
      key_jentry = to.key_jentry + 4 * length ms;
      val_jentry = to.val_jentry + 4 * length ms;
      key = to.key + length (column (name_in s) ms);
      val = to.val + length (column (value_in s) ms);
    }

abbrev pub behind_all : Bytes → ℕ → Bytes → ℕ → Places → Places
behind_all l m r n to = behind_members (r ++ l) (merged l m r n) to
