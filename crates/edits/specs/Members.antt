-- The members of an object by their places, as the code takes them in byte order of their names: where the names rise they are
-- taken as they stand, elsewhere each is searched for. `next_is` of proofs/Aheads.antt ties both to the search of builders.
use Rattle.layout.specs.Parts.{rises}
use Rattle.std.specs.Prelude.{ℕ, ◌+◌, ◌*◌, ◌-◌, ◌^◌, ◌≤◌, ◌<◌, ◌≡◌, true, false, List, [], ◌∷◌, length, Some, None, Option}
use Rattle.layout.specs.Bytes.{Bytes}
use Rattle.layout.specs.Table.{nth_member}
use Rattle.layout.specs.Parts.{name_in, value_in, members_at, members_of, behind_member}
use Rattle.builders.specs.Search.{kept_of, Bound, least}
use Rattle.builders.specs.Sorted.{sorted}
use Rattle.builders.specs.Weave.{column}
use Rattle.builders.specs.declared.search.Kept.{Kept}
use Rattle.layout.specs.declared.parts.MemberAt.{MemberAt}
use Rattle.layout.specs.declared.parts.Places.{Places}
use Rattle.edits.specs.declared.members.Sizes.{Sizes}
use Rattle.edits.specs.declared.members.Ahead.{Ahead}

-- Members in byte order, and their sizes.
abbrev pub in_turn : Bytes → Places → ℕ → Kept → List MemberAt
in_turn s from n kept = sorted (name_in s) (kept_of kept 0 (members_at s s from n))

abbrev pub sizes_in : Bytes → Bytes → List MemberAt → Sizes
sizes_in ks vs xs =
    record { count = length xs; keys = length (column (name_in ks) xs); vals = length (column (value_in vs) xs) }

abbrev pub sizes_of : Bytes → List MemberAt → Sizes
sizes_of s = sizes_in s s

-- The places of the members of an object that is written anew.
abbrev pub places_for : Sizes → ℕ → Places
places_for z at =
    record {
      key_jentry = at + 4;
      val_jentry = at + 4 + 4 * z.count;
      key = at + 4 + 4 * z.count + 4 * z.count;
      val = at + 4 + 4 * z.count + 4 * z.count + z.keys;
    }

-- All members of an object of `n`, and those of some that are kept.
abbrev pub all_ahead : Bytes → ℕ → Ahead
all_ahead s n =
    record {
      at = members_of s n;
      index = 0;
      count = n;
      is_rising = rises s n;
    }

abbrev pub kept_ahead : Bytes → Kept → Ahead → List MemberAt
kept_ahead s kept a = kept_of kept a.index (members_at s s a.at (a.count - a.index))

-- What is ahead behind the next member as they stand.
abbrev pub behind_ahead : Ahead → MemberAt → Ahead
behind_ahead a m =
    record { at = behind_member a.at m; index = a.index + 1; count = a.count; is_rising = a.is_rising }

-- Places that are near enough for sums with them to be right.
pub record Near (a : Ahead) : Type 0 where
  pub few : a.count < 2 ^ 29
  pub inside : a.index ≤ a.count
  pub key_jentry : a.at.key_jentry ≤ 2 ^ 31 + 4 * a.index
  pub val_jentry : a.at.val_jentry ≤ 2 ^ 31 + 4 * a.index
  pub key : a.at.key ≤ 2 ^ 31 + 2 ^ 28 * a.index
  pub val : a.at.val ≤ 2 ^ 31 + 2 ^ 28 * a.index

-- Document 02 §4: the object whose table gives the places of what was ahead gives those of what still is.
abbrev pub CarriedAhead : Bytes → Ahead → Ahead → Type 0
CarriedAhead s a b = (n : ℕ) → a.at ≡ nth_member s n a.index → b.at ≡ nth_member s n b.index

-- The next member as it stands, and what is ahead behind it.
abbrev pub Standing : Bytes → Kept → Ahead → Option (MemberAt × Ahead) → Type 0
Standing s kept a None = kept_ahead s kept a ≡ []
Standing s kept a (Some (m, b)) =
    (kept_ahead s kept a ≡ m ∷ kept_ahead s kept b) × (b.is_rising ≡ a.is_rising) × Near b × CarriedAhead s a b

-- The next member by the search, behind which the same are searched.
abbrev pub Searching : Bytes → Kept → Bound → Ahead → Option (MemberAt × Ahead) → Type 0
Searching s kept last a None = least (name_in s) last None (kept_ahead s kept a) ≡ None
Searching s kept last a (Some (m, b)) = (least (name_in s) last None (kept_ahead s kept a) ≡ Some m) × (b ≡ a)

-- The next member in byte order, behind the last one taken.
pub record Next (s : Bytes) (kept : Kept) (last : Bound) (a : Ahead) (r : Option (MemberAt × Ahead)) : Type 0 where
  pub stands : a.is_rising ≡ true → Standing s kept a r
  pub searched : a.is_rising ≡ false → Searching s kept last a r
