-- The search for the next name in byte order, among members by their places. `search_nth` of proofs/Searches.antt says that the
-- search, repeated, gives `sorted`.
use Rattle.std.specs.Prelude.{ℕ, zero, suc, ◌+◌, Bool, true, not, cond, List, [], ◌∷◌, eqb, Some, None, Option}
use Rattle.layout.specs.Bytes.{Bytes}
use Rattle.layout.specs.Entry.{code_of}
use Rattle.layout.specs.Order.{before}
use Rattle.layout.specs.declared.parts.MemberAt.{MemberAt}
use Rattle.builders.specs.declared.search.Kept.{Kept}
use Rattle.builders.specs.declared.search.Kept.TheVariants.{All, But, NonNull}

-- Members some of which are left out, where the first of them stands behind `i` others.
unfoldable pub is_kept : Kept → ℕ → MemberAt → Bool
is_kept All i m = true
is_kept (But k) i m = not (eqb i k)
is_kept NonNull i m = not (eqb (code_of m.val.jentry) 0)

unfoldable pub kept_of : Kept → ℕ → List MemberAt → List MemberAt
kept_of k i [] = []
kept_of k i (m ∷ ms) = cond (is_kept k i m) (m ∷ kept_of k (i + 1) ms) (kept_of k (i + 1) ms)

-- Names above the last one taken; at first, where there is none, all.
abbrev pub Bound : Type 0
Bound = Option Bytes

unfoldable pub over : Bound → Bytes → Bool
over None n = true
over (Some l) n = before l n

module _ (key : MemberAt → Bytes) where
  -- Of the best so far and `m` the one with the lesser name, of equal names the earlier.
  unfoldable pub better : Option MemberAt → MemberAt → Option MemberAt
  better None m = Some m
  better (Some b) m = cond (before (key m) (key b)) (Some m) (Some b)

  unfoldable pub step : Bound → Option MemberAt → MemberAt → Option MemberAt
  step last best m = cond (over last (key m)) (better best m) best

  -- A member that is left out changes nothing.
  unfoldable pub turn : Bound → Bool → Option MemberAt → MemberAt → Option MemberAt
  turn last searched best m = cond searched (step last best m) best

  -- The first member with the least name above the last.
  unfoldable pub least : Bound → Option MemberAt → List MemberAt → Option MemberAt
  least last best [] = best
  least last best (m ∷ ms) = least last (step last best m) ms

-- The `k`th of a list.
unfoldable pub nth : List MemberAt → ℕ → Option MemberAt
nth [] k = None
nth (m ∷ ms) zero = Some m
nth (m ∷ ms) (suc k) = nth ms k
