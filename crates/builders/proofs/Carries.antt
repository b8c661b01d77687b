-- Document 02 §4, of the search: each member that it hands out, its name and its value, stands where the table gives it.
use Prim.Native.Nat.{ℕ, zero, suc, ◌+◌, ◌<◌}
use native.Mathlib.Nat.{zero-add, add-zero}
use native.Mathlib.Omega.{arith}
use mathlib.Core.Path.{◌≡◌, refl}
use Rattle.layout.specs.Bytes.{Bytes}
use Rattle.layout.specs.Table.{table_member, members_by_table}
use Rattle.layout.specs.Parts.{name_in, members_at, members_of, pairs_of}
use Rattle.layout.specs.declared.parts.MemberAt.{MemberAt}
use Rattle.layout.proofs.Lists.{Each}
use Rattle.layout.proofs.Carries.{object_members, pairs_members}
use Rattle.builders.specs.Search.{Bound, kept_of, least}
use Rattle.builders.specs.declared.search.Kept.{Kept}
use Rattle.builders.proofs.Searches.{least_each, each_kept}
use Rattle.std.specs.Prelude.{Some, None}

-- The `n` members of two tables, from items `i` and `j` on: the one behind `r` others.
module _ (ks : Bytes) (a i : ℕ) (vs : Bytes) (b j n : ℕ) where
  abbrev pub OfTables : MemberAt → Type 0
  OfTables m = (r : ℕ) × (r < n) × (m ≡ table_member ks a (i + r) vs b (j + r))

  rest_of : (r k : ℕ) → r + k ≡ n → Each OfTables (members_by_table ks a (i + r) vs b (j + r) k)
  unfolding members_by_table
  rest_of r zero e = tt
  rest_of r (suc k) e =
      let x : i + (r + 1) ≡ i + r + 1 = omega arith in
      let y : j + (r + 1) ≡ j + r + 1 = omega arith in
      ((r, omega arith, refl), rw (← x, ← y) (rest_of (r + 1) k (omega arith)))

  pub each_of_tables : Each OfTables (members_by_table ks a i vs b j n)
  each_of_tables = rw (add-zero i, add-zero j) at (rest_of 0 n (zero-add n))

  -- What the search finds among them, some left out or none.
  pub search_carries : (kept : Kept) (last : Bound) (m : MemberAt)
      → least (name_in ks) last None (kept_of kept 0 (members_by_table ks a i vs b j n)) ≡ Some m → OfTables m
  search_carries kept last m e =
      least_each (name_in ks) OfTables last (kept_of kept 0 (members_by_table ks a i vs b j n))
      (each_kept OfTables kept 0 (members_by_table ks a i vs b j n) each_of_tables) m e

-- As `next_member` promises it: among the members of an object of `n`, and among `n` names and `n` values.
pub object_search_carries : (s : Bytes) (n : ℕ) (kept : Kept) (last : Bound) (m : MemberAt)
    → least (name_in s) last None (kept_of kept 0 (members_at s s (members_of s n) n)) ≡ Some m → OfTables s (n + n) 0 s (n + n) n n m
object_search_carries s n kept last m e = search_carries s (n + n) 0 s (n + n) n n kept last m (rw (object_members s n) at e)

pub pairs_search_carries : (ks vs : Bytes) (n : ℕ) (kept : Kept) (last : Bound) (m : MemberAt)
    → least (name_in ks) last None (kept_of kept 0 (members_at ks vs (pairs_of n) n)) ≡ Some m → OfTables ks n 0 vs n 0 n m
pairs_search_carries ks vs n kept last m e = search_carries ks n 0 vs n 0 n kept last m (rw (pairs_members ks vs n) at e)
