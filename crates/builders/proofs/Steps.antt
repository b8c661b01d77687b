-- The steps of the search, as the code takes them.
use Prim.Native.Nat.{ℕ, suc, ◌+◌, ◌-◌, ◌<◌, ◌≤◌}
use native.Mathlib.Omega.{arith}
use native.Mathlib.Nat.{sub-zero}
use mathlib.Core.Path.{◌≡◌, refl}
use mathlib.Core.Bool.{Bool, true, false, cond}
use mathlib.Core.List.{List, ◌∷◌}
use Rattle.layout.specs.Bytes.{Bytes}
use Rattle.layout.specs.Parts.{name_in, member_at, members_from, members_at, behind_member}
use Rattle.builders.specs.Search.{is_kept, kept_of, Bound, turn, least}
use Rattle.layout.specs.declared.parts.MemberAt.{MemberAt}
use Rattle.layout.specs.declared.parts.Places.{Places}
use Rattle.builders.specs.declared.search.Kept.{Kept}
use Rattle.std.specs.Prelude.{Some, Option}

-- Whether a member takes the place of the best so far.
module _ (key : MemberAt → Bytes) (best : Option MemberAt) (m : MemberAt) where
  module _ (last : Bound) (g : Bool) where
    module _ (next : Option MemberAt) (r : Bool) (h : turn key last g best m ≡ cond r (Some m) best) where
      pub taken_on : r ≡ true → next ≡ Some m → next ≡ turn key last g best m
      taken_on t k = rw (k, h, t)

      pub passed_on : r ≡ false → next ≡ best → next ≡ turn key last g best m
      passed_on t k = rw (k, h, t)

-- A member that is searched, or left out, and the rest.
least_kept : (key : MemberAt → Bytes) (last : Bound) (best : Option MemberAt) (g : Bool) (m : MemberAt) (ms : List MemberAt)
    → least key last best (cond g (m ∷ ms) ms) ≡ least key last (turn key last g best m) ms
unfolding least turn
least_kept key last best true m ms = refl
least_kept key last best false m ms = refl

-- The loop over the members.
module _ (ks vs : Bytes) (kept : Kept) (last : Bound) (best : Option MemberAt) (at : Places) (n : ℕ) where
  abbrev from_here : ℕ → ℕ → Option MemberAt
  from_here i k = least (name_in ks) last best (kept_of kept i (members_at ks vs at k))

  pub search_starts : from_here 0 n ≡ from_here 0 (n - 0)
  search_starts = rw (sub-zero n)

  module _ (i : ℕ) where
    pub search_ends : n ≤ i → from_here i (n - i) ≡ best
    unfolding members_at members_from kept_of least
    search_ends h = let z : n - i ≡ 0 = omega arith in rw z

    pub search_turns : (m : MemberAt) (g : Bool) (next : Option MemberAt) (at' : Places) → i < n
        → m ≡ member_at ks vs at.key_jentry at.val_jentry at.key at.val
        → g ≡ is_kept kept i m → next ≡ turn (name_in ks) last g best m → at' ≡ behind_member at m
        → from_here i (n - i) ≡ least (name_in ks) last next (kept_of kept (i + 1) (members_at ks vs at' (n - (i + 1))))
    unfolding members_at members_from kept_of
    search_turns m g next at' h e t s b =
        let q : n - i ≡ suc (n - (i + 1)) = omega arith in
        rw (q, s, b, t, e) (least_kept (name_in ks) last best (is_kept kept i _) _ _)
