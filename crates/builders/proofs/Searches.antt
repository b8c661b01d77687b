-- The search for the next name, repeated, gives the members in byte order: `search_nth`.
use Prim.Native.Nat.{ℕ, zero, suc, ◌+◌, ◌^◌, ◌<◌, ◌≤◌, zero-le, suc-le-suc}
use native.Mathlib.Nat.{le_of_suc-le-suc, not-suc-le-zero}
use native.Mathlib.Omega.{arith}
use mathlib.Core.Path.{◌≡◌, refl, sym, ap, subst, ◌∙◌}
use mathlib.Core.Bool.{Bool, true, false, cond}
use mathlib.Core.List.{List, [], ◌∷◌, ◌++◌}
use lib.ListN.{length, drop, length-take}
use Rattle.layout.specs.Bytes.{Bytes, word_at}
use Rattle.layout.specs.Entry.{length_of}
use Rattle.std.specs.Ordering.{is_lt}
use Rattle.layout.specs.Order.{order, before}
use Rattle.std.specs.declared.cmp.Ordering.{Ordering}
use Rattle.std.specs.declared.cmp.Ordering.TheVariants.{Less, Equal, Greater}
use Rattle.builders.specs.Order.{by}
use Rattle.layout.specs.Parts.{bytes_at, members_from}
use Rattle.builders.specs.Search.{is_kept, kept_of, Bound, over, better, step, least, nth}
use Rattle.builders.specs.Sorted.{put_in, put_all, sorted}
use Rattle.layout.proofs.Fields.{length_lt}
use Rattle.layout.proofs.Lists.{Each}
use Rattle.layout.specs.declared.parts.ItemAt.{ItemAt}
use Rattle.layout.specs.declared.parts.MemberAt.{MemberAt}
use Rattle.builders.specs.declared.search.Kept.{Kept}
use Rattle.builders.specs.declared.search.Kept.TheVariants.{All}
use Rattle.builders.proofs.Orderings.{turned, order_refl, order_turn, order_trans, order_equal}
use Rattle.std.specs.Prelude.{Some, None, Option}

pub less_is : (o : Ordering) → is_lt o ≡ true → o ≡ Less
less_is Less e = refl
less_is Equal e = cc
less_is Greater e = cc

cond_same : (u : Bool) (f : Option MemberAt) → cond u f f ≡ f
cond_same true f = refl
cond_same false f = refl

-- What is above a name that is above the last is above the last.
pub over_up : (last : Bound) (n m : Bytes) → order n m ≡ Less → over last n ≡ true → over last m ≡ true
unfolding over before
over_up None n m e h = refl
over_up (Some l) n m e h = ap is_lt (order_trans l n m (less_is (order l n) h) e)

over_same : (last : Bound) (n m : Bytes) → order n m ≡ Equal → over last n ≡ over last m
over_same last n m e = ap (over last) (order_equal n m e)

module _ (key : MemberAt → Bytes) where
  abbrev compared : MemberAt → MemberAt → Ordering
  compared m b = order (key m) (key b)

  abbrev bound_by : Option MemberAt → Bound
  bound_by None = None
  bound_by (Some m) = Some (key m)

  -- The bound that the member before the `k`th sets.
  unfoldable pub bound_at : List MemberAt → ℕ → Bound
  bound_at ms zero = None
  bound_at ms (suc k) = bound_by (nth ms k)

  -- The first of a list that is above `last`.
  first_over : Bound → List MemberAt → Option MemberAt
  first_over last [] = None
  first_over last (b ∷ bs) = cond (over last (key b)) (Some b) (first_over last bs)

  -- Of a list with `m` put in, the first above `last` is a step of the search from the first of the list.
  module _ (last : Bound) (m : MemberAt) where
    case_less : (b : MemberAt) (f : Option MemberAt) (u v : Bool) → compared m b ≡ Less → over last (key m) ≡ u → over last (key b) ≡ v
        → cond (over last (key m)) (Some m) (cond (over last (key b)) (Some b) f) ≡ step key last (cond (over last (key b)) (Some b) f) m
    unfolding step better before
    case_less b f false v e p q = rw p
    case_less b f true true e p q = rw (p, q, e)
    case_less b f true false e p q = let r = sym (over_up last (key m) (key b) e p) ∙ q in cc

    case_equal : (b : MemberAt) (f : Option MemberAt) (u : Bool) → compared m b ≡ Equal → over last (key m) ≡ u
        → cond (over last (key b)) (Some b) f ≡ step key last (cond (over last (key b)) (Some b) f) m
    unfolding step better before
    case_equal b f true e p = rw (← over_same last (key m) (key b) e, p, e)
    case_equal b f false e p = rw (← over_same last (key m) (key b) e, p)

    case_greater : (b : MemberAt) (f : Option MemberAt) (v : Bool) → compared m b ≡ Greater → over last (key b) ≡ v
        → cond (over last (key b)) (Some b) (step key last f m) ≡ step key last (cond (over last (key b)) (Some b) f) m
    unfolding step better before
    case_greater b f true e q = rw (q, e) (sym (cond_same (over last (key m)) (Some b)))
    case_greater b f false e q = rw q

    by_case : (o : Ordering) (b : MemberAt) (bs r : List MemberAt) → compared m b ≡ o
        → first_over last r ≡ step key last (first_over last bs) m
        → first_over last (by o (m ∷ b ∷ bs) (b ∷ bs) (b ∷ r)) ≡ step key last (first_over last (b ∷ bs)) m
    unfolding first_over
    by_case Less b bs r e ih = case_less b (first_over last bs) (over last (key m)) (over last (key b)) e refl refl
    by_case Equal b bs r e ih = case_equal b (first_over last bs) (over last (key m)) e refl
    by_case Greater b bs r e ih =
        ap (λ (f : Option MemberAt). cond (over last (key b)) (Some b) f) ih ∙ case_greater b (first_over last bs) (over last (key b)) e refl

    first_put : (bs : List MemberAt) → first_over last (put_in key m bs) ≡ step key last (first_over last bs) m
    unfolding first_over put_in step better
    first_put [] = refl
    first_put (b ∷ bs) = by_case (compared m b) b bs (put_in key m bs) refl (first_put bs)

  -- The search gives the first above `last` of the members in byte order.
  search_first : (last : Bound) (done ms : List MemberAt)
      → least key last (first_over last done) ms ≡ first_over last (put_all key done ms)
  unfolding least put_all
  search_first last done [] = refl
  search_first last done (m ∷ ms) =
      ap (λ (f : Option MemberAt). least key last f ms) (sym (first_put last m done)) ∙ search_first last (put_in key m done) ms

  -- Each name is less than all that follow.
  abbrev pub Above : MemberAt → List MemberAt → Type 0
  Above x [] = Unit {0}
  Above x (b ∷ bs) = (order (key x) (key b) ≡ Less) × Above x bs

  abbrev pub Ascending : List MemberAt → Type 0
  Ascending [] = Unit {0}
  Ascending (b ∷ bs) = Above b bs × Ascending bs

  pub above_trans : (x y : MemberAt) (bs : List MemberAt) → compared x y ≡ Less → Above y bs → Above x bs
  above_trans x y [] e h = tt
  above_trans x y (b ∷ bs) e h = (order_trans (key x) (key y) (key b) e h.0, above_trans x y bs e h.1)

  above_by : (o : Ordering) (x m b : MemberAt) (bs r : List MemberAt) → compared x m ≡ Less → compared x b ≡ Less
      → Above x bs → Above x r
      → Above x (by o (m ∷ b ∷ bs) (b ∷ bs) (b ∷ r))
  above_by Less x m b bs r e f h k = (e, (f, h))
  above_by Equal x m b bs r e f h k = (f, h)
  above_by Greater x m b bs r e f h k = (f, k)

  above_put : (x m : MemberAt) (bs : List MemberAt) → compared x m ≡ Less → Above x bs → Above x (put_in key m bs)
  unfolding put_in
  above_put x m [] e h = (e, tt)
  above_put x m (b ∷ bs) e h = above_by (compared m b) x m b bs (put_in key m bs) e h.0 h.1 (above_put x m bs e h.1)

  ascending_by : (o : Ordering) (m b : MemberAt) (bs r : List MemberAt) → compared m b ≡ o → Above b bs → Ascending bs
      → (compared b m ≡ Less → Above b r) → Ascending r → Ascending (by o (m ∷ b ∷ bs) (b ∷ bs) (b ∷ r))
  ascending_by Less m b bs r e h k f g = ((e, above_trans m b bs e h), (h, k))
  ascending_by Equal m b bs r e h k f g = (h, k)
  ascending_by Greater m b bs r e h k f g = (f (order_turn (key m) (key b) ∙ ap turned e), g)

  ascending_put : (m : MemberAt) (bs : List MemberAt) → Ascending bs → Ascending (put_in key m bs)
  unfolding put_in
  ascending_put m [] h = (tt, tt)
  ascending_put m (b ∷ bs) h =
      ascending_by (compared m b) m b bs (put_in key m bs) refl h.0 h.1 (λ e. above_put b m bs e h.0) (ascending_put m bs h.1)

  ascending_all : (done ms : List MemberAt) → Ascending done → Ascending (put_all key done ms)
  unfolding put_all
  ascending_all done [] h = h
  ascending_all done (m ∷ ms) h = ascending_all (put_in key m done) ms (ascending_put m done h)

  -- The members in byte order rise strictly.
  pub rising_sorted : (ms : List MemberAt) → Ascending (sorted key ms)
  unfolding sorted
  rising_sorted ms = ascending_all [] ms tt

  -- Of a list that rises, the first above the `k`th is the one after it.
  above_nth : (x y : MemberAt) (bs : List MemberAt) (j : ℕ) → Above x bs → nth bs j ≡ Some y → compared x y ≡ Less
  unfolding nth
  above_nth x y [] j h e = cc
  above_nth x y (b ∷ bs) zero h e = let q : b ≡ y = cc in rw (← q) h.0
  above_nth x y (b ∷ bs) (suc j) h e = above_nth x y bs j h.1 e

  first_above : (x : MemberAt) (bs : List MemberAt) → Above x bs → first_over (Some (key x)) bs ≡ nth bs zero
  unfolding first_over nth over before
  first_above x [] h = refl
  first_above x (b ∷ bs) h = rw h.0

  first_after : (bs : List MemberAt) (j : ℕ) (x : MemberAt) → Ascending bs → nth bs j ≡ Some x
      → first_over (Some (key x)) bs ≡ nth bs (suc j)
  unfolding first_over nth over before
  first_after [] j x h e = cc
  first_after (b ∷ bs) zero x h e = let q : b ≡ x = cc in rw (q, order_refl (key x)) (subst (λ (y : MemberAt). first_over (Some (key y)) bs ≡ nth bs zero) q (first_above b bs h.0))
  first_after (b ∷ bs) (suc j) x h e = rw (order_turn (key b) (key x), above_nth b x bs j h.0 e) (first_after bs j x h.1 e)

  nth_some : (bs : List MemberAt) (j : ℕ) → j < length bs → (x : MemberAt) × (nth bs j ≡ Some x)
  unfolding nth
  nth_some [] j h = absurd (not-suc-le-zero h)
  nth_some (b ∷ bs) zero h = (b, refl)
  nth_some (b ∷ bs) (suc j) h = nth_some bs j (le_of_suc-le-suc h)

  first_nth : (bs : List MemberAt) (k : ℕ) → Ascending bs → k ≤ length bs → first_over (bound_at bs k) bs ≡ nth bs k
  unfolding bound_at first_over nth over
  first_nth [] zero h l = refl
  first_nth (b ∷ bs) zero h l = refl
  first_nth bs (suc j) h l =
      let w = nth_some bs j l in
      rw w.1 (first_after bs j w.0 h w.1)

  -- The search behind the members that were found finds the next.
  pub search_nth : (ms : List MemberAt) (k : ℕ) → k ≤ length (sorted key ms)
      → least key (bound_at (sorted key ms) k) None ms ≡ nth (sorted key ms) k
  unfolding first_over sorted
  search_nth ms k l = search_first (bound_at (sorted key ms) k) [] ms ∙ first_nth (sorted key ms) k (rising_sorted ms) l

  -- The search over one list and then over another.
  pub least_append : (last : Bound) (best : Option MemberAt) (xs ys : List MemberAt)
      → least key last best (xs ++ ys) ≡ least key last (least key last best xs) ys
  unfolding least
  least_append last best [] ys = refl
  least_append last best (x ∷ xs) ys = least_append last (step key last best x) xs ys

  -- Members none of which is above the last change nothing.
  abbrev pub Passed : Bound → List MemberAt → Type 0
  Passed last [] = Unit {0}
  Passed last (m ∷ ms) = (over last (key m) ≡ false) × Passed last ms

  pub least_passed : (last : Bound) (best : Option MemberAt) (ms : List MemberAt) → Passed last ms → least key last best ms ≡ best
  unfolding least step
  least_passed last best [] h = refl
  least_passed last best (m ∷ ms) h = rw h.0 (least_passed last best ms h.1)

  -- Of a list that rises, whose first is above the last, that one is found.
  no_better : (u : Bool) (m b : MemberAt) → compared m b ≡ Less → cond u (cond (before (key b) (key m)) (Some b) (Some m)) (Some m) ≡ Some m
  unfolding before
  no_better false m b e = refl
  no_better true m b e = rw (order_turn (key m) (key b), e)

  least_stays : (last : Bound) (m : MemberAt) (ms : List MemberAt) → Above m ms → least key last (Some m) ms ≡ Some m
  unfolding least step better
  least_stays last m [] h = refl
  least_stays last m (b ∷ ms) h = rw (no_better (over last (key b)) m b h.0) (least_stays last m ms h.1)

  pub least_first : (last : Bound) (m : MemberAt) (ms : List MemberAt) → over last (key m) ≡ true → Above m ms
      → least key last None (m ∷ ms) ≡ Some m
  unfolding least step better
  least_first last m ms h a = rw h (least_stays last m ms a)

  -- What holds of each member above the last holds of what the search finds.
  module _ (P : MemberAt → Type 0) (last : Bound) where
    abbrev Of : Option MemberAt → Type 0
    Of None = Unit {0}
    Of (Some m) = P m

    of_better : (best : Option MemberAt) (m : MemberAt) → Of best → P m → Of (better key best m)
    unfolding better
    of_better None m h o = o
    of_better (Some b) m h o = go (before (key m) (key b))
      where
        go : (u : Bool) → Of (cond u (Some m) (Some b))
        go true = o
        go false = h

    of_step : (best : Option MemberAt) (m : MemberAt) → Of best → (over last (key m) ≡ true → P m) → Of (step key last best m)
    unfolding step
    of_step best m h o = go (over last (key m)) refl
      where
        go : (u : Bool) → over last (key m) ≡ u → Of (cond u (better key best m) best)
        go true q = of_better best m h (o q)
        go false q = h

    of_least : (best : Option MemberAt) (ms : List MemberAt) → Of best → Each (λ (m : MemberAt). over last (key m) ≡ true → P m) ms
        → Of (least key last best ms)
    unfolding least
    of_least best [] h e = h
    of_least best (m ∷ ms) h e = of_least (step key last best m) ms (of_step best m h e.0) e.1

    pub least_of : (ms : List MemberAt) → Each (λ (m : MemberAt). over last (key m) ≡ true → P m) ms
        → (m : MemberAt) → least key last None ms ≡ Some m → P m
    least_of ms e m q = rw q at (of_least None ms tt e)

  -- So what it finds is above the last; and what holds of all members holds of it.
  pub least_over : (last : Bound) (ms : List MemberAt) (m : MemberAt) → least key last None ms ≡ Some m → over last (key m) ≡ true
  least_over last ms m q = least_of (λ (x : MemberAt). over last (key x) ≡ true) last ms (each ms) m q
    where
      each : (xs : List MemberAt) → Each (λ (x : MemberAt). over last (key x) ≡ true → over last (key x) ≡ true) xs
      each [] = tt
      each (x ∷ xs) = ((λ h. h), each xs)

  pub least_each : (P : MemberAt → Type 0) (last : Bound) (ms : List MemberAt) → Each P ms → (m : MemberAt)
      → least key last None ms ≡ Some m → P m
  least_each P last ms h m q = least_of P last ms (each ms h) m q
    where
      each : (xs : List MemberAt) → Each P xs → Each (λ (x : MemberAt). over last (key x) ≡ true → P x) xs
      each [] h = tt
      each (x ∷ xs) h = ((λ _. h.0), each xs h.1)

  -- A name above the last, taken: those passed before it stay so, and what is above it is above the bound that it sets.
  later_passed : (last : Bound) (x n : Bytes) → over last x ≡ true → over last n ≡ false → over (Some x) n ≡ false
  unfolding over before
  later_passed last x n h k = go (order x n) refl
    where
      go : (o : Ordering) → order x n ≡ o → is_lt o ≡ false
      go Less q = let z : true ≡ false = sym (over_up last x n q h) ∙ k in cc
      go Equal q = refl
      go Greater q = refl

  pub passed_later : (last : Bound) (x : Bytes) (ms : List MemberAt) → over last x ≡ true → Passed last ms → Passed (Some x) ms
  passed_later last x [] h p = tt
  passed_later last x (m ∷ ms) h p = (later_passed last x (key m) h p.0, passed_later last x ms h p.1)

  pub over_less : (x n : Bytes) → order x n ≡ Less → over (Some x) n ≡ true
  unfolding over before
  over_less x n e = rw e

  pub over_itself : (x : Bytes) → over (Some x) x ≡ false
  unfolding over before
  over_itself x = rw (order_refl x)

  -- Some of a list that rises rise too.
  above_kept : (k : Kept) (i : ℕ) (x : MemberAt) (ms : List MemberAt) → Above x ms → Above x (kept_of k i ms)
  unfolding kept_of
  above_kept k i x [] h = tt
  above_kept k i x (m ∷ ms) h = go (is_kept k i m) (above_kept k (i + 1) x ms h.1)
    where
      go : (g : Bool) → Above x (kept_of k (i + 1) ms) → Above x (cond g (m ∷ kept_of k (i + 1) ms) (kept_of k (i + 1) ms))
      go true r = (h.0, r)
      go false r = r

  pub ascending_kept : (k : Kept) (i : ℕ) (ms : List MemberAt) → Ascending ms → Ascending (kept_of k i ms)
  unfolding kept_of
  ascending_kept k i [] h = tt
  ascending_kept k i (m ∷ ms) h = go (is_kept k i m) (ascending_kept k (i + 1) ms h.1)
    where
      go : (g : Bool) → Ascending (kept_of k (i + 1) ms) → Ascending (cond g (m ∷ kept_of k (i + 1) ms) (kept_of k (i + 1) ms))
      go true r = (above_kept k (i + 1) m ms h.0, r)
      go false r = r

  length_by : (o : Ordering) (m b : MemberAt) (bs r : List MemberAt) → length r ≤ suc (length bs)
      → length (by o (m ∷ b ∷ bs) (b ∷ bs) (b ∷ r)) ≤ suc (suc (length bs))
  length_by Less m b bs r h = omega arith
  length_by Equal m b bs r h = omega arith
  length_by Greater m b bs r h = omega arith

  length_put : (m : MemberAt) (bs : List MemberAt) → length (put_in key m bs) ≤ suc (length bs)
  unfolding put_in
  length_put m [] = omega arith
  length_put m (b ∷ bs) = length_by (compared m b) m b bs (put_in key m bs) (length_put m bs)

  length_all : (done ms : List MemberAt) → length (put_all key done ms) ≤ length done + length ms
  unfolding put_all
  length_all done [] = omega arith
  length_all done (m ∷ ms) = let h = length_all (put_in key m done) ms in let k = length_put m done in omega arith

  pub length_sorted : (ms : List MemberAt) → length (sorted key ms) ≤ length ms
  unfolding sorted
  length_sorted ms = let h = length_all [] ms in omega arith

  -- The bound behind the `k`th.
  pub bound_next : (ms : List MemberAt) (k : ℕ) (m : MemberAt) → nth ms k ≡ Some m → bound_at ms (suc k) ≡ Some (key m)
  unfolding bound_at
  bound_next ms k m e = rw e

pub nth_none : (ms : List MemberAt) (k : ℕ) → nth ms k ≡ None → length ms ≤ k
unfolding nth
nth_none [] k e = zero-le
nth_none (b ∷ ms) zero e = let z : ◌≡◌ {A = ℕ} 0 1 = cc in omega arith
nth_none (b ∷ ms) (suc k) e = suc-le-suc (nth_none ms k e)

one_zero : ◌≡◌ {A = ℕ} 0 1 → ⊥
one_zero z = omega arith

pub nth_inside : (ms : List MemberAt) (k : ℕ) (m : MemberAt) → nth ms k ≡ Some m → k < length ms
unfolding nth
nth_inside [] k m e = let z : ◌≡◌ {A = ℕ} 0 1 = cc in let w : ⊥ = omega arith in absurd w
nth_inside (b ∷ bs) zero m e = suc-le-suc zero-le
nth_inside (b ∷ bs) (suc k) m e = suc-le-suc (nth_inside bs k m e)

pub nth_drop : (ms : List MemberAt) (k : ℕ) (m : MemberAt) → nth ms k ≡ Some m → drop k ms ≡ m ∷ drop (suc k) ms
unfolding nth
nth_drop [] k m e = let z : ◌≡◌ {A = ℕ} 0 1 = cc in absurd (one_zero z)
nth_drop (b ∷ ms) zero m e = let q : b ≡ m = cc in rw q
nth_drop (b ∷ ms) (suc k) m e = nth_drop ms k m e

pub length_members : (ks vs : Bytes) (a b p q k : ℕ) → length (members_from ks vs a b p q k) ≡ k
unfolding members_from
length_members ks vs a b p q zero = refl
length_members ks vs a b p q (suc k) =
    ap suc (length_members ks vs (a + 4) (b + 4) (p + length_of (word_at ks a)) (q + length_of (word_at vs b)) k)

-- Members that are left out make the list no longer, and where none is left out it stays.
one_fewer : (g : Bool) (m : MemberAt) (ms : List MemberAt) (n : ℕ) → length ms ≤ n → length (cond g (m ∷ ms) ms) ≤ suc n
one_fewer true m ms n h = omega arith
one_fewer false m ms n h = omega arith

pub length_kept : (k : Kept) (i : ℕ) (ms : List MemberAt) → length (kept_of k i ms) ≤ length ms
unfolding kept_of
length_kept k i [] = omega arith
length_kept k i (m ∷ ms) = one_fewer (is_kept k i m) m (kept_of k (i + 1) ms) (length ms) (length_kept k (i + 1) ms)

pub each_kept : (P : MemberAt → Type 0) (k : Kept) (i : ℕ) (ms : List MemberAt) → Each P ms → Each P (kept_of k i ms)
unfolding kept_of
each_kept P k i [] h = tt
each_kept P k i (m ∷ ms) h = go (is_kept k i m) (each_kept P k (i + 1) ms h.1)
  where
    go : (g : Bool) → Each P (kept_of k (i + 1) ms) → Each P (cond g (m ∷ kept_of k (i + 1) ms) (kept_of k (i + 1) ms))
    go true r = (h.0, r)
    go false r = r

pub kept_all : (i : ℕ) (ms : List MemberAt) → kept_of All i ms ≡ ms
unfolding kept_of is_kept
kept_all i [] = refl
kept_all i (m ∷ ms) = ap (λ (l : List MemberAt). m ∷ l) (kept_all (i + 1) ms)

-- A payload is no longer than an entry can say.
pub bytes_short : (s : Bytes) (x : ItemAt) → length (bytes_at s x) < 2 ^ 28
bytes_short s x = rw length-take (omega (arith, length_lt x.jentry))
