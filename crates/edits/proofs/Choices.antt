-- The search for the next name over two lists: it finds the better of what it finds in each. What it finds behind a name that is
-- below what it found before. And what it finds where names are read in another way that tells each the same.
use Prim.Native.Nat.{ℕ}
use mathlib.Core.Path.{◌≡◌, refl, sym, ap, subst, ◌∙◌}
use mathlib.Core.Bool.{Bool, true, false, cond}
use mathlib.Core.List.{List, [], ◌∷◌, ◌++◌}
use Rattle.layout.proofs.Lists.{Each}
use Rattle.layout.specs.Bytes.{Bytes}
use Rattle.std.specs.Ordering.{is_lt}
use Rattle.layout.specs.Order.{order, before}
use Rattle.std.specs.declared.cmp.Ordering.{Ordering}
use Rattle.std.specs.declared.cmp.Ordering.TheVariants.{Less, Equal, Greater}
use Rattle.builders.specs.Search.{Bound, over, better, step, least}
use Rattle.layout.specs.declared.parts.MemberAt.{MemberAt}
use Rattle.builders.proofs.Orderings.{turned, order_turn, order_equal, order_trans}
use Rattle.builders.proofs.Searches.{less_is, over_up, over_less, passed_later, least_append}
use Rattle.edits.specs.Merge.{moved_member, moved_all}
use Rattle.edits.proofs.Deletes.{false_true}
use Rattle.std.specs.Prelude.{Some, None, Option}

-- Three names: what is before holds from the first to the last, and what is not before too.
before_less : (a b : Bytes) → before a b ≡ true → order a b ≡ Less
unfolding before
before_less a b h = less_is (order a b) h

before_trans : (a b c : Bytes) → before a b ≡ true → before b c ≡ true → before a c ≡ true
unfolding over
before_trans a b c h k = over_up (Some a) b c (before_less b c k) h

not_before : (a b c : Bytes) → before b a ≡ false → before c b ≡ false → before c a ≡ false
unfolding before
not_before a b c h k = go (order b a) (order c a) refl refl
  where
    still : order c b ≡ Less → is_lt Less ≡ false
    still e = ap is_lt (sym e) ∙ k

    go : (o p : Ordering) → order b a ≡ o → order c a ≡ p → is_lt (order c a) ≡ false
    go o Equal q z = ap is_lt z
    go o Greater q z = ap is_lt z
    go Less Less q z = false_true (sym h ∙ ap is_lt q)
    go Equal Less q z = ap is_lt z ∙ still (ap (order c) (order_equal b a q) ∙ z)
    go Greater Less q z = ap is_lt z ∙ still (order_trans c a b z (order_turn b a ∙ ap turned q))

below_more : (a b c : Bytes) → order a b ≡ Less → before c b ≡ false → order a c ≡ Less
unfolding before
below_more a b c h k = go (order a c) refl
  where
    wrong : order c b ≡ Less → order a c ≡ Less
    wrong e = false_true (sym k ∙ ap is_lt e)

    go : (o : Ordering) → order a c ≡ o → order a c ≡ Less
    go Less q = q
    go Equal q = wrong (ap (λ (z : Bytes). order z b) (sym (order_equal a c q)) ∙ h)
    go Greater q = wrong (order_trans c a b (order_turn a c ∙ ap turned q) h)

module _ (key : MemberAt → Bytes) where
  -- Of two that were found the one with the lesser name, of equal names the first.
  abbrev pub lesser : Option MemberAt → Option MemberAt → Option MemberAt
  lesser None g = g
  lesser (Some a) None = Some a
  lesser (Some a) (Some b) = cond (before (key b) (key a)) (Some b) (Some a)

  lesser_none : (f : Option MemberAt) → lesser f None ≡ f
  lesser_none None = refl
  lesser_none (Some a) = refl

  lesser_three : (a m b : MemberAt) (u v : Bool) → before (key m) (key a) ≡ u → before (key b) (key m) ≡ v
      → lesser (cond u (Some m) (Some a)) (Some b) ≡ lesser (Some a) (cond v (Some b) (Some m))
  lesser_three a m b true true p q = rw (q, before_trans (key b) (key m) (key a) q p)
  lesser_three a m b true false p q = rw (q, p)
  lesser_three a m b false true p q = refl
  lesser_three a m b false false p q = rw (p, not_before (key a) (key m) (key b) p q)

  lesser_better : (f g : Option MemberAt) (m : MemberAt) → lesser (better key f m) g ≡ lesser f (lesser (Some m) g)
  unfolding better
  lesser_better None g m = refl
  lesser_better (Some a) None m = lesser_none (cond (before (key m) (key a)) (Some m) (Some a))
  lesser_better (Some a) (Some b) m = lesser_three a m b (before (key m) (key a)) (before (key b) (key m)) refl refl

  -- A search that starts from one that was found.
  least_lesser : (last : Bound) (f : Option MemberAt) (ms : List MemberAt) → least key last f ms ≡ lesser f (least key last None ms)
  unfolding least step
  least_lesser last f [] = sym (lesser_none f)
  least_lesser last f (m ∷ ms) = go (over last (key m)) (λ g. least_lesser last g ms)
    where
      go : (u : Bool) → ((g : Option MemberAt) → least key last g ms ≡ lesser g (least key last None ms))
          → least key last (cond u (better key f m) f) ms ≡ lesser f (least key last (cond u (better key None m) None) ms)
      go true ih = ih (better key f m) ∙ lesser_better f (least key last None ms) m ∙ ap (lesser f) (sym (later ih))
        where
          later : ((g : Option MemberAt) → least key last g ms ≡ lesser g (least key last None ms))
              → least key last (better key None m) ms ≡ lesser (Some m) (least key last None ms)
          later ih = ih (better key None m) ∙ lesser_better None (least key last None ms) m
      go false ih = ih f

  pub search_both : (last : Bound) (xs ys : List MemberAt)
      → least key last None (xs ++ ys) ≡ lesser (least key last None xs) (least key last None ys)
  search_both last xs ys = least_append key last None xs ys ∙ least_lesser last (least key last None xs) ys

-- A name below what was found, if anything was.
abbrev pub Below : (MemberAt → Bytes) → Bytes → Option MemberAt → Type 0
Below key x None = Unit {0}
Below key x (Some m) = order x (key m) ≡ Less

-- The bound moves to a name above it and below what was found: the search finds the same.
module _ (key : MemberAt → Bytes) (last : Bound) (x : Bytes) (h : over last x ≡ true) where
  below_first : (a : MemberAt) (g : Option MemberAt) → Below key x (lesser key (Some a) g) → order x (key a) ≡ Less
  below_first a None l = l
  below_first a (Some b) l = go (before (key b) (key a)) refl l
    where
      go : (u : Bool) → before (key b) (key a) ≡ u → Below key x (cond u (Some b) (Some a)) → order x (key a) ≡ Less
      go true q l = order_trans x (key b) (key a) l (before_less (key b) (key a) q)
      go false q l = l

  below_both : (f : Option MemberAt) (m : MemberAt) (g : Option MemberAt) → Below key x (lesser key (better key f m) g) → order x (key m) ≡ Less
  unfolding better
  below_both None m g l = below_first m g l
  below_both (Some a) m g l = go (before (key m) (key a)) refl l
    where
      go : (u : Bool) → before (key m) (key a) ≡ u → Below key x (lesser key (cond u (Some m) (Some a)) g) → order x (key m) ≡ Less
      go true q l = below_first m g l
      go false q l = below_more x (key a) (key m) (below_first a g l) q

  least_later : (f : Option MemberAt) (ms : List MemberAt) → Below key x (least key last f ms) → least key (Some x) f ms ≡ least key last f ms
  unfolding least step
  least_later f [] l = refl
  least_later f (m ∷ ms) l = go (over last (key m)) refl l (λ g. least_later g ms)
    where
      go : (u : Bool) → over last (key m) ≡ u → Below key x (least key last (cond u (better key f m) f) ms)
          → ((g : Option MemberAt) → Below key x (least key last g ms) → least key (Some x) g ms ≡ least key last g ms)
          → least key (Some x) (cond (over (Some x) (key m)) (better key f m) f) ms ≡ least key last (cond u (better key f m) f) ms
      go true q l ih =
          let b : Below key x (lesser key (better key f m) (least key last None ms)) = rw (least_lesser key last (better key f m) ms) at l in
          rw (over_less key x (key m) (below_both f m (least key last None ms) b)) (ih (better key f m) l)
      go false q l ih = rw (passed_later key last x (m ∷ []) h (q, tt)).0 (ih f l)

  pub search_later : (ms : List MemberAt) (r : Option MemberAt) → least key last None ms ≡ r → Below key x r → least key (Some x) None ms ≡ r
  search_later ms r e l = least_later None ms (subst (Below key x) (sym e) l) ∙ e

-- What holds of the member that was found, where it holds of each.
abbrev OfFound : (MemberAt → Type 0) → Option MemberAt → Type 0
OfFound P None = Unit {0}
OfFound P (Some m) = P m

module _ (key : MemberAt → Bytes) (P : MemberAt → Type 0) (last : Bound) where
  better_of : (f : Option MemberAt) (m : MemberAt) → OfFound P f → P m → OfFound P (better key f m)
  unfolding better
  better_of None m h p = p
  better_of (Some a) m h p = go (before (key m) (key a))
    where
      go : (u : Bool) → OfFound P (cond u (Some m) (Some a))
      go true = p
      go false = h

  step_of : (f : Option MemberAt) (m : MemberAt) → OfFound P f → P m → OfFound P (step key last f m)
  unfolding step
  step_of f m h p = go (over last (key m))
    where
      go : (u : Bool) → OfFound P (cond u (better key f m) f)
      go true = better_of f m h p
      go false = h

  least_of : (f : Option MemberAt) (ms : List MemberAt) → OfFound P f → Each P ms → OfFound P (least key last f ms)
  unfolding least
  least_of f [] h a = h
  least_of f (m ∷ ms) h a = least_of (step key last f m) ms (step_of f m h a.0) a.1

  -- What holds of each holds of the one that is found.
  pub found_each : (ms : List MemberAt) (m : MemberAt) → Each P ms → least key last None ms ≡ Some m → P m
  found_each ms m a e = rw e at (least_of None ms tt a)

-- Two ways to read names that agree on each member find the same.
module _ (key key' : MemberAt → Bytes) (last : Bound) where
  abbrev Agree : MemberAt → Type 0
  Agree m = key m ≡ key' m

  step_agrees : (f : Option MemberAt) (m : MemberAt) → OfFound Agree f → Agree m → step key last f m ≡ step key' last f m
  unfolding step better
  step_agrees None m h p = rw p
  step_agrees (Some a) m h p = rw (p, h)

  least_agrees : (f : Option MemberAt) (ms : List MemberAt) → OfFound Agree f → Each Agree ms → least key last f ms ≡ least key' last f ms
  unfolding least
  least_agrees f [] h a = refl
  least_agrees f (m ∷ ms) h a =
      ap (λ (g : Option MemberAt). least key last g ms) (step_agrees f m h a.0)
      ∙ least_agrees (step key' last f m) ms (step_of key' Agree last f m h a.0) a.1

  pub search_agrees : (ms : List MemberAt) → Each Agree ms → least key last None ms ≡ least key' last None ms
  search_agrees ms a = least_agrees None ms tt a

-- Among members that were moved, each with the name that it had, the search finds the one that it found, moved.
abbrev pub moved_found : ℕ → Option MemberAt → Option MemberAt
moved_found k None = None
moved_found k (Some m) = Some (moved_member k m)

module _ (key key' : MemberAt → Bytes) (k : ℕ) (same : (m : MemberAt) → key' (moved_member k m) ≡ key m) (last : Bound) where
  step_moved : (f : Option MemberAt) (m : MemberAt) → step key' last (moved_found k f) (moved_member k m) ≡ moved_found k (step key last f m)
  unfolding step better
  step_moved None m = rw (same m) (go (over last (key m)))
    where
      go : (u : Bool) → cond u (Some (moved_member k m)) None ≡ moved_found k (cond u (Some m) None)
      go true = refl
      go false = refl
  step_moved (Some a) m = rw (same m, same a) (go (over last (key m)) (before (key m) (key a)))
    where
      go : (u v : Bool) → cond u (cond v (Some (moved_member k m)) (Some (moved_member k a))) (Some (moved_member k a))
          ≡ moved_found k (cond u (cond v (Some m) (Some a)) (Some a))
      go true true = refl
      go true false = refl
      go false v = refl

  least_moved : (f : Option MemberAt) (ms : List MemberAt) → least key' last (moved_found k f) (moved_all k ms) ≡ moved_found k (least key last f ms)
  unfolding least
  least_moved f [] = refl
  least_moved f (m ∷ ms) =
      ap (λ (g : Option MemberAt). least key' last g (moved_all k ms)) (step_moved f m) ∙ least_moved (step key last f m) ms

  pub search_moved : (ms : List MemberAt) → least key' last None (moved_all k ms) ≡ moved_found k (least key last None ms)
  search_moved ms = least_moved None ms
