-- One turn of concat: which of the next members of both sides is taken: it is the next one in byte order of both in a row, of equal
-- names the right one's. And where that leaves each side.
use Prim.Native.Nat.{ℕ}
use mathlib.Core.Path.{◌≡◌, refl, sym, ap, ap₂, subst, ◌∙◌}
use mathlib.Core.Bool.{true, cond}
use mathlib.Core.List.{List, ◌++◌}
use lib.ListN.{length}
use Rattle.layout.specs.Bytes.{Bytes}
use Rattle.std.specs.Ordering.{is_lt}
use Rattle.layout.specs.Order.{order, before}
use Rattle.std.specs.declared.cmp.Ordering.{Ordering}
use Rattle.std.specs.declared.cmp.Ordering.TheVariants.{Less, Equal, Greater}
use Rattle.builders.specs.Order.{by}
use Rattle.layout.specs.Parts.{bytes_at, name_in, value_in, members_at}
use Rattle.builders.specs.Search.{Bound, over, least}
use Rattle.builders.specs.declared.search.Kept.TheVariants.{All}
use Rattle.layout.specs.declared.parts.MemberAt.{MemberAt}
use Rattle.builders.proofs.Orderings.{turned, order_turn, order_equal}
use Rattle.builders.proofs.Searches.{least_over, kept_all}
use Rattle.layout.specs.Parts.{members_of}
use Rattle.edits.specs.Members.{Next}
use Rattle.edits.specs.Merge.{chosen, moved_member, moved_all, in_a_row}
use Rattle.edits.specs.declared.members.Ahead.{Ahead}
use Rattle.edits.specs.declared.merge.Turn.{Turn}
use Rattle.edits.specs.declared.merge.Turn.TheVariants.{Left, Right, Both}
use Rattle.edits.proofs.Sorteds.{ObjectAt}
use Rattle.edits.proofs.Aheads.{found_of, AheadOf, next_is, below_next, ahead_taken, ahead_passed, next_passed}
use Rattle.edits.proofs.Choices.{lesser, search_both, found_each, search_agrees, moved_found, search_moved}
use Rattle.edits.proofs.Moves.{moved_name, SameName, SameValue, same_names, same_values}
use Rattle.std.specs.Prelude.{Some, None, Option}

-- Which is taken, where both sides have a next member.
module _ (l r : Bytes) (x y : Option (MemberAt × Ahead)) (i k : MemberAt) (a c : Ahead) (p : x ≡ Some (i, a)) (q : y ≡ Some (k, c)) (u v : Bytes) (o : Ordering)
    (eu : u ≡ bytes_at l i.key) (ev : v ≡ bytes_at r k.key) (eo : o ≡ order u v) where
  compared : order (name_in l i) (name_in r k) ≡ o
  compared = sym (eo ∙ ap₂ order eu ev)

  pub turn_less : o ≡ Less → Some (Left i a) ≡ chosen l r x y
  turn_less e = rw (p, q, compared, e)

  pub turn_equal : o ≡ Equal → Some (Both k a c) ≡ chosen l r x y
  turn_equal e = rw (p, q, compared, e)

  pub turn_greater : o ≡ Greater → Some (Right k c) ≡ chosen l r x y
  turn_greater e = rw (p, q, compared, e)

-- What a turn takes, as a member of both together.
abbrev pub turn_found : ℕ → Option Turn → Option MemberAt
turn_found k (Some (Left m a)) = Some (moved_member k m)
turn_found k (Some (Right m c)) = Some m
turn_found k (Some (Both m a c)) = Some m
turn_found k None = None

-- The member that a turn takes from the right side.
abbrev pub FromRight : MemberAt → Option Turn → Type 0
FromRight w (Some (Left i a)) = ⊥
FromRight w (Some (Right k c)) = w ≡ k
FromRight w (Some (Both k a c)) = w ≡ k
FromRight w None = ⊥

-- A side behind a bound: its next member, from what was ahead when it was looked for.
pub record Side (s : Bytes) (n : ℕ) (b : Bound) (t : Option (MemberAt × Ahead)) : Type 0 where
  pub from : Ahead
  pub ahead : AheadOf s n All b from
  pub next : Next s All b from t

module _ (s : Bytes) (n : ℕ) (b : Bound) (t : Option (MemberAt × Ahead)) (h : Side s n b t) where
  side_is : found_of t ≡ least (name_in s) b None (members_at s s (members_of s n) n)
  side_is =
      next_is s n All b h.from h.ahead t h.next
      ∙ ap (least (name_in s) b None) (kept_all 0 (members_at s s (members_of s n) n))

  -- Its next member is above the bound.
  side_over : (m : MemberAt) (a : Ahead) → t ≡ Some (m, a) → over b (name_in s m) ≡ true
  side_over m a q = least_over (name_in s) b (members_at s s (members_of s n) n) m (sym side_is ∙ ap found_of q)

  -- The bound moves to it.
  side_taken : (m : MemberAt) (a : Ahead) → t ≡ Some (m, a) → AheadOf s n All (Some (name_in s m)) a
  side_taken m a q =
      ahead_taken s n All b h.from h.ahead m a (subst (Next s All b h.from) q h.next) (side_over m a q)

  -- Or to a name of the other side, before it.
  side_passed : (x : Bytes) → over b x ≡ true → below_next s n All b h.from h.ahead x t → Side s n (Some x) t
  side_passed x o l =
      record {
        from = h.from;
        ahead = ahead_passed s n All b h.from h.ahead t x h.next o l;
        next = next_passed s n All b h.from h.ahead t x h.next o l;
      }

module _ (l : Bytes) (m : ℕ) (r : Bytes) (n : ℕ) where
  abbrev lefts : List MemberAt
  lefts = members_at l l (members_of l m) m

  abbrev rights : List MemberAt
  rights = members_at r r (members_of r n) n

  -- Where a turn leaves both sides: the next of a side is still to be looked for where it was taken or passed over.
  abbrev pub Onward : Option (MemberAt × Ahead) → Option (MemberAt × Ahead) → Option Turn → Type 0
  Onward x y (Some (Left i a)) = AheadOf l m All (Some (name_in l i)) a × Side r n (Some (name_in l i)) y
  Onward x y (Some (Right k c)) = Side l m (Some (name_in r k)) x × AheadOf r n All (Some (name_in r k)) c
  Onward x y (Some (Both k a c)) = AheadOf l m All (Some (name_in r k)) a × AheadOf r n All (Some (name_in r k)) c
  Onward x y None = Unit {0}

  module _ (hr : ObjectAt r n) (b : Bound) where
    -- A member that is found on the right has the same name and value in both together.
    right_same : (x : MemberAt) → Some x ≡ least (name_in r) b None rights → name_in (r ++ l) x ≡ name_in r x
    right_same x e = found_each (name_in r) (SameName r l) b rights x (same_names r l rights hr.members hr.stand) (sym e)

    right_value : (x : MemberAt) → Some x ≡ least (name_in r) b None rights → value_in (r ++ l) x ≡ value_in r x
    right_value x e = found_each (name_in r) (SameValue r l) b rights x (same_values r l rights hr.members hr.stand) (sym e)

    -- The search over both in a row, by what it finds on each side.
    row_found : least (name_in (r ++ l)) b None (in_a_row l m r n)
        ≡ lesser (name_in (r ++ l)) (least (name_in r) b None rights) (moved_found (length r) (least (name_in l) b None lefts))
    row_found =
        search_both (name_in (r ++ l)) b rights (moved_all (length r) lefts)
        ∙ ap₂ (lesser (name_in (r ++ l)))
        (search_agrees (name_in (r ++ l)) (name_in r) b rights (same_names r l rights hr.members hr.stand))
        (search_moved (name_in l) (name_in (r ++ l)) (length r) (moved_name r l) b lefts)

    chosen_is : (x y : Option (MemberAt × Ahead)) → found_of y ≡ least (name_in r) b None rights
        → turn_found (length r) (chosen l r x y) ≡ lesser (name_in (r ++ l)) (found_of y) (moved_found (length r) (found_of x))
    unfolding before
    chosen_is None None f = refl
    chosen_is None (Some (k, c)) f = refl
    chosen_is (Some (i, a)) None f = refl
    chosen_is (Some (i, a)) (Some (k, c)) f =
        rw (moved_name r l i, right_same k f) (go (order (name_in l i) (name_in r k)))
      where
        go : (o : Ordering) → turn_found (length r) (by o (Some (Left i a)) (Some (Both k a c)) (Some (Right k c)))
            ≡ cond (is_lt o) (Some (moved_member (length r) i)) (Some k)
        go Less = refl
        go Equal = refl
        go Greater = refl

    -- The bound moves to the name taken: the side that gave it is behind it, and of the other side nothing but an equal name.
    onward_is : (x y : Option (MemberAt × Ahead)) → Side l m b x → Side r n b y → Onward x y (chosen l r x y)
    onward_is None None e f = tt
    onward_is None (Some (k, c)) e f = (
      side_passed l m b None e (name_in r k) (side_over r n b (Some (k, c)) f k c refl) tt,
      side_taken r n b (Some (k, c)) f k c refl,
    )
    onward_is (Some (i, a)) None e f = (
      side_taken l m b (Some (i, a)) e i a refl,
      side_passed r n b None f (name_in l i) (side_over l m b (Some (i, a)) e i a refl) tt,
    )
    onward_is (Some (i, a)) (Some (k, c)) e f = go (order (name_in l i) (name_in r k)) refl
      where
        go : (o : Ordering) → order (name_in l i) (name_in r k) ≡ o
            → Onward (Some (i, a)) (Some (k, c)) (by o (Some (Left i a)) (Some (Both k a c)) (Some (Right k c)))
        go Less q = (
          side_taken l m b (Some (i, a)) e i a refl,
          side_passed r n b (Some (k, c)) f (name_in l i) (side_over l m b (Some (i, a)) e i a refl) q,
        )
        go Equal q = (
          rw (order_equal (name_in l i) (name_in r k) q) at (side_taken l m b (Some (i, a)) e i a refl),
          side_taken r n b (Some (k, c)) f k c refl,
        )
        go Greater q = (
          side_passed l m b (Some (i, a)) e (name_in r k) (side_over r n b (Some (k, c)) f k c refl) (order_turn (name_in l i) (name_in r k) ∙ ap turned q),
          side_taken r n b (Some (k, c)) f k c refl,
        )

    module _ (x y : Option (MemberAt × Ahead)) (hx : Side l m b x) (hy : Side r n b y) (t : Option Turn) (e : t ≡ chosen l r x y) where
      -- A turn takes the next of both.
      pub turn_is : turn_found (length r) t ≡ least (name_in (r ++ l)) b None (in_a_row l m r n)
      turn_is =
          ap (turn_found (length r)) e
          ∙ chosen_is x y (side_is r n b y hy)
          ∙ ap₂ (λ (u v : Option MemberAt). lesser (name_in (r ++ l)) u (moved_found (length r) v)) (side_is r n b y hy) (side_is l m b x hx)
          ∙ sym row_found

      pub onward : Onward x y t
      onward = rw e (onward_is x y hx hy)

      -- A member that is taken from the right is found there.
      from_right : (w : MemberAt) → FromRight w t → Some w ≡ least (name_in r) b None rights
      from_right w p = go x y (subst (FromRight w) e p) ∙ side_is r n b y hy
        where
          go : (u v : Option (MemberAt × Ahead)) → FromRight w (chosen l r u v) → Some w ≡ found_of v
          go None None p = absurd p
          go None (Some (k, d)) p = ap Some p
          go (Some (i, a)) None p = absurd p
          go (Some (i, a)) (Some (k, d)) p = by_order (order (name_in l i) (name_in r k)) p
            where
              by_order : (o : Ordering) → FromRight w (by o (Some (Left i a)) (Some (Both k a d)) (Some (Right k d))) → Some w ≡ Some k
              by_order Less p = absurd p
              by_order Equal p = ap Some p
              by_order Greater p = ap Some p

      pub taken_name : (w : MemberAt) → FromRight w t → name_in (r ++ l) w ≡ name_in r w
      taken_name w p = right_same w (from_right w p)

      pub taken_value : (w : MemberAt) → FromRight w t → value_in (r ++ l) w ≡ value_in r w
      taken_value w p = right_value w (from_right w p)
