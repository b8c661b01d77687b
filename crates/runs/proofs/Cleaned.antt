-- Strip on values: the plain strip of a value, and strip of a tree of equal value, give equal values.
use mathlib.Core.Path.{◌≡◌, refl, sym, subst, ◌∙◌}
use mathlib.Core.Logic.{inl, inr, ⊎_elim}
use mathlib.Core.Bool.{Bool, true, false, cond}
use Rattle.layout.specs.Bytes.{Bytes}
use Rattle.layout.specs.Answer.{gives}
use Rattle.layout.specs.Tree.{Tree, null, boolean, number, string, extension, array, object, Items, none, item, Members, empty, member, names}
use Rattle.layout.specs.Value.{Same, SameItems}
use Rattle.layout.proofs.Sames.{same_members_sym}
use Rattle.builders.specs.Order.{in_order, find, distinct}
use Rattle.builders.proofs.InOrders.{in_order_rising, rising_distinct, has_not, distinct_cons}
use Rattle.builders.proofs.Proper.{Proper, ProperItems, ProperMembers, same_distinct, Fewer, fewer_in, fewer_distinct}
use Rattle.edits.specs.Find.{◌then◌}
use Rattle.edits.specs.Strip.{is_null as null_tree, kept, stripped, stripped_items, stripped_members}
use Rattle.edits.specs.Strip.{unrepeated, unrepeated_items, unrepeated_members, strip}
use Rattle.edits.proofs.Deletes.{find_first, find_later, equal_or_not, not_in}
use Rattle.edits.proofs.Strips.{strip_finds, strip_given}
use Rattle.runs.specs.Plain.{is_null, plain_strip, strip_items, strip_members}
use Rattle.runs.proofs.Named.{by_test}
use Rattle.runs.proofs.Alikes.{SameFound, same_some, finds_same, same_finds}
use Rattle.runs.proofs.SameNames.{find_same}
use Rattle.std.specs.Prelude.{Some, None, Option}

-- ---- what a name finds

strip_fewer : (ms : Members) → Fewer (names (strip_members ms)) (names ms)
strip_fewer empty = refl
strip_fewer (member n t ms) =
    by_test (is_null t) (λ (a : Members). Fewer (names a) (names (member n t ms))) _ _
    (λ _. inl (strip_fewer ms)) (λ _. inr (names (strip_members ms), refl, strip_fewer ms))

-- What strip leaves of a member that a name found.
abbrev left_of : Option Tree → Option Tree
left_of None = None
left_of (Some t) = cond (is_null t) None (Some (plain_strip t))

-- A name finds what it found, without its null members, unless that is null.
find_cleaned : (x : Bytes) (ms : Members) → distinct (names ms) ≡ true → find x (strip_members ms) ≡ left_of (find x ms)
find_cleaned x empty d = refl
find_cleaned x (member n t ms) d =
    let c = distinct_cons n (names ms) d in
    ⊎_elim
    (λ (e : x ≡ n). subst (λ (y : Bytes). find y (strip_members (member n t ms)) ≡ left_of (find y (member n t ms))) (sym e) (rw (find_first n t ms)
    (here (is_null t) (not_in n (strip_members ms)
    (λ i. has_not n (names ms) c.0 (fewer_in (names (strip_members ms)) (names ms) (strip_fewer ms) n i))))))
    (λ h. rw (find_later x n t ms h) (there (is_null t) h ∙ find_cleaned x ms c.1))
    (equal_or_not x n)
  where
    here : (b : Bool) → find n (strip_members ms) ≡ None
        → find n (cond b (strip_members ms) (member n (plain_strip t) (strip_members ms))) ≡ cond b None (Some (plain_strip t))
    here true g = g
    here false g = find_first n (plain_strip t) (strip_members ms)

    there : (b : Bool) → (x ≡ n → ⊥) → find x (cond b (strip_members ms) (member n (plain_strip t) (strip_members ms))) ≡ find x (strip_members ms)
    there true h = refl
    there false h = find_later x n (plain_strip t) (strip_members ms) h

-- ---- equal values

null_same : (t u : Tree) → Same t u → null_tree u ≡ is_null t
null_same null u h = rw h refl
null_same (boolean x) u h = rw h refl
null_same (number b) u h = rw h refl
null_same (string b) u h = rw h refl
null_same (extension b) u h = rw h refl
null_same (array ts) u h = rw h.1 refl
null_same (object ms) u h = rw h.1 refl

-- Of a member found on both sides: both go, or both are stripped.
one_kept : (b : Bool) (v w : Tree) → Same v w → SameFound (cond b None (Some v)) (cond b None (Some w))
one_kept true v w h = tt
one_kept false v w h = h

mutual
  pub stripped_same : (t u : Tree) → Same t u → Proper t → Same (plain_strip t) (stripped u)
  stripped_same null u h p = rw h refl
  stripped_same (boolean x) u h p = rw h refl
  stripped_same (number b) u h p = rw h refl
  stripped_same (string b) u h p = rw h refl
  stripped_same (extension b) u h p = rw h refl
  stripped_same (array ts) u h p = rw h.1 (stripped_items h.0, refl, stripped_items_same ts h.0 h.2 p)
  stripped_same (object ms) u h p =
      let ns = h.0 in
      let left = in_order (stripped_members ns) in
      let d = same_distinct ns ms (same_members_sym ms ns h.2) p.0 in
      rw h.1 (
        left,
        refl,
        same_finds (strip_members ms) left
            (fewer_distinct (names (strip_members ms)) (names ms) (strip_fewer ms) p.0)
            (rising_distinct (names left) (in_order_rising (stripped_members ns)))
            (λ x. rw (find_cleaned x ms p.0, strip_finds ns d x) (stripped_found x ms (find x ns) (finds_same ms ns h.2 p.0 x) p.1)),
      )

  stripped_items_same : (ts us : Items) → SameItems ts us → ProperItems ts → SameItems (strip_items ts) (stripped_items us)
  stripped_items_same none us h p = rw h refl
  stripped_items_same (item t ts) us h p =
      rw h.2 (stripped h.0, stripped_items h.1, refl, stripped_same t h.0 h.3 p.0, stripped_items_same ts h.1 h.4 p.1)

  -- The same of each member that a name finds.
  stripped_found : (x : Bytes) (ms : Members) (o : Option Tree) → SameFound (find x ms) o → ProperMembers ms
      → SameFound (left_of (find x ms)) (o then λ t. cond (null_tree t) None (Some (stripped t)))
  stripped_found x empty None h p = tt
  stripped_found x empty (Some w) h p = absurd h
  stripped_found x (member n t ms) o h p =
      ⊎_elim
      (λ (e : x ≡ n).
      let found : find x (member n t ms) ≡ Some t = find_same x n t ms e in
      let w = same_some t o (rw found at h) in
      rw (found, w.1, null_same t w.0 w.2)
      (one_kept (is_null t) (plain_strip t) (stripped w.0) (stripped_same t w.0 w.2 p.1)))
      (λ k.
      let later = find_later x n t ms k in
      rw later (stripped_found x ms o (rw later at h) p.2))
      (equal_or_not x n)

-- ---- no name is repeated among the members kept, so that strip is not 8

kept_fewer : (ms : Members) → Fewer (names (kept ms)) (names ms)
kept_fewer empty = refl
kept_fewer (member n t ms) =
    by_test (null_tree t) (λ (a : Members). Fewer (names a) (names (member n t ms))) _ _
    (λ _. inl (kept_fewer ms)) (λ _. inr (names (kept ms), refl, kept_fewer ms))

mutual
  proper_unrepeated : (t : Tree) → Proper t → unrepeated t ≡ true
  proper_unrepeated null p = refl
  proper_unrepeated (boolean x) p = refl
  proper_unrepeated (number b) p = refl
  proper_unrepeated (string b) p = refl
  proper_unrepeated (extension b) p = refl
  proper_unrepeated (array ts) p = items_unrepeated ts p
  proper_unrepeated (object ms) p = rw (fewer_distinct (names (kept ms)) (names ms) (kept_fewer ms) p.0) (members_unrepeated ms p.1)

  items_unrepeated : (ts : Items) → ProperItems ts → unrepeated_items ts ≡ true
  items_unrepeated none p = refl
  items_unrepeated (item t ts) p = rw (proper_unrepeated t p.0) (items_unrepeated ts p.1)

  members_unrepeated : (ms : Members) → ProperMembers ms → unrepeated_members ms ≡ true
  members_unrepeated empty p = refl
  members_unrepeated (member n t ms) p = rw (proper_unrepeated t p.1) (members_unrepeated ms p.2)

pub strip_proper_given : (t : Tree) → Proper t → strip t ≡ gives (stripped t)
strip_proper_given t p = strip_given t (proper_unrepeated t p)

-- ---- what is left is proper

mutual
  pub strip_proper : (t : Tree) → Proper t → Proper (plain_strip t)
  strip_proper null p = p
  strip_proper (boolean x) p = p
  strip_proper (number b) p = p
  strip_proper (string b) p = p
  strip_proper (extension b) p = p
  strip_proper (array ts) p = strip_items_proper ts p
  strip_proper (object ms) p = (
    fewer_distinct (names (strip_members ms)) (names ms) (strip_fewer ms) p.0,
    strip_members_proper ms p.1,
  )

  strip_items_proper : (ts : Items) → ProperItems ts → ProperItems (strip_items ts)
  strip_items_proper none p = tt
  strip_items_proper (item t ts) p = (strip_proper t p.0, strip_items_proper ts p.1)

  strip_members_proper : (ms : Members) → ProperMembers ms → ProperMembers (strip_members ms)
  strip_members_proper empty p = tt
  strip_members_proper (member n t ms) p =
      by_test (is_null t) ProperMembers _ _
      (λ _. strip_members_proper ms p.2) (λ _. (p.0, strip_proper t p.1, strip_members_proper ms p.2))
