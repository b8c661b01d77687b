-- A container split at the item that a step finds: the parts before it, its own, and those behind it; and what becomes of them
-- where the item goes or is written anew.
use Prim.Native.Nat.{ℕ, zero, suc}
use mathlib.Core.Path.{◌≡◌, refl, ap, sym}
use mathlib.Core.Bool.{false}
use mathlib.Core.List.{List, [], ◌∷◌, ◌++◌}
use lib.ListN.{length}
use Rattle.layout.specs.Bytes.{Bytes}
use Rattle.layout.specs.Tree.{Tree, Items, none, item, Members, empty, member, names}
use Rattle.layout.specs.Encode.{Part, name_part, name_parts, item_parts, member_parts, part}
use Rattle.layout.specs.Order.{order, same_bytes}
use Rattle.std.specs.declared.cmp.Ordering.{Ordering}
use Rattle.std.specs.declared.cmp.Ordering.TheVariants.{Less, Equal, Greater}
use Rattle.builders.specs.Order.{by, find}
use Rattle.builders.proofs.Orderings.{order_equal}
use Rattle.edits.specs.Find.{item_at}
use Rattle.edits.specs.Delete.{change_item, change_member}
use Rattle.edits.specs.Spot.{first}
use Rattle.edits.proofs.Deletes.{nothing_some, some_inj}
use Rattle.std.specs.Prelude.{Some, None, Option}

-- An array at its item `k`.
pub record ItemSplit (ts : Items) (k : ℕ) (v : Tree) : Type 0 where
  pub left : List Part
  pub right : List Part
  pub whole : item_parts ts ≡ left ++ (part v ∷ right)
  pub before : length left ≡ k
  pub gone : item_parts (change_item None k ts) ≡ left ++ right
  pub changed : (u : Tree) → item_parts (change_item (Some u) k ts) ≡ left ++ (part u ∷ right)

pub item_split : (ts : Items) (k : ℕ) (v : Tree) → item_at ts k ≡ Some v → ItemSplit ts k v
item_split none k v e = nothing_some e
item_split (item t ts) zero v e =
    let q : t ≡ v = some_inj e in
    record { left = []; right = item_parts ts; whole = rw q; before = refl; gone = refl; changed = λ u. refl }
item_split (item t ts) (suc k) v e =
    let r = item_split ts k v e in
    record {
      left = part t ∷ r.left;
      right = r.right;
      whole = ap (λ (l : List Part). part t ∷ l) r.whole;
      before = ap suc r.before;
      gone = ap (λ (l : List Part). part t ∷ l) r.gone;
      changed = λ u. ap (λ (l : List Part). part t ∷ l) (r.changed u);
    }

-- An object at the first member of a name, which is its member `k`.
pub record MemberSplit (n : Bytes) (ms : Members) (v : Tree) : Type 0 where
  pub count : ℕ
  pub keys_left : List Part
  pub keys_right : List Part
  pub vals_left : List Part
  pub vals_right : List Part
  pub is_first : first n (names ms) ≡ Some count
  pub keys : name_parts (names ms) ≡ keys_left ++ (name_part n ∷ keys_right)
  pub vals : member_parts ms ≡ vals_left ++ (part v ∷ vals_right)
  pub keys_before : length keys_left ≡ count
  pub vals_before : length vals_left ≡ count
  pub keys_gone : name_parts (names (change_member None n ms)) ≡ keys_left ++ keys_right
  pub vals_gone : member_parts (change_member None n ms) ≡ vals_left ++ vals_right
  pub keys_changed : (u : Tree) → names (change_member (Some u) n ms) ≡ names ms
  pub vals_changed : (u : Tree) → member_parts (change_member (Some u) n ms) ≡ vals_left ++ (part u ∷ vals_right)

-- A member before the one found.
later : (n m : Bytes) (t : Tree) (ms : Members) (v : Tree) → same_bytes n m ≡ false
    → ((o : Option Tree) → change_member o n (member m t ms) ≡ member m t (change_member o n ms))
    → MemberSplit n ms v → MemberSplit n (member m t ms) v
unfolding first
later n m t ms v d c r =
    record {
      count = suc r.count;
      keys_left = name_part m ∷ r.keys_left;
      keys_right = r.keys_right;
      vals_left = part t ∷ r.vals_left;
      vals_right = r.vals_right;
      is_first = rw (d, r.is_first);
      keys = ap (λ (l : List Part). name_part m ∷ l) r.keys;
      vals = ap (λ (l : List Part). part t ∷ l) r.vals;
      keys_before = ap suc r.keys_before;
      vals_before = ap suc r.vals_before;
      keys_gone = rw (c None) (ap (λ (l : List Part). name_part m ∷ l) r.keys_gone);
      vals_gone = rw (c None) (ap (λ (l : List Part). part t ∷ l) r.vals_gone);
      keys_changed = λ u. rw (c (Some u)) (ap (λ (l : List Bytes). m ∷ l) (r.keys_changed u));
      vals_changed = λ u. rw (c (Some u)) (ap (λ (l : List Part). part t ∷ l) (r.vals_changed u));
    }

split_by : (n m : Bytes) (t : Tree) (ms : Members) (v : Tree) (o : Ordering) → order n m ≡ o
    → by o (find n ms) (Some t) (find n ms) ≡ Some v → (find n ms ≡ Some v → MemberSplit n ms v) → MemberSplit n (member m t ms) v
unfolding first same_bytes
split_by n m t ms v Less q e rest = later n m t ms v (rw q) (λ o. rw q) (rest e)
split_by n m t ms v Greater q e rest = later n m t ms v (rw q) (λ o. rw q) (rest e)
split_by n m t ms v Equal q e rest =
    let a : n ≡ m = order_equal n m q in
    let b : t ≡ v = some_inj e in
    record {
      count = 0;
      keys_left = [];
      keys_right = name_parts (names ms);
      vals_left = [];
      vals_right = member_parts ms;
      is_first = rw q;
      keys = rw a;
      vals = rw b;
      keys_before = refl;
      vals_before = refl;
      keys_gone = rw q;
      vals_gone = rw q;
      keys_changed = λ u. rw q;
      vals_changed = λ u. rw q;
    }

pub member_split : (n : Bytes) (ms : Members) (v : Tree) → find n ms ≡ Some v → MemberSplit n ms v
member_split n empty v e = nothing_some e
member_split n (member m t ms) v e = split_by n m t ms v (order n m) refl e (member_split n ms v)

-- Where no member has the name.
none_by : (n m : Bytes) (t : Tree) (ms : Members) (o : Ordering) → order n m ≡ o → by o (find n ms) (Some t) (find n ms) ≡ None
    → (find n ms ≡ None → first n (names ms) ≡ None) → first n (m ∷ names ms) ≡ None
unfolding first same_bytes
none_by n m t ms Less q e rest = rw (q, rest e)
none_by n m t ms Greater q e rest = rw (q, rest e)
none_by n m t ms Equal q e rest = nothing_some (sym e)

pub no_first : (n : Bytes) (ms : Members) → find n ms ≡ None → first n (names ms) ≡ None
unfolding first
no_first n empty e = refl
no_first n (member m t ms) e = none_by n m t ms (order n m) refl e (no_first n ms)
