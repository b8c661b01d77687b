-- Equal values: document 01, "The value of a number or extension is its kind and payload; that of an object, its names with
-- their values, in no order; of an array, its items' values in order; of a string, its text; null, true and false are their
-- own; a scalar record has its item's. Values of unlike sort differ".
use Rattle.std.specs.Prelude.{◌≡◌, ◌⊎◌, Bool, true, false, cond, ◌&&◌, eqb}
use Rattle.layout.specs.Bytes.{Bytes}
use Rattle.layout.specs.Entry.{code}
use Rattle.layout.specs.Tree.{Tree, null, boolean, number, string, extension, array, object, Items, none, item, Members, empty, member, kind}
use Rattle.layout.specs.Encode.{payload}
use Rattle.layout.specs.Order.{same_bytes}
use Rattle.layout.specs.declared.item.Kind.{Kind}

-- `ms` is `rest` with the member `n`, `t` put in at some place.
abbrev pub Taken : Bytes → Tree → Members → Members → Type 0
Taken n t empty rest = ⊥
Taken n t (member m u ms) rest =
    ((n ≡ m) × (t ≡ u) × (rest ≡ ms)) ⊎ ((r : Members) × (rest ≡ member m u r) × Taken n t ms r)

abbrev mutual
  pub Same : Tree → Tree → Type 0
  Same null u = u ≡ null
  Same (boolean x) u = u ≡ boolean x
  Same (number b) u = u ≡ number b
  Same (string b) u = u ≡ string b
  Same (extension b) u = u ≡ extension b
  Same (array ts) u = (us : Items) × (u ≡ array us) × SameItems ts us
  Same (object ms) u = (ns : Members) × (u ≡ object ns) × SameMembers ms ns

  pub SameItems : Items → Items → Type 0
  SameItems none us = us ≡ none
  SameItems (item t ts) us = (u : Tree) × (r : Items) × (us ≡ item u r) × Same t u × SameItems ts r

  -- Each member of one is a member of the other, and none is left over.
  pub SameMembers : Members → Members → Type 0
  SameMembers empty ns = ns ≡ empty
  SameMembers (member n t ms) ns = (u : Tree) × (r : Members) × Taken n u ns r × Same t u × SameMembers ms r

-- ---- The same as a test, which computes. That it says what `Same` says is `same_test` of proofs/Sames.antt.

-- "Its kind and payload". A string's payload is its text; null, true and false have none.
unfoldable pub same_kind : Kind → Kind → Bool
same_kind k l = eqb (code k) (code l)

abbrev pub same_scalar : Tree → Tree → Bool
same_scalar t u = same_kind (kind t) (kind u) && same_bytes (payload t) (payload u)

-- "Values of unlike sort differ": only an array passes a test of items, and only an object one of members.
abbrev pub of_array : (Items → Bool) → Tree → Bool
of_array test null = false
of_array test (boolean x) = false
of_array test (number b) = false
of_array test (string b) = false
of_array test (extension b) = false
of_array test (array us) = test us
of_array test (object ns) = false

abbrev pub of_object : (Members → Bool) → Tree → Bool
of_object test null = false
of_object test (boolean x) = false
of_object test (number b) = false
of_object test (string b) = false
of_object test (extension b) = false
of_object test (array us) = false
of_object test (object ns) = test ns

-- The first member of the name `n` with a value that passes is taken out, and `rest` asked of those that are left; no where there is
-- none.
abbrev pub take_out : Bytes → (Tree → Bool) → (Members → Bool) → Members → Bool
take_out n value rest empty = false
take_out n value rest (member m u ns) =
    cond (same_bytes n m && value u) (rest ns) (take_out n value (λ r. rest (member m u r)) ns)

abbrev mutual
  pub same : Tree → Tree → Bool
  same null u = same_scalar null u
  same (boolean x) u = same_scalar (boolean x) u
  same (number b) u = same_scalar (number b) u
  same (string b) u = same_scalar (string b) u
  same (extension b) u = same_scalar (extension b) u
  same (array ts) u = of_array (λ us. same_items ts us) u
  same (object ms) u = of_object (λ ns. same_members ms ns) u

  -- "Its items' values in order."
  pub same_items : Items → Items → Bool
  same_items none none = true
  same_items none (item u us) = false
  same_items (item t ts) none = false
  same_items (item t ts) (item u us) = same t u && same_items ts us

  -- "Its names with their values, in no order": each member of one takes its like out of the other, and none is left over.
  pub same_members : Members → Members → Bool
  same_members empty empty = true
  same_members empty (member m u ns) = false
  same_members (member n t ms) ns = take_out n (λ u. same t u) (λ r. same_members ms r) ns
