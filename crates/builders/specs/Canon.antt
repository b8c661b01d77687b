-- The one sound tree of a value: its members in byte order at every level. `canon_sound`, `same_canon` and `same_canons` of
-- proofs/Canons.antt say that it is sound, has the same value, and that values are equal exactly where these trees are.
use Rattle.layout.specs.Tree.{Tree, null, boolean, number, string, extension, array, object, Items, none, item, Members, empty, member}
use Rattle.builders.specs.Order.{in_order}
use Rattle.std.specs.Prelude.{Some, None, Option}

abbrev mutual
  pub canon : Tree → Tree
  canon null = null
  canon (boolean x) = boolean x
  canon (number b) = number b
  canon (string b) = string b
  canon (extension b) = extension b
  canon (array ts) = array (canon_items ts)
  canon (object ms) = object (in_order (canon_members ms))

  pub canon_items : Items → Items
  canon_items none = none
  canon_items (item t ts) = item (canon t) (canon_items ts)

  -- Each member's value, in the order in which the members stand.
  pub canon_members : Members → Members
  canon_members empty = empty
  canon_members (member n t ms) = member n (canon t) (canon_members ms)

abbrev pub canon_found : Option Tree → Option Tree
canon_found None = None
canon_found (Some t) = Some (canon t)
