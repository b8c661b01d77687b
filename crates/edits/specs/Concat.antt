-- Concat: document 01, "right members first, then left names not yet seen. A name repeated on the right is 8; on the left the first
-- counts. Two arrays join; any other pair becomes an array, a non-array side being one item."
use Rattle.layout.specs.Answer.{Answer, gives, ◌>>=◌, require}
use Rattle.layout.specs.Tree.{Tree, null, boolean, number, string, extension, array, object, Items, none, item, Members, names}
use Rattle.layout.specs.declared.refusal.Refusal.TheVariants.{Repeated}
use Rattle.builders.specs.Order.{in_order, follow, distinct}
use Rattle.builders.specs.Build.{join}
use Rattle.std.specs.Prelude.{Some, None, Option}

-- "A non-array side being one item."
abbrev pub as_items : Tree → Items
as_items null = item null none
as_items (boolean x) = item (boolean x) none
as_items (number b) = item (number b) none
as_items (string b) = item (string b) none
as_items (extension b) = item (extension b) none
as_items (array ts) = ts
as_items (object ms) = item (object ms) none

-- The members of an object; nothing else has any.
abbrev pub members_in : Tree → Option Members
members_in null = None
members_in (boolean x) = None
members_in (number b) = None
members_in (string b) = None
members_in (extension b) = None
members_in (array ts) = None
members_in (object ms) = Some ms

-- Two objects, the left one first: "right members first, then left names not yet seen", in byte order of the names, of equal names
-- the first.
abbrev pub overlay : Members → Members → Answer Tree
overlay ls rs = do
  _ ← require (distinct (names rs)) Repeated
  gives (object (in_order (follow rs ls)))

-- That for two objects, and `other` for any other pair.
abbrev pub overlay_or : Tree → Option Members → Option Members → Answer Tree
overlay_or other None rs = gives other
overlay_or other (Some ls) None = gives other
overlay_or other (Some ls) (Some rs) = overlay ls rs

-- "Two arrays join; any other pair becomes an array."
unfoldable pub concat : Tree → Tree → Answer Tree
unfolding ◌>>=◌ require distinct
concat t u = overlay_or (array (join (as_items t) (as_items u))) (members_in t) (members_in u)
