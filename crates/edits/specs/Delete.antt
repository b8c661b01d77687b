-- Delete: document 01, "An empty path or one that finds nothing returns the input's bytes. Otherwise every container above the
-- deleted item is written anew; in its objects the first of any repeated names remaining is kept."
use Rattle.std.specs.Prelude.{ℕ, zero, suc, List, [], ◌∷◌, Some, None, Option}
use Rattle.layout.specs.Bytes.{Bytes}
use Rattle.layout.specs.Answer.{Answer, gives, refused}
use Rattle.layout.specs.Tree.{Tree, null, boolean, number, string, extension, array, object, Items, none, item, Members, empty, member}
use Rattle.layout.specs.Order.{order}
use Rattle.layout.specs.declared.refusal.Refusal.TheVariants.{Kind}
use Rattle.builders.specs.Order.{by, in_order}
use Rattle.builders.specs.Build.{count}
use Rattle.edits.specs.Keypath.{Step}
use Rattle.edits.specs.Find.{◌then◌, step_place, step_name, step_into, look_up}

-- What is left of an item: itself, changed or not, or nothing where it is gone.
abbrev pub kept_item : Option Tree → Items → Items
kept_item None ts = ts
kept_item (Some u) ts = item u ts

abbrev pub kept_member : Bytes → Option Tree → Members → Members
kept_member n None ms = ms
kept_member n (Some u) ms = member n u ms

-- The items, with what is left of the one at a place.
abbrev pub change_item : Option Tree → ℕ → Items → Items
change_item o i none = none
change_item o zero (item t ts) = kept_item o ts
change_item o (suc i) (item t ts) = item t (change_item o i ts)

abbrev pub change_at : Option Tree → Option ℕ → Items → Items
change_at o None ts = ts
change_at o (Some i) ts = change_item o i ts

-- The members, with what is left of the first that has the name.
abbrev pub change_member : Option Tree → Bytes → Members → Members
change_member o n empty = empty
change_member o n (member m t ms) =
    by (order n m) (member m t (change_member o n ms)) (kept_member m o ms) (member m t (change_member o n ms))

-- A container written anew, with what is left of the item that a step finds. "Every object written anew has its names in byte
-- order."
abbrev pub anew : Option Tree → Step → Tree → Tree
anew o s null = null
anew o s (boolean x) = boolean x
anew o s (number b) = number b
anew o s (string b) = string b
anew o s (extension b) = extension b
anew o s (array ts) = array (change_at o (step_place s (count ts)) ts)
anew o s (object ms) = object (in_order (change_member o (step_name s) ms))

-- What is left of a tree without the item that a path finds in it: nothing, where that is the tree itself. It means something
-- only where the path finds one.
abbrev pub remains : List Step → Tree → Option Tree
remains [] t = None
remains (s ∷ p) t = Some (anew (step_into s t then remains p) s t)

abbrev pub or_same : Tree → Option Tree → Tree
or_same t None = t
or_same t (Some u) = u

-- What `remains` gives where the path finds an item; the tree itself where it finds none, and for the empty path.
abbrev pub delete : List Step → Tree → Tree
delete p t = or_same t (look_up p t then λ _. remains p t)

-- 7: "delete on a root null, boolean, number or string".
abbrev pub deletable : Tree → Answer Tree
deletable null = refused Kind
deletable (boolean x) = refused Kind
deletable (number b) = refused Kind
deletable (string b) = refused Kind
deletable (extension b) = gives (extension b)
deletable (array ts) = gives (array ts)
deletable (object ms) = gives (object ms)
