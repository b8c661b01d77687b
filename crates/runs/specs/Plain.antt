-- The six edits on values: document 01, "Runs and their plain account", sentence by sentence. A value is written as a tree in which
-- the members of an object stand in some order that means nothing: values are equal by layout's `Same`. Nothing here sorts, and no
-- contract cites it. Paths are read, and indexes spelled, by `path_of` and `index_text` of edits' `Keypath`.
use Rattle.std.specs.Prelude.{ℕ, zero, suc, Bool, true, false, not, cond, ◌&&◌, ◌||◌, List, [], ◌∷◌, eqb, ℤ, pos, negsuc, ◌+ℤ◌, Some, None, Option}
use Rattle.layout.specs.Bytes.{Bytes}
use Rattle.layout.specs.Answer.{Answer, gives, refused, ◌>>=◌, require}
use Rattle.layout.specs.Tree.{Tree, null, boolean, number, string, extension, array, object, Items, none, item, Members, empty, member}
use Rattle.layout.specs.declared.refusal.Refusal.TheVariants.{Kind, Repeated}
use Rattle.edits.specs.Keypath.{Step, name, index, index_text}

-- ---- names

-- Whether two names have equal bytes.
abbrev pub equal : Bytes → Bytes → Bool
equal [] [] = true
equal [] (y ∷ b) = false
equal (x ∷ a) [] = false
equal (x ∷ a) (y ∷ b) = eqb x y && equal a b

-- Whether one of the members has a name, and whether two of them have the same.
abbrev pub has_name : Bytes → Members → Bool
has_name n empty = false
has_name n (member m t ms) = equal n m || has_name n ms

abbrev pub repeats : Members → Bool
repeats empty = false
repeats (member n t ms) = has_name n ms || repeats ms

-- ---- Look-up: "what the path finds, from the value inward"

-- "A name, or an index's decimal text, takes that member of an object".
abbrev pub member_name : Step → Bytes
member_name (name b) = b
member_name (index z) = index_text z

abbrev pub named : Bytes → Members → Option Tree
named n empty = None
named n (member m t ms) = cond (equal n m) (Some t) (named n ms)

-- "Index i takes item i of an array, or item count + i where i is negative".
abbrev pub from_zero : ℤ → Option ℕ
from_zero (pos k) = Some k
from_zero (negsuc k) = None

abbrev pub item_number : Step → ℕ → Option ℕ
item_number (name b) count = None
item_number (index (pos k)) count = Some k
item_number (index (negsuc k)) count = from_zero (pos count +ℤ negsuc k)

abbrev pub how_many : Items → ℕ
how_many none = 0
how_many (item t ts) = suc (how_many ts)

abbrev pub numbered : Option ℕ → Items → Option Tree
numbered None ts = None
numbered (Some i) none = None
numbered (Some zero) (item t ts) = Some t
numbered (Some (suc i)) (item t ts) = numbered (Some i) ts

-- What a step takes: "any other step finds nothing".
abbrev pub taken : Step → Tree → Option Tree
taken s null = None
taken s (boolean x) = None
taken s (number b) = None
taken s (string b) = None
taken s (extension b) = None
taken s (array ts) = numbered (item_number s (how_many ts)) ts
taken s (object ms) = named (member_name s) ms

abbrev pub inward : Option Tree → (Tree → Option Tree) → Option Tree
inward None f = None
inward (Some t) f = f t

-- "An empty path finds the value."
abbrev pub plain_look_up : List Step → Tree → Option Tree
plain_look_up [] t = Some t
plain_look_up (s ∷ p) t = inward (taken s t) (plain_look_up p)

-- ---- Delete: "the value without the member or item found; itself where the path is empty or finds nothing"

-- What is left of a member or an item: itself, perhaps changed, or nothing.
abbrev pub left_member : Bytes → Option Tree → Members → Members
left_member n None ms = ms
left_member n (Some t) ms = member n t ms

abbrev pub left_item : Option Tree → Items → Items
left_item None ts = ts
left_item (Some t) ts = item t ts

-- The members or items, with what `f` leaves of the one that has a name or a number.
abbrev pub leave_named : (Tree → Option Tree) → Bytes → Members → Members
leave_named f n empty = empty
leave_named f n (member m t ms) = cond (equal n m) (left_member m (f t) (leave_named f n ms)) (member m t (leave_named f n ms))

abbrev pub leave_numbered : (Tree → Option Tree) → Option ℕ → Items → Items
leave_numbered f None ts = ts
leave_numbered f (Some i) none = none
leave_numbered f (Some zero) (item t ts) = left_item (f t) ts
leave_numbered f (Some (suc i)) (item t ts) = item t (leave_numbered f (Some i) ts)

-- A value, with what `f` leaves of what a step takes in it.
abbrev pub leave : (Tree → Option Tree) → Step → Tree → Tree
leave f s null = null
leave f s (boolean x) = boolean x
leave f s (number b) = number b
leave f s (string b) = string b
leave f s (extension b) = extension b
leave f s (array ts) = array (leave_numbered f (item_number s (how_many ts)) ts)
leave f s (object ms) = object (leave_named f (member_name s) ms)

-- What the deletion of a path leaves of a value that the path starts from: nothing where it is the value itself that goes.
abbrev pub rest : List Step → Tree → Option Tree
rest [] t = None
rest (s ∷ p) t = Some (leave (rest p) s t)

abbrev pub plain_delete : List Step → Tree → Tree
plain_delete [] t = t
plain_delete (s ∷ p) t = leave (rest p) s t

-- 7: "delete on a root null, boolean, number or string".
abbrev pub no_delete : Tree → Bool
no_delete null = true
no_delete (boolean x) = true
no_delete (number b) = true
no_delete (string b) = true
no_delete (extension b) = false
no_delete (array ts) = false
no_delete (object ms) = false

-- ---- Concat: "of two objects, the right's members and those of the left whose names the right lacks; else an array of left, then
-- right, an array giving its items"

abbrev pub together : Members → Members → Members
together empty ms = ms
together (member n t ns) ms = member n t (together ns ms)

-- The members of one object whose names another lacks.
abbrev pub lacked : Members → Members → Members
lacked rs empty = empty
lacked rs (member n t ls) = cond (has_name n rs) (lacked rs ls) (member n t (lacked rs ls))

abbrev pub items_then : Items → Items → Items
items_then none us = us
items_then (item t ts) us = item t (items_then ts us)

abbrev pub giving : Tree → Items
giving null = item null none
giving (boolean x) = item (boolean x) none
giving (number b) = item (number b) none
giving (string b) = item (string b) none
giving (extension b) = item (extension b) none
giving (array ts) = ts
giving (object ms) = item (object ms) none

abbrev pub members_of : Tree → Option Members
members_of null = None
members_of (boolean x) = None
members_of (number b) = None
members_of (string b) = None
members_of (extension b) = None
members_of (array ts) = None
members_of (object ms) = Some ms

abbrev pub objects_or : Tree → Option Members → Option Members → Tree
objects_or other None rs = other
objects_or other (Some ls) None = other
objects_or other (Some ls) (Some rs) = object (together rs (lacked rs ls))

abbrev pub plain_concat : Tree → Tree → Tree
plain_concat t u = objects_or (array (items_then (giving t) (giving u))) (members_of t) (members_of u)

-- ---- Strip: "the value without members that are null, at every level"

abbrev pub is_null : Tree → Bool
is_null null = true
is_null (boolean x) = false
is_null (number b) = false
is_null (string b) = false
is_null (extension b) = false
is_null (array ts) = false
is_null (object ms) = false

abbrev mutual
  pub plain_strip : Tree → Tree
  plain_strip null = null
  plain_strip (boolean x) = boolean x
  plain_strip (number b) = number b
  plain_strip (string b) = string b
  plain_strip (extension b) = extension b
  plain_strip (array ts) = array (strip_items ts)
  plain_strip (object ms) = object (strip_members ms)

  pub strip_items : Items → Items
  strip_items none = none
  strip_items (item t ts) = item (plain_strip t) (strip_items ts)

  pub strip_members : Members → Members
  strip_members empty = empty
  strip_members (member n t ms) = cond (is_null t) (strip_members ms) (member n (plain_strip t) (strip_members ms))

-- ---- Append: "the array's items, then the value"

-- 7: "append to a non-array; object build with a non-array".
abbrev pub array_items : Tree → Answer Items
array_items null = refused Kind
array_items (boolean x) = refused Kind
array_items (number b) = refused Kind
array_items (string b) = refused Kind
array_items (extension b) = refused Kind
array_items (array ts) = gives ts
array_items (object ms) = refused Kind

unfoldable pub plain_append : Tree → Tree → Answer Tree
unfolding ◌>>=◌
plain_append t u = do
  ts ← array_items t
  gives (array (items_then ts (item u none)))

-- ---- Object build: "the first array's strings as names, in turn, with the second's values"

-- 7: "a name that is no string, or unequal counts".
abbrev pub string_text : Tree → Answer Bytes
string_text null = refused Kind
string_text (boolean x) = refused Kind
string_text (number b) = refused Kind
string_text (string b) = gives b
string_text (extension b) = refused Kind
string_text (array ts) = refused Kind
string_text (object ms) = refused Kind

abbrev pub in_turn : Items → Items → Answer Members
in_turn none none = gives empty
in_turn none (item u us) = refused Kind
in_turn (item t ts) none = refused Kind
in_turn (item t ts) (item u us) = do
  n ← string_text t
  ms ← in_turn ts us
  gives (member n u ms)

-- 8: "repeated name, in .. object build".
unfoldable pub plain_build : Tree → Tree → Answer Tree
unfolding ◌>>=◌ require
plain_build t u = do
  ts ← array_items t
  us ← array_items u
  ms ← in_turn ts us
  _ ← require (not (repeats ms)) Repeated
  gives (object ms)
