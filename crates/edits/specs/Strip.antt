-- Strip: document 01, "every container is written anew; members whose value is null go, at every level; nulls in arrays and at the
-- root stay. A name repeated among kept members is 8."
use Rattle.std.specs.Prelude.{ℕ, Bool, true, false, cond, ◌&&◌, [], Some}
use Rattle.layout.specs.Bytes.{Bytes}
use Rattle.layout.specs.Answer.{Answer, gives, ◌>>=◌, require}
use Rattle.layout.specs.Tree.{Tree, null, boolean, number, string, extension, array, object, Items, none, item, Members, empty, member, names}
use Rattle.layout.specs.Ended.{Outcome}
use Rattle.layout.specs.Pipeline.{on_record, alone}
use Rattle.layout.specs.declared.refusal.Refusal.TheVariants.{Repeated}
use Rattle.builders.specs.Order.{in_order, distinct}

abbrev pub is_null : Tree → Bool
is_null null = true
is_null (boolean x) = false
is_null (number b) = false
is_null (string b) = false
is_null (extension b) = false
is_null (array ts) = false
is_null (object ms) = false

-- "Members whose value is null go", and those that stay keep their values as they are.
abbrev pub kept : Members → Members
kept empty = empty
kept (member n t ms) = cond (is_null t) (kept ms) (member n t (kept ms))

-- "At every level." "Every object written anew has its names in byte order."
abbrev mutual
  pub stripped : Tree → Tree
  stripped null = null
  stripped (boolean x) = boolean x
  stripped (number b) = number b
  stripped (string b) = string b
  stripped (extension b) = extension b
  stripped (array ts) = array (stripped_items ts)
  stripped (object ms) = object (in_order (stripped_members ms))

  pub stripped_items : Items → Items
  stripped_items none = none
  stripped_items (item t ts) = item (stripped t) (stripped_items ts)

  pub stripped_members : Members → Members
  stripped_members empty = empty
  stripped_members (member n t ms) = cond (is_null t) (stripped_members ms) (member n (stripped t) (stripped_members ms))

-- "A name repeated among kept members is 8": whether none is, in any object.
abbrev mutual
  pub unrepeated : Tree → Bool
  unrepeated null = true
  unrepeated (boolean x) = true
  unrepeated (number b) = true
  unrepeated (string b) = true
  unrepeated (extension b) = true
  unrepeated (array ts) = unrepeated_items ts
  unrepeated (object ms) = distinct (names (kept ms)) && unrepeated_members ms

  pub unrepeated_items : Items → Bool
  unrepeated_items none = true
  unrepeated_items (item t ts) = unrepeated t && unrepeated_items ts

  pub unrepeated_members : Members → Bool
  unrepeated_members empty = true
  unrepeated_members (member n t ms) = unrepeated t && unrepeated_members ms

unfoldable pub strip : Tree → Answer Tree
unfolding ◌>>=◌ require distinct
strip t = do
  _ ← require (unrepeated t) Repeated
  gives (stripped t)

-- An edit of one record: nothing stands beside it.
unfoldable pub on_one : (Tree → Answer Tree) → Bytes → ℕ → Outcome
unfolding on_record strip
on_one edit target room = on_record alone (λ t _. edit t >>= λ v. gives (Some v)) target [] room
