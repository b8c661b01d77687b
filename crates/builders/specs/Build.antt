-- Append and object build: document 01, "Builders", with the numbers of "Who can cause each number" in their order.
use Rattle.std.specs.Prelude.{ℕ, suc, List, [], ◌∷◌, eqb, Some}
use Rattle.layout.specs.Bytes.{Bytes}
use Rattle.layout.specs.Answer.{Answer, gives, refused, ◌>>=◌, require}
use Rattle.layout.specs.Tree.{Tree, null, boolean, number, string, extension, array, object, Items, none, item, pair}
use Rattle.layout.specs.Read.{read}
use Rattle.layout.specs.Ended.{Outcome}
use Rattle.layout.specs.Pipeline.{within, on_record}
use Rattle.layout.specs.declared.refusal.Refusal.TheVariants.{Kind, Repeated}
use Rattle.builders.specs.Order.{in_order, distinct}

-- 7: "append to a non-array; object build with a non-array, a name that is no string, or unequal counts".
abbrev pub items_of : Tree → Answer Items
items_of null = refused Kind
items_of (boolean x) = refused Kind
items_of (number b) = refused Kind
items_of (string b) = refused Kind
items_of (extension b) = refused Kind
items_of (array ts) = gives ts
items_of (object ms) = refused Kind

-- "A name that is no string".
abbrev pub text_of : Tree → Answer Bytes
text_of null = refused Kind
text_of (boolean x) = refused Kind
text_of (number b) = refused Kind
text_of (string b) = gives b
text_of (extension b) = refused Kind
text_of (array ts) = refused Kind
text_of (object ms) = refused Kind

abbrev pub texts_of : Items → Answer (List Bytes)
texts_of none = gives []
texts_of (item t ts) = do
  n ← text_of t
  ns ← texts_of ts
  gives (n ∷ ns)

-- "Unequal counts".
abbrev pub count : Items → ℕ
count none = 0
count (item t ts) = suc (count ts)

-- The items of one, then those of the other.
abbrev pub join : Items → Items → Items
join none us = us
join (item t ts) us = item t (join ts us)

-- "Append puts one record, as one item, at the end of an array record."
unfoldable pub append : Tree → Tree → Answer Tree
append t u = do
  ts ← items_of t
  gives (array (join ts (item u none)))

-- "Object build takes an array of names and an array of values, both records, and writes the members in byte order of names."
-- "8 repeated name".
unfoldable pub build : Tree → Tree → Answer Tree
build t u = do
  ts ← items_of t
  us ← items_of u
  ns ← texts_of ts
  _ ← require (eqb (count ts) (count us)) Kind
  _ ← require (distinct ns) Repeated
  gives (object (in_order (pair ns us)))

-- An edit of two records: left record, right record, the edit's own numbers, then 9.
unfoldable pub on_two : (Tree → Tree → Answer Tree) → Bytes → Bytes → ℕ → Outcome
unfolding on_record append build
on_two edit left right room =
    on_record read (λ t u. edit t u >>= λ v. within v >>= λ w. gives (Some w)) left right room
