-- Members in byte order: document 01, "Every object written anew has its names in byte order", "the first of any repeated names
-- remaining is kept", and "8 repeated name". How two names compare is layout's `order`, which says what its `◌≺◌` says: `says` of
-- layout's proofs/Orders.antt.
use Rattle.std.specs.Prelude.{Bool, true, false, not, ◌&&◌, ◌||◌, List, [], ◌∷◌, Some, None, Option}
use Rattle.layout.specs.Bytes.{Bytes}
use Rattle.layout.specs.Tree.{Tree, Members, empty, member}
use Rattle.layout.specs.Order.{order, same_bytes}
use Rattle.std.specs.declared.cmp.Ordering.{Ordering}
use Rattle.std.specs.declared.cmp.Ordering.TheVariants.{Less, Equal, Greater}

-- One of three, by how two names compare.
abbrev pub by : {A : Type 0} → Ordering → A → A → A → A
by Less a b c = a
by Equal a b c = b
by Greater a b c = c

-- "The first of any repeated names remaining is kept": a member put in its place among members in order; where its name is there
-- already, that member stays and this one goes.
abbrev pub insert : Bytes → Tree → Members → Members
insert n t empty = member n t empty
insert n t (member m u ms) =
    by (order n m) (member n t (member m u ms)) (member m u ms) (member m u (insert n t ms))

abbrev pub insert_all : Members → Members → Members
insert_all empty done = done
insert_all (member n t ms) done = insert_all ms (insert n t done)

-- Members in byte order of their names, of equal names the first.
abbrev pub in_order : Members → Members
in_order ms = insert_all ms empty

-- The members of one, then those of the other.
abbrev pub follow : Members → Members → Members
follow empty ms = ms
follow (member n t done) ms = member n t (follow done ms)

-- The value of "the first member whose name has equal bytes". It says what `in_order` keeps: `find_in_order` of
-- proofs/InOrders.antt.
abbrev pub find : Bytes → Members → Option Tree
find n empty = None
find n (member m t ms) = by (order n m) (find n ms) (Some t) (find n ms)

-- "8 repeated name": whether a name is among others, and whether no name is there twice.
unfoldable pub has : Bytes → List Bytes → Bool
has n [] = false
has n (m ∷ ns) = same_bytes n m || has n ns

unfoldable pub distinct : List Bytes → Bool
distinct [] = true
distinct (n ∷ ns) = not (has n ns) && distinct ns
