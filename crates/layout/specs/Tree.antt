-- A record taken apart: what `Read` gives and `Encode` writes. Members stand in stored order, repeated names too.
use Rattle.std.specs.Prelude.{Bool, true, false, List, [], ◌∷◌}
use Rattle.layout.specs.Bytes.{Bytes}
use Rattle.layout.specs.declared.item.Kind.{Kind}
use Rattle.layout.specs.declared.item.Kind.TheVariants.{Null, String, Number, False, True, Container, Extension}

mutual
  -- A number and an extension are their payload, a string its text.
  pub data Tree : Type 0 where
    null : Tree
    boolean : Bool → Tree
    number : Bytes → Tree
    string : Bytes → Tree
    extension : Bytes → Tree
    array : Items → Tree
    object : Members → Tree

  pub data Items : Type 0 where
    none : Items
    item : Tree → Items → Items

  pub data Members : Type 0 where
    empty : Members
    member : Bytes → Tree → Members → Members

abbrev pub kind : Tree → Kind
kind null = Null
kind (boolean true) = True
kind (boolean false) = False
kind (number b) = Number
kind (string b) = String
kind (extension b) = Extension
kind (array ts) = Container
kind (object ms) = Container

abbrev pub names : Members → List Bytes
names empty = []
names (member n t ms) = n ∷ names ms

abbrev pub values : Members → Items
values empty = none
values (member n t ms) = item t (values ms)

-- The members with these names and these values, in turn.
abbrev pub pair : List Bytes → Items → Members
pair [] ts = empty
pair (n ∷ ns) none = empty
pair (n ∷ ns) (item t ts) = member n t (pair ns ts)
