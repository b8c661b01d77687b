-- The bytes of a tree: document 01, "Headers".
--
--   array    80000000 + n | n entries                       | n payloads
--   object   40000000 + n | n name entries, n value entries | n names, n values
--   scalar   20000000     | one entry                       | its payload
--
-- An entry stands for a part: the item's kind, and the bytes of its payload. A container's payload is its own record.
use Rattle.std.specs.Prelude.{ℕ, ◌+◌, ◌^◌, List, [], ◌∷◌, ◌++◌, length}
use Rattle.layout.specs.Bytes.{Bytes, be32}
use Rattle.layout.specs.Entry.{code, entry_of}
use Rattle.layout.specs.Tree.{Tree, null, boolean, number, string, extension, array, object, Items, none, item, Members, empty, member, names, kind}
use Rattle.layout.specs.declared.item.Kind.{Kind}
use Rattle.layout.specs.declared.item.Kind.TheVariants.{String}

pub record Part : Type 0 where
  pub kind : Kind
  pub bytes : Bytes

abbrev pub entry_word : Part → ℕ
entry_word p = entry_of (code p.kind) (length p.bytes)

abbrev pub entries : List Part → Bytes
entries [] = []
entries (p ∷ ps) = be32 (entry_word p) ++ entries ps

abbrev pub payloads : List Part → Bytes
payloads [] = []
payloads (p ∷ ps) = p.bytes ++ payloads ps

-- A header, and the table and payloads of its parts.
abbrev pub record_of : ℕ → List Part → Bytes
record_of w ps = be32 w ++ (entries ps ++ payloads ps)

abbrev pub name_part : Bytes → Part
name_part n = record { kind = String; bytes = n }

abbrev pub name_parts : List Bytes → List Part
name_parts [] = []
name_parts (n ∷ ns) = name_part n ∷ name_parts ns

abbrev mutual
  pub payload : Tree → Bytes
  payload null = []
  payload (boolean x) = []
  payload (number b) = b
  payload (string b) = b
  payload (extension b) = b
  payload (array ts) = record_of (2 ^ 31 + length (item_parts ts)) (item_parts ts)
  payload (object ms) = record_of (2 ^ 30 + length (member_parts ms)) (name_parts (names ms) ++ member_parts ms)

  pub item_parts : Items → List Part
  item_parts none = []
  item_parts (item t ts) = record { kind = kind t; bytes = payload t } ∷ item_parts ts

  -- The values of the members.
  pub member_parts : Members → List Part
  member_parts empty = []
  member_parts (member n t ms) = record { kind = kind t; bytes = payload t } ∷ member_parts ms

abbrev pub part : Tree → Part
part t = record { kind = kind t; bytes = payload t }

abbrev pub scalar : Tree → Bytes
scalar t = record_of (2 ^ 29) (part t ∷ [])

-- The record: a container as it stands, anything else as the one item of a scalar record.
abbrev pub encode : Tree → Bytes
encode null = scalar null
encode (boolean x) = scalar (boolean x)
encode (number b) = scalar (number b)
encode (string b) = scalar (string b)
encode (extension b) = scalar (extension b)
encode (array ts) = payload (array ts)
encode (object ms) = payload (object ms)
