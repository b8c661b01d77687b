-- The limits of document 01 as sizes of a tree: how long its record is, how deep it nests, and what its texts and numbers must
-- be. The tree of a record has bytes for its texts, numbers and extensions: lists of numbers below 256.
use Rattle.std.specs.Prelude.{ℕ, suc, ◌+◌, ◌≤◌, max, T, length}
use Rattle.layout.specs.Text.{utf8}
use Rattle.layout.specs.Number.{listed}
use Rattle.layout.specs.Tree.{Tree, null, boolean, number, string, extension, array, object, Items, none, item, Members, empty, member}

-- Texts and names are UTF-8, and numbers are listed.
abbrev mutual
  pub Valid : Tree → Type 0
  Valid null = Unit {0}
  Valid (boolean x) = Unit {0}
  Valid (number b) = T (listed b)
  Valid (string b) = T (utf8 b)
  Valid (extension b) = Unit {0}
  Valid (array ts) = ValidItems ts
  Valid (object ms) = ValidMembers ms

  pub ValidItems : Items → Type 0
  ValidItems none = Unit {0}
  ValidItems (item t ts) = Valid t × ValidItems ts

  pub ValidMembers : Members → Type 0
  ValidMembers empty = Unit {0}
  ValidMembers (member n t ms) = T (utf8 n) × Valid t × ValidMembers ms

-- How deep containers nest: a scalar has no depth, a container is one deeper than what it holds.
abbrev mutual
  pub depth : Tree → ℕ
  depth null = 0
  depth (boolean x) = 0
  depth (number b) = 0
  depth (string b) = 0
  depth (extension b) = 0
  depth (array ts) = suc (depth_items ts)
  depth (object ms) = suc (depth_members ms)

  pub depth_items : Items → ℕ
  depth_items none = 0
  depth_items (item t ts) = max (depth t) (depth_items ts)

  pub depth_members : Members → ℕ
  depth_members empty = 0
  depth_members (member n t ms) = max (depth t) (depth_members ms)

-- The length of a payload: 4 bytes for a header and for each entry.
abbrev mutual
  pub size : Tree → ℕ
  size null = 0
  size (boolean x) = 0
  size (number b) = length b
  size (string b) = length b
  size (extension b) = length b
  size (array ts) = 4 + size_items ts
  size (object ms) = 4 + size_members ms

  pub size_items : Items → ℕ
  size_items none = 0
  size_items (item t ts) = 4 + size t + size_items ts

  pub size_members : Members → ℕ
  size_members empty = 0
  size_members (member n t ms) = 8 + length n + size t + size_members ms

-- The length of the record: a scalar has a header and an entry before its payload.
abbrev pub record_length : Tree → ℕ
record_length null = 8
record_length (boolean x) = 8
record_length (number b) = 8 + length b
record_length (string b) = 8 + length b
record_length (extension b) = 8 + length b
record_length (array ts) = size (array ts)
record_length (object ms) = size (object ms)

-- "Over 65,536 bytes: 5"; "deeper than 64 is 5".
abbrev pub Readable : Tree → Type 0
Readable t = Valid t × (depth t ≤ 64) × (record_length t ≤ 65536)
