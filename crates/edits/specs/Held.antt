-- Items of a record that stand for trees, as a search goes from one to the next: by the steps of a path here, by the tokens of a
-- pointer in a crate above. `search_is` and `held_record` of proofs/Helds.antt tie it to trees and to `encode`.
use Rattle.std.specs.Prelude.{ℕ, ◌+◌, ◌^◌, ◌≤◌, ◌≡◌, cond, List, ◌++◌, eqb, length, Some, None, Option}
use Rattle.layout.specs.Bytes.{Bytes, be32}
use Rattle.layout.specs.Answer.{Answer, gives, refused}
use Rattle.layout.specs.Entry.{code_of, entry_at}
use Rattle.layout.specs.Tree.{Tree}
use Rattle.layout.specs.Encode.{entry_word, payload, part}
use Rattle.layout.specs.Read.{nested}
use Rattle.layout.specs.Parts.{bytes_at}
use Rattle.layout.specs.declared.parts.ItemAt.{ItemAt}
use Rattle.edits.specs.Keypath.{Step}
use Rattle.edits.specs.Find.{look_up}
use Rattle.layout.specs.declared.parts.PartAt.{PartAt}

-- An item that has the entry and the payload of a tree.
pub record Held (s : Bytes) (x : ItemAt) (t : Tree) : Type 0 where
  pub entry : x.jentry ≡ entry_word (part t)
  pub bytes : bytes_at s x ≡ payload t
  pub within : x.place + length (payload t) ≤ length s
  pub short : length s ≤ 65536

abbrev pub Stands : Bytes → ItemAt → Type 0
Stands s x = (t : Tree) × Held s x t

-- What was found, by its tree and by its place.
abbrev pub Agree : Bytes → Option Tree → Option ItemAt → Type 0
Agree s None None = Unit {0}
Agree s None (Some x) = ⊥
Agree s (Some t) None = ⊥
Agree s (Some t) (Some x) = Held s x t

-- One step from an item, by what it takes a tree to.
abbrev pub Leads : Bytes → ItemAt → (Tree → Option Tree) → Option ItemAt → Type 0
Leads s x into r = (t : Tree) → Held s x t → Agree s (into t) r

-- A container by its bytes: what a search of its tree finds.
abbrev pub search_tree : Answer Tree → (Tree → Option Tree) → Option Tree
search_tree (gives t) look = look t
search_tree (refused r) look = None

unfoldable pub search_in : Bytes → (Tree → Option Tree) → Option Tree
search_in s look = search_tree (nested 64 s) look

abbrev pub Finds : Bytes → (Tree → Option Tree) → Option ItemAt → Type 0
Finds s look r = Agree s (search_in s look) r

-- The same of a path.
abbrev pub finding : Bytes → List Step → Option Tree
finding s p = search_in s (look_up p)

-- The item that a part of a container is, where the container's bytes start at a place of the record.
abbrev pub item_in : Bytes → ℕ → Option PartAt → Option ItemAt
item_in inner place None = None
item_in inner place (Some a) = Some (record { jentry = entry_at inner a.index; place = place + a.place })

-- The record of an item: a container as it is, anything else behind a scalar's header and its entry.
unfoldable pub item_record : Bytes → ItemAt → Bytes
item_record s x = cond (eqb (code_of x.jentry) 5) (bytes_at s x) (be32 (2 ^ 29) ++ (be32 x.jentry ++ bytes_at s x))
