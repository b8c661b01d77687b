-- What is left of a table: its parts one after another, each with its place, its entry and its bytes.
use Rattle.std.specs.Prelude.{ℕ, zero, suc, ◌+◌, List, [], ◌∷◌, map, take, drop}
use Rattle.layout.specs.Bytes.{Bytes}
use Rattle.layout.specs.Entry.{code_of, length_of, kind_of, entry_at}
use Rattle.layout.specs.Encode.{Part as Encoded}
use Rattle.layout.specs.Parts.{next_part, nth_part}
use Rattle.layout.specs.declared.parts.PartAt.{PartAt}
use Rattle.layout.specs.declared.table.Part.{Part}
use Rattle.layout.specs.declared.table.Parts.{Parts}

-- A part as a walk meets it.
pub record Placed : Type 0 where
  pub at : PartAt
  pub jentry : ℕ
  pub bytes : Bytes

abbrev pub placed : Bytes → PartAt → Placed
placed s p =
    record {
      at = p;
      jentry = entry_at s p.index;
      bytes = take (length_of (entry_at s p.index)) (drop p.place s);
    }

-- The same with its kind, as document 01's reading has it.
abbrev pub part_shown : Placed → Encoded
part_shown q = record { kind = kind_of (code_of q.jentry); bytes = q.bytes }

-- The `k` parts from one on.
unfoldable pub placed_from : Bytes → PartAt → ℕ → List Placed
placed_from s p zero = []
placed_from s p (suc k) = placed s p ∷ placed_from s (next_part s p) k

-- The first `n` of a table whose payloads start at a place.
abbrev pub placed_at : Bytes → ℕ → ℕ → List Placed
placed_at s start n = placed_from s (record { index = 0; place = start }) n

-- Those that the table of a container of `n` has, `k` from part `i` on: each where the table gives it, and none from the one before.
unfoldable pub placed_by_table : Bytes → ℕ → ℕ → ℕ → List Placed
placed_by_table s n i zero = []
placed_by_table s n i (suc k) = placed s (nth_part s n i) ∷ placed_by_table s n (i + 1) k

-- What the iterator has left, and what it shows of a part.
abbrev pub left : Parts → List Placed
left w = placed_from w.s.now w.at w.count

abbrev pub names_left : Parts → List Bytes
names_left w = map (λ (q : Placed). q.bytes) (left w)

abbrev pub shown : Part → Placed
shown x = record { at = x.at; jentry = x.jentry; bytes = x.payload.now }
