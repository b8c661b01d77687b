-- What document 02 §5 says of the flight edits beside the plain ones.
use Rattle.std.specs.Prelude.{ℕ, suc, ◌≤◌, ◌≡◌, ◌↔◌, Some, None, Option}
use Rattle.layout.specs.Bytes.{Bytes, Octets}
use Rattle.layout.specs.Answer.{gives}
use Rattle.layout.specs.Tree.{Tree, Members}
use Rattle.layout.specs.Read.{read}
use Rattle.layout.specs.Limits.{depth}
use Rattle.layout.specs.Ended.{result}
use Rattle.builders.specs.Build.{on_two}
use Rattle.edits.specs.Path.{delete_by, on_path}
use Rattle.edits.specs.Concat.{members_in, concat}
use Rattle.edits.specs.Strip.{strip, on_one}
use Rattle.flight.specs.Flight.{Flight, flight_delete_by, flight_strip, on_flights}

-- Bytes that are a flight record.
pub record FlightRecord (b : Bytes) : Type 0 where
  pub tree : Tree
  pub reads : read b ≡ gives tree
  pub flight : Flight tree

-- How deep a side of an overlay stands in it: "a non-array side being one item", so that an object beside a record that is none is one
-- level deeper. The members of the side, and of the other.
abbrev pub levels : ℕ → Option Members → Option Members → ℕ
levels d None other = d
levels d (Some ms) None = suc d
levels d (Some ms) (Some ns) = d

abbrev pub stands : Tree → Tree → ℕ
stands t other = levels (depth t) (members_in t) (members_in other)

pub record Flights : Type 0 where
  -- "On these records each result has the bytes that the plain edit gives, wherever it is itself a flight record": a flight edit gives b
  -- exactly where it takes flight records, the plain edit gives b into that room, and b is a flight record.
  pub of_delete : (s p b : Bytes) (room : ℕ) → Octets s
      → (on_path flight_delete_by s p room ≡ result b) ↔ (FlightRecord s × (on_path delete_by s p room ≡ result b) × FlightRecord b)
  pub of_concat : (l r b : Bytes) (room : ℕ) → Octets l → Octets r
      → (on_flights l r room ≡ result b) ↔ (FlightRecord l × FlightRecord r × (on_two concat l r room ≡ result b) × FlightRecord b)
  pub of_strip : (s b : Bytes) (room : ℕ) → Octets s
      → (on_one flight_strip s room ≡ result b) ↔ (FlightRecord s × (on_one strip s room ≡ result b) × FlightRecord b)
  -- On flight records delete and strip are the plain ones, refusals included, so that no result of theirs is outside the profile.
  pub delete_stays : (s p : Bytes) (room : ℕ) → FlightRecord s → on_path flight_delete_by s p room ≡ on_path delete_by s p room
  pub strip_stays : (s : Bytes) (room : ℕ) → FlightRecord s → on_one flight_strip s room ≡ on_one strip s room
  -- Of concat one level too many, and nothing else, takes a result out of it.
  pub concat_leaves : (t u v : Tree) → Flight t → Flight u → concat t u ≡ gives v → Flight v ↔ ((stands t u ≤ 8) × (stands u t ≤ 8))
