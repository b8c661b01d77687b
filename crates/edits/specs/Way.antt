-- A way through containers: the steps of a path that are still to be taken, and what the code of delete knows where they lead.
use Rattle.std.specs.Prelude.{ℕ, ◌+◌, ◌*◌, ◌-◌, ◌^◌, ◌≤◌, ◌<◌, ◌≡◌, List, length, Ok, Some}
use Rattle.layout.specs.Bytes.{Bytes}
use Rattle.layout.specs.Tree.{Tree}
use Rattle.layout.specs.Read.{header, nested}
use Rattle.layout.specs.Check.{checked}
use Rattle.layout.specs.Place.{parts_at}
use Rattle.edits.specs.Keypath.{Step}
use Rattle.edits.specs.Steps.{part_step, part_steps}
use Rattle.layout.specs.Parts.{nth_part, next_part, part_in}
use Rattle.edits.specs.Spot.{spot}
use Rattle.edits.specs.Held.{finding}
use Rattle.layout.specs.declared.parts.PartAt.{PartAt}
use Rattle.edits.specs.declared.delete.Way.{Way}

-- The steps that are still to be taken, the next one first.
abbrev pub step_at : Bytes → PartAt → Step
step_at path p = part_step (part_in path p)

abbrev pub way_behind : Bytes → Way → Way
way_behind path w = record { path = w.path; step = next_part path w.step; count = w.count }

abbrev pub steps_from : Bytes → Way → List Step
steps_from path w = part_steps (parts_at path w.step.index w.step.place (w.count - w.step.index))

-- A container in which the rest of a path finds an item.
pub record Cuts (s path : Bytes) (w : Way) (allowance : ℕ) : Type 0 where
  pub readable : checked (nested allowance s) ≡ Ok tt
  pub allowed : allowance ≤ 64
  pub short : length s ≤ 65536
  pub more : w.step.index < w.count
  pub few : w.count < 2 ^ 29
  pub near : w.step.place ≤ 2 ^ 32 + 2 ^ 28 * w.step.index
  pub carried : w.step ≡ nth_part path w.count w.step.index
  pub finds : (t : Tree) × (finding s (steps_from path w) ≡ Some t)

-- Where the next step leads, and it is not the last.
pub record Onward (s path : Bytes) (w : Way) (p : PartAt) : Type 0 where
  pub leads : spot (header s) s (step_at path w.step) ≡ Some p
  pub more : w.step.index + 1 < w.count
