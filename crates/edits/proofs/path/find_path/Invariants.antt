-- `edits::path::find_path` meets its contract.
use Rattle.layout.specs.Left.{left}
use Rattle.edits.specs.Find.{look_up}
use Rattle.edits.proofs.Descents.{Going}
use Rattle.edits.proofs.Lookups.{steps_in, steps_left}
use Rattle.edits.proofs.path.find_path.Given as goal

-- What the whole path finds is what the steps that are left find, from the item on.
abbrev pub invariant-loop-part : goal.invariant-loop-part
invariant-loop-part l =
    (goal.iterator-loop-part).can_next l.part-iterator × (goal.iterator-loop-part).is_finite l.part-iterator
    × Going l.s (look_up (steps_in l.path l.n)) l.item (steps_left (left l.part-iterator))
