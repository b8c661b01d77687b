-- `edits::find::find_name` meets its contract.
use mathlib.Core.Path.{◌≡◌}
use mathlib.Core.Bool.{Bool}
use Prim.Native.Nat.{◌+◌}
use Rattle.std.specs.List.{find}
use Rattle.std.specs.Fn.{FnReturnsAt}
use Rattle.layout.specs.Bytes.{Bytes}
use Rattle.layout.specs.Parts.{names_of}
use Rattle.layout.specs.Left.{Placed, left}
use Rattle.edits.specs.Spot.{first_meant, Tells, spot_at}
use Rattle.edits.proofs.Parts.{spot_shown}
use Rattle.edits.proofs.find.find_name.Given as goal

-- The first of all names that is meant is the first of those that are left.
abbrev pub invariant-loop-part : goal.invariant-loop-part
invariant-loop-part g l =
    (goal.iterator-loop-part g).can_next l.part-iterator × (goal.iterator-loop-part g).is_finite l.part-iterator
    × ((meant : Bytes → Bool) → Tells (FnReturnsAt g.F.Fn l.is_meant) meant
    → spot_shown (find (λ (q : Placed). meant q.bytes) (left l.part-iterator)) ≡ spot_at l.s (l.n + l.n) (first_meant meant (names_of l.s l.n)))
