-- `builders::names::is_distinct` meets its contract.
-- The loop keeps that all names are distinct where those that are left are.
use mathlib.Core.Path.{◌≡◌}
use Rattle.layout.specs.Place.{parts_at}
use Rattle.layout.specs.Parts.{texts}
use Rattle.layout.specs.Left.{names_left}
use Rattle.builders.specs.Order.{distinct}
use Rattle.builders.proofs.names.is_distinct.Given as goal

abbrev pub invariant-loop-name : goal.invariant-loop-name
invariant-loop-name l = distinct (texts (parts_at l.s 0 l.start l.n)) ≡ distinct (names_left l.names)

abbrev pub decreases-loop-name : goal.decreases-loop-name
decreases-loop-name l = l.names.count
