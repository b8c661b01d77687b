-- `layout::check::names_end` meets its contract.
-- The loop keeps that the end of all names is the end of the rest, and that its place is the table's.
use Prim.Native.Nat.{◌≤◌, ◌*◌, ◌-◌, ◌+◌}
use mathlib.Core.Path.{◌≡◌}
use Rattle.layout.specs.Pass.{names_end}
use Rattle.layout.specs.Table.{Carried}
use Rattle.layout.proofs.check.names_end.Given as goal

abbrev pub invariant-loop-i : goal.invariant-loop-i
invariant-loop-i l =
    (l.i ≤ l.names)
    × (l.place ≤ l.start + 268435456 * l.i)
    × (names_end l.s 0 l.start l.names ≡ names_end l.s l.i l.place (l.names - l.i))
    × Carried l.s 0 l.start l.i l.place
