-- `layout::parts::place_after` meets its contract.
-- The loop keeps that the last place is behind the rest, and that its place is the table's.
use Prim.Native.Nat.{◌+◌, ◌-◌, ◌*◌, ◌^◌, ◌≤◌}
use mathlib.Core.Path.{◌≡◌}
use Rattle.layout.specs.Entry.{lengths}
use Rattle.layout.specs.Table.{Carried}
use Rattle.layout.proofs.parts.place_after.Given as goal

abbrev pub invariant-loop-i : goal.invariant-loop-i
invariant-loop-i l =
    (l.i ≤ l.to)
    × (l.place ≤ l.initial.place + 2 ^ 28 * l.i)
    × (l.initial.place + lengths l.s l.initial.i (l.to - l.initial.i) ≡ l.place + lengths l.s l.i (l.to - l.i))
    × Carried l.s l.initial.i l.initial.place l.i l.place
