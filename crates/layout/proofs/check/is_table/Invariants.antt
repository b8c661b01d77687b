-- `layout::check::is_table` meets its contract.
-- The loop keeps that the table passes where the rest of it does, and the sum of the lengths passed.
use Prim.Native.Nat.{◌≤◌, ◌*◌, ◌-◌, ◌+◌}
use mathlib.Core.Path.{◌≡◌}
use Rattle.layout.specs.Entry.{lengths}
use Rattle.layout.specs.Place.{table_ok}
use Rattle.layout.proofs.check.is_table.Given as goal

abbrev pub invariant-loop-i : goal.invariant-loop-i
invariant-loop-i l =
    (l.i ≤ l.table.entries)
    × (l.sum ≤ 268435456 * l.i)
    × (table_ok l.s l.table.names 0 l.table.entries ≡ table_ok l.s l.table.names l.i (l.table.entries - l.i))
    × (lengths l.s 0 l.table.entries ≡ l.sum + lengths l.s l.i (l.table.entries - l.i))
