-- `layout::check::check_body`, `check_item`, `check_items`, `check_nested` and `check_parts` meet their contracts.
-- They call each other; the number that falls is five times the allowance, and a place in the turn. The loop over the items keeps
-- that the answer for all of them is the answer for the rest, and that its place is the table's.
use Prim.Native.Nat.{◌+◌, ◌*◌, ◌-◌, ◌≤◌}
use mathlib.Core.Path.{◌≡◌}
use lib.ListN.{length}
use Rattle.layout.specs.Read.{nested}
use Rattle.layout.specs.Pass.{items_checked}
use Rattle.layout.specs.Table.{Carried}
use Rattle.layout.proofs.check.+checks.Given as goal

abbrev pub decreases-check_body : goal.decreases-check_body
decreases-check_body l = 5 * l.allowance + 4

abbrev pub decreases-check_item : goal.decreases-check_item
decreases-check_item l = 5 * l.allowance + 1

abbrev pub decreases-check_items : goal.decreases-check_items
decreases-check_items l = 5 * l.allowance + 2

abbrev pub decreases-check_nested : goal.decreases-check_nested
decreases-check_nested l = 5 * l.allowance

abbrev pub decreases-check_parts : goal.decreases-check_parts
decreases-check_parts l = 5 * l.allowance + 3

abbrev pub invariant-check_items-loop-i : goal.invariant-check_items-loop-i
invariant-check_items-loop-i l =
    (l.place ≤ length l.s)
    × (items_checked (nested l.allowance) l.s l.from l.start (l.n - l.from) ≡ items_checked (nested l.allowance) l.s l.i l.place (l.n - l.i))
    × Carried l.s l.from l.start l.i l.place
