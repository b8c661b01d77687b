-- `edits::merge::put_rising` meets its contract.
-- The loop keeps what is stored so far, and that the places of both sides are those of their tables.
use Prim.Native.Nat.{◌+◌, ◌-◌, ◌≤◌}
use mathlib.Core.Path.{◌≡◌}
use Rattle.layout.specs.Table.{nth_member}
use Rattle.edits.proofs.Walks.{Walking}
use Rattle.edits.proofs.merge.put_rising.Given as goal

abbrev pub invariant-loop-i : goal.invariant-loop-i
invariant-loop-i l =
    (l.m + l.n ≤ 16384)
    × Walking l.left l.m l.right l.n l.initial.out l.initial.at l.out l.l l.r l.at l.i l.j
    × (l.l ≡ nth_member l.left l.m l.i)
    × (l.r ≡ nth_member l.right l.n l.j)

abbrev pub decreases-loop-i : goal.decreases-loop-i
decreases-loop-i l = l.m - l.i + (l.n - l.j)
