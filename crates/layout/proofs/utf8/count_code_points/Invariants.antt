-- `layout::utf8::count_code_points` meets its contract.
-- The loop keeps what it has counted, and that the rest decides.
use lib.ListN.{length}
use Rattle.layout.proofs.Texts.{Counting}
use Rattle.layout.proofs.utf8.count_code_points.Given as goal

abbrev pub invariant-loop-left : goal.invariant-loop-left
invariant-loop-left l = Counting l.s l.count l.left

abbrev pub decreases-loop-left : goal.decreases-loop-left
decreases-loop-left l = length l.left
