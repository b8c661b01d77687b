-- `edits::members::measure_ahead` meets its contract.
-- The loop keeps the sizes so far beside those of what is ahead, and that its places are the table's.
use Rattle.edits.proofs.Standings.{Sized, ahead_at}
use Rattle.edits.proofs.members.measure_ahead.Given as goal

abbrev pub invariant-loop-i : goal.invariant-loop-i
invariant-loop-i l = Sized l.s l.kept l.fn.ahead l.sizes (ahead_at l.fn.ahead l.at l.i)
