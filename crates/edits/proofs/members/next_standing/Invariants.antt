-- `edits::members::next_standing` meets its contract.
-- The loop keeps that what was ahead at first is ahead still but for members that are left out, and that its places are the table's.
use mathlib.Core.Path.{◌≡◌}
use Rattle.edits.specs.Members.{kept_ahead, Near, CarriedAhead}
use Rattle.edits.proofs.Standings.{ahead_at}
use Rattle.edits.proofs.members.next_standing.Given as goal

abbrev pub invariant-loop-i : goal.invariant-loop-i
invariant-loop-i l =
    Near (ahead_at l.ahead l.at l.i)
    × (kept_ahead l.s l.kept l.ahead ≡ kept_ahead l.s l.kept (ahead_at l.ahead l.at l.i))
    × CarriedAhead l.s l.ahead (ahead_at l.ahead l.at l.i)
