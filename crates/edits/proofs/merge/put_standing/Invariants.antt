-- `edits::merge::put_standing` meets its contract.
use Rattle.edits.proofs.Walks.{Putting}
use Rattle.edits.proofs.merge.put_standing.Given as goal

abbrev pub invariant-loop : goal.invariant-loop
invariant-loop l = Putting l.s l.count l.initial.out l.initial.here l.initial.at l.out l.here l.at l.counter
