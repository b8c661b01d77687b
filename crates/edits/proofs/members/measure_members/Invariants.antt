-- `edits::members::measure_members` meets its contract.
use Rattle.std.specs.Prelude.{option_copied}
use Rattle.builders.specs.Searched.{searched}
use Rattle.edits.proofs.Measures.{Measured}
use Rattle.edits.proofs.members.measure_members.Given as goal

abbrev pub invariant-loop : goal.invariant-loop
invariant-loop l = Measured l.members.keys.now l.members.vals.now (searched l.members) (option_copied l.last) l.sizes l.counter
