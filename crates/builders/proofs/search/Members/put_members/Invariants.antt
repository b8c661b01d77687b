-- `builders::search::Members::put_members` meets its contract.
use Rattle.layout.specs.Parts.{name_in, value_in}
use Rattle.std.specs.Prelude.{option_copied}
use Rattle.builders.specs.Searched.{searched}
use Rattle.builders.specs.Weave.{own_entry}
use Rattle.builders.proofs.Storing.{Stored}
use Rattle.builders.proofs.search.Members.put_members.Given as goal

abbrev pub invariant-loop : goal.invariant-loop
invariant-loop l = Stored (name_in l.self.keys.now) (value_in l.self.vals.now) own_entry (searched l.self) l.initial.out l.initial.at l.out (option_copied l.last) l.at l.counter
