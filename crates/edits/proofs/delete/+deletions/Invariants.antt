-- `edits::delete::put_deleted` and what it calls in a cycle meet their contracts: the allowance falls with each level.
use Prim.Native.Nat.{◌+◌, ◌*◌}
use Rattle.layout.specs.Parts.{name_in}
use Rattle.std.specs.Prelude.{option_copied}
use Rattle.builders.specs.Searched.{searched}
use Rattle.builders.proofs.Storing.{Stored}
use Rattle.edits.specs.Way.{steps_from}
use Rattle.edits.specs.Cut.{anew_value, anew_entry}
use Rattle.edits.proofs.delete.+deletions.Given as goal

abbrev pub decreases-put_deleted : goal.decreases-put_deleted
decreases-put_deleted l = 4 * l.allowance + 2

abbrev pub decreases-put_member_anew : goal.decreases-put_member_anew
decreases-put_member_anew l = 4 * l.allowance + 3

abbrev pub decreases-put_part_anew : goal.decreases-put_part_anew
decreases-put_part_anew l = 4 * l.allowance + 1

abbrev pub decreases-put_sorted_anew : goal.decreases-put_sorted_anew
decreases-put_sorted_anew l = 4 * l.allowance + 1

abbrev pub invariant-put_sorted_anew-loop : goal.invariant-put_sorted_anew-loop
invariant-put_sorted_anew-loop l =
    Stored (name_in l.s) (anew_value l.s l.name (steps_from l.next.path.now l.next)) (anew_entry l.s l.name (steps_from l.next.path.now l.next))
    (searched l.members) l.initial.out l.initial.to l.out (option_copied l.last) l.to l.counter
