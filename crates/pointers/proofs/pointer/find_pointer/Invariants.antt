-- `pointers::pointer::find_pointer` meets its contract.
use lib.ListN.{length}
use Rattle.edits.proofs.Descents.{Going}
use Rattle.pointers.specs.Pointer.{tokens, point}
use Rattle.pointers.proofs.Steps.{tokens_left}
use Rattle.pointers.proofs.pointer.find_pointer.Given as goal

-- What the whole pointer finds is what the tokens that are left find, from the item on.
abbrev pub invariant-loop-token : goal.invariant-loop-token
invariant-loop-token l = Going l.s (point (tokens l.pointer)) l.item (tokens_left l.pointer (length l.yielded))
