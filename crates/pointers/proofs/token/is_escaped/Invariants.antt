-- `pointers::token::is_escaped` meets its contract.
use mathlib.Core.Path.{◌≡◌}
use lib.ListN.{length}
use Rattle.pointers.specs.Pointer.{escaped}
use Rattle.pointers.proofs.token.is_escaped.Given as goal

-- What is left decides.
abbrev pub invariant-loop-left : goal.invariant-loop-left
invariant-loop-left l = escaped l.text ≡ escaped l.left

abbrev pub decreases-loop-left : goal.decreases-loop-left
decreases-loop-left l = length l.left
