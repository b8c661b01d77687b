-- `edits::delete::manner_of` meets its contract.
use Rattle.edits.proofs.Manners.{manner_items, manner_rising, manner_unsorted}
use Prim.Native.Nat.{◌^◌, ◌<◌}
use mathlib.Core.Path.{ap, ◌∙◌}
use Rattle.std.specs.Prelude.{Ok}
use native.Mathlib.Omega.{arith}
use Rattle.layout.proofs.Checks.{told_object}
use Rattle.edits.proofs.delete.manner_of.Goals.{In-Ok-Object}
use Rattle.edits.proofs.delete.manner_of.Goals as goal

few : (c : In-Ok-Object) → c.in-Ok-Object.n < 2 ^ 29
few c = (told_object _ _ c.read_header.ensures _ (c.in-Ok-Object.is ∙ ap Ok c.in-Ok-Object.field-0-is)).1

pub overflow_add-n : goal.overflow_add-n
overflow_add-n c = omega (arith, few c)

pub overflow_mul-n : goal.overflow_mul-n
overflow_mul-n c = omega (arith, few c)

pub overflow_add-n-in-Ok-Object : goal.overflow_add-n-in-Ok-Object
overflow_add-n-in-Ok-Object c = omega (arith, few c)

pub is_rising-requires : goal.is_rising-requires
is_rising-requires c = omega (arith, few c)

pub returns-then-is_rising : goal.returns-then-is_rising
returns-then-is_rising c = manner_rising _ _ c.read_header.ensures _ _ c.is_rising.ensures (c.in-Ok-Object.is ∙ ap Ok c.in-Ok-Object.field-0-is) c.if-is_rising.true

pub returns-in-Ok-Array : goal.returns-in-Ok-Array
returns-in-Ok-Array c = manner_items _ _ c.read_header.ensures _ (c.in-Ok-Array.is ∙ ap Ok c.in-Ok-Array.field-0-is)

pub returns-else-is_rising : goal.returns-else-is_rising
returns-else-is_rising c = manner_unsorted _ _ c.read_header.ensures _ _ c.is_rising.ensures (c.in-Ok-Object.is ∙ ap Ok c.in-Ok-Object.field-0-is) c.if-is_rising.false
