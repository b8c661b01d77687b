-- `edits::find::find_step` meets its contract.
use mathlib.Core.Path.{ap, ◌∙◌}
use Rattle.layout.proofs.Checks.{told_array, told_object}
use Rattle.edits.proofs.Finds.{step_array, step_object, step_scalar, step_refused}
use Rattle.std.specs.Prelude.{Ok}
use Rattle.edits.proofs.find.find_step.Goals as goal

pub find_item-requires : goal.find_item-requires
find_item-requires c = (told_array _ _ c.read_header.ensures _ (c.in-Ok-Array.is ∙ ap Ok c.in-Ok-Array.field-0-is)).1

pub find_value-requires : goal.find_value-requires
find_value-requires c = (told_object _ _ c.read_header.ensures _ (c.in-Ok-Object.is ∙ ap Ok c.in-Ok-Object.field-0-is)).1

pub returns-in-Ok-Array : goal.returns-in-Ok-Array
returns-in-Ok-Array c = step_array _ _ _ _ _ c.key_of-key.ensures c.read_header.ensures _ _ (c.in-Ok-Array.is ∙ ap Ok c.in-Ok-Array.field-0-is) c.find_item.ensures

pub returns-in-Ok-Object : goal.returns-in-Ok-Object
returns-in-Ok-Object c = step_object _ _ _ _ _ c.key_of-key.ensures c.read_header.ensures _ _ (c.in-Ok-Object.is ∙ ap Ok c.in-Ok-Object.field-0-is) c.find_value.ensures

pub returns-in-Ok-Scalar : goal.returns-in-Ok-Scalar
returns-in-Ok-Scalar c = step_scalar _ _ _ _ _ c.key_of-key.ensures c.read_header.ensures _ (c.in-Ok-Scalar.is ∙ ap Ok c.in-Ok-Scalar.field-0-is)

pub returns-in-Err : goal.returns-in-Err
returns-in-Err c = step_refused _ _ _ _ _ c.key_of-key.ensures c.read_header.ensures _ c.in-Err.is
