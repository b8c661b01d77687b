-- `pointers::token::find_token` meets its contract.
use Prim.Native.Nat.{◌^◌, ◌<◌}
use mathlib.Core.Path.{sym, ◌∙◌, ap}
use Rattle.layout.proofs.Checks.{told_array, told_object}
use Rattle.edits.proofs.Finds.{told_in, told_at}
use Rattle.pointers.proofs.Indexes.{meant_lt}
use Rattle.pointers.proofs.Searches.{token_array, token_object, token_scalar, token_refused}
use Rattle.std.specs.Prelude.{Ok}
use Rattle.pointers.proofs.token.find_token.Goals.{In-Ok-Array, In-Ok-Object}
use Rattle.pointers.proofs.token.find_token.Goals as goal

-- The counts that a header tells are small.
few : (c : In-Ok-Array) → c.in-Ok-Array.n < 2 ^ 29
few c = (told_array _ _ c.read_header.ensures _ (c.in-Ok-Array.is ∙ ap Ok c.in-Ok-Array.field-0-is)).1

few_names : (c : In-Ok-Object) → c.in-Ok-Object.n < 2 ^ 29
few_names c = (told_object _ _ c.read_header.ensures _ (c.in-Ok-Object.is ∙ ap Ok c.in-Ok-Object.field-0-is)).1

pub token_place-requires : goal.token_place-requires
token_place-requires c = few c

pub item_at-requires : goal.item_at-requires
item_at-requires c = (few (goal.at.item_at-requires c).In-Ok-Array, told_in _ _ (meant_lt _ _) _ c.token_place.ensures)

pub find_value-requires : goal.find_value-requires
find_value-requires c = (few_names c, sym c.read_header.ensures ∙ (c.in-Ok-Object.is ∙ ap Ok c.in-Ok-Object.field-0-is))

pub returns-in-Ok-Array : goal.returns-in-Ok-Array
returns-in-Ok-Array c =
    token_array _ _ _ c.read_header.ensures _ _ (c.in-Ok-Array.is ∙ ap Ok c.in-Ok-Array.field-0-is)
    (told_at _ _ _ _ c.token_place.ensures _ c.item_at.ensures)

pub returns-in-Ok-Object : goal.returns-in-Ok-Object
returns-in-Ok-Object c = token_object _ _ _ c.read_header.ensures _ _ (c.in-Ok-Object.is ∙ ap Ok c.in-Ok-Object.field-0-is) c.find_value.ensures

pub returns-in-Ok-Scalar : goal.returns-in-Ok-Scalar
returns-in-Ok-Scalar c = token_scalar _ _ _ c.read_header.ensures _ (c.in-Ok-Scalar.is ∙ ap Ok c.in-Ok-Scalar.field-0-is)

pub returns-in-Err : goal.returns-in-Err
returns-in-Err c = token_refused _ _ _ c.read_header.ensures _ c.in-Err.is
