-- `layout::every::part_passes`, `layout::every::parts_pass` and `layout::every::passes` meet their contracts.
-- They call each other; the number that falls is three times the allowance, and a place in the turn. The loop over the
-- parts keeps that all pass where those that are left do.
use mathlib.Core.Path.{ap, ◌∙◌}
use Prim.Native.Nat.{ℕ, ◌^◌, ◌<◌}
use native.Mathlib.Omega.{arith}
use Rattle.layout.proofs.Checks.{told_array, told_object}
use Rattle.layout.proofs.Asks.{every_number, every_container, every_extension, every_other, every_stop, every_more, every_end}
use Rattle.layout.proofs.Asks.{every_none, every_refused, every_scalar, every_array, every_object, every_misnamed}
use Rattle.std.specs.Prelude.{Ok}
use Rattle.layout.proofs.every.+questions.Given.{Over}
use Rattle.layout.proofs.every.+questions.Goals.{passes-In-Ok-Array, passes-In-Ok-Object}
use Rattle.layout.proofs.Lefts.{parts_left}
use Rattle.layout.proofs.every.+questions.Goals as goal

pub part_passes-returns-in-2 : goal.part_passes-returns-in-2
part_passes-returns-in-2 g t c = every_number _ _ _ _ _ c.in-2.is c.number.ensures

pub part_passes-returns-in-5 : goal.part_passes-returns-in-5
part_passes-returns-in-5 g t c = every_container _ _ _ _ _ c.in-5.is c.passes.ensures

pub part_passes-returns-in-6 : goal.part_passes-returns-in-6
part_passes-returns-in-6 g t c = every_extension _ _ _ _ _ c.in-6.is c.extension.ensures

pub part_passes-returns-in_default : goal.part_passes-returns-in_default
part_passes-returns-in_default g t c =
    every_other _ _ _ _ c.in_default.in_default-own.rest.0.1 (λ q. absurd (c.in_default.in_default-own.rest.0.0.1 q)) (λ q. absurd (c.in_default.in_default-own.rest.1 q))

pub parts_pass-loop-part-init : goal.parts_pass-loop-part-init
parts_pass-loop-part-init g t c = (
  tt,
  tt,
  rw (c.into_iter-part-iterator.ensures.into_iter_gives, c.starting_at-part-items.ensures, parts_left c.args.s.now (record { index = 0; place = c.args.start }) c.args.n),
)

pub parts_pass-loop-part-preserved : goal.parts_pass-loop-part-preserved
parts_pass-loop-part-preserved g t c = (
  tt,
  tt,
  every_more _ _ _ _ c.loop-part.invariant.2 _ _ c.in-Some.ensures.steps _ c.type_code.ensures _ c.part_passes.ensures c.if-not-part_passes.false,
)

pub parts_pass-returns-then-not-part_passes : goal.parts_pass-returns-then-not-part_passes
parts_pass-returns-then-not-part_passes g t c =
    every_stop _ _ _ _ c.loop-part.invariant.2 _ _ c.in-Some.ensures.steps _ c.type_code.ensures _ c.part_passes.ensures c.if-not-part_passes.true

pub parts_pass-returns : goal.parts_pass-returns
parts_pass-returns g t c = every_end _ _ _ _ c.loop-part.invariant.2 c.in-None.ensures.steps.0

-- How many items an array has, and members an object, where the header has told it.
array_few : (g : Over) (t : ℕ) (c : passes-In-Ok-Array g t) → c.in-Ok-Array.n < 2 ^ 29
array_few g t c = (told_array _ _ c.read_header.ensures _ (c.in-Ok-Array.is ∙ ap Ok c.in-Ok-Array.field-0-is)).1

object_few : (g : Over) (t : ℕ) (c : passes-In-Ok-Object g t) → c.in-Ok-Object.n < 2 ^ 29
object_few g t c = (told_object _ _ c.read_header.ensures _ (c.in-Ok-Object.is ∙ ap Ok c.in-Ok-Object.field-0-is)).1

pub passes-returns-then-allowance-eq0 : goal.passes-returns-then-allowance-eq0
passes-returns-then-allowance-eq0 g t c = every_none _ _ _ c.if-allowance-eq0.true

pub passes-overflow_mul-n : goal.passes-overflow_mul-n
passes-overflow_mul-n g t c = omega (arith, array_few g t (goal.at.passes-overflow_mul-n g t c).In-Ok-Array)

pub passes-overflow_add-n : goal.passes-overflow_add-n
passes-overflow_add-n g t c = omega (arith, array_few g t (goal.at.passes-overflow_add-n g t c).In-Ok-Array)

pub passes-parts_pass-requires : goal.passes-parts_pass-requires
passes-parts_pass-requires g t c =
    let few = array_few g t (goal.at.passes-parts_pass-requires g t c).In-Ok-Array in
    λ κs lives. (omega (arith, few), (lives, (omega (arith, few), omega (arith, few))))

pub passes-overflow_add-start : goal.passes-overflow_add-start
passes-overflow_add-start g t c = omega (arith, object_few g t (goal.at.passes-overflow_add-start g t c).In-Ok-Object)

pub passes-overflow_mul-start : goal.passes-overflow_mul-start
passes-overflow_mul-start g t c = omega (arith, object_few g t (goal.at.passes-overflow_mul-start g t c).In-Ok-Object)

pub passes-overflow_add-start-in-Ok-Object : goal.passes-overflow_add-start-in-Ok-Object
passes-overflow_add-start-in-Ok-Object g t c = omega (arith, object_few g t (goal.at.passes-overflow_add-start-in-Ok-Object g t c).In-Ok-Object)

pub passes-names-requires : goal.passes-names-requires
passes-names-requires g t c = omega (arith, object_few g t (goal.at.passes-names-requires g t c).In-Ok-Object)

pub passes-overflow_add-n-then-names : goal.passes-overflow_add-n-then-names
passes-overflow_add-n-then-names g t c = omega (arith, object_few g t (goal.at.passes-overflow_add-n-then-names g t c).In-Ok-Object)

pub passes-parts_pass-requires-then-names : goal.passes-parts_pass-requires-then-names
passes-parts_pass-requires-then-names g t c =
    let few = object_few g t (goal.at.passes-parts_pass-requires-then-names g t c).In-Ok-Object in
    λ κs lives. (omega (arith, few), (lives, (omega (arith, few), omega (arith, few))))

pub passes-returns-then-names : goal.passes-returns-then-names
passes-returns-then-names g t c =
    every_object _ _ _ _ c.if-allowance-eq0.false c.read_header.ensures _ _ (c.in-Ok-Object.is ∙ ap Ok c.in-Ok-Object.field-0-is)
    c.names.ensures
    _
    c.if-names.true
    c.parts_pass-then-names.ensures

pub passes-returns-in-Err : goal.passes-returns-in-Err
passes-returns-in-Err g t c = every_refused _ _ _ _ c.if-allowance-eq0.false c.read_header.ensures _ c.in-Err.is

pub passes-returns-in-Ok-Scalar : goal.passes-returns-in-Ok-Scalar
passes-returns-in-Ok-Scalar g t c =
    every_scalar _ _ _ _ c.if-allowance-eq0.false c.read_header.ensures _ _ _ _ _ _ (c.in-Ok-Scalar.is ∙ ap Ok c.in-Ok-Scalar.field-0-is)
    c.read_jentry-entry.ensures
    c.payload_len.ensures
    c.type_code.ensures
    c.slice-payload.ensures
    c.part_passes.ensures

pub passes-returns-in-Ok-Array : goal.passes-returns-in-Ok-Array
passes-returns-in-Ok-Array g t c = every_array _ _ _ _ c.if-allowance-eq0.false c.read_header.ensures _ _ (c.in-Ok-Array.is ∙ ap Ok c.in-Ok-Array.field-0-is) c.parts_pass.ensures

pub passes-returns-else-names : goal.passes-returns-else-names
passes-returns-else-names g t c =
    every_misnamed _ _ _ _ c.if-allowance-eq0.false c.read_header.ensures _ _ (c.in-Ok-Object.is ∙ ap Ok c.in-Ok-Object.field-0-is)
    c.names.ensures
    c.if-names.false
