-- `edits::keypath::check_path` meets its contract.
use mathlib.Core.Path.{ap, sym, ◌∙◌}
use Rattle.layout.proofs.Words.{slice_octets}
use Rattle.layout.proofs.Checks.{told_array}
use Rattle.edits.proofs.Paths.{count_unreadable, count_no_array, count_steps, count_no_steps}
use Rattle.std.specs.Prelude.{Ok}
use Rattle.layout.proofs.HandedOn.{an_error, a_value, one_value}
use Rattle.layout.proofs.Checks.{readable_headed}
use Rattle.edits.proofs.keypath.check_path.Goals as goal

pub returns-then-is_err : goal.returns-then-is_err
returns-then-is_err c =
    let z = an_error c.check_record.result (sym c.is_err.ensures.value ∙ c.if-is_err.true) in
    count_unreadable c.args.path.now _ c.check_record.ensures z.0 z.1

pub returns-in_default : goal.returns-in_default
returns-in_default c =
    readable_headed _ c.check_record.ensures (a_value c.check_record.result (sym c.is_err.ensures.value ∙ c.if-is_err.false)).1
    c.read_header.ensures c.in_default.is

pub are_steps-requires : goal.are_steps-requires
are_steps-requires c = (told_array _ _ c.read_header.ensures _ (c.in-Ok.is ∙ ap Ok c.in-Array.is)).1

pub returns-in_default-header : goal.returns-in_default-header
returns-in_default-header c =
    count_no_array c.args.path.now _ c.check_record.ensures (slice_octets c.args.path.now c.type_inv.path)
    (a_value c.check_record.result (sym c.is_err.ensures.value ∙ c.if-is_err.false)).1 _
    c.read_header.ensures (λ n e. c.in_default-header.not-Array n (one_value c.in-Ok.is e))

pub returns-then-are_steps : goal.returns-then-are_steps
returns-then-are_steps c =
    count_steps c.args.path.now _ c.check_record.ensures (slice_octets c.args.path.now c.type_inv.path)
    (a_value c.check_record.result (sym c.is_err.ensures.value ∙ c.if-is_err.false)).1 _
    c.read_header.ensures _ (c.in-Ok.is ∙ ap Ok c.in-Array.is) _ c.are_steps.ensures c.if-are_steps.true

pub returns : goal.returns
returns c =
    count_no_steps c.args.path.now _ c.check_record.ensures (slice_octets c.args.path.now c.type_inv.path)
    (a_value c.check_record.result (sym c.is_err.ensures.value ∙ c.if-is_err.false)).1 _
    c.read_header.ensures _ (c.in-Ok.is ∙ ap Ok c.in-Array.is) _ c.are_steps.ensures c.if-are_steps.false
