-- `layout::check::check_record` meets its contract.
use mathlib.Core.Path.{ap, ◌∙◌}
use native.Mathlib.Omega.{arith}
use Rattle.layout.proofs.Checks.{read_long, told_scalar, root_scalar, root_nested, root_refused}
use Rattle.layout.proofs.HandedOn.{handed_on, one_value}
use Rattle.std.specs.Prelude.{Ok}
use Rattle.layout.proofs.check.check_record.Goals as goal

pub returns-then-s-gt-RECORD_LIMIT : goal.returns-then-s-gt-RECORD_LIMIT
returns-then-s-gt-RECORD_LIMIT c = read_long _ c.if-s-gt-RECORD_LIMIT.true

pub check_scalar-requires : goal.check_scalar-requires
check_scalar-requires c = let h = told_scalar _ _ c.read_header.ensures _ (c.in_ok-count.was ∙ ap Ok c.in-Scalar.is) in omega arith

pub returns-in_err-count : goal.returns-in_err-count
returns-in_err-count c = handed_on _ c.from_residual.ensures ∙ root_refused _ c.if-s-gt-RECORD_LIMIT.false _ c.read_header.ensures c.in_err-count.was

pub returns-in-Scalar : goal.returns-in-Scalar
returns-in-Scalar c = root_scalar _ c.if-s-gt-RECORD_LIMIT.false _ c.read_header.ensures _ _ (c.in_ok-count.was ∙ ap Ok c.in-Scalar.is) c.check_scalar.ensures

pub returns : goal.returns
returns c =
    root_nested _ c.if-s-gt-RECORD_LIMIT.false _ c.read_header.ensures
    (λ n e. c.in_default.not-Scalar n (one_value c.in_ok-count.was e))
    _ c.check_nested.ensures
