-- `layout::check::check_levels` meets its contract.
use mathlib.Core.Path.{refl, ap, ◌∙◌}
use Rattle.layout.specs.Bytes.{Octets}
use Rattle.layout.specs.Read.{read}
use Rattle.layout.proofs.Words.{slice_octets}
use Rattle.layout.proofs.Checks.{read_long}
use Rattle.layout.proofs.Nestings.{nesting_refused, nesting_fits, nesting_scalar, nesting_deep}
use Rattle.layout.proofs.Checks.{readable_headed}
use Rattle.layout.proofs.HandedOn.{one_value}
use Rattle.std.specs.Prelude.{Ok}
use Rattle.layout.proofs.check.check_levels.Goals.{After-check_nested}
use Rattle.layout.proofs.check.check_levels.Goals as goal

octets : (c : After-check_nested) → Octets c.args.s.now
octets c = slice_octets c.args.s.now c.type_inv.s

pub returns-then-s-gt-RECORD_LIMIT : goal.returns-then-s-gt-RECORD_LIMIT
returns-then-s-gt-RECORD_LIMIT c = nesting_refused _ (read c.args.s.now) _ _ (read_long c.args.s.now c.if-s-gt-RECORD_LIMIT.true) refl

pub returns-in-Ok : goal.returns-in-Ok
returns-in-Ok c = nesting_fits _ c.requires c.args.s.now (octets (goal.at.returns-in-Ok c).After-check_nested) c.if-s-gt-RECORD_LIMIT.false _ c.check_nested.ensures c.in-Ok.is

pub returns-in_err-read_header : goal.returns-in_err-read_header
returns-in_err-read_header c = readable_headed _ c.check_record.ensures c.in_ok-check_record.was c.read_header.ensures c.in_err-read_header.was

pub returns-in-Scalar : goal.returns-in-Scalar
returns-in-Scalar c =
    nesting_scalar _ c.requires c.args.s.now (octets (goal.at.returns-in-Scalar c).After-check_nested) c.if-s-gt-RECORD_LIMIT.false _ c.check_nested.ensures _ _ _
    c.in_default.is
    c.check_record.ensures
    c.in_ok-check_record.was
    c.read_header.ensures
    _
    (c.in_ok-read_header.was ∙ ap Ok c.in-Scalar.is)

pub returns : goal.returns
returns c =
    nesting_deep _ c.requires c.args.s.now (octets (goal.at.returns c).After-check_nested) c.if-s-gt-RECORD_LIMIT.false _ c.check_nested.ensures _ _ _
    c.in_default.is
    c.check_record.ensures
    c.in_ok-check_record.was
    c.read_header.ensures
    (λ n e. c.in_default-2.not-Scalar n (one_value c.in_ok-read_header.was e))
