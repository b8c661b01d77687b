-- `edits::operator::strip_nulls_in` meets its contract.
use mathlib.Core.Path.{sym, ◌∙◌, ap}
use Rattle.layout.proofs.Words.{slice_octets}
use Rattle.edits.proofs.Descents.{Passed}
use Rattle.edits.proofs.StripWrites.{ContainerAt, strip_left, strip_scalar, strip_ready, strip_ends}
use Rattle.std.specs.Prelude.{Ok}
use Rattle.layout.proofs.HandedOn.{handed_on, one_value}
use Rattle.layout.proofs.Checks.{readable_headed}
use Rattle.edits.proofs.operator.strip_nulls_in.Goals.{In_ok-check_record, In_default}
use Rattle.edits.proofs.operator.strip_nulls_in.Goals as goal

-- What is known past each test.
passed : (c : In_ok-check_record) → Passed c.args.target.now
passed c =
    record {
      octets = slice_octets c.args.target.now c.type_inv.target;
      readable = sym c.check_record.ensures ∙ c.in_ok-check_record.was;
    }

container_at : (c : In_default) → ContainerAt c.args.target.now
container_at c = record {
  passed = passed (goal.at.In_default c).In_ok-check_record;
  container = λ m e. c.in_default.not-Scalar m (one_value c.in_ok-read_header.was (c.read_header.ensures ∙ e));
}

pub returns-in_err-check_record : goal.returns-in_err-check_record
returns-in_err-check_record c = rw (handed_on _ c.from_residual.ensures) (strip_left _ _ _ c.check_record.ensures c.in_err-check_record.was)

pub returns-in_err-read_header : goal.returns-in_err-read_header
returns-in_err-read_header c = readable_headed _ c.check_record.ensures c.in_ok-check_record.was c.read_header.ensures c.in_err-read_header.was

pub returns-in-Scalar : goal.returns-in-Scalar
returns-in-Scalar c = strip_scalar (passed (goal.at.returns-in-Scalar c).In_ok-check_record) (sym c.read_header.ensures ∙ c.in_ok-read_header.was ∙ ap Ok c.in-Scalar.is) _ c.write_copy.ensures

pub write_stripped-requires : goal.write_stripped-requires
write_stripped-requires c = strip_ready (container_at (goal.at.write_stripped-requires c).In_default)

pub returns : goal.returns
returns c = strip_ends (container_at (goal.at.returns c).In_default) _ c.write_stripped.ensures
