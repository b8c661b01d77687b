-- `edits::operator::write_concat` meets its contract.
use mathlib.Core.Path.{sym, ◌∙◌, ap}
use Rattle.builders.proofs.Knowns.{both_octets, BothOctets}
use Rattle.edits.proofs.ConcatWrites.{LeftNests, BothNest, left_refused, right_refused, left_other, right_other, two_objects}
use Rattle.std.specs.Prelude.{Ok}
use Rattle.layout.proofs.HandedOn.{handed_on, one_value, not_both}
use Rattle.layout.proofs.Checks.{nested_headed}
use Rattle.edits.proofs.operator.write_concat.Goals.{After-shared_slice_known-2-1, In_ok-left_fits, In_ok-right_fits}
use Rattle.edits.proofs.operator.write_concat.Goals as goal

-- What is known past each check.
octets : (c : After-shared_slice_known-2-1) → BothOctets c.args.left.now c.args.right.now
octets c = both_octets c.args.left.now c.args.right.now c.type_inv.left c.type_inv.right

left_nests : (c : In_ok-left_fits) → LeftNests c.args.left.now c.args.right.now
left_nests c = record {
  octets = both_octets c.args.left.now c.args.right.now c.type_inv.left c.type_inv.right;
  left = λ x e. not_both (c.check_nesting.ensures ∙ e) c.in_ok-left_fits.was;
}

both_nest : (c : In_ok-right_fits) → BothNest c.args.left.now c.args.right.now
both_nest c = record {
  before = record {
    octets = both_octets c.args.left.now c.args.right.now c.type_inv.left c.type_inv.right;
    left = λ x e. not_both (c.check_nesting.ensures ∙ e) c.in_ok-left_fits.was;
  };
  right = λ x e. not_both (c.check_nesting-2.ensures ∙ e) c.in_ok-right_fits.was;
}

pub returns-in_err-left_fits : goal.returns-in_err-left_fits
returns-in_err-left_fits c =
    rw (handed_on _ c.from_residual.ensures)
    (left_refused (octets (goal.at.returns-in_err-left_fits c).After-shared_slice_known-2-1) _ c.check_nesting.ensures c.in_err-left_fits.was)

pub returns-in_err-right_fits : goal.returns-in_err-right_fits
returns-in_err-right_fits c =
    rw (handed_on _ c.from_residual-in_err-right_fits.ensures)
    (right_refused (left_nests (goal.at.returns-in_err-right_fits c).In_ok-left_fits) _ c.check_nesting-2.ensures c.in_err-right_fits.was)

pub returns-in_err-m : goal.returns-in_err-m
returns-in_err-m c = nested_headed _ c.check_nesting.ensures c.in_ok-left_fits.was c.read_header.ensures c.in_err-m.was

pub returns-in_err-n : goal.returns-in_err-n
returns-in_err-n c = nested_headed _ c.check_nesting-2.ensures c.in_ok-right_fits.was c.read_header-2.ensures c.in_err-n.was

pub write_items-requires : goal.write_items-requires
write_items-requires c =
    left_other (both_nest (goal.at.write_items-requires c).In_ok-right_fits) (sym c.check_nesting.ensures ∙ c.in_ok-left_fits.was) (sym c.check_nesting-2.ensures ∙ c.in_ok-right_fits.was)
    c.read_header.ensures
    (λ k e. c.in_default.not-Object k (one_value c.in_ok-m.was e))

pub write_items-requires-in_default-2 : goal.write_items-requires-in_default-2
write_items-requires-in_default-2 c =
    right_other (both_nest (goal.at.write_items-requires-in_default-2 c).In_ok-right_fits)
    (sym c.check_nesting.ensures ∙ c.in_ok-left_fits.was) (sym c.check_nesting-2.ensures ∙ c.in_ok-right_fits.was)
    c.read_header-2.ensures
    (λ k e. c.in_default-2.not-Object k (one_value c.in_ok-n.was e))

pub write_merged-requires : goal.write_merged-requires
write_merged-requires c =
    two_objects (both_nest (goal.at.write_merged-requires c).In_ok-right_fits) (sym c.read_header.ensures ∙ c.in_ok-m.was ∙ ap Ok c.in-Object.is)
    (sym c.read_header-2.ensures ∙ c.in_ok-n.was ∙ ap Ok c.in-Object-2.is)
