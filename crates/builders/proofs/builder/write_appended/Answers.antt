-- `builders::builder::write_appended` meets its contract.
use Prim.Native.Nat.{◌^◌, ◌<◌}
use native.Mathlib.Omega.{arith}
use mathlib.Core.Path.{sym, ◌∙◌}
use Rattle.layout.proofs.Checks.{told_array}
use Rattle.builders.proofs.Knowns.{both_octets, BothOctets}
use Rattle.builders.proofs.Appends.{ArrayRead, BothRead, Counted}
use Rattle.builders.proofs.Appends.{append_left, append_right, append_kind, append_deep, array_left, append_lies, append_ends}
use Rattle.std.specs.Prelude.{◌≡◌, Ok, true, false}
use mathlib.Core.Path.{ap}
use Rattle.layout.proofs.HandedOn.{handed_on, one_value, not_both}
use Rattle.layout.proofs.Checks.{readable_headed}
use Rattle.builders.proofs.builder.write_appended.Goals.{After-shared_slice_known-2-1, In-Array, In_ok-check_record, In_ok-fits}
use Rattle.builders.proofs.builder.write_appended.Goals as goal

-- What is known past each test.
octets : (c : After-shared_slice_known-2-1) → BothOctets c.args.array.now c.args.item.now
octets c = both_octets c.args.array.now c.args.item.now c.type_inv.array c.type_inv.item

array_read : (c : In_ok-check_record) → ArrayRead c.args.array.now c.args.item.now
array_read c = record {
  octets = both_octets c.args.array.now c.args.item.now c.type_inv.array c.type_inv.item;
  array = sym c.check_record.ensures ∙ c.in_ok-check_record.was;
}

both_read : (c : In_ok-fits) → BothRead c.args.array.now c.args.item.now
both_read c = record {
  before = record {
    octets = both_octets c.args.array.now c.args.item.now c.type_inv.array c.type_inv.item;
    array = sym c.check_record.ensures ∙ c.in_ok-check_record.was;
  };
  item = λ x e. not_both (c.check_nesting.ensures ∙ e) c.in_ok-fits.was;
}

counted : (c : In-Array) → Counted c.args.array.now c.args.item.now c.in-Array.n
counted c = record {
  before = record {
    before = record {
      octets = both_octets c.args.array.now c.args.item.now c.type_inv.array c.type_inv.item;
      array = sym c.check_record.ensures ∙ c.in_ok-check_record.was;
    };
    item = λ x e. not_both (c.check_nesting.ensures ∙ e) c.in_ok-fits.was;
  };
  count = sym c.read_header.ensures ∙ (c.in_ok-n.was ∙ ap Ok c.in-Array.is);
}

few : (c : In-Array) → c.in-Array.n < 2 ^ 29
few c = (told_array _ _ c.read_header.ensures _ (c.in_ok-n.was ∙ ap Ok c.in-Array.is)).1

pub returns-in_err-check_record : goal.returns-in_err-check_record
returns-in_err-check_record c =
    rw (handed_on _ c.from_residual.ensures)
    (append_left (octets (goal.at.returns-in_err-check_record c).After-shared_slice_known-2-1) _ c.check_record.ensures c.in_err-check_record.was)

pub returns-in_err-fits : goal.returns-in_err-fits
returns-in_err-fits c =
    rw (handed_on _ c.from_residual-in_err-fits.ensures)
    (append_right (array_read (goal.at.returns-in_err-fits c).In_ok-check_record) _ c.check_nesting.ensures c.in_err-fits.was)

pub returns-in_err-n : goal.returns-in_err-n
returns-in_err-n c = readable_headed _ c.check_record.ensures c.in_ok-check_record.was c.read_header.ensures c.in_err-n.was

pub returns-in_default : goal.returns-in_default
returns-in_default c =
    append_kind (both_read (goal.at.returns-in_default c).In_ok-fits) _ c.read_header.ensures
    (λ k e. c.in_default.not-Array k (one_value c.in_ok-n.was e))

pub returns-then-not-fits : goal.returns-then-not-fits
returns-then-not-fits c = append_deep (counted (goal.at.returns-then-not-fits c).In-Array) _ c.check_nesting.ensures
    (c.in_ok-fits.was ∙ ap Ok c.if-not-fits.true)

pub overflow_add-header : goal.overflow_add-header
overflow_add-header c = omega (arith, few (goal.at.overflow_add-header c).In-Array)

pub overflow_cast-header : goal.overflow_cast-header
overflow_cast-header c = omega (arith, few (goal.at.overflow_cast-header c).In-Array)

pub invariant_of-left : goal.invariant_of-left
invariant_of-left c = record { lies = array_left (counted (goal.at.invariant_of-left c).In-Array) }

pub invariant_of-right : goal.invariant_of-right
invariant_of-right c = record { lies = append_lies (counted (goal.at.invariant_of-right c).In-Array) c.as_item.ensures }

pub returns : goal.returns
returns c =
    append_ends (counted (goal.at.returns c).In-Array) c.as_item.ensures c.check_nesting.ensures
    (λ e. let z : true ≡ false = sym c.if-not-fits.false ∙ one_value c.in_ok-fits.was e in cc)
    _ c.write_joined.ensures
