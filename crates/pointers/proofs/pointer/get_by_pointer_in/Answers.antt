-- `pointers::pointer::get_by_pointer_in` meets its contract.
use mathlib.Core.Path.{sym, ◌∙◌}
use borrow.Author.Tests.{not-true, not-false}
use Rattle.layout.proofs.Words.{slice_octets}
use Rattle.edits.proofs.Descents.{Passed}
use Rattle.pointers.proofs.Lookups.{PointerRead, ContainerMet, Searched, search_ready}
use Rattle.pointers.proofs.Lookups.{get_left, get_bad, get_whole, get_scalar, get_none, get_stands, get_item}
use Rattle.std.proofs.Common.{ap, not}
use Rattle.std.specs.Prelude.{Ok}
use Rattle.layout.proofs.HandedOn.{handed_on, one_value}
use Rattle.layout.proofs.Checks.{readable_headed}
use Rattle.pointers.proofs.pointer.get_by_pointer_in.Goals.{After-find_pointer, Else-not-is_pointer, In_ok-check_record, In_default}
use Rattle.pointers.proofs.pointer.get_by_pointer_in.Goals as goal

-- What is known past each test.
passed : (c : In_ok-check_record) → Passed c.args.target.now
passed c =
    record {
      octets = slice_octets c.args.target.now c.type_inv.target;
      readable = sym c.check_record.ensures ∙ c.in_ok-check_record.was;
    }

pointer_read : (c : Else-not-is_pointer) → PointerRead c.args.target.now c.args.pointer.now
pointer_read c = record {
  before = passed (goal.at.Else-not-is_pointer c).In_ok-check_record;
  text = sym c.is_pointer.ensures ∙ not-false _ (ap not c.if-not-is_pointer.false);
}

container_met : (c : In_default) → ContainerMet c.args.target.now c.args.pointer.now
container_met c = record {
  before = pointer_read (goal.at.In_default c).Else-not-is_pointer;
  container = λ m e. c.in_default.not-Scalar m (one_value c.in_ok-read_header.was (c.read_header.ensures ∙ e));
}

searched : (c : After-find_pointer) → Searched c.args.target.now c.args.pointer.now c.find_pointer.result
searched c = record {
  before = container_met (goal.at.After-find_pointer c).In_default;
  finds = c.find_pointer.ensures;
}

pub returns-in_err-check_record : goal.returns-in_err-check_record
returns-in_err-check_record c = rw (handed_on _ c.from_residual.ensures) (get_left _ _ _ _ _ _ c.check_record.ensures c.in_err-check_record.was)

pub returns-in_err-read_header : goal.returns-in_err-read_header
returns-in_err-read_header c = readable_headed _ c.check_record.ensures c.in_ok-check_record.was c.read_header.ensures c.in_err-read_header.was

pub returns-then-not-is_pointer : goal.returns-then-not-is_pointer
returns-then-not-is_pointer c = get_bad (passed (goal.at.returns-then-not-is_pointer c).In_ok-check_record) _ _ (sym c.is_pointer.ensures ∙ not-true _ (ap not c.if-not-is_pointer.true))

pub returns-then-pointer-eq0 : goal.returns-then-pointer-eq0
returns-then-pointer-eq0 c = get_whole (pointer_read (goal.at.returns-then-pointer-eq0 c).Else-not-is_pointer) c.if-pointer-eq0.true _ c.write_copy.ensures

pub returns-in-Scalar : goal.returns-in-Scalar
returns-in-Scalar c = get_scalar (pointer_read (goal.at.returns-in-Scalar c).Else-not-is_pointer) c.if-pointer-eq0.false c.read_header.ensures (c.in_ok-read_header.was ∙ ap Ok c.in-Scalar.is) _

pub find_pointer-requires : goal.find_pointer-requires
find_pointer-requires c = search_ready (container_met c)

pub returns-in_default-find_pointer : goal.returns-in_default-find_pointer
returns-in_default-find_pointer c = get_none (searched (goal.at.returns-in_default-find_pointer c).After-find_pointer) c.in_default-find_pointer.is _

pub write_item-requires : goal.write_item-requires
write_item-requires c = get_stands (searched (goal.at.write_item-requires c).After-find_pointer) c.in-Some.is

pub returns : goal.returns
returns c = get_item (searched (goal.at.returns c).After-find_pointer) c.in-Some.is _ c.write_item.ensures
