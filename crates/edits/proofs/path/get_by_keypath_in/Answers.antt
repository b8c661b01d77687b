-- `edits::path::get_by_keypath_in` meets its contract.
use mathlib.Core.Path.{sym, ◌∙◌, ap}
use Rattle.builders.proofs.Knowns.{both_octets, BothOctets}
use Rattle.edits.proofs.Lookups.{TargetRead, StepsCounted, ContainerMet, Searched, search_ready}
use Rattle.edits.proofs.Lookups.{get_left, get_path, get_whole, get_scalar, get_none, get_stands, get_item}
use Rattle.std.specs.Prelude.{Ok}
use Rattle.layout.proofs.HandedOn.{handed_on, one_value}
use Rattle.layout.proofs.Checks.{readable_headed}
use Rattle.edits.proofs.path.get_by_keypath_in.Goals.{After-find_path, After-shared_slice_known-2-1, In_ok-n, In_ok-check_record, In_default}
use Rattle.edits.proofs.path.get_by_keypath_in.Goals as goal

-- What is known past each test.
octets : (c : After-shared_slice_known-2-1) → BothOctets c.args.target.now c.args.path.now
octets c = both_octets c.args.target.now c.args.path.now c.type_inv.target c.type_inv.path

target_read : (c : In_ok-check_record) → TargetRead c.args.target.now c.args.path.now
target_read c = record {
  octets = octets (goal.at.In_ok-check_record c).After-shared_slice_known-2-1;
  readable = sym c.check_record.ensures ∙ c.in_ok-check_record.was;
}

steps_counted : (c : In_ok-n) → StepsCounted c.args.target.now c.args.path.now c.in_ok-n.n
steps_counted c = record {
  before = target_read (goal.at.In_ok-n c).In_ok-check_record;
  count = sym c.in_ok-n.was ∙ c.check_path.ensures;
}

container_met : (c : In_default) → ContainerMet c.args.target.now c.args.path.now c.in_ok-n.n
container_met c = record {
  before = steps_counted (goal.at.In_default c).In_ok-n;
  container = λ m e. c.in_default.not-Scalar m (one_value c.in_ok-read_header.was (c.read_header.ensures ∙ e));
}

searched : (c : After-find_path) → Searched c.args.target.now c.args.path.now c.in_ok-n.n c.find_path.result
searched c = record {
  before = container_met (goal.at.After-find_path c).In_default;
  finds = c.find_path.ensures;
}

pub returns-in_err-check_record : goal.returns-in_err-check_record
returns-in_err-check_record c =
    rw (handed_on _ c.from_residual.ensures)
    (get_left (octets (goal.at.returns-in_err-check_record c).After-shared_slice_known-2-1) _ c.check_record.ensures c.in_err-check_record.was)

pub returns-in_err-n : goal.returns-in_err-n
returns-in_err-n c =
    rw (handed_on _ c.from_residual-in_err-n.ensures)
    (get_path (target_read (goal.at.returns-in_err-n c).In_ok-check_record) _ c.check_path.ensures c.in_err-n.was)

pub returns-in_err-read_header : goal.returns-in_err-read_header
returns-in_err-read_header c = readable_headed _ c.check_record.ensures c.in_ok-check_record.was c.read_header.ensures c.in_err-read_header.was

pub returns-then-n-eq0 : goal.returns-then-n-eq0
returns-then-n-eq0 c = get_whole (steps_counted (goal.at.returns-then-n-eq0 c).In_ok-n) c.if-n-eq0.true _ c.write_copy.ensures

pub returns-in-Scalar : goal.returns-in-Scalar
returns-in-Scalar c = get_scalar (steps_counted (goal.at.returns-in-Scalar c).In_ok-n) c.if-n-eq0.false c.read_header.ensures (c.in_ok-read_header.was ∙ ap Ok c.in-Scalar.is) _

pub find_path-requires : goal.find_path-requires
find_path-requires c = search_ready (container_met c)

pub returns-in_default-find_path : goal.returns-in_default-find_path
returns-in_default-find_path c = get_none (searched (goal.at.returns-in_default-find_path c).After-find_path) c.in_default-find_path.is _

pub write_item-requires : goal.write_item-requires
write_item-requires c = get_stands (searched (goal.at.write_item-requires c).After-find_path) c.in-Some.is

pub returns : goal.returns
returns c = get_item (searched (goal.at.returns c).After-find_path) c.in-Some.is _ c.write_item.ensures
