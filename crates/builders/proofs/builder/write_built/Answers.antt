-- `builders::builder::write_built` meets its contract.
use mathlib.Core.Path.{sym, ◌∙◌}
use Rattle.layout.proofs.Checks.{told_array}
use Rattle.builders.proofs.Knowns.{both_octets, BothOctets}
use Rattle.builders.proofs.Builds.{NamesRead, BothRead, NamesCounted, BothCounted}
use Rattle.builders.proofs.Builds.{build_left, build_right, build_no_names, build_no_values, build_unequal, build_no_strings, build_pairs}
use Rattle.std.specs.Prelude.{Ok}
use mathlib.Core.Path.{ap}
use Rattle.layout.proofs.HandedOn.{handed_on, one_value}
use Rattle.layout.proofs.Checks.{readable_headed}
use Rattle.builders.proofs.builder.write_built.Goals.{After-shared_slice_known-2-1, In-Array, In-Array-2, In_ok-check_record, In_ok-check_record-2}
use Rattle.builders.proofs.builder.write_built.Goals as goal

-- What is known past each test.
octets : (c : After-shared_slice_known-2-1) → BothOctets c.args.names.now c.args.values.now
octets c = both_octets c.args.names.now c.args.values.now c.type_inv.names c.type_inv.values

names_read : (c : In_ok-check_record) → NamesRead c.args.names.now c.args.values.now
names_read c = record {
  octets = both_octets c.args.names.now c.args.values.now c.type_inv.names c.type_inv.values;
  names = sym c.check_record.ensures ∙ c.in_ok-check_record.was;
}

both_read : (c : In_ok-check_record-2) → BothRead c.args.names.now c.args.values.now
both_read c = record {
  before = record {
    octets = both_octets c.args.names.now c.args.values.now c.type_inv.names c.type_inv.values;
    names = sym c.check_record.ensures ∙ c.in_ok-check_record.was;
  };
  values = sym c.check_record-2.ensures ∙ c.in_ok-check_record-2.was;
}

names_counted : (c : In-Array) → NamesCounted c.args.names.now c.args.values.now c.in-Array.n
names_counted c = record {
  before = record {
    before = record {
      octets = both_octets c.args.names.now c.args.values.now c.type_inv.names c.type_inv.values;
      names = sym c.check_record.ensures ∙ c.in_ok-check_record.was;
    };
    values = sym c.check_record-2.ensures ∙ c.in_ok-check_record-2.was;
  };
  count = sym c.read_header.ensures ∙ (c.in_ok-n.was ∙ ap Ok c.in-Array.is);
}

both_counted : (c : In-Array-2) → BothCounted c.args.names.now c.args.values.now c.in-Array.n c.in-Array-2.count
both_counted c = record {
  before = record {
    before = record {
      before = record {
        octets = both_octets c.args.names.now c.args.values.now c.type_inv.names c.type_inv.values;
        names = sym c.check_record.ensures ∙ c.in_ok-check_record.was;
      };
      values = sym c.check_record-2.ensures ∙ c.in_ok-check_record-2.was;
    };
    count = sym c.read_header.ensures ∙ (c.in_ok-n.was ∙ ap Ok c.in-Array.is);
  };
  count = sym c.read_header-2.ensures ∙ (c.in_ok-count.was ∙ ap Ok c.in-Array-2.is);
}

pub returns-in_err-check_record : goal.returns-in_err-check_record
returns-in_err-check_record c =
    rw (handed_on _ c.from_residual.ensures)
    (build_left (octets (goal.at.returns-in_err-check_record c).After-shared_slice_known-2-1) _ c.check_record.ensures c.in_err-check_record.was)

pub returns-in_err-check_record-2 : goal.returns-in_err-check_record-2
returns-in_err-check_record-2 c =
    rw (handed_on _ c.from_residual-in_err-check_record-2.ensures)
    (build_right (names_read (goal.at.returns-in_err-check_record-2 c).In_ok-check_record) _ c.check_record-2.ensures c.in_err-check_record-2.was)

pub returns-in_err-n : goal.returns-in_err-n
returns-in_err-n c = readable_headed _ c.check_record.ensures c.in_ok-check_record.was c.read_header.ensures c.in_err-n.was

pub returns-in_err-count : goal.returns-in_err-count
returns-in_err-count c = readable_headed _ c.check_record-2.ensures c.in_ok-check_record-2.was c.read_header-2.ensures c.in_err-count.was

pub returns-in_default : goal.returns-in_default
returns-in_default c =
    build_no_names (both_read (goal.at.returns-in_default c).In_ok-check_record-2) _ c.read_header.ensures
    (λ k e. c.in_default.not-Array k (one_value c.in_ok-n.was e))

pub returns-in_default-2 : goal.returns-in_default-2
returns-in_default-2 c =
    build_no_values (names_counted (goal.at.returns-in_default-2 c).In-Array).before _ c.read_header-2.ensures
    (λ k e. c.in_default-2.not-Array k (one_value c.in_ok-count.was e))

pub returns-then-n-count : goal.returns-then-n-count
returns-then-n-count c = build_unequal (both_counted (goal.at.returns-then-n-count c).In-Array-2) _ c.if-n-count.true

pub are_strings-requires : goal.are_strings-requires
are_strings-requires c = (told_array _ _ c.read_header.ensures _ (c.in_ok-n.was ∙ ap Ok c.in-Array.is)).1

pub build_members-requires : goal.build_members-requires
build_members-requires c = build_pairs (both_counted (goal.at.build_members-requires c).In-Array-2) c.if-n-count.false c.are_strings.ensures c.if-are_strings.true

pub returns : goal.returns
returns c = build_no_strings (both_counted (goal.at.returns c).In-Array-2) c.if-n-count.false c.are_strings.ensures _ c.if-are_strings.false
