-- `values::grade::grade_record` meets its contract.
use mathlib.Core.Path.{sym, ◌∙◌}
use mathlib.Core.Bool.{true, false}
use Rattle.layout.proofs.Words.{slice_octets}
use Rattle.values.proofs.Grades.{Reading, reading, Unequal, graded_ungraded, graded_damaged, graded_right, graded_values}
use Rattle.values.proofs.grade.grade_record.Goals.{Else-is_same_bytes, In_default, In_default-check_record}
use Rattle.values.proofs.grade.grade_record.Goals as goal

-- What is known there.
expected : (c : In_default) → Reading c.args.expected.now
expected c =
    reading c.args.expected.now _
    (slice_octets c.args.expected.now c.type_inv.expected)
    c.check_record.ensures c.in_default.is

candidate : (c : In_default-check_record) → Reading c.args.candidate.now
candidate c =
    reading c.args.candidate.now _
    (slice_octets c.args.candidate.now c.type_inv.candidate)
    c.check_record-2.ensures c.in_default-check_record.is

unequal : (c : Else-is_same_bytes) → Unequal c.args.candidate.now c.args.expected.now
unequal c =
    record {
      candidate = (
          reading c.args.candidate.now _
          (slice_octets c.args.candidate.now c.type_inv.candidate)
          c.check_record-2.ensures c.in_default-check_record.is);
      expected = (
          reading c.args.expected.now _
          (slice_octets c.args.expected.now c.type_inv.expected)
          c.check_record.ensures c.in_default.is);
      differ = sym c.is_same_bytes.ensures ∙ c.if-is_same_bytes.false;
    }

pub returns-in-Err : goal.returns-in-Err
returns-in-Err c = graded_ungraded _ _ _ _ c.check_record.ensures c.in-Err.is

pub returns-in-Err-check_record : goal.returns-in-Err-check_record
returns-in-Err-check_record c =
    graded_damaged _ (expected (goal.at.returns-in-Err-check_record c).In_default) _ _ c.check_record-2.ensures c.in-Err-check_record.is

pub returns-then-is_same_bytes : goal.returns-then-is_same_bytes
returns-then-is_same_bytes c =
    graded_right (candidate (goal.at.returns-then-is_same_bytes c).In_default-check_record) (expected (goal.at.returns-then-is_same_bytes c).In_default)
    _ c.is_same_bytes.ensures c.if-is_same_bytes.true

pub returns-then-is_same_nested : goal.returns-then-is_same_nested
returns-then-is_same_nested c =
    graded_values (unequal (goal.at.returns-then-is_same_nested c).Else-is_same_bytes) _ true c.is_same_nested.ensures c.if-is_same_nested.true

pub returns : goal.returns
returns c = graded_values (unequal (goal.at.returns c).Else-is_same_bytes) _ false c.is_same_nested.ensures c.if-is_same_nested.false
