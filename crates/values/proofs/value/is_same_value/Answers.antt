-- `values::value::is_same_value` meets its contract.
use mathlib.Core.Path.{sym, ◌∙◌}
use Rattle.layout.proofs.HandedOn.{an_error, a_value}
use Rattle.layout.proofs.Words.{slice_octets}
use Rattle.values.proofs.Grades.{Reading, reading, first_unread, second_unread, both_read}
use Rattle.values.proofs.value.is_same_value.Goals.{Else-is_err, Else-is_err-2}
use Rattle.values.proofs.value.is_same_value.Goals as goal

-- What is known there.
first : (c : Else-is_err) → Reading c.args.a.now
first c =
    reading c.args.a.now _
    (slice_octets c.args.a.now c.type_inv.a)
    c.check_record.ensures (a_value c.check_record.result (sym c.is_err.ensures.value ∙ c.if-is_err.false)).1

second : (c : Else-is_err-2) → Reading c.args.b.now
second c =
    reading c.args.b.now _
    (slice_octets c.args.b.now c.type_inv.b)
    c.check_record-2.ensures (a_value c.check_record-2.result (sym c.is_err-2.ensures.value ∙ c.if-is_err-2.false)).1

pub returns-then-is_err : goal.returns-then-is_err
returns-then-is_err c =
    first_unread _ _ _ _ c.check_record.ensures (an_error c.check_record.result (sym c.is_err.ensures.value ∙ c.if-is_err.true)).1

pub returns-then-is_err-2 : goal.returns-then-is_err-2
returns-then-is_err-2 c =
    second_unread (first (goal.at.returns-then-is_err-2 c).Else-is_err) _ _ _ c.check_record-2.ensures
    (an_error c.check_record-2.result (sym c.is_err-2.ensures.value ∙ c.if-is_err-2.true)).1

pub returns : goal.returns
returns c = both_read (first (goal.at.returns c).Else-is_err) (second (goal.at.returns c).Else-is_err-2) _ c.is_same_nested.ensures
