-- `layout::iterator::ObjectIterator::next_member` meets its contract.
use mathlib.Core.Path.{refl, ◌∙◌}
use native.Mathlib.Omega.{arith}
use Rattle.layout.proofs.Walks.{member_no_name, member_no_value, held, AtMember, name_bad, value_bad, member_both}
use Rattle.layout.proofs.Fields.{inside_le}
use Rattle.layout.proofs.HandedOn.{handed_on}
use Rattle.layout.proofs.iterator.ObjectIterator.next_member.Goals.{In_ok-val_length}
use Rattle.layout.proofs.iterator.ObjectIterator.next_member.Goals as goal

pub returns-in_err-key_length : goal.returns-in_err-key_length
returns-in_err-key_length c =
    handed_on _ c.from_residual.ensures ∙ member_no_name _ c.args.self _ c.args.val_jentry c.length_in.ensures c.in_err-key_length.was

pub returns-in_err-val_length : goal.returns-in_err-val_length
returns-in_err-val_length c =
    handed_on _ c.from_residual-in_err-val_length.ensures
    ∙ member_no_value _ c.args.self _ _ c.length_in.ensures c.in_ok-key_length.was c.length_in-2.ensures c.in_err-val_length.was

at_member : (c : In_ok-val_length) → AtMember c.args.s.now c.args.self c.args.key_jentry c.args.val_jentry
    c.in_ok-key_length.key_length c.in_ok-val_length.val_length
at_member c =
    record { name = held c.length_in.ensures c.in_ok-key_length.was; value = held c.length_in-2.ensures c.in_ok-val_length.was }

pub overflow_add-next-3 : goal.overflow_add-next-3
overflow_add-next-3 c = omega (arith, c.well_formed, inside_le _ _ _ _ refl (at_member (goal.at.overflow_add-next-3 c).In_ok-val_length).name.whole)

pub overflow_add-next-4 : goal.overflow_add-next-4
overflow_add-next-4 c = omega (arith, c.well_formed, inside_le _ _ _ _ refl (at_member (goal.at.overflow_add-next-4 c).In_ok-val_length).value.whole)

pub returns-in_err-key : goal.returns-in_err-key
returns-in_err-key c = handed_on _ c.from_residual-in_err-key.ensures ∙ name_bad (at_member (goal.at.returns-in_err-key c).In_ok-val_length) c.hand_out.ensures c.in_err-key.was

pub returns-in_err-val : goal.returns-in_err-val
returns-in_err-val c =
    handed_on _ c.from_residual-in_err-val.ensures
    ∙ value_bad (at_member (goal.at.returns-in_err-val c).In_ok-val_length) c.hand_out.ensures c.in_ok-key.was c.hand_out-2.ensures c.in_err-val.was

pub returns : goal.returns
returns c = member_both (at_member (goal.at.returns c).In_ok-val_length) c.hand_out.ensures c.in_ok-key.was c.hand_out-2.ensures c.in_ok-val.was
