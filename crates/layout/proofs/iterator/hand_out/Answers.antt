-- `layout::iterator::hand_out` meets its contract.
use mathlib.Core.Path.{◌∙◌}
use Rattle.layout.proofs.Walks.{hand_other, hand_text, hand_bad}
use Rattle.layout.proofs.HandedOn.{handed_on}
use Rattle.layout.proofs.iterator.hand_out.Goals as goal

pub returns-then-type_code-ne-STRING_CODE : goal.returns-then-type_code-ne-STRING_CODE
returns-then-type_code-ne-STRING_CODE c = hand_other _ _ _ _ c.type_code.ensures c.if-type_code-ne-STRING_CODE.true _ c.jentry_to_jsonb_item.ensures

pub returns : goal.returns
returns c =
    hand_text _ _ _ _ c.type_code.ensures c.if-type_code-ne-STRING_CODE.false _ c.payload_len.ensures
    _ c.slice.ensures _ c.check_text.ensures _ c.in_ok-count.was _ c.jentry_to_jsonb_item-2.ensures

pub returns-in_err-count : goal.returns-in_err-count
returns-in_err-count c =
    handed_on _ c.from_residual.ensures
    ∙ hand_bad _ _ _ _ c.type_code.ensures c.if-type_code-ne-STRING_CODE.false _ c.payload_len.ensures
    _ c.slice.ensures _ c.check_text.ensures _ c.in_err-count.was
