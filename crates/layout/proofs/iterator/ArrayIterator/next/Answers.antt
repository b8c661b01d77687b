-- `layout::iterator::ArrayIterator::next` meets its contract.
use mathlib.Core.Path.{refl, ◌∙◌}
use native.Mathlib.Omega.{arith}
use Rattle.layout.proofs.Walks.{array_end, array_no_entry, array_no_payload, entered, held, AtItem, array_bad, array_item}
use Rattle.layout.proofs.Fields.{inside_le}
use Rattle.layout.proofs.HandedOn.{handed_on}
use Rattle.layout.proofs.iterator.ArrayIterator.next.Goals.{In_ok-length}
use Rattle.layout.proofs.iterator.ArrayIterator.next.Goals as goal

pub returns-then-self-eq0 : goal.returns-then-self-eq0
returns-then-self-eq0 c = array_end _ c.args.self c.if-self-eq0.true

pub returns-in_err-jentry : goal.returns-in_err-jentry
returns-in_err-jentry c = handed_on _ c.from_residual.ensures ∙ array_no_entry _ _ c.if-self-eq0.false c.entry_in.ensures c.in_err-jentry.was

pub returns-in_err-length : goal.returns-in_err-length
returns-in_err-length c =
    handed_on _ c.from_residual-in_err-length.ensures
    ∙ array_no_payload _ _ c.if-self-eq0.false c.entry_in.ensures c.in_ok-jentry.was c.length_in.ensures c.in_err-length.was

at_item : (c : In_ok-length) → AtItem c.args.s.now c.args.self c.in_ok-jentry.jentry c.in_ok-length.length
at_item c =
    record { left = c.if-self-eq0.false; entry = entered c.entry_in.ensures c.in_ok-jentry.was; payload = held c.length_in.ensures c.in_ok-length.was }

pub overflow_add-next : goal.overflow_add-next
overflow_add-next c = omega (arith, c.well_formed, inside_le _ _ _ _ refl (at_item (goal.at.overflow_add-next c).In_ok-length).entry.whole)

pub overflow_add-next-2 : goal.overflow_add-next-2
overflow_add-next-2 c = omega (arith, c.well_formed, inside_le _ _ _ _ refl (at_item (goal.at.overflow_add-next-2 c).In_ok-length).payload.whole)

pub returns : goal.returns
returns c = array_item (at_item (goal.at.returns c).In_ok-length) c.hand_out.ensures c.in_ok-item.was

pub returns-in_err-item : goal.returns-in_err-item
returns-in_err-item c = handed_on _ c.from_residual-in_err-item.ensures ∙ array_bad (at_item (goal.at.returns-in_err-item c).In_ok-length) c.hand_out.ensures c.in_err-item.was
