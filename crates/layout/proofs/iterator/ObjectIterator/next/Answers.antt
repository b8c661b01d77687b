-- `layout::iterator::ObjectIterator::next` meets its contract.
use mathlib.Core.Path.{refl, ◌∙◌}
use native.Mathlib.Omega.{arith}
use Rattle.layout.proofs.Walks.{object_end, object_no_name, object_no_value, object_member, entered}
use Rattle.layout.proofs.Fields.{inside_le}
use Rattle.layout.proofs.HandedOn.{handed_on}
use Rattle.layout.proofs.iterator.ObjectIterator.next.Goals as goal

pub returns-then-self-eq0 : goal.returns-then-self-eq0
returns-then-self-eq0 c = object_end _ c.args.self c.if-self-eq0.true

pub returns-in_err-key_jentry : goal.returns-in_err-key_jentry
returns-in_err-key_jentry c = handed_on _ c.from_residual.ensures ∙ object_no_name _ _ c.if-self-eq0.false c.entry_in.ensures c.in_err-key_jentry.was

pub returns-in_err-val_jentry : goal.returns-in_err-val_jentry
returns-in_err-val_jentry c =
    handed_on _ c.from_residual-in_err-val_jentry.ensures
    ∙ object_no_value _ _ c.if-self-eq0.false c.entry_in.ensures c.in_ok-key_jentry.was c.entry_in-2.ensures c.in_err-val_jentry.was

pub next_member-requires : goal.next_member-requires
next_member-requires c =
    let first = inside_le _ _ _ _ refl (entered c.entry_in.ensures c.in_ok-key_jentry.was).whole in
    let second = inside_le _ _ _ _ refl (entered c.entry_in-2.ensures c.in_ok-val_jentry.was).whole in
    (omega arith, first, second)

pub returns : goal.returns
returns c =
    object_member _ _ c.if-self-eq0.false c.entry_in.ensures c.in_ok-key_jentry.was c.entry_in-2.ensures c.in_ok-val_jentry.was _ c.next_member.ensures
