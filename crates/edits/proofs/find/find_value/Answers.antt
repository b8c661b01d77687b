-- `edits::find::find_value` meets its contract.
use mathlib.Core.Path.{refl, ap, ◌∙◌}
use mir.Syntax.{w32}
use mir.Val.{to_z, of_z}
use mir.ValLaws.{to_z-of_z}
use borrow.Author.Rules.{rules}
use Rattle.std.specs.Prelude.{Some}
use Rattle.edits.proofs.IndexTexts.{text_back}
use Rattle.edits.proofs.Finds.{value_name, value_none, value_index}
use Rattle.edits.proofs.find.find_value.Goals as goal

pub returns-in_default : goal.returns-in_default
returns-in_default c = value_none _ _ c.args.key c.args.text.now _ _ c.in_default.is c.find_member.ensures

pub returns-in-Index : goal.returns-in-Index
returns-in-Index c =
    value_index _ _ c.args.key c.args.text.now _ _ (to_z w32 (of_z w32 c.in-Index.i)) _ _ (c.in-Some.is ∙ ap Some c.in-Index.is)
    (to_z-of_z w32 _ (search rules))
    (text_back _ _ _ _ _ refl (c.put_index-len.ensures.is, c.put_index-len.ensures.kept) c.slice.ensures) c.find_member-in-Index.ensures

pub returns-in-Name : goal.returns-in-Name
returns-in-Name c = value_name _ _ c.args.key c.args.text.now _ _ _ c.in-Some.is c.in-Name.is c.find_member-in-Name.ensures
