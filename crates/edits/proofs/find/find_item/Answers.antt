-- `edits::find::find_item` meets its contract.
use mathlib.Core.Path.{◌≡◌, ap, ◌∙◌}
use mir.Syntax.{w32}
use mir.Val.{to_z, of_z}
use mir.ValLaws.{to_z-of_z}
use borrow.Author.Rules.{rules}
use Rattle.std.specs.Prelude.{Some}
use Rattle.edits.specs.Steps.{key_place}
use Rattle.edits.proofs.Finds.{key_none, key_name, item_place, place_lt, told_in, told_at}
use Rattle.edits.proofs.find.find_item.Goals.{After-place_of}
use Rattle.edits.proofs.find.find_item.Goals as goal

-- The place that was asked for is that of the step.
placed : (c : After-place_of) → c.place_of.result ≡ key_place c.args.key c.args.n
placed c =
    c.place_of.ensures
    ∙ item_place _ _ (to_z w32 (of_z w32 c.in-Index.i)) _ (c.in_ok-i.was ∙ ap Some c.in-Index.is) (to_z-of_z w32 _ (search rules))

pub returns-in_err-i : goal.returns-in_err-i
returns-in_err-i c = c.from_residual.ensures ∙ key_none _ _ _ c.in_err-i.was

pub returns-in_default : goal.returns-in_default
returns-in_default c = key_name _ _ _ _ c.in_ok-i.was c.in_default.is

pub item_at-requires : goal.item_at-requires
item_at-requires c = (c.requires, told_in _ _ (place_lt _ _) _ c.place_of.ensures)

pub returns : goal.returns
returns c = told_at _ _ _ _ (placed (goal.at.returns c).After-place_of) _ c.item_at.ensures
