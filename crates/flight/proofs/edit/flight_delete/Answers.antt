-- `flight::edit::flight_delete` meets its contract.
use mathlib.Core.Path.{ap, ◌∙◌}
use Rattle.layout.proofs.HandedOn.{handed_on}
use Rattle.flight.proofs.Ends.{ended_refused, ended_same, delete_unread, delete_outside, delete_inside, path_told, no_path_told}
use Rattle.std.specs.Prelude.{Ok}
use Rattle.flight.proofs.edit.flight_delete.Goals as goal

pub returns-in_err-profile_of : goal.returns-in_err-profile_of
returns-in_err-profile_of c =
    rw (handed_on _ c.from_residual.ensures) (ended_refused _ _ _ (delete_unread _ _ c.profile_of.ensures _ _ _ c.in_err-profile_of.was))

pub returns-then-branch : goal.returns-then-branch
returns-then-branch c =
    ended_same _ _ (delete_inside _ _ c.profile_of.ensures _ _ (c.in_ok-profile_of.was ∙ ap Ok c.if-branch.true))
    c.delete_by_keypath.ensures

pub returns-in_err-check_path : goal.returns-in_err-check_path
returns-in_err-check_path c =
    rw (handed_on _ c.from_residual-in_err-check_path.ensures)
    (ended_refused _ _ _ (delete_outside _ _ c.profile_of.ensures _ _ _ (c.in_ok-profile_of.was ∙ ap Ok c.if-branch.false) (no_path_told _ _ c.check_path.ensures c.in_err-check_path.was)))

pub returns : goal.returns
returns c =
    ended_refused _ _ _
    (delete_outside _ _ c.profile_of.ensures _ _ _ (c.in_ok-profile_of.was ∙ ap Ok c.if-branch.false) (path_told _ _ c.check_path.ensures _ c.in_ok-check_path.was))
