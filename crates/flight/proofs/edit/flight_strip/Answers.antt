-- `flight::edit::flight_strip` meets its contract.
use mathlib.Core.Path.{ap, ◌∙◌}
use Rattle.layout.proofs.HandedOn.{handed_on}
use Rattle.flight.proofs.Ends.{ended_refused, ended_same, strip_unread, strip_outside, strip_inside}
use Rattle.std.specs.Prelude.{Ok}
use Rattle.flight.proofs.edit.flight_strip.Goals as goal

pub returns-in_err-profile_of : goal.returns-in_err-profile_of
returns-in_err-profile_of c =
    rw (handed_on _ c.from_residual.ensures) (ended_refused _ _ _ (strip_unread _ _ c.profile_of.ensures _ _ c.in_err-profile_of.was))

pub returns-then-branch : goal.returns-then-branch
returns-then-branch c = ended_same _ _ (strip_inside _ _ c.profile_of.ensures _ (c.in_ok-profile_of.was ∙ ap Ok c.if-branch.true)) c.strip_nulls.ensures

pub returns : goal.returns
returns c = ended_refused _ _ _ (strip_outside _ _ c.profile_of.ensures _ (c.in_ok-profile_of.was ∙ ap Ok c.if-branch.false))
