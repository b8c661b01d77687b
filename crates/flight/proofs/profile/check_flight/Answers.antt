-- `flight::profile::check_flight` meets its contract.
use mathlib.Core.Path.{◌∙◌, ap}
use Rattle.layout.proofs.HandedOn.{handed_on}
use Rattle.flight.proofs.Ends.{taken, not_taken, not_read}
use Rattle.std.specs.Prelude.{Ok}
use Rattle.flight.proofs.profile.check_flight.Goals as goal

pub returns-in_err-profile_of : goal.returns-in_err-profile_of
returns-in_err-profile_of c = handed_on _ c.from_residual.ensures ∙ not_read _ _ c.profile_of.ensures _ c.in_err-profile_of.was

pub returns-then-branch : goal.returns-then-branch
returns-then-branch c = taken _ _ c.profile_of.ensures (c.in_ok-profile_of.was ∙ ap Ok c.if-branch.true)

pub returns : goal.returns
returns c = not_taken _ _ c.profile_of.ensures (c.in_ok-profile_of.was ∙ ap Ok c.if-branch.false)
