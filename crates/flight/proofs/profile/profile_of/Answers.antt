-- `flight::profile::profile_of` meets its contract.
use mathlib.Core.Path.{◌∙◌, ap}
use Rattle.layout.specs.Read.{read}
use Rattle.layout.proofs.HandedOn.{handed_on}
use Rattle.layout.proofs.Words.{slice_octets}
use Rattle.flight.proofs.Ends.{standing_refused, standing_deep, standing_fits}
use Rattle.flight.proofs.profile.profile_of.Goals as goal
use Rattle.std.specs.Prelude.{Ok}

pub returns-in_err-check_levels : goal.returns-in_err-check_levels
returns-in_err-check_levels c =
    handed_on _ c.from_residual.ensures
    ∙ standing_refused _ (read c.args.s.now) _ c.check_levels.ensures _ c.in_err-check_levels.was

pub returns-then-branch : goal.returns-then-branch
returns-then-branch c =
    standing_fits _ c.args.s.now (slice_octets c.args.s.now c.type_inv.s) _ c.check_levels.ensures (c.in_ok-check_levels.was ∙ ap Ok c.if-branch.true) _ c.passes.ensures

pub returns : goal.returns
returns c = standing_deep _ (read c.args.s.now) _ c.check_levels.ensures (c.in_ok-check_levels.was ∙ ap Ok c.if-branch.false)
