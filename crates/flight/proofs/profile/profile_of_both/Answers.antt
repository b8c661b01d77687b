-- `flight::profile::profile_of_both` meets its contract.
use mathlib.Core.Path.{◌∙◌}
use Rattle.layout.specs.Read.{read}
use Rattle.layout.proofs.HandedOn.{handed_on}
use Rattle.flight.specs.Profile.{profile_in, both_in}
use Rattle.flight.proofs.Ends.{as_told, as_both_told}
use Rattle.flight.proofs.profile.profile_of_both.Goals as goal

pub returns-in_err-left_inside : goal.returns-in_err-left_inside
returns-in_err-left_inside c =
    handed_on _ c.from_residual.ensures
    ∙ as_told (λ p. both_in p (profile_in c.args.right_levels (read c.args.right.now))) c.profile_of.ensures c.in_err-left_inside.was

pub returns-in_err-right_inside : goal.returns-in_err-right_inside
returns-in_err-right_inside c =
    handed_on _ c.from_residual-in_err-right_inside.ensures
    ∙ as_both_told both_in c.profile_of.ensures c.in_ok-left_inside.was c.profile_of-2.ensures c.in_err-right_inside.was

pub returns : goal.returns
returns c = as_both_told both_in c.profile_of.ensures c.in_ok-left_inside.was c.profile_of-2.ensures c.in_ok-right_inside.was
