-- `flight::edit::refuse_overlay` meets its contract.
use mathlib.Core.Path.{ap, sym, ◌∙◌, refl}
use Rattle.layout.specs.Bytes.{Octets}
use Rattle.layout.proofs.Words.{slice_octets}
use Rattle.flight.proofs.Ends.{ended_refused, ended_unwritten, both_standing, beside_deep}
use Rattle.layout.proofs.HandedOn.{handed_on}
use Rattle.std.specs.Prelude.{Ok}
use Rattle.flight.proofs.edit.refuse_overlay.Goals.{After-slice_known-1}
use Rattle.flight.proofs.edit.refuse_overlay.Goals as goal

left_octets : (c : After-slice_known-1) → Octets c.args.left.now
left_octets c = slice_octets c.args.left.now c.type_inv.left

right_octets : (c : After-slice_known-1) → Octets c.args.right.now
right_octets c = slice_octets c.args.right.now c.type_inv.right

pub returns-in_err-profile_of_both : goal.returns-in_err-profile_of_both
returns-in_err-profile_of_both c =
    rw (handed_on _ c.from_residual.ensures) (ended_refused _ _ _ (both_standing _ _ _ _ c.profile_of_both.ensures c.in_err-profile_of_both.was _))

pub returns-then-not-branch : goal.returns-then-not-branch
returns-then-not-branch c =
    ended_refused _ _ _ (both_standing _ _ _ _ c.profile_of_both.ensures (c.in_ok-profile_of_both.was ∙ ap Ok c.if-not-branch.true) _)

pub returns-in_err-concat_in : goal.returns-in_err-concat_in
returns-in_err-concat_in c =
    let flights = both_standing _ _ _ _ c.profile_of_both.ensures (c.in_ok-profile_of_both.was ∙ ap Ok c.if-not-branch.false) in
    rw (handed_on _ c.from_residual-in_err-concat_in.ensures)
    (ended_unwritten _ _ _ _ c.concat_in.ensures
    (beside_deep _ _ (left_octets (goal.at.returns-in_err-concat_in c).After-slice_known-1) (right_octets (goal.at.returns-in_err-concat_in c).After-slice_known-1) c.requires flights.0 flights.1 _
    (sym c.in_err-concat_in.was ∙ c.concat_in.ensures.answer) _ refl _))

pub returns : goal.returns
returns c =
    let flights = both_standing _ _ _ _ c.profile_of_both.ensures (c.in_ok-profile_of_both.was ∙ ap Ok c.if-not-branch.false) in
    ended_unwritten _ _ _ _ c.concat_in.ensures
    (beside_deep _ _ (left_octets (goal.at.returns c).After-slice_known-1) (right_octets (goal.at.returns c).After-slice_known-1) c.requires flights.0 flights.1 _
    (sym c.in_ok-concat_in.was ∙ c.concat_in.ensures.answer) _ refl _)
