-- `flight::edit::flight_concat` meets its contract.
use native.Mathlib.Omega.{arith}
use mathlib.Core.Path.{◌≡◌, ap₂, sym, ◌∙◌, ap}
use Rattle.layout.specs.Bytes.{Octets}
use Rattle.layout.specs.Read.{header, read}
use Rattle.layout.proofs.Words.{slice_octets}
use Rattle.flight.specs.Profile.{profile_in, both_in, beside}
use Rattle.flight.proofs.Ends.{ended_refused, ended_same, few_levels, beside_unread, beside_inside}
use Rattle.layout.proofs.HandedOn.{handed_on}
use Rattle.std.specs.Prelude.{Ok}
use Rattle.flight.proofs.edit.flight_concat.Goals.{After-profile_of_both, After-slice_known-1}
use Rattle.flight.proofs.edit.flight_concat.Goals as goal

left_octets : (c : After-slice_known-1) → Octets c.args.left.now
left_octets c = slice_octets c.args.left.now c.type_inv.left

right_octets : (c : After-slice_known-1) → Octets c.args.right.now
right_octets c = slice_octets c.args.right.now c.type_inv.right

beside_told : (c : After-profile_of_both) → c.profile_of_both.result ≡ both_in (beside c.args.left.now c.args.right.now) (beside c.args.right.now c.args.left.now)
beside_told c =
    c.profile_of_both.ensures
    ∙ ap₂ (λ a b. both_in (profile_in a (read c.args.left.now)) (profile_in b (read c.args.right.now)))
    c.levels_beside-left_levels.ensures
    c.levels_beside-right_levels.ensures

pub profile_of_both-requires : goal.profile_of_both-requires
profile_of_both-requires c =
    let h = header c.args.left.now in
    let k = header c.args.right.now in
    omega (arith, few_levels h k, few_levels k h, c.levels_beside-left_levels.ensures, c.levels_beside-right_levels.ensures)

pub refuse_overlay-requires : goal.refuse_overlay-requires
refuse_overlay-requires c = sym (beside_told (goal.at.refuse_overlay-requires c).After-profile_of_both) ∙ c.in_ok-profile_of_both.was ∙ ap Ok c.if-branch.false

pub returns-in_err-profile_of_both : goal.returns-in_err-profile_of_both
returns-in_err-profile_of_both c =
    rw (handed_on _ c.from_residual.ensures)
    (ended_refused _ _ _ (beside_unread _ _ _ _ _ (sym c.profile_of_both.ensures ∙ c.in_err-profile_of_both.was) _))

pub returns : goal.returns
returns c = c.refuse_overlay.ensures

pub returns-then-branch : goal.returns-then-branch
returns-then-branch c =
    ended_same _ _
    (beside_inside _ _ (left_octets (goal.at.returns-then-branch c).After-slice_known-1) (right_octets (goal.at.returns-then-branch c).After-slice_known-1)
    (sym (beside_told (goal.at.returns-then-branch c).After-profile_of_both) ∙ c.in_ok-profile_of_both.was ∙ ap Ok c.if-branch.true) _)
    c.concat.ensures
