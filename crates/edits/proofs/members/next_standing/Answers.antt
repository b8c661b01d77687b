-- `edits::members::next_standing` meets its contract.
-- The loop keeps that what was ahead at first is ahead still but for members that are left out, and that its places are the table's.
use Prim.Native.Nat.{◌+◌}
use mathlib.Core.Path.{◌≡◌, refl, ◌∙◌}
use Rattle.edits.specs.Members.{Near, CarriedAhead, behind_ahead}
use Rattle.edits.specs.declared.members.Ahead.{Ahead}
use Rattle.edits.proofs.Standings.{ahead_at, behind_at, near_on, carried_ahead, one_kept, one_passed, none_left}
use Rattle.edits.proofs.members.next_standing.Goals.{After-places_behind-at}
use Rattle.edits.proofs.members.next_standing.Goals as goal

pub loop-i-init : goal.loop-i-init
loop-i-init c = (c.requires, refl, λ n e. e)

-- What is ahead at the member read, and behind it: near, and where the table gives it.
abbrev here : After-places_behind-at → Ahead
here c = ahead_at c.args.ahead c.loop-i.at c.loop-i.i

abbrev next : After-places_behind-at → Ahead
next c = ahead_at c.args.ahead c.places_behind-at.result (c.loop-i.i + 1)

behind : (c : After-places_behind-at) → next c ≡ behind_ahead (here c) c.read_member-member.result
behind c = behind_at c.args.ahead c.loop-i.at _ c.loop-i.i c.read_member-member.result c.places_behind-at.ensures

near_behind : (c : After-places_behind-at) → Near (next c)
near_behind c = near_on (here c) c.read_member-member.result _ c.loop-i.invariant.0 c.loop-i-test.true (behind c)

carried : (c : After-places_behind-at) → CarriedAhead c.args.s.now c.args.ahead (next c)
carried c =
    carried_ahead _ c.args.ahead (here c) c.read_member-member.result _ c.loop-i.invariant.2 c.read_member-member.ensures (behind c)

pub returns-then-is_kept : goal.returns-then-is_kept
returns-then-is_kept c =
    let at = (goal.at.returns-then-is_kept c).After-places_behind-at in (
      c.loop-i.invariant.1
          ∙ one_kept _ _ (here at) c.loop-i-test.true _ c.read_member-member.ensures _ (behind at) _ c.is_kept.ensures c.if-is_kept.true,
      refl,
      near_behind at,
      carried at,
    )

pub loop-i-preserved : goal.loop-i-preserved
loop-i-preserved c =
    let at = (goal.at.loop-i-preserved c).After-places_behind-at in (
      near_behind at,
      c.loop-i.invariant.1
          ∙ one_passed _ _ (here at) c.loop-i-test.true _ c.read_member-member.ensures _ (behind at) _ c.is_kept.ensures c.if-is_kept.false,
      carried at,
    )

pub returns : goal.returns
returns c = c.loop-i.invariant.1 ∙ none_left _ _ (ahead_at c.args.ahead c.loop-i.at c.loop-i.i) c.loop-i-test.false
