-- `builders::search::Members::next_member` meets its contract.
-- The loop keeps that the search through all members comes to that through the rest, and that its places are the table's.
use native.Mathlib.Omega.{arith}
use mathlib.Core.Path.{sym, ◌∙◌}
use Rattle.layout.proofs.Pieces.{behind_further}
use Rattle.layout.proofs.Carries.{pair_start, pair_on}
use Rattle.builders.proofs.Steps.{taken_on, passed_on, search_starts, search_turns, search_ends}
use Rattle.builders.proofs.search.Members.next_member.Goals.{then-is_taken, else-is_taken}
use Rattle.builders.proofs.search.Members.next_member.Goals as goal

pub loop-i-init : goal.loop-i-init
loop-i-init c = (omega arith, omega arith, omega arith, omega arith, search_starts _ _ _ _ _ _ _, pair_start _ _ _)

pub loop-i-preserved : goal.loop-i-preserved
loop-i-preserved c =
    let b = behind_further c.loop-i.at _ c.read_member-member.result c.places_behind-at.ensures in (
      omega (arith, b.key_jentry),
      omega (arith, b.val_jentry),
      omega (arith, b.key),
      omega (arith, b.val),
      c.loop-i.invariant.4
          ∙ search_turns _ _ _ _ _ _ _ _ _ _ _ _ c.loop-i-test.true c.read_member-member.ensures c.is_kept.ensures
          (elim c.if-is_taken.branch [
            | then-is_taken w ↦ taken_on _ _ _ _ _ _ _ c.is_taken.ensures w.if-is_taken.true w.best-is
            | else-is_taken w ↦ passed_on _ _ _ _ _ _ _ c.is_taken.ensures w.if-is_taken.false w.best-is
          ])
          c.places_behind-at.ensures,
      pair_on _ _ _ _ _ _ _ c.loop-i.invariant.5 c.read_member-member.ensures c.places_behind-at.ensures,
    )

pub returns : goal.returns
returns c = sym (c.loop-i.invariant.4 ∙ search_ends _ _ _ _ _ _ _ _ c.loop-i-test.false)
