-- `layout::parts::place_after` meets its contract.
-- The loop keeps that the last place is behind the rest, and that its place is the table's.
use native.Mathlib.Omega.{arith}
use Rattle.layout.proofs.Fields.{length_lt}
use Rattle.layout.proofs.Pieces.{place_more, place_end}
use Rattle.layout.proofs.Carries.{carried_on}
use Rattle.layout.proofs.parts.place_after.Goals as goal

pub loop-i-preserved : goal.loop-i-preserved
loop-i-preserved c = (
  omega arith,
  omega (arith, c.payload_len.ensures, length_lt c.jentry_at.result),
  place_more _ _ _ _ _ _ _ c.loop-i-test.true c.loop-i.invariant.2 c.jentry_at.ensures c.payload_len.ensures,
  carried_on _ _ _ _ _ _ _ c.loop-i.invariant.3 c.jentry_at.ensures c.payload_len.ensures,
)

pub returns : goal.returns
returns c = place_end _ _ _ _ _ c.loop-i-test.false c.loop-i.invariant.2
