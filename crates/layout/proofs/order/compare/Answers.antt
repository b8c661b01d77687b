-- `layout::order::compare` meets its contract. The loop keeps that the order is that of the rests.
use native.Mathlib.Omega.{arith}
use Rattle.layout.proofs.Orders.{byte_unlike, byte_same, ends_compared}
use Rattle.layout.proofs.order.compare.Goals as goal

pub returns-then-a-i : goal.returns-then-a-i
returns-then-a-i c = rw c.cmp.ensures (byte_unlike _ _ c.loop-i.i c.loop-i.invariant (omega arith) (omega arith) c.if-a-i.true)

pub loop-i-preserved : goal.loop-i-preserved
loop-i-preserved c = byte_same _ _ c.loop-i.i c.loop-i.invariant (omega arith) (omega arith) c.if-a-i.false

pub returns : goal.returns
returns c = rw c.cmp-2.ensures (ends_compared _ _ c.loop-i.i c.loop-i.invariant (omega arith) (omega arith))
