-- `layout::number::read_be` meets its contract. The loop keeps that the value is what the bytes so far write.
use native.Mathlib.Omega.{arith}
use Rattle.layout.proofs.Patterns.{read_begins, read_turn, read_bound, read_room}
use Rattle.layout.proofs.number.read_be.Goals as goal

pub loop-b-init : goal.loop-b-init
loop-b-init c = (read_begins c.args.s.now, omega arith)

pub overflow_mul-value : goal.overflow_mul-value
overflow_mul-value c = omega (arith, read_room 7 _ _ _ c.loop-b.invariant.1 c.loop-b-test.true c.requires)

pub loop-b-preserved : goal.loop-b-preserved
loop-b-preserved c =
    let byte = c.type_inv.s c.loop-b.b-index in
    rw c.from.ensures
    (read_turn _ _ _ c.loop-b-test.true c.loop-b.invariant.0, read_bound _ _ _ c.loop-b.invariant.1 (omega (arith, byte)))
