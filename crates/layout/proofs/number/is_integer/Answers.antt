-- `layout::number::is_integer` meets its contract.
use Rattle.layout.proofs.Numbers.{integer_none, integer_is}
use Rattle.layout.proofs.number.is_integer.Goals as goal

pub returns-then-payload-eq0 : goal.returns-then-payload-eq0
returns-then-payload-eq0 c = integer_none _ c.if-payload-eq0.true

pub returns : goal.returns
returns c = rw (integer_is c.args.payload.now c.if-payload-eq0.false, ← c.byte-ty.ensures)
