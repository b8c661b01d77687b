-- `layout::number::is_number` meets its contract.
use Rattle.layout.proofs.Numbers.{listed_none, listed_is}
use Rattle.layout.proofs.number.is_number.Goals as goal

pub returns-then-payload-eq0 : goal.returns-then-payload-eq0
returns-then-payload-eq0 c = listed_none _ c.if-payload-eq0.true

pub returns : goal.returns
returns c = rw (listed_is c.args.payload.now c.if-payload-eq0.false, ← c.byte-ty.ensures)
