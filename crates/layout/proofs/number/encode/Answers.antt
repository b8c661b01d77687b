-- `layout::number::encode` meets its contract.
use Rattle.layout.proofs.Numbers.{encoded_short, encoded_full}
use Rattle.layout.proofs.number.encode.Goals as goal

pub returns-then-out-n : goal.returns-then-out-n
returns-then-out-n c = encoded_short _ _ _ _ c.if-out-n.true

pub returns : goal.returns
returns c = encoded_full _ _ _ _ _ _ c.if-out-n.false c.put.ensures c.put_be.ensures
