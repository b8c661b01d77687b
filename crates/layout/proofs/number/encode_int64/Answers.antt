-- `layout::number::encode_int64` meets its contract.
use Rattle.layout.proofs.Patches.{ended_as}
use Rattle.layout.proofs.Patterns.{width_le, int_width_good}
use Rattle.layout.proofs.Numbers.{int_zero, int_some}
use Rattle.layout.proofs.number.encode_int64.Goals as goal

pub returns-then-x-eq0 : goal.returns-then-x-eq0
returns-then-x-eq0 c = ended_as _ _ _ (int_zero _ _ c.ranges.v c.cast_unsigned-x.ensures c.if-x-eq0.true) c.encode.ensures

pub encode-requires-2 : goal.encode-requires-2
encode-requires-2 c = rw c.int_width.ensures (width_le _ (int_width_good _))

pub returns : goal.returns
returns c = ended_as _ _ _ (int_some _ _ c.ranges.v c.cast_unsigned-x.ensures _ c.if-x-eq0.false c.int_width.ensures) c.encode-2.ensures
