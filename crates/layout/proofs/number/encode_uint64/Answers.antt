-- `layout::number::encode_uint64` meets its contract.
use Rattle.layout.proofs.Patches.{ended_as}
use Rattle.layout.proofs.Patterns.{width_le, uint_width_good}
use Rattle.layout.proofs.Numbers.{uint_zero, uint_some}
use Rattle.layout.proofs.number.encode_uint64.Goals as goal

pub returns-then-v-eq0 : goal.returns-then-v-eq0
returns-then-v-eq0 c = ended_as _ _ _ (uint_zero _ c.if-v-eq0.true) c.encode.ensures

pub encode-requires-2 : goal.encode-requires-2
encode-requires-2 c = rw c.uint_width.ensures (width_le _ (uint_width_good _))

pub returns : goal.returns
returns c = ended_as _ _ _ (uint_some _ _ c.if-v-eq0.false c.uint_width.ensures) c.encode-2.ensures
