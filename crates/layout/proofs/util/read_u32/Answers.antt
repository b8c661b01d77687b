-- `layout::util::read_u32` meets its contract.
use Rattle.layout.proofs.Fields.{inside_le}
use Rattle.layout.proofs.util.read_u32.Goals as goal

pub read_whole-requires : goal.read_whole-requires
read_whole-requires c = inside_le _ _ _ _ c.is_inside.ensures c.if-is_inside.true
