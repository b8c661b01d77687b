-- `edits::operator::concat_in` meets its contract: a slice from its first byte to its end is the slice.
use Rattle.layout.proofs.Fields.{part_all}
use Rattle.edits.proofs.operator.concat_in.Goals as goal

pub returns : goal.returns
returns c = rw (part_all c.args.left.now, part_all c.args.right.now) at c.write_concat.ensures
