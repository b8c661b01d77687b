-- `edits::path::delete_by_keypath_in` meets its contract: a slice from its first byte to its end is the slice.
use Rattle.layout.proofs.Fields.{part_all}
use Rattle.edits.proofs.path.delete_by_keypath_in.Goals as goal

pub returns : goal.returns
returns c = rw (part_all c.args.target.now, part_all c.args.path.now) at c.write_remains.ensures
