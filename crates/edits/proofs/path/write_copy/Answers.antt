-- `edits::path::write_copy` meets its contract.
use mathlib.Core.Path.{refl}
use Rattle.layout.proofs.Patches.{in_short, in_full}
use Rattle.edits.proofs.path.write_copy.Goals as goal

pub returns-then-room-s : goal.returns-then-room-s
returns-then-room-s c = in_short c.args.s.now c.args.out.now c.args.room c.if-room-s.true

pub returns : goal.returns
returns c = in_full c.args.s.now c.args.out.now c.args.room _ _ c.if-room-s.false refl c.copy.ensures
