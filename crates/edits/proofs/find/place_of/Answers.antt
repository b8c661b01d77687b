-- `edits::find::place_of` meets its contract.
use mir.Syntax.{w32}
use mir.Val.{to_z, of_z}
use mir.ValLaws.{to_z-of_z}
use Rattle.edits.proofs.Indexes.{widened, summed, index_back, index_on}
use Rattle.edits.proofs.find.place_of.Goals as goal

pub returns-then-i-lt0 : goal.returns-then-i-lt0
returns-then-i-lt0 c =
    index_back (to_z w32 (of_z w32 c.args.i)) _ c.args.i c.args.n _ (to_z-of_z w32 _ c.ranges.i) c.place_in.ensures c.if-i-lt0.true
    (rw c.from.ensures (summed c.args.n c.args.i c.requires c.ranges.i))

pub returns : goal.returns
returns c =
    index_on (to_z w32 (of_z w32 c.args.i)) _ c.args.i c.args.n _ (to_z-of_z w32 _ c.ranges.i) c.place_in-2.ensures c.if-i-lt0.false
    (rw c.from-2.ensures (widened c.args.i c.ranges.i))
