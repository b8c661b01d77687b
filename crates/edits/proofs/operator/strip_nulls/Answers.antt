-- `edits::operator::strip_nulls` meets its contract: with the buffer's own length as the room.
use Rattle.layout.proofs.Patches.{ended_in}
use Rattle.edits.proofs.StripWrites.{strip_fits}
use Rattle.edits.proofs.operator.strip_nulls.Goals as goal

pub returns : goal.returns
returns c = ended_in _ (strip_fits _ _) c.strip_nulls_in.ensures
