-- `edits::operator::concat` meets its contract: with the buffer's own length as the room.
use Rattle.layout.proofs.Patches.{ended_in}
use Rattle.builders.proofs.Twos.{two_fits}
use Rattle.edits.proofs.operator.concat.Goals as goal

pub returns : goal.returns
returns c = ended_in _ (two_fits _ _ _ _) c.concat_in.ensures
