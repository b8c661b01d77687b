-- `edits::path::get_by_keypath` meets its contract: with the buffer's own length as the room.
use Rattle.layout.proofs.Patches.{ended_in}
use Rattle.edits.proofs.OnPaths.{path_fits}
use Rattle.edits.proofs.path.get_by_keypath.Goals as goal

pub returns : goal.returns
returns c = ended_in _ (path_fits _ _ _ _) c.get_by_keypath_in.ensures
