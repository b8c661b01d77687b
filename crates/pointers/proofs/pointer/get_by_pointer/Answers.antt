-- `pointers::pointer::get_by_pointer` meets its contract: with the buffer's own length as the room.
use Rattle.layout.proofs.Patches.{ended_in}
use Rattle.pointers.proofs.Lookups.{pointer_fits}
use Rattle.pointers.proofs.pointer.get_by_pointer.Goals as goal

pub returns : goal.returns
returns c = ended_in _ (pointer_fits _ _ _) c.get_by_pointer_in.ensures
