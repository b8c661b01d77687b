-- `builders::join::write_joined` meets its contract.
use Rattle.builders.proofs.Joins.{length_joined}
use Rattle.builders.proofs.Rooms.{sized_refused, sized_done}
use Rattle.layout.proofs.HandedOn.{handed_on}
use Rattle.builders.proofs.join.write_joined.Goals as goal

pub returns-in_err-check_room : goal.returns-in_err-check_room
returns-in_err-check_room c =
    rw (handed_on _ c.from_residual.ensures)
    (sized_refused _ _ _ _ (length_joined _ _ _ _ c.args.left.now.lies c.args.right.now.lies _ _ c.joined_len-len.ensures)
    _ c.check_room.ensures _ c.in_err-check_room.was)

pub returns : goal.returns
returns c =
    sized_done _ _ _ _ (length_joined _ _ _ _ c.args.left.now.lies c.args.right.now.lies _ _ c.joined_len-len.ensures)
    _ c.check_room.ensures _ c.in_ok-check_room.was c.put_joined.ensures
