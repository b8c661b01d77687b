-- `edits::delete::write_deleted` meets its contract.
use native.Mathlib.Omega.{arith}
use mathlib.Core.Path.{ap}
use Rattle.layout.specs.declared.parts.PartAt.{PartAt}
use Rattle.layout.proofs.Words.{slice_octets}
use Rattle.edits.specs.declared.delete.Way.{Way}
use Rattle.edits.proofs.Writes.{Deletion, whole_cuts, room_enough, no_room, has_room}
use Rattle.edits.proofs.delete.write_deleted.Goals.{After-first_part}
use Rattle.edits.proofs.delete.write_deleted.Goals as goal

abbrev way : After-first_part → Way
way c = record { path = c.args.path; step = c.first_part.result; count = c.args.n }

deletion : (c : After-first_part) → Deletion c.args.s.now c.args.path.now c.args.n (way c)
deletion c =
    record {
      octets = slice_octets c.args.s.now c.type_inv.s;
      readable = c.requires.0;
      short = c.requires.1;
      few = c.requires.2;
      more = c.requires.3;
      finds = c.requires.4;
      whole = ap (λ (p : PartAt). record { path = c.args.path; step = p; count = c.args.n }) c.first_part.ensures;
    }

pub first_part-requires : goal.first_part-requires
first_part-requires c = omega (arith, c.requires.2)

pub put_deleted-len-requires : goal.put_deleted-len-requires
put_deleted-len-requires c = (whole_cuts (deletion (goal.at.put_deleted-len-requires c).After-first_part), omega arith)

pub returns-then-s-room : goal.returns-then-s-room
returns-then-s-room c = room_enough (deletion (goal.at.returns-then-s-room c).After-first_part) _ _ _ _ c.if-s-room.true c.put_deleted-len.ensures

pub put_deleted-len-requires-2 : goal.put_deleted-len-requires-2
put_deleted-len-requires-2 c = (whole_cuts (deletion (goal.at.put_deleted-len-requires-2 c).After-first_part), omega arith)

pub returns-then-room-len : goal.returns-then-room-len
returns-then-room-len c = no_room (deletion (goal.at.returns-then-room-len c).After-first_part) _ _ _ _ c.put_deleted-len-2.ensures c.if-room-len.true

pub put_deleted-requires : goal.put_deleted-requires
put_deleted-requires c = (whole_cuts (deletion (goal.at.put_deleted-requires c).After-first_part), omega arith)

pub returns : goal.returns
returns c = has_room (deletion (goal.at.returns c).After-first_part) _ _ _ _ c.put_deleted-len-2.ensures _ _ c.if-room-len.false c.put_deleted.ensures
