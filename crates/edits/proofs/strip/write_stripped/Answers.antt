-- `edits::strip::write_stripped` meets its contract.
use native.Mathlib.Omega.{arith}
use Rattle.edits.specs.Stripping.{Strippable}
use Rattle.edits.proofs.StripWrites.{whole_strips, strip_repeated, strip_no_room, strip_measured, strip_has_room}
use borrow.Author.Rules.{rules}
use Rattle.edits.proofs.strip.write_stripped.Goals.{After-put_stripped-arg-1}
use Rattle.edits.proofs.strip.write_stripped.Goals as goal

strips : (c : After-put_stripped-arg-1) → Strippable c.args.s.now 64
strips c = whole_strips c.args.s.now c.requires.0 c.requires.1

pub put_stripped-requires : goal.put_stripped-requires
put_stripped-requires c = (strips c, omega arith)

pub returns-in_default : goal.returns-in_default
returns-in_default c = strip_repeated c.args.s.now c.args.out.now c.args.room _ _ c.put_stripped.ensures c.in_default.is (search rules)

pub returns-then-room-len : goal.returns-then-room-len
returns-then-room-len c = strip_no_room c.args.s.now c.args.out.now c.args.room _ _ c.put_stripped.ensures _ c.in-Some.is c.if-room-len.true

pub returns-then-out-eq0 : goal.returns-then-out-eq0
returns-then-out-eq0 c =
    strip_measured c.args.s.now c.args.out.now c.args.room _ _ c.put_stripped.ensures _ c.in-Some.is
    c.if-room-len.false c.if-out-eq0.true

pub put_stripped-requires-2 : goal.put_stripped-requires-2
put_stripped-requires-2 c = (strips (goal.at.put_stripped-requires-2 c).After-put_stripped-arg-1, omega arith)

pub returns : goal.returns
returns c =
    strip_has_room c.args.s.now c.args.out.now c.args.room _ _ c.put_stripped.ensures _ c.in-Some.is
    c.put_stripped-2.result _ c.if-room-len.false c.put_stripped-2.ensures
