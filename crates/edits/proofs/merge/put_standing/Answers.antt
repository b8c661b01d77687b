-- `edits::merge::put_standing` meets its contract.
use native.Mathlib.Omega.{arith}
use Rattle.edits.proofs.Walks.{putting_starts, putting_goes, putting_ends, reached_near}
use Rattle.edits.proofs.merge.put_standing.Goals as goal

pub loop-init : goal.loop-init
loop-init c = putting_starts _ _ _ _ _

pub put_member-at-requires : goal.put_member-at-requires
put_member-at-requires c = reached_near _ _ _ c.loop.invariant.written (omega (arith, c.loop-test.true, c.requires.0)) (c.requires.5, c.requires.6, c.requires.7, c.requires.8)

pub places_behind-here-requires : goal.places_behind-here-requires
places_behind-here-requires c = reached_near _ _ _ c.loop.invariant.read (omega (arith, c.loop-test.true, c.requires.0)) (c.requires.1, c.requires.2, c.requires.3, c.requires.4)

pub loop-preserved : goal.loop-preserved
loop-preserved c =
    putting_goes c.args.s.now _ _ _ _ _ _ _ _ c.loop.invariant
    (omega (arith, c.loop-test.true, c.loop.invariant.inside)) _ _ _ _
    c.read_member-member.ensures (c.put_member-at.ensures.is, c.put_member-at.ensures.kept) c.places_behind-here.ensures

pub shape_of-out : goal.shape_of-out
shape_of-out c = c.loop.invariant.as_long

pub returns : goal.returns
returns c = let all = putting_ends c.args.s.now _ _ _ _ _ _ _ _ c.loop.invariant (omega (arith, c.loop-test.false)) in record { is = all.0; kept = all.1 }
