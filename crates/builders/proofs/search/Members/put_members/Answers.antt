-- `builders::search::Members::put_members` meets its contract.
use native.Mathlib.Omega.{arith}
use Rattle.builders.proofs.Storing.{begins, goes, ends_early, ends_full, few_searched}
use Rattle.builders.proofs.Searches.{bytes_short}
use Rattle.builders.proofs.search.Members.put_members.Goals as goal

pub loop-init : goal.loop-init
loop-init c = begins _ _ _ _ _ _

pub shape_of-out-in_default : goal.shape_of-out-in_default
shape_of-out-in_default c = c.loop.invariant.as_long

pub returns-in_default : goal.returns-in_default
returns-in_default c = ends_early _ _ _ _ _ _ _ _ _ _ c.loop.invariant _ c.next_member.ensures c.in_default.is

pub put_member-at-requires : goal.put_member-at-requires
put_member-at-requires c =
    omega (arith, c.loop.invariant.key_jentry, c.loop.invariant.val_jentry, c.loop.invariant.near_key, c.loop.invariant.near_val, c.args.self.now.near)

pub loop-preserved : goal.loop-preserved
loop-preserved c =
    goes _ _ _ _ _ _ _ _ _ _ c.loop.invariant _ c.next_member.ensures _ _ _ _ c.in-Some.is
    (c.put_member-at.ensures.is, c.put_member-at.ensures.kept) c.payload_at.ensures
    (bytes_short c.args.self.now.keys.now c.in-Some.member.key) (bytes_short c.args.self.now.vals.now c.in-Some.member.val)

pub shape_of-out : goal.shape_of-out
shape_of-out c = c.loop.invariant.as_long

pub returns : goal.returns
returns c = ends_full _ _ _ _ _ _ _ _ _ _ c.loop.invariant _ (few_searched _ _ _ _ _) c.loop-test.false
