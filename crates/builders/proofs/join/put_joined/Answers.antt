-- `builders::join::put_joined` meets its contract.
use Rattle.builders.proofs.Joins.{joined_stored}
use Rattle.builders.proofs.join.put_joined.Goals as goal

pub returns : goal.returns
returns c =
    joined_stored _ _ _ _ c.args.left.now.lies c.args.right.now.lies _ _ _ _ _ _ _ _ _ _ _
    c.count-left_count.ensures.is c.count.ensures.is
    c.payloads-left_payloads.ensures.are c.payloads.ensures.are
    c.put_u32.ensures c.put_jentries.ensures c.put_jentries-2.ensures
    c.copy.ensures c.copy-2.ensures
