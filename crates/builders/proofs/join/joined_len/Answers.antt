-- `builders::join::joined_len` meets its contract.
use Rattle.builders.proofs.Joins.{length_is}
use Rattle.builders.proofs.join.joined_len.Goals as goal

pub returns : goal.returns
returns c =
    length_is _ _ _ _ _ _ _ _ c.count.ensures.is c.count-2.ensures.is
    c.payloads.ensures.are c.payloads-2.ensures.are
