-- `layout::iterator::ObjectIterator::new_with_len` meets its contract.
use Rattle.layout.proofs.Walks.{object_opens}
use Rattle.layout.proofs.iterator.ObjectIterator.new_with_len.Goals as goal

pub returns : goal.returns
returns c = object_opens _ _ _ c.members_of-first.ensures
