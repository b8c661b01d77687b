-- `layout::iterator::ArrayIterator::new_with_len` meets its contract.
use Rattle.layout.proofs.Walks.{array_opens}
use Rattle.layout.proofs.iterator.ArrayIterator.new_with_len.Goals as goal

pub returns : goal.returns
returns c = array_opens _ _ c.first_part-first.ensures
