-- `layout::iterator::jentry_to_jsonb_item` meets its contract.
use Rattle.layout.specs.Walk.{item_of}
use Rattle.layout.proofs.iterator.jentry_to_jsonb_item.Goals as goal

pub returns : goal.returns
unfolding item_of
returns c = rw (c.kind_of.ensures, c.type_code.ensures, c.payload_len.ensures)
