-- `layout::jentry::is_jentry` meets its contract.
use Rattle.layout.specs.Read.{entry_ok}
use Rattle.layout.proofs.jentry.is_jentry.Goals as goal

pub returns : goal.returns
unfolding entry_ok
returns c = rw (c.type_code-code.ensures, c.is_item_jentry.ensures, c.payload_len.ensures)
