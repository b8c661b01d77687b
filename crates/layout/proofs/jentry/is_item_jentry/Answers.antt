-- `layout::jentry::is_item_jentry` meets its contract.
use Rattle.layout.specs.Entry.{top_of, entry_good}
use Rattle.layout.proofs.jentry.is_item_jentry.Goals as goal

pub returns : goal.returns
unfolding entry_good top_of
returns c = rw c.type_code-code.ensures
