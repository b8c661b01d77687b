-- `layout::jentry::jentry_at` meets its contract.
use Rattle.layout.specs.Entry.{entry_at}
use Rattle.layout.proofs.jentry.jentry_at.Goals as goal

pub returns-then-at-s : goal.returns-then-at-s
unfolding entry_at
returns-then-at-s c = c.read_whole.ensures

pub returns : goal.returns
unfolding entry_at
returns c = c.read_u32.ensures
