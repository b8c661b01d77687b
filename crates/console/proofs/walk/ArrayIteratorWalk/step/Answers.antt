-- `console::walk::ArrayIteratorWalk::step` meets its contract: what a step hands out stands inside the slice.
use Rattle.console.proofs.Walks.{item_placed}
use Rattle.console.proofs.walk.ArrayIteratorWalk.step.Goals as goal

pub returns : goal.returns
returns c = item_placed _ _ _ c.next.ensures
