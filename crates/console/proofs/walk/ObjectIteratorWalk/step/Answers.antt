-- `console::walk::ObjectIteratorWalk::step` meets its contract: what a step hands out stands inside the slice.
use Rattle.console.proofs.Walks.{value_placed}
use Rattle.console.proofs.walk.ObjectIteratorWalk.step.Goals as goal

pub returns : goal.returns
returns c = value_placed _ _ _ c.next.ensures
