-- `layout::order::is_before` meets its contract.
use Rattle.layout.specs.Order.{before}
use Rattle.layout.proofs.order.is_before.Goals as goal

pub returns : goal.returns
unfolding before
returns c = cc
