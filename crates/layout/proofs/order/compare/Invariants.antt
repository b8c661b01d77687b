-- `layout::order::compare` meets its contract. The loop keeps that the order is that of the rests.
use Rattle.std.proofs.Common.{◌≡◌}
use lib.ListN.{drop}
use Rattle.layout.specs.Order.{order}
use Rattle.layout.proofs.order.compare.Given as goal

abbrev pub invariant-loop-i : goal.invariant-loop-i
invariant-loop-i l = order l.a l.b ≡ order (drop l.i l.a) (drop l.i l.b)
