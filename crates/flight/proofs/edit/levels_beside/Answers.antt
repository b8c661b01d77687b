-- `flight::edit::levels_beside` meets its contract.
use Rattle.flight.proofs.Ends.{one_level_less, all_levels}
use Rattle.flight.proofs.edit.levels_beside.Goals as goal

pub returns-then-is_object : goal.returns-then-is_object
returns-then-is_object c = one_level_less _ _ _ _ c.is_object.ensures c.is_object-2.ensures c.if-is_object.true

pub returns : goal.returns
returns c = all_levels _ _ _ _ c.is_object.ensures c.is_object-2.ensures c.if-is_object.false
