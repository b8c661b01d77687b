-- `console::answer_input` meets its contract: what is held of a line is no longer than the line's array.
use Rattle.std.proofs.Common.{◌≤◌}
use Rattle.console.proofs.answer_input.Given as goal

abbrev pub invariant-loop : goal.invariant-loop
invariant-loop g l = l.held.0 ≤ 524288
