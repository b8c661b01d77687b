-- `console::show::show_container`, `console::show::show_item`, `console::show::show_items` and `console::show::show_members` meet
-- their contracts. They call each other; the number that falls is three times the allowance, and a place in the turn.
use Rattle.std.proofs.Common.{◌≡◌, ◌+◌, ◌*◌}
use Rattle.console.proofs.show.+outlines.Given as goal

abbrev pub decreases-show_container : goal.decreases-show_container
decreases-show_container g l = 3 * l.part.allowance

abbrev pub decreases-show_item : goal.decreases-show_item
decreases-show_item g l = 3 * l.part.allowance + 1

abbrev pub decreases-show_items : goal.decreases-show_items
decreases-show_items g l = 3 * l.part.allowance + 2

abbrev pub decreases-show_members : goal.decreases-show_members
decreases-show_members g l = 3 * l.part.allowance + 2

-- Each loop walks over its part.
abbrev pub invariant-show_items-loop-index : goal.invariant-show_items-loop-index
invariant-show_items-loop-index g l =
    (goal.iterator-show_items-loop-index g).can_next l.index-iterator
    × (goal.iterator-show_items-loop-index g).is_finite l.index-iterator
    × (l.index-iterator.iter.s.now ≡ l.fn.part.s.now)

abbrev pub invariant-show_members-loop-member : goal.invariant-show_members-loop-member
invariant-show_members-loop-member g l =
    (goal.iterator-show_members-loop-member g).can_next l.member-iterator
    × (goal.iterator-show_members-loop-member g).is_finite l.member-iterator
    × (l.member-iterator.s.now ≡ l.fn.part.s.now)
