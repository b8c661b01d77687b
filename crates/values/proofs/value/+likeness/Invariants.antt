-- For `values::value::is_same_nested` and what it calls in a cycle: the number that falls is five times the allowance, and a place
-- in the turn. The loops keep that the answer for all is the answer for the rest, with what was counted.
use Prim.Native.Nat.{◌+◌, ◌*◌}
use mathlib.Core.List.{map}
use Rattle.layout.specs.Left.{part_shown, left}
use Rattle.layout.specs.Parts.{parts_of}
use Rattle.values.specs.Alike.{member_of, members, members_left, same_parts, likes, same_members, same_at}
use Rattle.values.proofs.Turns.{ItemsLeft, MembersLeft, Counting}
use Rattle.values.proofs.value.+likeness.Given as goal

-- Items in turn.
abbrev pub invariant-are_same_items-loop-item : goal.invariant-are_same_items-loop-item
invariant-are_same_items-loop-item l =
    ItemsLeft (same_at l.allowance) (same_parts (same_at l.allowance) (parts_of l.a l.n) (parts_of l.b l.n))
    (map part_shown (left l.item-iterator.a)) (map part_shown (left l.item-iterator.b))

-- Members in turn.
abbrev pub invariant-are_same_members-loop-member : goal.invariant-are_same_members-loop-member
invariant-are_same_members-loop-member l =
    MembersLeft (same_at l.allowance) (same_members (same_at l.allowance) (members l.a l.n) (members l.b l.n)) l.n
    (members_left l.behind) (members_left l.others)

-- Counting.
abbrev pub invariant-count_like-loop-other : goal.invariant-count_like-loop-other
invariant-count_like-loop-other l =
    Counting (same_at l.allowance) (member_of l.member) l.limit (likes (same_at l.allowance) (member_of l.member) (members_left l.others))
    l.count (members_left l.other-iterator)

-- Each call has a smaller number: a level down takes five off, and within a level the number after the `+` goes down.
abbrev pub decreases-are_same_members : goal.decreases-are_same_members
decreases-are_same_members l = 5 * l.allowance + 4

abbrev pub decreases-count_like : goal.decreases-count_like
decreases-count_like l = 5 * l.allowance + 3

abbrev pub decreases-is_like : goal.decreases-is_like
decreases-is_like l = 5 * l.allowance + 2

abbrev pub decreases-are_same_items : goal.decreases-are_same_items
decreases-are_same_items l = 5 * l.allowance + 2

abbrev pub decreases-is_same_item : goal.decreases-is_same_item
decreases-is_same_item l = 5 * l.allowance + 1

abbrev pub decreases-is_same_nested : goal.decreases-is_same_nested
decreases-is_same_nested l = 5 * l.allowance
