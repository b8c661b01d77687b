-- `edits::strip::put_stripped` and what it calls in a cycle meet their contracts: the allowance falls with each level.
use Prim.Native.Nat.{◌+◌, ◌*◌}
use mathlib.Core.Path.{◌≡◌}
use Rattle.std.specs.Prelude.{option_copied}
use Rattle.layout.specs.Parts.{nth_part}
use Rattle.edits.proofs.StripItems.{ArrayAt, Storing}
use Rattle.edits.proofs.StripMembers.{StoringMembers}
use Rattle.edits.proofs.Standings.{ahead_at}
use Rattle.edits.proofs.StripRising.{StoringRising}
use Rattle.edits.proofs.strip.+stripping.Given as goal

abbrev pub decreases-put_item_stripped : goal.decreases-put_item_stripped
decreases-put_item_stripped l = 5 * l.allowance + 4

abbrev pub decreases-put_items_stripped : goal.decreases-put_items_stripped
decreases-put_items_stripped l = 5 * l.allowance + 1

abbrev pub decreases-put_member_stripped : goal.decreases-put_member_stripped
decreases-put_member_stripped l = 5 * l.allowance + 5

abbrev pub decreases-put_members_stripped : goal.decreases-put_members_stripped
decreases-put_members_stripped l = 5 * l.allowance + 2

abbrev pub decreases-put_rising_stripped : goal.decreases-put_rising_stripped
decreases-put_rising_stripped l = 5 * l.allowance + 1

abbrev pub decreases-put_sorted_stripped : goal.decreases-put_sorted_stripped
decreases-put_sorted_stripped l = 5 * l.allowance + 1

abbrev pub decreases-put_stripped : goal.decreases-put_stripped
decreases-put_stripped l = 5 * l.allowance + 3

abbrev pub invariant-put_items_stripped-loop-i : goal.invariant-put_items_stripped-loop-i
invariant-put_items_stripped-loop-i l =
    (w : ArrayAt l.s l.n l.allowance)
    × Storing l.s l.n l.allowance l.at w l.initial.out l.out l.here (record { index = l.i; place = l.place })
    × (record { index = l.i; place = l.place } ≡ nth_part l.s l.n l.i)

abbrev pub invariant-put_rising_stripped-loop-i : goal.invariant-put_rising_stripped-loop-i
invariant-put_rising_stripped-loop-i l =
    StoringRising l.s l.fn.ahead.count l.allowance l.at l.initial.to l.initial.out l.out l.to (ahead_at l.fn.ahead l.from l.i)

abbrev pub invariant-put_sorted_stripped-loop : goal.invariant-put_sorted_stripped-loop
invariant-put_sorted_stripped-loop l = StoringMembers l.s l.fn.ahead.count l.allowance l.at l.fn.sizes l.initial.to l.initial.out l.out (option_copied l.last) l.to l.counter
