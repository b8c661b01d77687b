-- `builders::search::Members::next_member` meets its contract.
-- The loop keeps that the search through all members comes to that through the rest, and that its places are the table's.
use Prim.Native.Nat.{◌+◌, ◌-◌, ◌*◌, ◌^◌, ◌≤◌}
use mathlib.Core.Path.{◌≡◌}
use Rattle.layout.specs.Parts.{name_in, members_at}
use Rattle.layout.specs.Table.{CarriedPair}
use Rattle.builders.specs.Search.{least, kept_of}
use Rattle.builders.specs.Searched.{searched}
use Rattle.builders.proofs.search.Members.next_member.Given as goal
use Rattle.std.specs.Prelude.{None, option_copied}

abbrev pub invariant-loop-i : goal.invariant-loop-i
invariant-loop-i l =
    (l.at.key_jentry ≤ l.initial.at.key_jentry + 4 * l.i)
    × (l.at.val_jentry ≤ l.initial.at.val_jentry + 4 * l.i)
    × (l.at.key ≤ l.initial.at.key + 2 ^ 28 * l.i)
    × (l.at.val ≤ l.initial.at.val + 2 ^ 28 * l.i)
    × (least (name_in l.self.keys.now) (option_copied l.last) None (searched l.self)
    ≡ least (name_in l.self.keys.now) (option_copied l.last) l.best
    (kept_of l.self.kept l.i (members_at l.self.keys.now l.self.vals.now l.at (l.self.count - l.i))))
    × CarriedPair l.self.keys.now l.self.vals.now l.initial.at l.i l.at
