-- `layout::iterator::entry_in` meets its contract.
use Rattle.layout.specs.Pass.{entry_told}
use Rattle.layout.proofs.iterator.entry_in.Goals as goal

pub returns-then-not-is_inside : goal.returns-then-not-is_inside
unfolding entry_told
returns-then-not-is_inside c = rw (← c.is_inside.ensures, c.if-not-is_inside.true)

pub returns-then-not-is_item_jentry : goal.returns-then-not-is_item_jentry
unfolding entry_told
returns-then-not-is_item_jentry c =
    rw (← c.is_inside.ensures, c.if-not-is_inside.false, ← c.read_u32-jentry.ensures, ← c.is_item_jentry.ensures, c.if-not-is_item_jentry.true)

pub returns : goal.returns
unfolding entry_told
returns c =
    rw (← c.is_inside.ensures, c.if-not-is_inside.false, ← c.read_u32-jentry.ensures, ← c.is_item_jentry.ensures, c.if-not-is_item_jentry.false)
