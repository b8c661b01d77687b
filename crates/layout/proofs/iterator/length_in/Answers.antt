-- `layout::iterator::length_in` meets its contract.
use Rattle.layout.specs.Pass.{length_told}
use Rattle.layout.proofs.iterator.length_in.Goals as goal

pub returns-then-not-is_inside : goal.returns-then-not-is_inside
unfolding length_told
returns-then-not-is_inside c = rw (← c.payload_len-length.ensures, ← c.is_inside.ensures, c.if-not-is_inside.true)

pub returns : goal.returns
unfolding length_told
returns c = rw (← c.payload_len-length.ensures, ← c.is_inside.ensures, c.if-not-is_inside.false)
