-- `layout::check::names_end` meets its contract.
-- The loop keeps that the end of all names is the end of the rest, and that its place is the table's.
use native.Mathlib.Omega.{arith}
use Rattle.layout.proofs.Fields.{length_lt}
use Rattle.layout.proofs.Passes.{names_bad, names_more, names_long, names_at}
use Rattle.layout.proofs.Carries.{carried_on}
use borrow.Author.Rules.{rules}
use Rattle.layout.proofs.check.names_end.Goals as goal

pub returns-then-entry-ne-STRING_CODE : goal.returns-then-entry-ne-STRING_CODE
returns-then-entry-ne-STRING_CODE c = names_bad _ _ c.loop-i.i c.loop-i.place _ c.loop-i.invariant.2 c.loop-i-test.true _ c.jentry_at-entry.ensures c.if-entry-ne-STRING_CODE.true

pub loop-i-preserved : goal.loop-i-preserved
loop-i-preserved c = (
  search rules,
  rw c.payload_len.ensures (omega (arith, length_lt c.jentry_at-entry.result)),
  names_more _ _ c.loop-i.i c.loop-i.place _ c.loop-i.invariant.2 c.loop-i-test.true _ c.jentry_at-entry.ensures c.if-entry-ne-STRING_CODE.false _ c.payload_len.ensures,
  carried_on _ _ _ _ _ _ _ c.loop-i.invariant.3 c.jentry_at-entry.ensures c.payload_len.ensures,
)

pub returns-then-s-place : goal.returns-then-s-place
returns-then-s-place c = names_long _ _ c.loop-i.i c.loop-i.place _ c.loop-i.invariant.2 c.loop-i-test.false c.if-s-place.true

pub returns : goal.returns
returns c = names_at _ _ c.loop-i.i c.loop-i.place _ c.loop-i.invariant.2 c.loop-i-test.false c.if-s-place.false
