-- `layout::check::is_table` meets its contract.
-- The loop keeps that the table passes where the rest of it does, and the sum of the lengths passed.
use native.Mathlib.Omega.{arith}
use borrow.Author.Rules.{rules}
use Rattle.layout.proofs.Fields.{length_lt}
use Rattle.layout.proofs.Checks.{table_bad, table_more, lengths_more, table_end}
use Rattle.layout.proofs.check.is_table.Goals as goal

pub returns-else-is_jentry : goal.returns-else-is_jentry
returns-else-is_jentry c =
    table_bad _ _ c.loop-i.i _ _ _ c.loop-i-test.true c.loop-i.invariant.2 c.jentry_at-entry.ensures c.is_jentry.ensures _
    c.if-is_jentry.false

pub loop-i-preserved : goal.loop-i-preserved
loop-i-preserved c = (
  search rules,
  rw c.payload_len.ensures (omega (arith, length_lt c.jentry_at-entry.result)),
  table_more _ _ c.loop-i.i _ _ _ c.loop-i-test.true c.loop-i.invariant.2 c.jentry_at-entry.ensures c.is_jentry.ensures c.if-is_jentry.true,
  lengths_more _ c.loop-i.i _ c.loop-i.sum _ _ c.loop-i-test.true c.loop-i.invariant.3 c.jentry_at-entry.ensures c.payload_len.ensures,
)

pub returns : goal.returns
returns c = table_end _ _ c.loop-i.i _ _ _ c.loop-i-test.false c.loop-i.invariant.2 c.loop-i.invariant.3
