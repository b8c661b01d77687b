-- `layout::check::refuse_payload` meets its contract.
use Rattle.layout.proofs.Passes.{refusal_kept, refusal_layout}
use Rattle.layout.proofs.check.refuse_payload.Goals as goal

pub returns-then-is_table : goal.returns-then-is_table
returns-then-is_table c = refusal_kept _ _ _ _ _ c.is_table.ensures c.if-is_table.true

pub returns : goal.returns
returns c = refusal_layout _ _ _ _ _ c.is_table.ensures c.if-is_table.false
