-- `layout::jentry::read_jentry` meets its contract.
use native.Mathlib.Omega.{arith}
use Rattle.layout.proofs.Patterns.{entry_out}
use Rattle.layout.proofs.jentry.read_jentry.Goals as goal

pub returns-then-i-ge-JENTRY_LIMIT : goal.returns-then-i-ge-JENTRY_LIMIT
returns-then-i-ge-JENTRY_LIMIT c = entry_out c.args.s.now c.args.i (omega (arith, c.well_formed.0.1)) c.if-i-ge-JENTRY_LIMIT.true
