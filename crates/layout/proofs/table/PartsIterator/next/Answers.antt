-- `next` of the parts of a table gives the first of those that are left, and leaves the others.
use native.Mathlib.Omega.{arith}
use Rattle.layout.proofs.Fields.{length_lt}
use Rattle.layout.proofs.Lefts.{left_none, left_step, shown_is, behind_is}
use Rattle.layout.proofs.table.PartsIterator.next.Goals as goal

pub returns-then-self-eq0-clause-steps : goal.returns-then-self-eq0-clause-steps
returns-then-self-eq0-clause-steps c =
    let w = c.args.self.now in
    let e = left_none w.s.now w.at w.count c.if-self-eq0.true in (e, e)

pub invariant_of-self : goal.invariant_of-self
invariant_of-self c =
    let w = c.args.self.now in
    record { bounded = (omega (arith, w.bounded), omega (arith, w.bounded, c.payload_len-len.ensures, length_lt c.jentry_at-jentry.result)) }

pub returns-clause-steps : goal.returns-clause-steps
returns-clause-steps c =
    let w = c.args.self.now in
    rw (
      left_step w.s.now w.at w.count c.if-self-eq0.false,
      shown_is w.s.now w.at _ _ _ c.jentry_at-jentry.ensures c.payload_len-len.ensures c.slice.ensures,
      behind_is w.s.now w.at _ _ c.jentry_at-jentry.ensures c.payload_len-len.ensures,
    )
