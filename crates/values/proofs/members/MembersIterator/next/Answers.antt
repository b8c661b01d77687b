-- `values::members::MembersIterator::next` meets its contract.
use Rattle.values.proofs.Besides.{beside_none}
use Rattle.values.proofs.members.MembersIterator.next.Goals as goal

pub returns-in_err-value-clause-steps : goal.returns-in_err-value-clause-steps
returns-in_err-value-clause-steps c =
    let ended = c.in_err-value.ensures.steps in
    rw c.from_residual-in_err-value.ensures (beside_none _ ended.0, beside_none _ ended.1)
