-- `pointers::token::is_plain` meets its contract.
use Rattle.std.proofs.Common.{ap, not, ◌∙◌}
use Rattle.pointers.proofs.Tokens.{plain_any}
use Rattle.pointers.proofs.token.is_plain.Goals as goal

pub returns : goal.returns
returns c = ap not c.contains.ensures.value ∙ plain_any _
