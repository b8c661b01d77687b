-- `layout::util::is_inside` meets its contract.
use mathlib.Core.Path.{◌∙◌}
use native.Mathlib.Omega.{arith}
use borrow.Author.Tests.{lt-leb}
use lib.ListN.{length}
use Rattle.layout.proofs.Fields.{inside_none, inside_some}
use Rattle.layout.proofs.util.is_inside.Goals as goal

pub returns-then-n-s : goal.returns-then-n-s
returns-then-n-s c = inside_some c.args.s.now c.args.at c.args.n (omega arith)

pub returns-else-n-s : goal.returns-else-n-s
returns-else-n-s c = lt-leb c.args.n (length c.args.s.now) (omega arith) ∙ inside_none _ _ _ (omega arith)
