-- `layout::order::is_same_bytes` meets its contract: bytes are equal where they are so from their ends.
use mathlib.Core.Path.{◌≡◌, refl, ap, ◌∙◌}
use lib.ListN.{length}
use borrow.Author.Tests.{ne_eqb}
use Rattle.std.proofs.lemmas.Iterator.Adapters.{YieldsList-from_rev_slice}
use Rattle.layout.proofs.Orders.{unlike_bytes, reversed_same}
use Rattle.layout.proofs.Runs.{eq_from_yields}
use Rattle.layout.proofs.order.is_same_bytes.Goals as goal

pub returns-then-a-b : goal.returns-then-a-b
returns-then-a-b c =
    eq_from_yields (λ x y. y ≡ x) _ c.eq.result c.eq.ensures.ran (YieldsList-from_rev_slice c.args.a.now cc)
    (λ it e. YieldsList-from_rev_slice c.args.b.now cc) (λ x y. refl)
    ∙ reversed_same c.args.a.now c.args.b.now

pub returns-else-a-b : goal.returns-else-a-b
returns-else-a-b c = ne_eqb _ _ c.if-a-b.false ∙ unlike_bytes _ _ (λ q. c.if-a-b.false (ap length q))
