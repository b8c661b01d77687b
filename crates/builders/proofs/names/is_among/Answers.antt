-- `builders::names::is_among` meets its contract.
use mathlib.Core.Path.{refl, ◌∙◌}
use borrow.Author.Tests.{tests}
use Rattle.std.proofs.Common.{rules}
use Rattle.std.proofs.lemmas.Iterator.Consumers.{YieldsList-from_first}
use Rattle.std.proofs.lemmas.Iterator.Search.{any_from_yields_List}
use Rattle.layout.specs.Order.{same_bytes}
use Rattle.layout.specs.Left.{Placed, left, shown}
use Rattle.builders.proofs.Naming.{any_has}
use Rattle.builders.proofs.names.is_among.Goals as goal

pub returns : goal.returns
returns c =
    let name = c.args.name.now in
    any_from_yields_List (λ (q : Placed). same_bytes name q.bytes) c.any.new.self _ _ c.any.ensures.ran
    (YieldsList-from_first shown left _ refl) (λ x b q k. search (rules, tests))
    ∙ any_has name (left c.args.others)
