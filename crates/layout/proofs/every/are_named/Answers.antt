-- `layout::every::are_named` meets its contract.
use Rattle.std.proofs.Common.{rules}
use Rattle.std.proofs.lemmas.Iterator.Consumers.{YieldsList-from_first}
use Rattle.std.proofs.lemmas.Iterator.Search.{all_from_yields_List}
use Rattle.layout.specs.Every.{has_characters}
use Rattle.layout.specs.Left.{Placed, left, shown}
use Rattle.layout.proofs.Lefts.{all_each}
use mathlib.Core.Path.{◌∙◌}
use borrow.Author.Tests.{tests}
use Rattle.layout.proofs.every.are_named.Goals as goal

pub returns : goal.returns
returns c =
    let meant = λ (q : Placed). has_characters 1 c.args.longest q.bytes in
    all_from_yields_List meant c.all.new.self _ _ c.all.ensures.ran (YieldsList-from_first shown left _ c.starting_at.ensures) (λ x b q k. search (rules, tests))
    ∙ all_each (has_characters 1 c.args.longest) c.args.s.now _ _
