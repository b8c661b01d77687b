-- `builders::names::are_strings` meets its contract.
use mathlib.Core.Path.{◌∙◌}
use borrow.Author.Tests.{tests}
use lib.Dec.{eqb}
use Rattle.std.proofs.Common.{rules}
use Rattle.std.proofs.lemmas.Iterator.Consumers.{YieldsList-from_first}
use Rattle.std.proofs.lemmas.Iterator.Search.{all_from_yields_List}
use Rattle.layout.specs.Entry.{code_of}
use Rattle.layout.specs.Left.{Placed, left, shown}
use Rattle.builders.proofs.Naming.{all_strings}
use Rattle.builders.proofs.names.are_strings.Goals as goal

pub returns : goal.returns
returns c =
    all_from_yields_List (λ (q : Placed). eqb (code_of q.jentry) 1) c.all.new.self _ _ c.all.ensures.ran
    (YieldsList-from_first shown left _ c.of.ensures) (λ x b q k. search (rules, tests))
    ∙ all_strings c.args.s.now _ _
