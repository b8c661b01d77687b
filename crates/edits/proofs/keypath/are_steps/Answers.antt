-- `edits::keypath::are_steps` meets its contract.
use mathlib.Core.Path.{◌∙◌}
use borrow.Author.Tests.{tests}
use Rattle.std.proofs.Common.{rules}
use Rattle.std.proofs.lemmas.Iterator.Consumers.{YieldsList-from_first}
use Rattle.std.proofs.lemmas.Iterator.Search.{all_from_yields_List}
use Rattle.layout.specs.Entry.{code_of}
use Rattle.layout.specs.Left.{Placed, left, shown}
use Rattle.edits.specs.Steps.{code_key, is_step}
use Rattle.edits.proofs.Keys.{all_steps}
use Rattle.edits.proofs.keypath.are_steps.Goals as goal

pub returns : goal.returns
returns c =
    all_from_yields_List (λ (q : Placed). is_step (code_key (code_of q.jentry) q.bytes)) c.all.new.self _ _ c.all.ensures.ran
    (YieldsList-from_first shown left _ c.of.ensures) (λ x b q k. search (rules, tests))
    ∙ all_steps c.args.path.now _ _
