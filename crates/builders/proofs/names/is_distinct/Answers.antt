-- `builders::names::is_distinct` meets its contract.
use mathlib.Core.Path.{sym, ap}
use Rattle.layout.proofs.Lefts.{texts_left}
use Rattle.builders.specs.Order.{distinct}
use Rattle.builders.proofs.Naming.{distinct_rising, distinct_twice, distinct_more, distinct_end}
use Rattle.builders.proofs.names.is_distinct.Goals as goal

pub returns-then-is_rising : goal.returns-then-is_rising
returns-then-is_rising c = distinct_rising _ _ _ _ c.is_rising.ensures c.if-is_rising.true

pub loop-name-init : goal.loop-name-init
loop-name-init c = rw c.starting_at-names.ensures (ap distinct (sym (texts_left c.args.s.now _ _)))

pub returns-then-is_among : goal.returns-then-is_among
returns-then-is_among c =
    distinct_twice _ _ c.loop-name.invariant _ _ c.in-Some.ensures.steps _ (rw c.rest.ensures at c.is_among.ensures)
    c.if-is_among.true

pub loop-name-preserved : goal.loop-name-preserved
loop-name-preserved c =
    distinct_more _ _ c.loop-name.invariant _ _ c.in-Some.ensures.steps _ (rw c.rest.ensures at c.is_among.ensures)
    c.if-is_among.false

pub returns : goal.returns
returns c = distinct_end _ _ c.loop-name.invariant c.in_default.ensures.steps.0
