-- `builders::builder::build_members` meets its contract.
use native.Mathlib.Omega.{arith}
use mathlib.Core.Path.{sym, ◌∙◌}
use Rattle.builders.proofs.Knowns.{both_octets}
use Rattle.builders.proofs.Builds.{Bounds, Paired, pairs_bounds, pairs_lie, pairs_rising, pairs_repeated}
use Rattle.builders.proofs.builder.build_members.Goals.{After-slice_known-1}
use Rattle.builders.proofs.builder.build_members.Goals as goal

-- What is known from the start.
paired : (c : After-slice_known-1) → Paired c.args.names.now c.args.values.now c.args.n
paired c =
    record {
      octets = both_octets c.args.names.now c.args.values.now c.type_inv.names c.type_inv.values;
      pairs = c.requires;
    }

bounds : (c : After-slice_known-1) → Bounds c.args.names.now c.args.values.now c.args.n
bounds c = pairs_bounds (paired c)

pub overflow_mul-start : goal.overflow_mul-start
overflow_mul-start c = omega (arith, bounds c)

pub overflow_add-start : goal.overflow_add-start
overflow_add-start c = omega (arith, bounds c)

pub is_rising-requires : goal.is_rising-requires
is_rising-requires c = omega (arith, bounds c)

pub overflow_cast-header : goal.overflow_cast-header
overflow_cast-header c = omega (arith, bounds (goal.at.overflow_cast-header c).After-slice_known-1)

pub invariant_of-left : goal.invariant_of-left
invariant_of-left c = record { lies = (pairs_lie (paired (goal.at.invariant_of-left c).After-slice_known-1)).0 }

pub invariant_of-right : goal.invariant_of-right
invariant_of-right c = record { lies = (pairs_lie (paired (goal.at.invariant_of-right c).After-slice_known-1)).1 }

pub returns-then-is_rising : goal.returns-then-is_rising
returns-then-is_rising c = pairs_rising (paired (goal.at.returns-then-is_rising c).After-slice_known-1) _ _ (sym c.is_rising.ensures ∙ c.if-is_rising.true) _ _ c.write_joined.ensures

pub is_distinct-requires : goal.is_distinct-requires
is_distinct-requires c = omega (arith, bounds (goal.at.is_distinct-requires c).After-slice_known-1)

pub write_sorted-requires : goal.write_sorted-requires
write_sorted-requires c = (c.requires, sym c.is_distinct.ensures ∙ c.if-is_distinct.true)

pub returns : goal.returns
returns c = pairs_repeated (paired (goal.at.returns c).After-slice_known-1) _ _ (sym c.is_distinct.ensures ∙ c.if-is_distinct.false)
