-- `edits::operator::write_items` meets its contract.
use native.Mathlib.Omega.{arith}
use Rattle.builders.proofs.Knowns.{both_octets}
use Rattle.edits.proofs.Joinings.{Apart, Offered, items_lie, few_items, left_deep, right_deep, items_end}
use Rattle.edits.proofs.operator.write_items.Goals.{After-items_of-r, After-slice_known-1}
use Rattle.edits.proofs.operator.write_items.Goals as goal

-- What is known from the start, and what each record gives.
apart : (c : After-slice_known-1) → Apart c.args.left.now c.args.right.now
apart c =
    record {
      octets = both_octets c.args.left.now c.args.right.now c.type_inv.left c.type_inv.right;
      left = (_, c.requires.0);
      right = (_, c.requires.1);
      no_pair = c.requires.2;
    }

offered : (c : After-items_of-r) → Offered c.args.left.now c.args.right.now c.items_of-l.result c.items_of-r.result
offered c = record {
  before = record {
    octets = both_octets c.args.left.now c.args.right.now c.type_inv.left c.type_inv.right;
    left = (_, c.requires.0);
    right = (_, c.requires.1);
    no_pair = c.requires.2;
  };
  left = c.items_of-l.ensures;
  right = c.items_of-r.ensures;
}

pub returns-then-is_deep : goal.returns-then-is_deep
returns-then-is_deep c = left_deep (offered (goal.at.returns-then-is_deep c).After-items_of-r) c.requires.0 c.is_deep.ensures c.if-is_deep.true _

pub returns-then-is_deep-2 : goal.returns-then-is_deep-2
returns-then-is_deep-2 c = right_deep (offered (goal.at.returns-then-is_deep-2 c).After-items_of-r) c.requires.1 c.is_deep-2.ensures c.if-is_deep-2.true _

pub overflow_add-header : goal.overflow_add-header
overflow_add-header c = omega (arith, few_items (offered (goal.at.overflow_add-header c).After-items_of-r) c.given_count.ensures c.given_count-2.ensures)

pub overflow_cast-header : goal.overflow_cast-header
overflow_cast-header c = omega (arith, few_items (offered (goal.at.overflow_cast-header c).After-items_of-r) c.given_count.ensures c.given_count-2.ensures)

pub invariant_of-left : goal.invariant_of-left
invariant_of-left c = record { lies = (items_lie (offered (goal.at.invariant_of-left c).After-items_of-r)).0 }

pub invariant_of-right : goal.invariant_of-right
invariant_of-right c = record { lies = (items_lie (offered (goal.at.invariant_of-right c).After-items_of-r)).1 }

pub returns : goal.returns
returns c =
    items_end (offered (goal.at.returns c).After-items_of-r) c.requires.0 c.requires.1
    c.is_deep.ensures c.is_deep-2.ensures c.if-is_deep.false c.if-is_deep-2.false
    c.given_count.ensures c.given_count-2.ensures _ c.write_joined.ensures
