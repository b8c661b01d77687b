-- `edits::path::step_from` meets its contract.
use native.Mathlib.Omega.{arith}
use Rattle.edits.proofs.Helds.{leads_scalar, step_small, leads_in}
use Rattle.edits.proofs.path.step_from.Goals as goal

pub returns-then-type_code-ne-CONTAINER_CODE : goal.returns-then-type_code-ne-CONTAINER_CODE
returns-then-type_code-ne-CONTAINER_CODE c = leads_scalar c.args.s.now c.args.item _ _ c.type_code.ensures c.if-type_code-ne-CONTAINER_CODE.true

pub item_in-requires : goal.item_in-requires
item_in-requires c part found =
    let small = step_small c.args.s.now c.args.item _ _ c.type_code.ensures c.if-type_code-ne-CONTAINER_CODE.false _ c.payload_at-inner.ensures _
    c.find_step.ensures part found c.requires in
    (omega (arith, small.0), omega (arith, small.1))

pub returns : goal.returns
returns c =
    leads_in c.args.s.now c.args.item _ _ c.type_code.ensures c.if-type_code-ne-CONTAINER_CODE.false _ c.payload_at-inner.ensures _
    c.find_step.ensures _ c.item_in.ensures
