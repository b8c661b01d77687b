-- `pointers::pointer::step_from` meets its contract.
use native.Mathlib.Omega.{arith}
use mathlib.Core.Path.{refl}
use Rattle.edits.proofs.Helds.{leads_scalar, step_small, leads_in}
use Rattle.pointers.proofs.Steps.{token_leads}
use Rattle.pointers.proofs.pointer.step_from.Goals as goal

pub returns-then-type_code-ne-CONTAINER_CODE : goal.returns-then-type_code-ne-CONTAINER_CODE
returns-then-type_code-ne-CONTAINER_CODE c =
    token_leads c.args.s.now c.args.item c.args.token.now _ _ refl
    (leads_scalar c.args.s.now c.args.item _ _ c.type_code.ensures c.if-type_code-ne-CONTAINER_CODE.true)

pub item_in-requires : goal.item_in-requires
item_in-requires c part found =
    let small = step_small c.args.s.now c.args.item _ _ c.type_code.ensures c.if-type_code-ne-CONTAINER_CODE.false _ c.payload_at-inner.ensures _
    c.find_token.ensures part found c.requires in
    (omega (arith, small.0), omega (arith, small.1))

pub returns : goal.returns
returns c =
    token_leads c.args.s.now c.args.item c.args.token.now _ _ c.payload_at-inner.ensures
    (leads_in c.args.s.now c.args.item _ _ c.type_code.ensures c.if-type_code-ne-CONTAINER_CODE.false _ c.payload_at-inner.ensures _
    c.find_token.ensures _ c.item_in.ensures)
