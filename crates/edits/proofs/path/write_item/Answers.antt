-- `edits::path::write_item` meets its contract.
use mathlib.Core.Path.{sym, ◌∙◌}
use Rattle.layout.proofs.Patches.{in_as}
use Rattle.edits.proofs.Helds.{item_record_container, item_short, item_stored}
use Rattle.edits.proofs.path.write_item.Goals as goal

pub returns-then-type_code-eq-CONTAINER_CODE : goal.returns-then-type_code-eq-CONTAINER_CODE
returns-then-type_code-eq-CONTAINER_CODE c =
    in_as _ _ _
    (c.payload_at-payload.ensures
    ∙ sym (item_record_container c.args.s.now c.args.item _ c.type_code.ensures c.if-type_code-eq-CONTAINER_CODE.true))
    c.write_copy.ensures

pub returns-then-room-len : goal.returns-then-room-len
returns-then-room-len c =
    item_short c.args.s.now c.args.item _ c.type_code.ensures c.if-type_code-eq-CONTAINER_CODE.false _ c.payload_at-payload.ensures
    c.args.out.now c.args.room c.if-room-len.true

pub returns : goal.returns
returns c =
    item_stored c.args.s.now c.args.item _ c.type_code.ensures c.if-type_code-eq-CONTAINER_CODE.false _ c.payload_at-payload.ensures
    c.args.out.now c.args.room _ _ _ c.if-room-len.false c.put_u32.ensures c.put_u32-2.ensures c.copy.ensures
