-- `layout::check::check_scalar` meets its contract.
use Rattle.layout.proofs.Checks.{scalar_count, scalar_short, scalar_container, scalar_length, scalar_item}
use Rattle.layout.proofs.check.check_scalar.Goals as goal

pub returns-then-count-ne0 : goal.returns-then-count-ne0
returns-then-count-ne0 c = scalar_count c.args.count c.args.s.now c.if-count-ne0.true

pub returns-then-s-lt-SCALAR_START : goal.returns-then-s-lt-SCALAR_START
returns-then-s-lt-SCALAR_START c = scalar_short c.args.count c.args.s.now c.if-count-ne0.false c.if-s-lt-SCALAR_START.true

pub returns-then-code-eq-CONTAINER_CODE : goal.returns-then-code-eq-CONTAINER_CODE
returns-then-code-eq-CONTAINER_CODE c =
    scalar_container c.args.count c.args.s.now c.if-count-ne0.false c.if-s-lt-SCALAR_START.false _ _ _
    c.read_jentry-entry.ensures c.type_code-code.ensures c.payload_len-len.ensures c.if-code-eq-CONTAINER_CODE.true

pub returns-then-len-s : goal.returns-then-len-s
returns-then-len-s c =
    scalar_length c.args.count c.args.s.now c.if-count-ne0.false c.if-s-lt-SCALAR_START.false _ _ _
    c.read_jentry-entry.ensures c.type_code-code.ensures c.payload_len-len.ensures c.if-len-s.true

pub returns : goal.returns
returns c =
    scalar_item c.args.count c.args.s.now c.if-count-ne0.false c.if-s-lt-SCALAR_START.false _ _ _
    c.read_jentry-entry.ensures c.type_code-code.ensures c.payload_len-len.ensures c.if-code-eq-CONTAINER_CODE.false c.if-len-s.false _
    c.check_items.ensures
