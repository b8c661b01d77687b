-- `layout::util::read_header` meets its contract.
use Rattle.layout.proofs.Fields.{header_short, header_array, header_object, header_scalar, header_none}
use Rattle.layout.proofs.util.read_header.Goals as goal

pub returns-then-s-lt-HEADER_SIZE : goal.returns-then-s-lt-HEADER_SIZE
returns-then-s-lt-HEADER_SIZE c = header_short _ c.if-s-lt-HEADER_SIZE.true

pub returns-then-sort : goal.returns-then-sort
returns-then-sort c = header_array _ c.if-s-lt-HEADER_SIZE.false _ _ _ c.read_u32-header.ensures c.header_type-sort.ensures c.header_len-count.ensures c.if-sort.true

pub returns-then-sort-2 : goal.returns-then-sort-2
returns-then-sort-2 c = header_object _ c.if-s-lt-HEADER_SIZE.false _ _ _ c.read_u32-header.ensures c.header_type-sort.ensures c.header_len-count.ensures c.if-sort.false c.if-sort-2.true

pub returns-then-sort-3 : goal.returns-then-sort-3
returns-then-sort-3 c =
    header_scalar _ c.if-s-lt-HEADER_SIZE.false _ _ _ c.read_u32-header.ensures c.header_type-sort.ensures c.header_len-count.ensures c.if-sort.false c.if-sort-2.false c.if-sort-3.true

pub returns : goal.returns
returns c = header_none _ c.if-s-lt-HEADER_SIZE.false _ _ _ c.read_u32-header.ensures c.header_type-sort.ensures c.header_len-count.ensures c.if-sort.false c.if-sort-2.false c.if-sort-3.false
