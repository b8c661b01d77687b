-- `layout::number::encode_decimal64` meets its contract.
use Rattle.layout.proofs.Numbers.{decimal_short, decimal_full}
use Rattle.layout.proofs.number.encode_decimal64.Goals as goal

pub returns-then-out-lt-DECIMAL64_SIZE : goal.returns-then-out-lt-DECIMAL64_SIZE
returns-then-out-lt-DECIMAL64_SIZE c = decimal_short _ _ _ c.if-out-lt-DECIMAL64_SIZE.true

pub returns : goal.returns
returns c = decimal_full _ _ _ _ _ _ _ c.if-out-lt-DECIMAL64_SIZE.false c.ranges.value c.put.ensures c.cast_unsigned.ensures c.put_be.ensures c.put-2.ensures
