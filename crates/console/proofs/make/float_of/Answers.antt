-- `console::make::float_of` meets its contract: below infinity's bits, but for the sign, there is no NaN.
use Rattle.console.proofs.Numbers.{no_nan}
use Rattle.console.proofs.make.float_of.Goals as goal

pub float_from_bits-result : goal.float_from_bits-result
float_from_bits-result c = no_nan _ c.if-bits-gt-INFINITY.false
