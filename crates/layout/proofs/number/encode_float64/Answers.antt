-- `layout::number::encode_float64` meets its contract.
use denote.Floats.{passes}
use Rattle.layout.proofs.Patches.{ended_as}
use Rattle.layout.proofs.Numbers.{float_nan, not_nan, float_inf, float_neg_inf, float_some}
use Rattle.layout.proofs.number.encode_float64.Goals as goal

pub returns-then-v : goal.returns-then-v
returns-then-v c = ended_as _ _ _ (float_nan _ c.if-v.true) c.encode.ensures

pub float_to_bits-bits : goal.float_to_bits-bits
float_to_bits-bits c = not_nan _ c.if-v.false

pub returns-then-bits-eq-INFINITY : goal.returns-then-bits-eq-INFINITY
returns-then-bits-eq-INFINITY c = ended_as _ _ _ (float_inf _ (passes _ c.well_formed.0.1) c.if-bits-eq-INFINITY.true) c.encode-then-bits-eq-INFINITY.ensures

pub returns-then-bits : goal.returns-then-bits
returns-then-bits c = ended_as _ _ _ (float_neg_inf _ (passes _ c.well_formed.0.1) c.if-bits.true) c.encode-then-bits.ensures

pub returns : goal.returns
returns c = ended_as _ _ _ (float_some _ (not_nan _ c.if-v.false) c.if-bits-eq-INFINITY.false c.if-bits.false) c.encode-2.ensures
