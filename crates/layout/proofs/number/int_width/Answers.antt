-- `layout::number::int_width` meets its contract.
use mathlib.Core.Path.{◌∙◌}
use Rattle.layout.proofs.Patterns.{int_width_is, mag_low, mag_high}
use Rattle.layout.proofs.number.int_width.Goals as goal

pub returns-then-x : goal.returns-then-x
returns-then-x c = c.uint_width.ensures ∙ int_width_is _ _ (mag_low _ c.if-x.true)

pub returns : goal.returns
returns c = c.uint_width-2.ensures ∙ int_width_is _ _ (mag_high _ c.if-x.false)
