-- `edits::keypath::put_index` meets its contract.
use mathlib.Core.Path.{◌∙◌}
use mir.Syntax.{w32}
use mir.Val.{to_z, of_z}
use mir.ValLaws.{to_z-of_z}
use Rattle.edits.proofs.IndexTexts.{text_negative, text_positive}
use Rattle.edits.proofs.keypath.put_index.Goals as goal

pub returns-then-i-lt0 : goal.returns-then-i-lt0
returns-then-i-lt0 c =
    let all = text_negative (to_z w32 (of_z w32 c.args.i)) c.args.i _ _ _ _ (to_z-of_z w32 _ c.ranges.i) _ c.if-i-lt0.true
    (c.from-digits.ensures ∙ c.unsigned_abs.ensures.value) c.put.ensures (c.put_decimal.ensures.is, c.put_decimal.ensures.kept) in
    record { is = all.0; kept = all.1 }

pub returns : goal.returns
returns c =
    let all = text_positive (to_z w32 (of_z w32 c.args.i)) c.args.i _ _ _ _ (to_z-of_z w32 _ c.ranges.i) c.if-i-lt0.false
    (c.from-digits.ensures ∙ c.unsigned_abs.ensures.value) (c.put_decimal-2.ensures.is, c.put_decimal-2.ensures.kept) in
    record { is = all.0; kept = all.1 }
