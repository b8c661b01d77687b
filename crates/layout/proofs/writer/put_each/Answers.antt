-- `layout::writer::put_each` meets its contract. The loop keeps that the bytes so far are stored.
use mathlib.Core.Path.{refl, sym, ap, ◌∙◌}
use lib.Seq.{take_all}
use Rattle.layout.specs.Patch.{patch}
use Rattle.layout.proofs.Patches.{patch_next, patch_out}
use Rattle.layout.proofs.writer.put_each.Goals as goal

pub loop-i-init : goal.loop-i-init
unfolding patch
loop-i-init c = refl

pub loop-i-preserved : goal.loop-i-preserved
loop-i-preserved c = c.put.ensures ∙ patch_next _ _ c.args.bytes.now c.args.at c.loop-i.i c.loop-i-test.true c.loop-i.invariant

pub returns-after-loop-i : goal.returns-after-loop-i
returns-after-loop-i c = c.loop-i.invariant ∙ ap (patch c.args.out.now c.args.at) (take_all c.loop-i.i c.args.bytes.now c.loop-i-test.false)

pub returns-else-at-out : goal.returns-else-at-out
returns-else-at-out c = sym (patch_out _ _ _ c.if-at-out.false)
