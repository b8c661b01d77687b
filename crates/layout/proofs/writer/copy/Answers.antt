-- `layout::writer::copy` meets its contract. The loop keeps that the bytes so far are stored.
use mathlib.Core.Path.{refl, sym, ◌∙◌}
use native.Mathlib.Omega.{arith}
use Rattle.layout.specs.Patch.{patch}
use Rattle.layout.proofs.Patches.{patch_next, patch_out, patch_clip}
use Rattle.layout.proofs.writer.copy.Goals as goal

pub loop-i-init : goal.loop-i-init
unfolding patch
loop-i-init c = refl

pub loop-i-preserved : goal.loop-i-preserved
loop-i-preserved c = patch_next _ _ c.args.src.now c.args.at c.loop-i.i (omega arith) c.loop-i.invariant

pub returns-after-loop-i : goal.returns-after-loop-i
returns-after-loop-i c = c.loop-i.invariant ∙ patch_clip c.args.out.now c.args.at c.args.src.now c.loop-i.i (omega arith)

pub returns-else-at-out : goal.returns-else-at-out
returns-else-at-out c = sym (patch_out _ _ _ c.if-at-out.false)
