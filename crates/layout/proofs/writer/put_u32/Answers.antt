-- `layout::writer::put_u32` meets its contract.
use Prim.Native.Nat.{◌-◌, ◌+◌}
use mathlib.Core.Path.{ap, ◌∙◌}
use native.Mathlib.Omega.{arith}
use Rattle.layout.specs.Patch.{patch}
use Rattle.layout.proofs.Fields.{inside_le}
use Rattle.layout.proofs.Patches.{patch_mid}
use Rattle.layout.proofs.Words.{field_bytes, length_be32}
use Rattle.layout.proofs.writer.put_u32.Goals as goal

pub overflow_add-at : goal.overflow_add-at
overflow_add-at c = let h = inside_le _ _ _ _ c.is_inside.ensures c.if-is_inside.true in omega (arith, h)

pub slice_bounds-copy_from_slice-end : goal.slice_bounds-copy_from_slice-end
slice_bounds-copy_from_slice-end c = inside_le _ _ _ _ c.is_inside.ensures c.if-is_inside.true

pub returns-then-is_inside : goal.returns-then-is_inside
returns-then-is_inside c =
    let h = inside_le _ _ _ _ c.is_inside.ensures c.if-is_inside.true in
    patch_mid c.args.out.now c.args.at (c.args.at + 4 - c.args.at) _ _
    (c.copy_from_slice.ensures.after ∙ c.to_be_bytes-bytes.ensures ∙ field_bytes c.args.v)
    (omega (arith, length_be32 c.args.v)) (omega (arith, h, length_be32 c.args.v))

pub returns-else-is_inside : goal.returns-else-is_inside
returns-else-is_inside c = c.put_each.ensures ∙ ap (patch c.args.out.now c.args.at) (c.to_be_bytes-bytes.ensures ∙ field_bytes c.args.v)
