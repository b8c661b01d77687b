-- `layout::writer::put_be` meets its contract.
use mathlib.Core.Path.{ap, ◌∙◌}
use Rattle.layout.specs.Patch.{patch}
use Rattle.layout.proofs.Patterns.{low_bytes}
use Rattle.layout.proofs.writer.put_be.Goals as goal

pub returns : goal.returns
returns c = c.put_each.ensures ∙ ap (patch c.args.out.now c.args.at) (low_bytes _ _ _ c.requires c.to_be_bytes.ensures)
