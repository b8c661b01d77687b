-- `console::show::show_container`, `console::show::show_item`, `console::show::show_items` and `console::show::show_members` meet
-- their contracts.
use mathlib.Core.Path.{ap, ◌∙◌}
use Rattle.layout.proofs.Checks.{told_object}
use Rattle.std.specs.Prelude.{Ok}
use Rattle.console.proofs.show.+outlines.Goals as goal

pub show_container-say_object-requires : goal.show_container-say_object-requires
show_container-say_object-requires g t c = (told_object _ _ c.read_header.ensures _ (c.in-Ok-Object.is ∙ ap Ok c.in-Ok-Object.field-0-is)).1
