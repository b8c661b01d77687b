-- `layout::utf8::is_utf8` meets its contract.
use mathlib.Core.Path.{◌∙◌}
use Rattle.layout.proofs.Texts.{ascii_text, number_told}
use Rattle.layout.proofs.utf8.is_utf8.Goals as goal

pub returns-then-is_ascii : goal.returns-then-is_ascii
returns-then-is_ascii c = ascii_text _ _ c.is_ascii.ensures c.if-is_ascii.true

pub returns : goal.returns
returns c = c.is_some.ensures ∙ number_told _ _ c.count_code_points.ensures
