-- `layout::utf8::check_text` meets its contract.
use mathlib.Core.Path.{ap, ◌∙◌}
use Rattle.std.specs.Prelude.{ok_or}
use Rattle.layout.specs.declared.refusal.Refusal.TheVariants.{Text}
use Rattle.layout.proofs.Texts.{ascii_passed, number_checked}
use Rattle.layout.proofs.utf8.check_text.Goals as goal

pub returns-then-is_ascii : goal.returns-then-is_ascii
returns-then-is_ascii c = ascii_passed _ _ c.is_ascii.ensures c.if-is_ascii.true

pub returns : goal.returns
returns c = c.ok_or.ensures.value ∙ ap (λ o. ok_or o Text) c.count_code_points.ensures ∙ number_checked _
