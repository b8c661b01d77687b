-- `layout::every::is_named` meets its contract.
use Rattle.layout.proofs.Questions.{no_characters, so_many_characters}
use Rattle.layout.proofs.every.is_named.Goals as goal

pub returns-in_default : goal.returns-in_default
returns-in_default c = no_characters _ _ _ c.check_text.ensures _ c.in_default.is

pub returns : goal.returns
returns c = so_many_characters _ _ _ c.check_text.ensures _ c.in-Ok.is
