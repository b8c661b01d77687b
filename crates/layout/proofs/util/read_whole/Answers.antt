-- `layout::util::read_whole` meets its contract.
use mathlib.Core.Path.{refl}
use Rattle.layout.proofs.Fields.{word_from}
use Rattle.layout.proofs.util.read_whole.Goals as goal

pub returns : goal.returns
returns c = word_from _ _ _ _ _ _ _ c.from_be_bytes.ensures refl refl refl refl
