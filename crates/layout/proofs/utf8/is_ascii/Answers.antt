-- `layout::utf8::is_ascii` meets its contract: bytes are below 128 exactly where the greatest of them is.
use Prim.Native.Nat.{max}
use mathlib.Core.Path.{ap, ◌∙◌}
use borrow.Author.Rules.{rules}
use lib.Dec.{ltb}
use Rattle.std.proofs.lemmas.Iterator.{YieldsList-from_slice}
use Rattle.std.proofs.lemmas.Iterator.Consumers.{fold_from_yields_List}
use Rattle.layout.proofs.Texts.{greatest_test}
use Rattle.layout.proofs.utf8.is_ascii.Goals as goal

pub returns : goal.returns
returns c =
    ap (λ g. ltb g 0x80)
    (fold_from_yields_List _ max 0 c.fold.result c.fold.ensures.ran (YieldsList-from_slice c.args.s.now c.iter.ensures.rest) (λ a x b q k. search rules))
    ∙ greatest_test 0 c.args.s.now
