-- `pointers::token::is_named` meets its contract.
use mathlib.Core.Path.{refl, sym, ap, ◌∙◌}
use Rattle.std.proofs.lemmas.Iterator.{YieldsList-from_slice}
use Rattle.std.proofs.lemmas.Iterator.Consumers.{YieldsList-from_first, YieldsList-from_copied, YieldsList-at}
use Rattle.layout.specs.Bytes.{Bytes}
use Rattle.layout.specs.Order.{same_bytes}
use Rattle.pointers.specs.Token.{unescape, undone_bytes}
use Rattle.pointers.proofs.Tokens.{undo_once}
use Rattle.pointers.proofs.Names.{eq_bytes}
use Rattle.pointers.proofs.token.is_named.Goals as goal

pub returns : goal.returns
returns c =
    eq_bytes (YieldsList-from_first (λ x. x) undone_bytes (unescape c.args.token.now) refl)
    (YieldsList-from_copied (YieldsList-at c.copied.ensures.source (YieldsList-from_slice c.args.name.now c.iter.ensures.rest)))
    c.eq.result c.eq.ensures.ran
    ∙ ap (λ (b : Bytes). same_bytes b c.args.name.now) (sym (undo_once c.args.token.now))
