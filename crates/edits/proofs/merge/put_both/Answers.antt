-- `edits::merge::put_both` meets its contract.
use mathlib.Core.Path.{sym, ◌∙◌}
use Rattle.layout.proofs.Places.{and_both}
use Rattle.edits.proofs.merge.put_both.Goals as goal

pub put_rising-requires : goal.put_rising-requires
put_rising-requires c =
    let w = and_both _ _ (sym c.requires.1 ∙ c.if-are_rising.true) in
    (c.requires.0, w.0, w.1, c.requires.2, c.requires.3, c.requires.4, c.requires.5)
