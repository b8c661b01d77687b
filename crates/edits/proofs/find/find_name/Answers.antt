-- `edits::find::find_name` meets its contract.
use mathlib.Core.Path.{refl, ◌∙◌}
use Rattle.std.proofs.lemmas.Fn.{says_at}
use Rattle.edits.proofs.Parts.{found, found_here, found_behind, found_none}
use Rattle.edits.proofs.find.find_name.Goals as goal

pub loop-part-init : goal.loop-part-init
loop-part-init g c = (
  tt,
  tt,
  λ meant tells. rw (c.into_iter-part-iterator.ensures.into_iter_gives, c.names-part-items.ensures) (found meant c.args.s.now c.args.n),
)

pub returns-then-is_meant : goal.returns-then-is_meant
returns-then-is_meant g c meant tells =
    found_here meant _ _ _ _ c.in-Some.ensures.steps (tells _ _ (says_at g.F.Fn c.is_meant.ensures refl)) c.if-is_meant.true
    ∙ c.loop-part.invariant.2 meant tells

pub loop-part-preserved : goal.loop-part-preserved
loop-part-preserved g c = (
  tt,
  tt,
  λ meant tells.
      found_behind meant _ _ _ _ c.in-Some.ensures.steps (tells _ _ (says_at g.F.Fn c.is_meant.ensures refl)) c.if-is_meant.false
      ∙ c.loop-part.invariant.2 meant tells,
)

pub returns : goal.returns
returns g c meant tells = found_none meant _ c.in-None.ensures.steps.0 ∙ c.loop-part.invariant.2 meant tells
