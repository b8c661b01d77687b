-- `edits::path::find_path` meets its contract.
use Rattle.layout.proofs.Words.{slice_octets}
use Rattle.edits.specs.Find.{step_into}
use Rattle.edits.proofs.Descents.{going_start, going_stop, going_on, going_end}
use Rattle.edits.proofs.Lookups.{steps_left, left_first, left_none, left_all}
use Rattle.edits.proofs.path.find_path.Goals as goal

pub loop-part-init : goal.loop-part-init
loop-part-init c = (
  tt,
  tt,
  rw (c.into_iter-part-iterator.ensures.into_iter_gives, ← left_all _ c.args.path.now c.args.n c.of-part-items.ensures)
      (going_start _ _ _ (slice_octets c.args.s.now c.type_inv.s) c.requires.0 c.requires.1 c.encoded.ensures),
)

pub step_from-requires : goal.step_from-requires
step_from-requires c = (c.loop-part.invariant.2.tree, c.loop-part.invariant.2.held)

pub returns-in_err-item : goal.returns-in_err-item
returns-in_err-item c =
    rw c.from_residual.ensures
    (going_stop c.loop-part.invariant.2 (step_into _) (steps_left _) (left_first _ _ _ c.in-Some.ensures.steps) _ c.step_from.ensures
    c.in_err-item.was)

pub loop-part-preserved : goal.loop-part-preserved
loop-part-preserved c = (
  tt,
  tt,
  going_on c.loop-part.invariant.2 (step_into _) (steps_left _) (left_first _ _ _ c.in-Some.ensures.steps) _ c.step_from.ensures _
      c.in_ok-item.was,
)

pub returns : goal.returns
returns c = going_end c.loop-part.invariant.2 (left_none _ c.in-None.ensures.steps.0)
