-- `edits::delete::put_run` meets its contract.
use mathlib.Core.Path.{refl}
use Rattle.edits.proofs.Manners.{two_stored}
use Rattle.edits.proofs.delete.put_run.Goals as goal

pub returns : goal.returns
returns c =
    record {
      is = refl;
      kept = two_stored _ _ _ _ _ _ _ _ _ c.slice.ensures c.slice-2.ensures
          c.copy.ensures c.copy-2.ensures;
    }
