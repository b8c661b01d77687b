-- `runs::call::make_edit` meets its contract.
use Rattle.runs.specs.Call.{outcome}
use Rattle.runs.proofs.call.make_edit.Goals as goal

-- Each arm's callee promises the outcome of its kind.
pub returns-in-Get : goal.returns-in-Get
unfolding outcome
returns-in-Get c = rw c.in-Get.is c.get_by_keypath.ensures

pub returns-in-Delete : goal.returns-in-Delete
unfolding outcome
returns-in-Delete c = rw c.in-Delete.is c.delete_by_keypath.ensures

pub returns-in-Concat : goal.returns-in-Concat
unfolding outcome
returns-in-Concat c = rw c.in-Concat.is c.concat.ensures

pub returns-in-Strip : goal.returns-in-Strip
unfolding outcome
returns-in-Strip c = rw c.in-Strip.is c.strip_nulls.ensures

pub returns-in-Append : goal.returns-in-Append
unfolding outcome
returns-in-Append c = rw c.in-Append.is c.append.ensures

pub returns-in-Build : goal.returns-in-Build
unfolding outcome
returns-in-Build c = rw c.in-Build.is c.build_object.ensures
