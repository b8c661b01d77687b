-- `layout::iterator::ArrayIterator::new` meets its contract.
use mathlib.Core.Path.{ap, ◌∙◌}
use Rattle.layout.proofs.Checks.{told_array}
use Rattle.layout.proofs.Walks.{opening_refused, opening_found, array_other, array_own}
use Rattle.layout.proofs.Checks.{readable_headed}
use Rattle.layout.proofs.HandedOn.{handed_on, one_value}
use Rattle.std.specs.Prelude.{Ok}
use Rattle.layout.proofs.iterator.ArrayIterator.new.Goals as goal

pub returns-in_err-check_record : goal.returns-in_err-check_record
returns-in_err-check_record c = handed_on _ c.from_residual.ensures ∙ opening_refused _ _ _ _ _ _ c.check_record.ensures c.in_err-check_record.was

pub returns-in_err-count : goal.returns-in_err-count
returns-in_err-count c = readable_headed _ c.check_record.ensures c.in_ok-check_record.was c.read_header.ensures c.in_err-count.was

pub returns-in_default : goal.returns-in_default
returns-in_default c =
    opening_found _ _ _ _ _ _ _ c.check_record.ensures c.in_ok-check_record.was c.read_header.ensures
    (array_other _ (λ n e. c.in_default.not-Array n (one_value c.in_ok-count.was e)))

pub new_with_len-requires : goal.new_with_len-requires
new_with_len-requires c = (told_array _ _ c.read_header.ensures _ (c.in_ok-count.was ∙ ap Ok c.in-Array.is)).1

pub returns : goal.returns
returns c =
    opening_found _ _ _ _ _ _ _ c.check_record.ensures c.in_ok-check_record.was c.read_header.ensures
    (array_own _ _ _ (c.in_ok-count.was ∙ ap Ok c.in-Array.is) c.new_with_len.ensures)
