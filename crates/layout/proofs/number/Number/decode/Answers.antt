-- `layout::number::Number::decode` meets its contract.
use mathlib.Core.Path.{sym, ◌∙◌}
use borrow.Author.Tests.{not-true, not-false}
use Rattle.layout.proofs.Numbers.{whole, not_empty, listed_whole, decoded_whole, decoded_not}
use Rattle.std.proofs.Common.{ap, not}
use Rattle.layout.proofs.number.Number.decode.Goals as goal

pub returns-then-not-is_number : goal.returns-then-not-is_number
returns-then-not-is_number c = decoded_not _ (sym c.is_number.ensures ∙ not-true _ (ap not c.if-not-is_number.true))

pub slice_bounds-decode_listed-count : goal.slice_bounds-decode_listed-count
slice_bounds-decode_listed-count c = not_empty _ (sym c.is_number.ensures ∙ not-false _ (ap not c.if-not-is_number.false))

pub slice_bounds-decode_listed-start : goal.slice_bounds-decode_listed-start
slice_bounds-decode_listed-start c = not_empty _ (sym c.is_number.ensures ∙ not-false _ (ap not c.if-not-is_number.false))

pub decode_listed-requires : goal.decode_listed-requires
decode_listed-requires c = let h = (sym c.is_number.ensures ∙ not-false _ (ap not c.if-not-is_number.false)) in listed_whole _ _ _ h (whole _ _ h c.byte.ensures)

pub returns : goal.returns
returns c = let h = (sym c.is_number.ensures ∙ not-false _ (ap not c.if-not-is_number.false)) in decoded_whole _ _ _ _ h (whole _ _ h c.byte.ensures) c.decode_listed.ensures
