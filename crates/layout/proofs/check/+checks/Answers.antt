-- `layout::check::check_body`, `check_item`, `check_items`, `check_nested` and `check_parts` meet their contracts.
-- They call each other; the number that falls is five times the allowance, and a place in the turn. The loop over the items keeps
-- that the answer for all of them is the answer for the rest, and that its place is the table's.
use mathlib.Core.Path.{sym, ◌∙◌, ap}
use native.Mathlib.Omega.{arith}
use borrow.Author.Rules.{rules}
use Rattle.layout.specs.Read.{nested}
use Rattle.layout.proofs.Fields.{part_all}
use Rattle.layout.proofs.Checks.{item_top, item_text, item_no_text, item_number, item_no_number, item_container, item_extension, item_unused, item_empty, item_not_empty}
use Rattle.layout.proofs.Checks.{body_short, told_array, told_object, nested_refused, nested_scalar, deep_array, deep_object, nested_array, nested_object}
use Rattle.layout.proofs.Passes.{pass_long, pass_stop, pass_more, pass_end, pass_short, names_within, parts_behind, parts_all, body_no_names, body_passed, body_refused}
use Rattle.layout.proofs.Carries.{carried_on}
use Rattle.layout.proofs.HandedOn.{handed_on}
use Rattle.std.specs.Prelude.{Ok}
use Rattle.layout.proofs.check.+checks.Goals as goal

pub check_body-returns-then-s-start : goal.check_body-returns-then-s-start
check_body-returns-then-s-start t c = body_short (nested c.args.allowance) c.args.s.now _ _ c.requires.0 c.if-s-start.true

pub check_body-returns-in_default : goal.check_body-returns-in_default
check_body-returns-in_default t c =
    body_no_names _ _ _ _ c.requires.0 c.if-s-start.false c.args.table.within.1 _ c.names_end.ensures
    c.in_default.is

pub check_body-returns-in-Err : goal.check_body-returns-in-Err
check_body-returns-in-Err t c =
    body_refused _ _ _ _ c.requires.0 c.if-s-start.false c.args.table.within.1 _ c.check_parts.ensures _
    c.in-Err.is _ (part_all _) _ c.refuse_payload.ensures

pub check_body-returns : goal.check_body-returns
check_body-returns t c =
    body_passed _ _ _ _ c.requires.0 c.if-s-start.false c.args.table.within.1 _ c.check_parts.ensures _
    (sym c.names_end.ensures ∙ c.in-Some.is) c.in_default-check_parts.is

pub check_item-returns-then-entry-ne0 : goal.check_item-returns-then-entry-ne0
check_item-returns-then-entry-ne0 t c = item_top _ c.args.entry _ (λ z. omega arith)

pub check_item-returns-then-is_utf8 : goal.check_item-returns-then-is_utf8
check_item-returns-then-is_utf8 t c =
    item_text _ _ _ c.if-entry-ne0.false _ c.type_code.ensures _ c.in-1.is c.is_utf8.ensures
    c.if-is_utf8.true

pub check_item-returns-then-is_number : goal.check_item-returns-then-is_number
check_item-returns-then-is_number t c =
    item_number _ _ _ c.if-entry-ne0.false _ c.type_code.ensures _ c.in-2.is c.is_number.ensures
    c.if-is_number.true

pub check_item-returns-then-payload_len-eq0 : goal.check_item-returns-then-payload_len-eq0
check_item-returns-then-payload_len-eq0 t c =
    item_empty _ _ _ c.if-entry-ne0.false _ c.type_code.ensures c.in_default.in_default-own.rest.0.0.0.0.1
    c.in_default.in_default-own.rest.0.0.0.1 c.in_default.in_default-own.rest.0.0.1 c.in_default.in_default-own.rest.0.1 c.in_default.in_default-own.rest.1 _
    c.payload_len.ensures c.if-payload_len-eq0.true

pub check_item-returns-else-is_utf8 : goal.check_item-returns-else-is_utf8
check_item-returns-else-is_utf8 t c =
    item_no_text _ _ _ c.if-entry-ne0.false _ c.type_code.ensures _ c.in-1.is c.is_utf8.ensures
    c.if-is_utf8.false

pub check_item-returns-else-is_number : goal.check_item-returns-else-is_number
check_item-returns-else-is_number t c =
    item_no_number _ _ _ c.if-entry-ne0.false _ c.type_code.ensures _ c.in-2.is c.is_number.ensures
    c.if-is_number.false

pub check_item-returns-in-5 : goal.check_item-returns-in-5
check_item-returns-in-5 t c = item_container _ _ _ c.if-entry-ne0.false _ c.type_code.ensures c.in-5.is _ c.check_nested.ensures

pub check_item-returns-in-6 : goal.check_item-returns-in-6
check_item-returns-in-6 t c = item_extension _ _ _ c.if-entry-ne0.false _ c.type_code.ensures c.in-6.is

pub check_item-returns-in-7 : goal.check_item-returns-in-7
check_item-returns-in-7 t c = item_unused _ _ _ c.if-entry-ne0.false _ c.type_code.ensures c.in-7.is

pub check_item-returns-else-payload_len-eq0 : goal.check_item-returns-else-payload_len-eq0
check_item-returns-else-payload_len-eq0 t c =
    item_not_empty _ _ _ c.if-entry-ne0.false _ c.type_code.ensures c.in_default.in_default-own.rest.0.0.0.0.1
    c.in_default.in_default-own.rest.0.0.0.1 c.in_default.in_default-own.rest.0.0.1 c.in_default.in_default-own.rest.0.1 c.in_default.in_default-own.rest.1 _
    c.payload_len.ensures c.if-payload_len-eq0.false

pub check_items-returns-then-s-end : goal.check_items-returns-then-s-end
check_items-returns-then-s-end t c =
    pass_long _ _ _ c.loop-i.i c.loop-i.place _ c.loop-i.invariant.1 c.loop-i-test.true _ _
    c.jentry_at-entry.ensures c.payload_len.ensures c.if-s-end.true

pub check_items-returns-in_err-check_item : goal.check_items-returns-in_err-check_item
check_items-returns-in_err-check_item t c =
    handed_on _ c.from_residual.ensures
    ∙ pass_stop _ _ _ c.loop-i.i c.loop-i.place _ c.loop-i.invariant.1 c.loop-i-test.true _ _
    c.jentry_at-entry.ensures c.payload_len.ensures c.if-s-end.false _ c.check_item.ensures _
    c.in_err-check_item.was

pub check_items-loop-i-preserved : goal.check_items-loop-i-preserved
check_items-loop-i-preserved t c = (
  search rules,
  pass_more _ _ _ c.loop-i.i c.loop-i.place _ c.loop-i.invariant.1 c.loop-i-test.true _ _
      c.jentry_at-entry.ensures c.payload_len.ensures c.if-s-end.false _ c.check_item.ensures
      c.in_ok-check_item.was,
  carried_on _ _ _ _ _ _ _ c.loop-i.invariant.2 c.jentry_at-entry.ensures c.payload_len.ensures,
)

pub check_items-returns-then-place-s : goal.check_items-returns-then-place-s
check_items-returns-then-place-s t c = pass_end _ _ _ c.loop-i.i c.loop-i.place _ c.loop-i.invariant.1 c.loop-i-test.false c.if-place-s.true

pub check_items-returns : goal.check_items-returns
check_items-returns t c = pass_short _ _ _ c.loop-i.i c.loop-i.place _ c.loop-i.invariant.1 c.loop-i-test.false c.if-place-s.false

pub check_nested-returns-then-allowance-eq0 : goal.check_nested-returns-then-allowance-eq0
check_nested-returns-then-allowance-eq0 t c = deep_array _ _ _ c.read_header.ensures _ (c.in_ok-read_header.was ∙ ap Ok c.in-Array.is) c.if-allowance-eq0.true

pub check_nested-invariant_of-table : goal.check_nested-invariant_of-table
check_nested-invariant_of-table t c =
    let h = told_array _ _ c.read_header.ensures _ (c.in_ok-read_header.was ∙ ap Ok c.in-Array.is) in
    record { within = omega arith }

pub check_nested-check_body-requires : goal.check_nested-check_body-requires
check_nested-check_body-requires t c =
    let h = told_array _ _ c.read_header.ensures _ (c.in_ok-read_header.was ∙ ap Ok c.in-Array.is) in
    rw (part_all c.args.s.now) (omega arith)

pub check_nested-returns-then-allowance-eq0-2 : goal.check_nested-returns-then-allowance-eq0-2
check_nested-returns-then-allowance-eq0-2 t c = deep_object _ _ _ c.read_header.ensures _ (c.in_ok-read_header.was ∙ ap Ok c.in-Object.is) c.if-allowance-eq0-2.true

pub check_nested-overflow_add-table : goal.check_nested-overflow_add-table
check_nested-overflow_add-table t c =
    let h = told_object _ _ c.read_header.ensures _ (c.in_ok-read_header.was ∙ ap Ok c.in-Object.is) in
    omega arith

pub check_nested-invariant_of-table-in-Object : goal.check_nested-invariant_of-table-in-Object
check_nested-invariant_of-table-in-Object t c =
    let h = told_object _ _ c.read_header.ensures _ (c.in_ok-read_header.was ∙ ap Ok c.in-Object.is) in
    record { within = omega arith }

pub check_nested-check_body-requires-in-Object : goal.check_nested-check_body-requires-in-Object
check_nested-check_body-requires-in-Object t c =
    let h = told_object _ _ c.read_header.ensures _ (c.in_ok-read_header.was ∙ ap Ok c.in-Object.is) in
    rw (part_all c.args.s.now) (omega arith)

pub check_nested-returns-in_err-read_header : goal.check_nested-returns-in_err-read_header
check_nested-returns-in_err-read_header t c = handed_on _ c.from_residual.ensures ∙ nested_refused _ _ _ c.read_header.ensures _ c.in_err-read_header.was

pub check_nested-returns-in-Scalar : goal.check_nested-returns-in-Scalar
check_nested-returns-in-Scalar t c = nested_scalar _ _ _ c.read_header.ensures _ (c.in_ok-read_header.was ∙ ap Ok c.in-Scalar.is)

pub check_nested-returns-else-allowance-eq0 : goal.check_nested-returns-else-allowance-eq0
check_nested-returns-else-allowance-eq0 t c =
    nested_array _ _ _ c.read_header.ensures _ c.if-allowance-eq0.false _ _ (part_all _) (c.in_ok-read_header.was ∙ ap Ok c.in-Array.is)
    c.check_body.ensures

pub check_nested-returns-else-allowance-eq0-2 : goal.check_nested-returns-else-allowance-eq0-2
check_nested-returns-else-allowance-eq0-2 t c =
    nested_object _ _ _ c.read_header.ensures _ c.if-allowance-eq0-2.false _ _ (part_all _) (c.in_ok-read_header.was ∙ ap Ok c.in-Object.is)
    c.check_body-in-Object.ensures

pub check_parts-slice_bounds-is_ascii-count : goal.check_parts-slice_bounds-is_ascii-count
check_parts-slice_bounds-is_ascii-count t c = omega (arith, names_within _ _ _ _ c.requires.1)

pub check_parts-slice_bounds-is_ascii-start : goal.check_parts-slice_bounds-is_ascii-start
check_parts-slice_bounds-is_ascii-start t c = omega (arith, names_within _ _ _ _ c.requires.1)

pub check_parts-slice_bounds-is_ascii-end : goal.check_parts-slice_bounds-is_ascii-end
check_parts-slice_bounds-is_ascii-end t c = omega (arith, names_within _ _ _ _ c.requires.1)

pub check_parts-check_items-requires : goal.check_parts-check_items-requires
check_parts-check_items-requires t c = rw (part_all c.args.s.now) (omega (arith, names_within _ _ _ _ c.requires.1))

pub check_parts-returns-then-is_ascii : goal.check_parts-returns-then-is_ascii
check_parts-returns-then-is_ascii t c =
    parts_behind _ _ _ _ _ _ (part_all _) _ _ c.args.table.within.1 c.requires.1 _ c.is_ascii.ensures
    c.if-is_ascii.true c.check_items.ensures

pub check_parts-check_items-requires-2 : goal.check_parts-check_items-requires-2
check_parts-check_items-requires-2 t c = rw (part_all c.args.s.now) (omega (arith, names_within _ _ _ _ c.requires.1))

pub check_parts-returns : goal.check_parts-returns
check_parts-returns t c = parts_all _ _ _ _ _ _ (part_all _) c.check_items-2.ensures
