-- `pointers::pointer::find_pointer` meets its contract.
use Prim.Native.Nat.{◌+◌, ◌<◌}
use native.Mathlib.Omega.{arith}
use mathlib.Core.Path.{◌≡◌, ◌∙◌}
use lib.Dec.{eqb}
use lib.ListN.{length, drop, get_or}
use borrow.Author.Tests.{tests}
use Rattle.std.proofs.Common.{rules}
use Rattle.std.proofs.lemmas.List.{take_rest, length_push}
use Rattle.std.proofs.lemmas.Iterator.Consumers.{YieldsList-at, YieldsList-turn, YieldsList-end}
use Rattle.std.proofs.lemmas.Iterator.Splits.{YieldsList-from_slice_split}
use Rattle.layout.proofs.Words.{slice_octets}
use Rattle.edits.proofs.Descents.{going_start, going_stop, going_on, going_end}
use Rattle.pointers.specs.Pointer.{tokens, token_into, point}
use Rattle.pointers.proofs.Steps.{parts, tokens_left, left_all, left_first, left_end, left_none}
use Rattle.pointers.proofs.pointer.find_pointer.Goals.{After-next, In-Some}
use Rattle.pointers.proofs.pointer.find_pointer.Goals as goal

pub returns-in_default : goal.returns-in_default
returns-in_default c =
    going_end (going_start _ (point (tokens c.args.pointer.now)) _ (slice_octets c.args.s.now c.type_inv.s) c.requires.0 c.requires.1 c.encoded.ensures)
    (left_none _ (omega arith))

pub loop-token-init : goal.loop-token-init
loop-token-init c =
    let start = going_start _ (point (tokens c.args.pointer.now)) _ (slice_octets c.args.s.now c.type_inv.s) c.requires.0 c.requires.1 c.encoded.ensures in
    record { tree = start.tree; held = start.held; goes_on = start.goes_on ∙ left_all _ c.in-len1-up.len_at_least start.tree }

-- The part that this turn has is the next one between slashes.
turn : (c : In-Some) → (length c.loop-token.yielded < length (parts c.args.pointer.now))
    × (c.in-Some.token.now ≡ get_or (parts c.args.pointer.now) (length c.loop-token.yielded) c.in-Some.token.now)
turn c =
    YieldsList-turn
    (YieldsList-at c.into_iter-token-iterator.ensures.into_iter_gives
    (YieldsList-from_slice_split _ (λ x. eqb x 0x2F) (drop 1 c.args.pointer.now) (c.split-token-items.ensures.rest ∙ take_rest c.args.pointer.now 1)
    c.split-token-items.ensures.done c.split-token-items.ensures.closure (λ x b q k. search (rules, tests))))
    c.loop-token.yielded _ c.loop-token.yielded_by _ _ c.in-Some.token c.in-Some.is c.next.ensures.steps

pub step_from-requires : goal.step_from-requires
step_from-requires c = (c.loop-token.invariant.tree, c.loop-token.invariant.held)

pub returns-in_err-item : goal.returns-in_err-item
returns-in_err-item c =
    let t = turn (goal.at.returns-in_err-item c).In-Some in
    rw c.from_residual.ensures
    (going_stop c.loop-token.invariant (token_into _) (tokens_left c.args.pointer.now (length c.loop-token.yielded + 1))
    (left_first c.args.pointer.now _ _ t.0 t.1) _ c.step_from.ensures c.in_err-item.was)

pub loop-token-preserved : goal.loop-token-preserved
loop-token-preserved c =
    let t = turn (goal.at.loop-token-preserved c).In-Some in
    rw (length_push c.loop-token.yielded c.in-Some.token)
    (going_on c.loop-token.invariant (token_into _) (tokens_left c.args.pointer.now (length c.loop-token.yielded + 1))
    (left_first c.args.pointer.now _ _ t.0 t.1) _ c.step_from.ensures _ c.in_ok-item.was)

pub returns : goal.returns
returns c =
    let e = YieldsList-end
    (YieldsList-at c.into_iter-token-iterator.ensures.into_iter_gives
    (YieldsList-from_slice_split _ (λ x. eqb x 0x2F) (drop 1 c.args.pointer.now) (c.split-token-items.ensures.rest ∙ take_rest c.args.pointer.now 1)
    c.split-token-items.ensures.done c.split-token-items.ensures.closure (λ x b q k. search (rules, tests))))
    c.loop-token.yielded _ c.loop-token.yielded_by _ _ c.in-None.is c.next.ensures.steps in
    going_end c.loop-token.invariant (left_end c.args.pointer.now _ (omega (arith, e.1)))
