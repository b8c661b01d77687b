-- `pointers::token::token_place` meets its contract.
use mathlib.Core.Path.{sym, ◌∙◌}
use Rattle.pointers.proofs.Indexes.{place_empty, place_padded, place_start, place_over, place_other, place_more, place_here, place_past}
use Rattle.pointers.proofs.token.token_place.Goals.{then-n-k-via-then-n-k, then-n-k-via-else-n-k+then-not-is_ascii_digit}
use borrow.Author.Tests.{eqb-true, eqb-false}
use Rattle.pointers.proofs.token.token_place.Goals.{then-is_empty-via-then-is_empty, then-is_empty-via-else-is_empty+then-is_padded}
use Rattle.pointers.proofs.token.token_place.Goals as goal

pub returns-then-is_empty : goal.returns-then-is_empty
returns-then-is_empty c =
    elim c.then-is_empty.branch [
      | then-is_empty-via-then-is_empty w ↦ place_empty c.args.token.now c.args.n (eqb-true _ 0 (sym c.is_empty.ensures ∙ w.if-is_empty.true))
      | then-is_empty-via-else-is_empty+then-is_padded w ↦ place_padded c.args.token.now c.args.n _ w.is_padded.ensures w.if-is_padded.true
    ]

pub loop-digit-init : goal.loop-digit-init
loop-digit-init c =
    place_start c.args.token.now c.args.n _ c.is_padded.ensures (eqb-false _ 0 (sym c.is_empty.ensures ∙ c.if-is_empty.false)) c.if-is_padded.false

pub returns-then-n-k : goal.returns-then-n-k
returns-then-n-k c =
    elim c.then-n-k.branch [
      | then-n-k-via-then-n-k w ↦ place_over _ _ c.loop-digit.k c.loop-digit.digit-index c.loop-digit.invariant c.loop-digit-test.true w.if-n-k.true
      | then-n-k-via-else-n-k+then-not-is_ascii_digit w ↦
          place_other _ _ c.loop-digit.k c.loop-digit.digit-index c.loop-digit.invariant c.loop-digit-test.true
          (sym w.is_ascii_digit.ensures.value ∙ w.if-not-is_ascii_digit.true)
    ]

pub loop-digit-preserved : goal.loop-digit-preserved
loop-digit-preserved c = place_more _ _ c.loop-digit.k c.loop-digit.digit-index c.loop-digit.invariant c.loop-digit-test.true (sym c.is_ascii_digit.ensures.value ∙ c.if-not-is_ascii_digit.false)

pub returns-then-k-n : goal.returns-then-k-n
returns-then-k-n c = place_here _ _ c.loop-digit.k c.loop-digit.digit-index c.loop-digit.invariant c.loop-digit-test.false c.if-k-n.true

pub returns : goal.returns
returns c = place_past _ _ c.loop-digit.k c.loop-digit.digit-index c.loop-digit.invariant c.loop-digit-test.false c.if-k-n.false
