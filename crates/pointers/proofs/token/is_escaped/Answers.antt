-- `pointers::token::is_escaped` meets its contract.
use Rattle.std.proofs.lemmas.List.{take_rest}
use Rattle.pointers.proofs.Texts.{escaped_bad, escaped_marked, escaped_other, escaped_end}
use Rattle.pointers.proofs.token.is_escaped.Goals.{else-byte-eq-TILDE-via-then-byte-eq-TILDE+else-not-is_marked, else-byte-eq-TILDE-via-else-byte-eq-TILDE}
use Rattle.pointers.proofs.token.is_escaped.Goals as goal

pub returns-then-not-is_marked : goal.returns-then-not-is_marked
returns-then-not-is_marked c =
    escaped_bad _ _ c.loop-left.invariant c.in-len1-up.len_at_least _ (take_rest c.loop-left.left.now 1) c.if-byte-eq-TILDE.true _ c.is_marked.ensures
    c.if-not-is_marked.true

pub loop-left-preserved : goal.loop-left-preserved
loop-left-preserved c =
    elim c.else-byte-eq-TILDE.branch [
      | else-byte-eq-TILDE-via-then-byte-eq-TILDE+else-not-is_marked w ↦
          escaped_marked _ _ c.loop-left.invariant c.in-len1-up.len_at_least _ (take_rest c.loop-left.left.now 1) _ w.is_marked.ensures w.if-not-is_marked.false
      | else-byte-eq-TILDE-via-else-byte-eq-TILDE w ↦
          escaped_other _ _ c.loop-left.invariant c.in-len1-up.len_at_least _ (take_rest c.loop-left.left.now 1) w.if-byte-eq-TILDE.false
    ]

pub returns : goal.returns
returns c = escaped_end _ _ c.loop-left.invariant c.in_default.len_below
