-- `edits::keypath::number_key` meets its contract.
use mathlib.Core.Path.{sym, ◌∙◌}
use mir.Syntax.{w64}
use mir.Val.{to_z, of_z}
use mir.ValLaws.{to_z-of_z}
use borrow.Author.Rules.{rules}
use Rattle.edits.proofs.Keys.{no_index, an_index, signed_key, unsigned_key, no_key}
use Rattle.edits.proofs.keypath.number_key.Goals as goal

pub returns-in_err-index-in-Int64 : goal.returns-in_err-index-in-Int64
returns-in_err-index-in-Int64 c =
    signed_key _ _ (to_z w64 (of_z w64 c.in-Int64.v)) _ c.in-Int64.is (to_z-of_z w64 _ (search rules))
    (c.from_residual.ensures ∙ no_index _ _ c.try_from.ensures (sym c.ok.ensures.value ∙ c.in_err-index-in-Int64.was))

pub returns-in_err-index-in-UInt64 : goal.returns-in_err-index-in-UInt64
returns-in_err-index-in-UInt64 c =
    unsigned_key _ _ _ c.in-UInt64.is
    (c.from_residual-in_err-index-in-UInt64.ensures
    ∙ no_index _ _ c.try_from-in-UInt64.ensures (sym c.ok-in-UInt64.ensures.value ∙ c.in_err-index-in-UInt64.was))

pub returns-in_default : goal.returns-in_default
returns-in_default c = no_key _ c.in_default.not-Int64 c.in_default.not-UInt64

pub returns-in_ok-index-in-Int64 : goal.returns-in_ok-index-in-Int64
returns-in_ok-index-in-Int64 c =
    signed_key _ _ (to_z w64 (of_z w64 c.in-Int64.v)) _ c.in-Int64.is (to_z-of_z w64 _ (search rules))
    (an_index _ _ c.try_from.ensures _ (sym c.ok.ensures.value ∙ c.in_ok-index-in-Int64.was))

pub returns-in_ok-index-in-UInt64 : goal.returns-in_ok-index-in-UInt64
returns-in_ok-index-in-UInt64 c =
    unsigned_key _ _ _ c.in-UInt64.is
    (an_index _ _ c.try_from-in-UInt64.ensures _ (sym c.ok-in-UInt64.ensures.value ∙ c.in_ok-index-in-UInt64.was))
