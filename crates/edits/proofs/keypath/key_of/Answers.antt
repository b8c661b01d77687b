-- `edits::keypath::key_of` meets its contract.
use native.Mathlib.Omega.{arith}
use mathlib.Core.Path.{sym, ◌∙◌}
use Rattle.edits.proofs.Keys.{decoded_none, decoded_some, key_name, key_number, key_other}
use Rattle.edits.proofs.keypath.key_of.Goals as goal

pub returns-in_err-ok-in-2 : goal.returns-in_err-ok-in-2
returns-in_err-ok-in-2 c =
    key_number _ _ _ c.type_code.ensures c.in-2.is _ _ c.decode.ensures
    (c.from_residual.ensures ∙ decoded_none _ (sym c.ok.ensures.value ∙ c.in_err-ok-in-2.was))

pub returns-in-1 : goal.returns-in-1
returns-in-1 c = key_name _ _ _ c.type_code.ensures c.in-1.is

pub returns-in_ok-ok-in-2 : goal.returns-in_ok-ok-in-2
returns-in_ok-ok-in-2 c =
    key_number _ _ _ c.type_code.ensures c.in-2.is _ _ c.decode.ensures
    (c.number_key.ensures ∙ decoded_some _ _ (sym c.ok.ensures.value ∙ c.in_ok-ok-in-2.was))

pub returns-in_default : goal.returns-in_default
returns-in_default c = key_other _ _ _ c.type_code.ensures (λ e. omega (arith, e)) (λ e. omega (arith, e))
