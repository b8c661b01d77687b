-- `layout::number::decode_decimal` meets its contract.
use mir.Syntax.{w64}
use mir.ValLaws.{to_z-of_z}
use Rattle.layout.proofs.Numbers.{decimal_is, wide_is}
use Rattle.layout.proofs.number.decode_decimal.Goals as goal

pub returns-then-rest-eq9 : goal.returns-then-rest-eq9
returns-then-rest-eq9 c =
    decimal_is _ _ _ _ c.if-rest-eq9.true (to_z-of_z w64 _ (record { sfits = c.from_twos_complement.type_inv }))
    c.from_twos_complement.ensures c.read_be.ensures.0

pub returns : goal.returns
returns c = wide_is _ c.if-rest-eq9.false
