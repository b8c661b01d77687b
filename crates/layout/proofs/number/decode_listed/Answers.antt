-- `layout::number::decode_listed` meets its contract.
use mathlib.Core.Logic.{inl, inr}
use native.Mathlib.Omega.{arith}
use mir.Syntax.{w64}
use mir.ValLaws.{to_z-of_z}
use Rattle.layout.proofs.Patterns.{width_le}
use Rattle.layout.proofs.Numbers.{integer_within, float_within, zero_is, nan_is, infinity_is, neg_infinity_is, int_is, uint_is, float_is, decimal_last}
use Rattle.layout.proofs.number.decode_listed.Goals as goal

pub returns-in-0 : goal.returns-in-0
returns-in-0 c = zero_is _ _ c.in-0.is

pub returns-in-16 : goal.returns-in-16
returns-in-16 c = nan_is _ _ c.in-16.is

pub returns-in-32 : goal.returns-in-32
returns-in-32 c = infinity_is _ _ c.in-32.is

pub returns-in-48 : goal.returns-in-48
returns-in-48 c = neg_infinity_is _ _ c.in-48.is

pub read_be-requires : goal.read_be-requires
read_be-requires c = width_le _ (integer_within _ _ (inl c.in-64.is) c.requires)

pub from_twos_complement-requires : goal.from_twos_complement-requires
from_twos_complement-requires c = (integer_within _ _ (inl c.in-64.is) c.requires, c.read_be.ensures.1)

pub returns-in-64 : goal.returns-in-64
returns-in-64 c = int_is _ _ _ _ _ c.in-64.is (to_z-of_z w64 _ (record { sfits = c.from_twos_complement.type_inv })) c.from_twos_complement.ensures c.read_be.ensures.0

pub read_be-requires-in-80 : goal.read_be-requires-in-80
read_be-requires-in-80 c = width_le _ (integer_within _ _ (inr c.in-80.is) c.requires)

pub returns-in-80 : goal.returns-in-80
returns-in-80 c = uint_is _ _ _ c.in-80.is c.read_be-in-80.ensures.0

pub read_be-requires-in-96 : goal.read_be-requires-in-96
read_be-requires-in-96 c = let l = float_within _ _ c.in-96.is c.requires in omega arith

pub returns-in-96 : goal.returns-in-96
returns-in-96 c = float_is _ _ _ c.in-96.is c.read_be-in-96.ensures.0

pub returns-in_default : goal.returns-in_default
returns-in_default c =
    decimal_last _ _ _
    (λ e. omega arith)
    (λ e. omega arith)
    (λ e. omega arith)
    (λ e. omega arith)
    (λ e. omega arith)
    (λ e. omega arith)
    (λ e. omega arith)
    c.decode_decimal.ensures
