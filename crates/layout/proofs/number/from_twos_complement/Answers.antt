-- `layout::number::from_twos_complement` meets its contract.
use mathlib.Core.Path.{sym, ap, ◌∙◌}
use native.Mathlib.Omega.{arith}
use mir.Syntax.{w8, w16, w32}
use mir.ValLaws.{to_z-of_z}
use mir.Syntax.{w64}
use Rattle.layout.specs.Number.{signed}
use Rattle.layout.proofs.Patterns.{last_width, signed_byte, signed_half, signed_word, signed_long, widened}
use Rattle.layout.proofs.number.from_twos_complement.Goals as goal

pub returns-in-1 : goal.returns-in-1
returns-in-1 c =
    widened w8 _ _ _ (record { sfits = c.from.type_inv }) (record { sfits = c.cast_signed.type_inv }) c.from.ensures
    (c.cast_signed.ensures ∙ signed_byte c.args.x ∙ ap (λ n. signed n c.args.x) (sym c.in-1.is))

pub returns-in-2 : goal.returns-in-2
returns-in-2 c =
    widened w16 _ _ _ (record { sfits = c.from-in-2.type_inv }) (record { sfits = c.cast_signed-in-2.type_inv }) c.from-in-2.ensures
    (c.cast_signed-in-2.ensures ∙ signed_half c.args.x ∙ ap (λ n. signed n c.args.x) (sym c.in-2.is))

pub returns-in-4 : goal.returns-in-4
returns-in-4 c =
    widened w32 _ _ _ (record { sfits = c.from-in-4.type_inv }) (record { sfits = c.cast_signed-in-4.type_inv }) c.from-in-4.ensures
    (c.cast_signed-in-4.ensures ∙ signed_word c.args.x ∙ ap (λ n. signed n c.args.x) (sym c.in-4.is))

pub returns-in_default : goal.returns-in_default
returns-in_default c =
    to_z-of_z w64 _ (record { sfits = c.cast_signed-in_default.type_inv })
    ∙ c.cast_signed-in_default.ensures
    ∙ signed_long c.args.x
    ∙ ap (λ n. signed n c.args.x) (sym (last_width c.args.n c.requires.0 (λ e. omega arith) (λ e. omega arith) (λ e. omega arith)))
