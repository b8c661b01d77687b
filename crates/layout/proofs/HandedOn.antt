-- A `?`: the refusal that it hands on, and the value that it leaves.
use mathlib.Core.Bool.{true≢false}
use mathlib.Core.Path.{◌≡◌, refl, sym, ap, ◌∙◌}
use Rattle.std.specs.Prelude.{Ok, Err, Result, IsErr, IsErrAnd, is_err, true, false}

module _ {T E : Type 0} where
  -- What returns early is the error that was met.
  pub handed_on : {x : E} (r : Result T E) → IsErr r × IsErrAnd r (λ y. y ≡ x) → r ≡ Err x
  handed_on (Ok a) h = absurd h.1
  handed_on (Err y) h = ap Err h.1

  -- A result has one value.
  pub one_value : {r : Result T E} {a b : T} → r ≡ Ok a → r ≡ Ok b → a ≡ b
  one_value {r} {a} {b} p q = let z : Ok a ≡ Ok b = sym p ∙ q in cc

  -- Nor is it an error and a value.
  pub not_both : {C : Type 0} {r : Result T E} {x : E} {a : T} → r ≡ Err x → r ≡ Ok a → C
  not_both {r} {x} {a} p q = let z : Err x ≡ Ok a = sym p ∙ q in cc

  -- What a test of a result tells.
  pub an_error : (r : Result T E) → is_err r ≡ true → (x : E) × (r ≡ Err x)
  an_error (Ok a) e = absurd (true≢false (sym e))
  an_error (Err x) e = (x, refl)

  pub a_value : (r : Result T E) → is_err r ≡ false → (a : T) × (r ≡ Ok a)
  a_value (Ok a) e = (a, refl)
  a_value (Err x) e = absurd (true≢false e)
