-- An answer: what was asked for, or the refusal by the first fault.
use Rattle.std.specs.Prelude.{Bool, true, false}
use Rattle.layout.specs.declared.refusal.Refusal.{Refusal}

pub data Answer (A : Type 0) : Type 0 where
  gives : A → Answer A
  refused : Refusal → Answer A

-- One step and then the next, so that the first fault decides.
infixl 40 ◌>>=◌
unfoldable pub ◌>>=◌ : {A B : Type 0} → Answer A → (A → Answer B) → Answer B
gives a >>= f = f a
refused r >>= f = refused r

-- The refusal where the test fails.
unfoldable pub require : Bool → Refusal → Answer (Unit {0})
require true r = gives tt
require false r = refused r
