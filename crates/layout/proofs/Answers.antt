-- Answers taken apart.
use Prim.Native.Nat.{ℕ}
use native.Mathlib.Omega.{arith}
use mathlib.Core.Path.{◌≡◌, refl}
use mathlib.Core.Bool.{Bool, true, false}
use lib.Dec.{T}
use Rattle.layout.specs.Answer.{Answer, refused, gives, ◌>>=◌, require}
use Rattle.layout.specs.declared.refusal.Refusal.{Refusal}

pub bind_gives : {A B : Type 0} (m : Answer A) (f : A → Answer B) {y : B} → m >>= f ≡ gives y → (x : A) × (m ≡ gives x) × (f x ≡ gives y)
unfolding ◌>>=◌
bind_gives (refused r) f e = let z : ◌≡◌ {A = ℕ} 0 1 = cc in let w : ⊥ = omega arith in absurd w
bind_gives (gives a) f e = (a, refl, e)

pub gives_inj : {A : Type 0} {x y : A} → gives x ≡ gives y → x ≡ y
gives_inj e = cc

-- The same with the parts named: `from_bind e λ x hx h. ..`.
pub from_bind : {A B C : Type 0} {m : Answer A} {f : A → Answer B} {y : B} → m >>= f ≡ gives y → ((x : A) → m ≡ gives x → f x ≡ gives y → C) → C
from_bind {m = m} {f = f} e k = let r = bind_gives m f e in k r.0 r.1 r.2

pub from_require : {B C : Type 0} (t : Bool) (r : Refusal) (f : Unit {0} → Answer B) {y : B} → require t r >>= f ≡ gives y → (T t → f tt ≡ gives y → C) → C
unfolding ◌>>=◌ require
from_require true r f e k = k tt e
from_require false r f e k = let z : ◌≡◌ {A = ℕ} 0 1 = cc in let w : ⊥ = omega arith in absurd w

pub refused_gives : {A C : Type 0} {r : Refusal} {y : A} → refused r ≡ gives y → C
refused_gives e = let z : ◌≡◌ {A = ℕ} 0 1 = cc in let w : ⊥ = omega arith in absurd w

-- The other way: a `do` block gives `y`.
pub to_bind : {A B : Type 0} {m : Answer A} (f : A → Answer B) {x : A} {y : B} → m ≡ gives x → f x ≡ gives y → m >>= f ≡ gives y
unfolding ◌>>=◌
to_bind f {x = x} e h = rw e h

pub to_require : {B : Type 0} (t : Bool) (r : Refusal) (f : Unit {0} → Answer B) (y : Answer B) → T t → f tt ≡ y → require t r >>= f ≡ y
unfolding ◌>>=◌ require
to_require true r f y p h = h
to_require false r f y p h = absurd p
