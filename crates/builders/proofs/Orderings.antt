-- The comparison of names is an order: each name is equal to itself alone, and the two ways round agree.
use mathlib.Core.Path.{◌≡◌, refl, ap, ◌∙◌, subst}
use Rattle.layout.specs.Bytes.{Bytes}
use Rattle.layout.specs.Order.{order}
use Rattle.layout.specs.Sound.{◌≺◌}
use Rattle.std.specs.declared.cmp.Ordering.{Ordering}
use Rattle.std.specs.declared.cmp.Ordering.TheVariants.{Less, Equal, Greater}
use Rattle.layout.proofs.Orders.{Says, says}
use Rattle.layout.proofs.Values.{≺-irrefl, ≺-trans}
use Rattle.builders.specs.Order.{by}

-- By cases on how two names compare, with what that says.
pub order_cases : (a b : Bytes) (P : Ordering → Type 0) → (a ≺ b → P Less) → (a ≡ b → P Equal) → (b ≺ a → P Greater)
    → P (order a b)
order_cases a b P f g h = go (order a b) (says a b)
  where
    go : (o : Ordering) → Says a b o → P o
    go Less s = f s
    go Equal s = g s
    go Greater s = h s

-- The same where the cases are those of `by`.
pub by_order : {A : Type 0} (a b : Bytes) (P : A → Type 0) (x y z : A) → (a ≺ b → P x) → (a ≡ b → P y) → (b ≺ a → P z)
    → P (by (order a b) x y z)
by_order {A} a b P x y z f g h = go (order a b) (says a b)
  where
    go : (o : Ordering) → Says a b o → P (by o x y z)
    go Less s = f s
    go Equal s = g s
    go Greater s = h s

less_says : (a b : Bytes) → order a b ≡ Less → a ≺ b
less_says a b e = subst (Says a b) e (says a b)

pub order_equal : (a b : Bytes) → order a b ≡ Equal → a ≡ b
order_equal a b e = subst (Says a b) e (says a b)

pub order_less : (a b : Bytes) → a ≺ b → order a b ≡ Less
order_less a b h =
    order_cases a b (λ o. o ≡ Less) (λ _. refl) (λ e. absurd (≺-irrefl a (rw (← e) at h)))
    (λ l. absurd (≺-irrefl a (≺-trans a b a h l)))

pub order_greater : (a b : Bytes) → b ≺ a → order a b ≡ Greater
order_greater a b h =
    order_cases a b (λ o. o ≡ Greater) (λ l. absurd (≺-irrefl a (≺-trans a b a l h)))
    (λ e. absurd (≺-irrefl a (rw (← e) at h))) (λ _. refl)

pub order_refl : (a : Bytes) → order a a ≡ Equal
order_refl a = order_cases a a (λ o. o ≡ Equal) (λ l. absurd (≺-irrefl a l)) (λ _. refl) (λ l. absurd (≺-irrefl a l))

abbrev pub turned : Ordering → Ordering
turned Less = Greater
turned Equal = Equal
turned Greater = Less

pub order_turn : (a b : Bytes) → order b a ≡ turned (order a b)
order_turn a b =
    order_cases a b (λ o. order b a ≡ turned o) (λ l. order_greater b a l)
    (λ e. ap (λ (x : Bytes). order b x) e ∙ order_refl b) (λ l. order_less b a l)

pub order_trans : (a b c : Bytes) → order a b ≡ Less → order b c ≡ Less → order a c ≡ Less
order_trans a b c h k = order_less a c (≺-trans a b c (less_says a b h) (less_says b c k))
