-- Names by their bytes alone: the account's tests say what the tests of builders by byte order say.
use mathlib.Core.Path.{◌≡◌, refl, ap₂, sym, ◌∙◌}
use mathlib.Core.Logic.{⊎_elim}
use mathlib.Core.Bool.{Bool, true, false, not, cond, ◌&&◌, ◌||◌}
use mathlib.Core.List.{[], ◌∷◌}
use lib.Dec.{T, eqb, eqb→eq}
use borrow.Author.Tests.{eq-eqb}
use Rattle.layout.specs.Bytes.{Bytes}
use Rattle.layout.specs.Tree.{Tree, Members, empty, member, names}
use Rattle.layout.specs.Order.{same_bytes}
use Rattle.layout.proofs.Orders.{alike_bytes, unlike_bytes}
use Rattle.builders.specs.Order.{find, has, distinct}
use Rattle.edits.proofs.Deletes.{nothing_some, equal_or_not, find_later}
use Rattle.runs.specs.Plain.{equal, has_name, repeats, named}
use Rattle.runs.proofs.SameNames.{find_same}
use Rattle.std.specs.Prelude.{None, Option}

equal_refl : (a : Bytes) → equal a a ≡ true
equal_refl [] = refl
equal_refl (x ∷ a) = rw (eq-eqb x x refl) (equal_refl a)

equal_not : (a b : Bytes) → (a ≡ b → ⊥) → equal a b ≡ false
equal_not [] [] h = absurd (h refl)
equal_not [] (y ∷ b) h = refl
equal_not (x ∷ a) [] h = refl
equal_not (x ∷ a) (y ∷ b) h = go (eqb x y) (λ e. equal_not a b (λ f. h (ap₂ ◌∷◌ (eqb→eq x y e) f)))
  where
    go : (t : Bool) → (T t → equal a b ≡ false) → (t && equal a b) ≡ false
    go true e = e tt
    go false e = refl

-- By cases on a test.
pub by_test : {A : Type 0} (b : Bool) (P : A → Type 0) (x y : A) → (b ≡ true → P x) → (b ≡ false → P y) → P (cond b x y)
by_test true P x y f g = f refl
by_test false P x y f g = g refl

-- By cases on whether two names are equal.
pub by_name : {A : Type 0} (a b : Bytes) (P : A → Type 0) (x y : A) → (a ≡ b → P x) → ((a ≡ b → ⊥) → P y) → P (cond (equal a b) x y)
by_name a b P x y f g =
    ⊎_elim
    (λ (e : a ≡ b). let q : equal a b ≡ true = rw e (equal_refl b) in rw q (f e))
    (λ h. rw (equal_not a b h) (g h))
    (equal_or_not a b)

pub named_find : (n : Bytes) (ms : Members) → named n ms ≡ find n ms
named_find n empty = refl
named_find n (member m t ms) =
    by_name n m (λ (o : Option Tree). o ≡ find n (member m t ms)) _ _
    (λ e. sym (find_same n m t ms e))
    (λ h. named_find n ms ∙ sym (find_later n m t ms h))

-- The account's test of equal names is the layout's.
equal_bytes : (n m : Bytes) → equal n m ≡ same_bytes n m
equal_bytes n m =
    ⊎_elim (λ e. let q : equal n m ≡ true = rw e (equal_refl m) in q ∙ alike_bytes n m e) (λ h. equal_not n m h ∙ unlike_bytes n m h)
    (equal_or_not n m)

pub has_named : (n : Bytes) (ms : Members) → has_name n ms ≡ has n (names ms)
unfolding has
has_named n empty = refl
has_named n (member m t ms) = ap₂ ◌||◌ (equal_bytes n m) (has_named n ms)

pub missing_name : (n : Bytes) (ms : Members) → find n ms ≡ None → has_name n ms ≡ false
missing_name n empty e = refl
missing_name n (member m t ms) e =
    ⊎_elim
    (λ (q : n ≡ m). nothing_some {x = t} (sym e ∙ find_same n m t ms q))
    (λ h. rw (equal_not n m h) (missing_name n ms (sym (find_later n m t ms h) ∙ e)))
    (equal_or_not n m)

pub repeats_is : (ms : Members) → not (repeats ms) ≡ distinct (names ms)
unfolding distinct
repeats_is empty = refl
repeats_is (member n t ms) = rw (has_named n ms, ← repeats_is ms) (neither (has n (names ms)) (repeats ms))
  where
    neither : (a b : Bool) → not (a || b) ≡ (not a && not b)
    neither true b = refl
    neither false b = refl
