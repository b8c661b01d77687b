-- The answers for C: what each function answers, and that no answer stands for two endings.
use Prim.Native.Nat.{ℕ, ◌-◌, ◌^◌, ◌≤◌, ◌<◌}
use native.Mathlib.Omega.{arith}
use mathlib.Core.Path.{◌≡◌, refl, ap, sym, ◌∙◌}
use mathlib.Core.List.{[], ◌∷◌}
use lib.ListN.{length, get_or}
use Rattle.layout.specs.Bytes.{Bytes}
use Rattle.layout.specs.Refusal.{number}
use Rattle.layout.specs.Text.{code_points}
use Rattle.layout.specs.Check.{text_checked}
use Rattle.layout.specs.Ended.{Outcome, result, absence, refusal, ending, Ended}
use Rattle.layout.specs.declared.refusal.Refusal.{Refusal}
use Rattle.layout.specs.declared.refusal.Refusal.TheVariants.{Short, Layout, Text, Number, Limit, Path, Kind, Repeated, Result as NoResult, Buffer, Pointer, Profile}
use Rattle.layout.proofs.Texts.{points_le}
use Rattle.jsonb.specs.C.{c_check, c_text, c_ending, c_outcome, EndedC}
use Rattle.edits.proofs.Limited.{Limited}
use Rattle.std.specs.Prelude.{Ok, Err, Some, None, Option, Result}
use Rattle.layout.specs.Ended.{Ending}

-- ---- the functions

-- No number is that of an absence, and none is so large that a sum with it wraps.
pub number_range : (r : Refusal) → (1 ≤ number r) × (number r < 2 ^ 32)
number_range Short = (omega arith, omega arith)
number_range Layout = (omega arith, omega arith)
number_range Text = (omega arith, omega arith)
number_range Number = (omega arith, omega arith)
number_range Limit = (omega arith, omega arith)
number_range Path = (omega arith, omega arith)
number_range Kind = (omega arith, omega arith)
number_range Repeated = (omega arith, omega arith)
number_range NoResult = (omega arith, omega arith)
number_range Buffer = (omega arith, omega arith)
number_range Pointer = (omega arith, omega arith)
number_range Profile = (omega arith, omega arith)

pub ended_c : (e : Ending) (o o' : Bytes) (x : Outcome) → Ended e o o' x → (r : ℕ) → r ≡ c_ending e → EndedC r o o' x
ended_c e o o' x h r q = record { answer = q ∙ ap c_ending h.answer; bytes = h.bytes }

-- The same of calls that write nothing: of a check, and of a preview.
pub checked_c : {e x : Result (Unit {0}) Refusal} {r : ℕ} → e ≡ x → r ≡ c_check e → r ≡ c_check x
checked_c h q = q ∙ ap c_check h

pub told_c : {e x : Ending} {r : ℕ} → e ≡ x → r ≡ c_ending e → r ≡ c_ending x
told_c h q = q ∙ ap c_ending h

-- ---- no answer stands for two endings

-- The length is below 2 ^ 32 wherever there is a result.
pub c_below : (o : Outcome) → Limited o → (b : Bytes) → o ≡ result b → c_outcome o < 2 ^ 32
c_below o h b e = rw e (omega (arith, h b e))

-- A refusal by its number.
of_number : ℕ → Refusal
of_number n = get_or (Short ∷ Layout ∷ Text ∷ Number ∷ Limit ∷ Path ∷ Kind ∷ Repeated ∷ NoResult ∷ Buffer ∷ Pointer ∷ Profile ∷ []) (n - 1) Short

of_number_is : (r : Refusal) → of_number (number r) ≡ r
unfolding of_number
of_number_is Short = refl
of_number_is Layout = refl
of_number_is Text = refl
of_number_is Number = refl
of_number_is Limit = refl
of_number_is Path = refl
of_number_is Kind = refl
of_number_is Repeated = refl
of_number_is NoResult = refl
of_number_is Buffer = refl
of_number_is Pointer = refl
of_number_is Profile = refl

pub number_apart : (r q : Refusal) → number r ≡ number q → r ≡ q
number_apart r q e = sym (of_number_is r) ∙ (ap of_number e ∙ of_number_is q)

pub c_check_apart : (x y : Result (Unit {0}) Refusal) → c_check x ≡ c_check y → x ≡ y
c_check_apart (Ok a) (Ok b) e = refl
c_check_apart (Ok a) (Err q) e = let w : ⊥ = omega (arith, e) in absurd w
c_check_apart (Err r) (Ok a) e = let w : ⊥ = omega (arith, e) in absurd w
c_check_apart (Err r) (Err q) e = ap Err (number_apart r q (omega (arith, e)))

-- Of a text the number is told exactly where it is below 2 ^ 32 - 1, as it is of every text that is shorter.
abbrev CountedBelow : Result ℕ Refusal → Type 0
CountedBelow (Ok n) = n < 2 ^ 32 - 1
CountedBelow (Err r) = Unit {0}

counted_apart : (x y : Result ℕ Refusal) → CountedBelow x → CountedBelow y → c_text x ≡ c_text y → x ≡ y
counted_apart (Ok n) (Ok m) h k e = ap Ok (omega (arith, e, h, k))
counted_apart (Ok n) (Err q) h k e = let w : ⊥ = omega (arith, e) in absurd w
counted_apart (Err r) (Ok m) h k e = let w : ⊥ = omega (arith, e) in absurd w
counted_apart (Err r) (Err q) h k e = ap Err (number_apart r q (omega (arith, e)))

short_below : (b : Bytes) → length b < 2 ^ 32 - 1 → CountedBelow (text_checked (code_points b))
unfolding text_checked
short_below b h = go (code_points b) refl
  where
    go : (o : Option ℕ) → code_points b ≡ o → CountedBelow (text_checked o)
    go None e = tt
    go (Some n) e = omega (arith, points_le b n e)

pub c_text_apart : (b d : Bytes) → length b < 2 ^ 32 - 1 → length d < 2 ^ 32 - 1
    → c_text (text_checked (code_points b)) ≡ c_text (text_checked (code_points d))
    → text_checked (code_points b) ≡ text_checked (code_points d)
c_text_apart b d h k e = counted_apart _ _ (short_below b h) (short_below d k) e

pub c_apart : (o p : Outcome) → Limited o → Limited p → c_outcome o ≡ c_outcome p → ending o ≡ ending p
c_apart (result a) (result b) h k e = ap (λ x. Ok (Some x)) e
c_apart (result a) absence h k e = let w : ⊥ = omega (arith, e, h a refl) in absurd w
c_apart (result a) (refusal q) h k e = let w : ⊥ = omega (arith, e, h a refl) in absurd w
c_apart absence (result b) h k e = let w : ⊥ = omega (arith, e, k b refl) in absurd w
c_apart absence absence h k e = refl
c_apart absence (refusal q) h k e = let w : ⊥ = omega (arith, e, (number_range q).0) in absurd w
c_apart (refusal r) (result b) h k e = let w : ⊥ = omega (arith, e, k b refl) in absurd w
c_apart (refusal r) absence h k e = let w : ⊥ = omega (arith, e, (number_range r).0) in absurd w
c_apart (refusal r) (refusal q) h k e = ap Err (number_apart r q (omega (arith, e)))
