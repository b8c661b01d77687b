-- The answers to the flight computer's C code: document 01, "The flight computer's C code calls the check and the four edits". An
-- answer is one number of 64 bits. Below 2 ^ 32 it is the length of the result, and 2 ^ 32 is an absence; 2 ^ 32 and k more is the
-- number k of "Who can cause each number". A check, of a record or of a flight record, has no result, and answers 0 where it
-- passes; the text check answers the number of code points, and a preview the length that the result would have.
use Rattle.std.specs.Prelude.{ℕ, ◌+◌, ◌-◌, ◌^◌, min, ◌≡◌, Ok, Err, Some, None, Result}
use Rattle.layout.specs.Bytes.{Bytes}
use Rattle.layout.specs.Refusal.{number}
use Rattle.layout.specs.Ended.{Outcome, ending, filled}
use Rattle.layout.specs.declared.refusal.Refusal.{Refusal}
use Rattle.layout.specs.Ended.{Ending}

abbrev pub c_check : Result (Unit {0}) Refusal → ℕ
c_check (Ok a) = 0
c_check (Err r) = 2 ^ 32 + number r

-- Document 02 §2. What is no refusal is below 2 ^ 32 here too: a text of 2 ^ 32 - 1 code points, or of more, answers 2 ^ 32 - 1.
abbrev pub c_text : Result ℕ Refusal → ℕ
c_text (Ok n) = min n (2 ^ 32 - 1)
c_text (Err r) = 2 ^ 32 + number r

abbrev pub c_ending : Ending → ℕ
c_ending (Ok (Some n)) = n
c_ending (Ok None) = 2 ^ 32
c_ending (Err r) = 2 ^ 32 + number r

abbrev pub c_outcome : Outcome → ℕ
c_outcome o = c_ending (ending o)

-- `Ended`, for C: the answer `r`, and the buffer before and after the call, are the outcome's.
pub record EndedC (r : ℕ) (before after : Bytes) (o : Outcome) : Type 0 where
  pub answer : r ≡ c_outcome o
  pub bytes : after ≡ filled o before
