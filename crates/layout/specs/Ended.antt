-- How a call that writes ends: document 01, "A success gives the length and fills that many first bytes; those after them are
-- unchanged", and demand 1, "a number or an absence changes no byte lent".
use Rattle.std.specs.Prelude.{ℕ, ◌≡◌, cond, ◌++◌, ltb, length, drop, Ok, Err, Some, None, Result, Option}
use Rattle.layout.specs.Bytes.{Bytes}
use Rattle.layout.specs.declared.refusal.Refusal.{Refusal}
use Rattle.layout.specs.declared.refusal.Refusal.TheVariants.{Buffer}

-- What document 01 gives a call: a result, an absence, or a number.
pub data Outcome : Type 0 where
  result : Bytes → Outcome
  absence : Outcome
  refusal : Refusal → Outcome

-- A result into a buffer of `room` bytes: "10 shorter than the result".
unfoldable pub into : ℕ → Bytes → Outcome
into room b = cond (ltb room (length b)) (refusal Buffer) (result b)

-- The answer of such a call: the alias of ending.rt.
abbrev pub Ending : Type 0
Ending = Result (Option ℕ) Refusal

abbrev pub ending : Outcome → Ending
ending (result b) = Ok (Some (length b))
ending absence = Ok None
ending (refusal r) = Err r

abbrev pub filled : Outcome → Bytes → Bytes
filled (result b) before = b ++ drop (length b) before
filled absence before = before
filled (refusal r) before = before

-- The promise of every function that writes: its answer `r`, and the buffer before and after it, are the outcome's.
pub record Ended (r : Ending) (before after : Bytes) (o : Outcome) : Type 0 where
  pub answer : r ≡ ending o
  pub bytes : after ≡ filled o before
