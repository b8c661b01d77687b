-- Room for a result, by its length: 9, then 10. `written_sized` of proofs/Twos.antt ties `sized` to `within` and `written`.
use Rattle.std.specs.Prelude.{ℕ, cond, ltb, length, Ok, Err, Result}
use Rattle.layout.specs.Bytes.{Bytes}
use Rattle.layout.specs.Ended.{Outcome, refusal, into}
use Rattle.layout.specs.declared.refusal.Refusal.TheVariants.{Result as NoResult, Buffer}
use Rattle.layout.specs.declared.refusal.Refusal.{Refusal}

unfoldable pub room_for : ℕ → ℕ → Result (Unit {0}) Refusal
room_for len room = cond (ltb 65536 len) (Err NoResult) (cond (ltb room len) (Err Buffer) (Ok tt))

-- What comes of bytes that are a result in all but length.
unfoldable pub sized : ℕ → Bytes → Outcome
sized room b = cond (ltb 65536 (length b)) (refusal NoResult) (into room b)
