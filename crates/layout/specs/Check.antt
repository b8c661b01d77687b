-- The answers of the check: readable, or the refusal by the first fault of document 01's rules; sound or not; and how deep a
-- record nests. The answers of the text check.
use Rattle.std.specs.Prelude.{ℕ, leb, Ok, Err, Some, None, Result, Option, Bool}
use Rattle.layout.specs.Answer.{Answer, gives, refused}
use Rattle.layout.specs.Tree.{Tree}
use Rattle.layout.specs.Limits.{depth}
use Rattle.layout.specs.Every.{is_sound}
use Rattle.layout.specs.declared.refusal.Refusal.TheVariants.{Text}
use Rattle.layout.specs.declared.refusal.Refusal.{Refusal}

abbrev pub checked : {A : Type 0} → Answer A → Result (Unit {0}) Refusal
checked (gives a) = Ok tt
checked (refused r) = Err r

-- Whether it is sound, where it is readable.
abbrev pub soundness : Answer Tree → Result Bool Refusal
soundness (gives t) = Ok (is_sound t)
soundness (refused r) = Err r

-- Whether it nests at most so many levels deep, where it is readable.
abbrev pub nesting_to : ℕ → Answer Tree → Result Bool Refusal
nesting_to levels (gives t) = Ok (leb (depth t) levels)
nesting_to levels (refused r) = Err r

-- As an item of another record it is one level deeper, and the edit that puts it there meets "9 result over 65,536 bytes or deeper
-- than 64".
abbrev pub nesting : Answer Tree → Result Bool Refusal
nesting m = nesting_to 63 m

-- Document 02 §2: "Let the text check, where it passes, also answer the number of code points"; rule 6: "text that is not UTF-8 by RFC
-- 3629: 3".
unfoldable pub text_checked : Option ℕ → Result ℕ Refusal
text_checked None = Err Text
text_checked (Some n) = Ok n
