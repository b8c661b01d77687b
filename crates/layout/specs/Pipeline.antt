-- From an edit on trees to an edit on bytes: document 01, "Order: left record, right record, path, 7, absence, 8, 9, 10". The record is
-- read, then what stands beside it (another record, a path, a pointer), by its own reader; then the edit says 7, an absence, 8 and 9 in
-- its own lines; 10 comes last.
use Rattle.std.specs.Prelude.{ℕ, ◌&&◌, leb, Some, None, Option}
use Rattle.layout.specs.Bytes.{Bytes}
use Rattle.layout.specs.Answer.{Answer, gives, refused, ◌>>=◌, require}
use Rattle.layout.specs.Tree.{Tree}
use Rattle.layout.specs.Encode.{encode}
use Rattle.layout.specs.Read.{read}
use Rattle.layout.specs.Limits.{depth, record_length}
use Rattle.layout.specs.Ended.{Outcome, absence, refusal, into}
use Rattle.layout.specs.declared.refusal.Refusal.TheVariants.{Result}

-- "9 result over 65,536 bytes or deeper than 64."
unfoldable pub within : Tree → Answer Tree
within t = do
  _ ← require (leb (record_length t) 65536 && leb (depth t) 64) Result
  gives t

-- What an edit gives goes into a buffer of `room` bytes: "10 shorter than the result". Where it finds nothing, that is an absence.
abbrev pub found : ℕ → Answer (Option Tree) → Outcome
found room (gives (Some t)) = into room (encode t)
found room (gives None) = absence
found room (refused r) = refusal r

-- The same of an edit that always finds something.
abbrev pub written : ℕ → Answer Tree → Outcome
written room (gives t) = into room (encode t)
written room (refused r) = refusal r

-- The record, what stands beside it, and then the edit of the two.
unfoldable pub on_record : {P : Type 0} → (Bytes → Answer P) → (Tree → P → Answer (Option Tree)) → Bytes → Bytes → ℕ → Outcome
unfolding read within into ◌>>=◌ require
on_record beside edit target other room = found room (read target >>= λ t. beside other >>= λ p. edit t p)

-- Of an edit of one record nothing stands beside it.
abbrev pub alone : Bytes → Answer (Unit {0})
alone b = gives tt
