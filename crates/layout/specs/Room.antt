-- Room beside the buffer: the promise of an edit's inside, which takes its room as a number of its own. It answers as in a buffer of
-- that room, and stores what has a place in the buffer that it is lent; lent no bytes it measures. With the buffer's own length as
-- the room it is `Ended`: `ended_in` of proofs/Patches.antt.
use Rattle.std.specs.Prelude.{ℕ, ◌≤◌, ◌≡◌, length}
use Rattle.layout.specs.Bytes.{Bytes}
use Rattle.layout.specs.Patch.{patch}
use Rattle.layout.specs.Ended.{Outcome, result, absence, refusal, ending}
use Rattle.layout.specs.Ended.{Ending}

abbrev pub placed : Outcome → Bytes → Bytes
placed (result b) before = patch before 0 b
placed absence before = before
placed (refusal r) before = before

pub record EndedIn (r : Ending) (before after : Bytes) (o : Outcome) : Type 0 where
  pub answer : r ≡ ending o
  pub bytes : after ≡ placed o before

-- No result is longer than the room.
abbrev pub Fits : ℕ → Outcome → Type 0
Fits room (result b) = length b ≤ room
Fits room absence = Unit {0}
Fits room (refusal r) = Unit {0}
