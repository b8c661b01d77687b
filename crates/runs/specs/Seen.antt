-- Demand 3 of what is observed: calls of the program, what each of them answered, and what it left in its buffer. Of the program a
-- history knows only that each answer and buffer meet the function's promise, `Ended`. It is proved as `demand_3_seen` of
-- proofs/Histories.antt.
use Rattle.std.specs.Prelude.{◌<◌, List, [], ◌∷◌, length}
use Rattle.layout.specs.Bytes.{Bytes}
use Rattle.layout.specs.Tree.{Tree}
use Rattle.layout.specs.Ended.{Ended}
use Rattle.runs.specs.Call.{Call, There}
use Rattle.runs.specs.Account.{requests, account, account_endings}
use Rattle.runs.specs.Run.{Shelf, outcome_on, shelved}
use Rattle.runs.specs.Demand.{AllSoundWith, After, Holds}
use Rattle.layout.specs.Ended.{Ending}

-- A call, what it answered, and its buffer behind it.
pub record Seen : Type 0 where
  pub call : Call
  pub answer : Ending
  pub behind : Bytes

-- On a shelf: the call takes records that are there, and its answer and its buffer are what the function promises of the outcome
-- that document 01 gives the call there.
pub record Met (shelf : Shelf) (s : Seen) : Type 0 where
  pub there : There s.call.edit s.call.left s.call.right (length shelf)
  pub promise : Ended s.answer s.call.buffer s.behind (outcome_on s.call shelf)

-- "A result joins the shelf, anything else leaves it as it was": the shelf made from the answer and the buffer that were seen.
abbrev pub put : Shelf → Seen → Shelf
put shelf s = shelved s.answer s.behind shelf

abbrev pub put_all : Shelf → List Seen → Shelf
put_all shelf [] = shelf
put_all shelf (s ∷ more) = put_all (put shelf s) more

-- Each promise is met on the shelf then.
abbrev pub AllMet : Shelf → List Seen → Type 0
AllMet shelf [] = Unit {0}
AllMet shelf (s ∷ more) = Met shelf s × AllMet (put shelf s) more

abbrev pub calls_of : List Seen → List Call
calls_of [] = []
calls_of (s ∷ more) = s.call ∷ calls_of more

abbrev pub answers_of : List Seen → List Ending
answers_of [] = []
answers_of (s ∷ more) = s.answer ∷ answers_of more

-- What was seen, in its order, from a shelf of sound records, with the values of the records there.
pub record History : Type 0 where
  pub seen : List Seen
  pub shelf : Shelf
  pub values : List Tree
  pub some_record : 0 < length shelf
  pub all_sound : AllSoundWith shelf values
  pub met : AllMet shelf seen

-- The answers and the shelf are those that were seen. The account is fed the calls and the values of the starting shelf, and nothing
-- of what was seen.
abbrev pub after_seen : History → After
after_seen h =
    record {
      ended = answers_of h.seen;
      records = put_all h.shelf h.seen;
      account_ends = account_endings (requests (calls_of h.seen)) h.values;
      values = account (requests (calls_of h.seen)) h.values;
    }

abbrev pub Demand3Seen : Type 0
Demand3Seen = (p q : History) → Holds (after_seen p) (after_seen q)
