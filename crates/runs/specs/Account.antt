-- The plain account: document 01, "a shelf of values, at first those of the starting records. It is fed each call's kind, places,
-- path and buffer length, and nothing of the program's. Where this document gives the call, on the sound records of the named
-- values, an absence or a number, it stays. Otherwise it adds at its end".
use Rattle.std.specs.Prelude.{ℕ, cond, not, ◌||◌, List, [], ◌∷◌, ◌++◌, ltb, length, get_or, Ok, Err, Some, None, Option}
use Rattle.layout.specs.Bytes.{Bytes}
use Rattle.layout.specs.Answer.{Answer, gives, refused, ◌>>=◌, require}
use Rattle.layout.specs.Tree.{Tree, null}
use Rattle.layout.specs.Limits.{depth, record_length}
use Rattle.layout.specs.declared.refusal.Refusal.{Refusal}
use Rattle.layout.specs.declared.refusal.Refusal.TheVariants.{Kind, Result, Buffer}
use Rattle.edits.specs.Keypath.{path_of}
use Rattle.runs.specs.declared.call.Edit.{Edit}
use Rattle.runs.specs.declared.call.Edit.TheVariants.{Get, Delete, Concat, Strip, Append, Build}
use Rattle.runs.specs.Call.{Call}
use Rattle.runs.specs.Plain.{plain_look_up, plain_delete, no_delete, plain_concat, plain_strip, plain_append, plain_build}
use Rattle.layout.specs.Ended.{Ending}

-- What it is fed of a call.
pub record Request : Type 0 where
  pub edit : Edit
  pub left : ℕ
  pub right : ℕ
  pub path : Bytes
  pub room : ℕ

abbrev pub request : Call → Request
request c = record { edit = c.edit; left = c.left; right = c.right; path = c.path; room = length c.buffer }

abbrev pub requests : List Call → List Request
requests [] = []
requests (c ∷ cs) = request c ∷ requests cs

-- What it makes of that: a value, an absence or a number.
pub data Entry : Type 0 where
  value : Tree → Entry
  absence : Entry
  refusal : Refusal → Entry

-- "9 result over 65,536 bytes or deeper than 64", then "10 shorter than the result": the length and the depth are those of the
-- value's sound record, and do not hang on the order of members.
abbrev pub fitting : ℕ → Tree → Entry
fitting room t =
    cond (ltb 65536 (record_length t) || ltb 64 (depth t)) (refusal Result)
    (cond (ltb room (record_length t)) (refusal Buffer) (value t))

abbrev pub entered : ℕ → Answer (Option Tree) → Entry
entered room (gives (Some t)) = fitting room t
entered room (gives None) = absence
entered room (refused r) = refusal r

-- The edit on the values of the call's records: "path, 7, absence, 8". No record of the shelf is damaged, and so none gives its own
-- number.
unfoldable pub edited : Edit → Tree → Tree → Bytes → Answer (Option Tree)
unfolding path_of plain_append plain_build ◌>>=◌ require
edited Get t u path = path_of path >>= λ p. gives (plain_look_up p t)
edited Delete t u path = path_of path >>= λ p. require (not (no_delete t)) Kind >>= λ _. gives (Some (plain_delete p t))
edited Concat t u path = gives (Some (plain_concat t u))
edited Strip t u path = gives (Some (plain_strip t))
edited Append t u path = plain_append t u >>= λ v. gives (Some v)
edited Build t u path = plain_build t u >>= λ v. gives (Some v)

abbrev pub entry_on : Request → List Tree → Entry
entry_on r values = entered r.room (edited r.edit (get_or values r.left null) (get_or values r.right null) r.path)

-- How the call ends: the length of a result is that of the value's sound record.
abbrev pub entry_ending : Entry → Ending
entry_ending (value t) = Ok (Some (record_length t))
entry_ending absence = Ok None
entry_ending (refusal r) = Err r

abbrev pub added : Entry → List Tree → List Tree
added (value t) values = values ++ (t ∷ [])
added absence values = values
added (refusal r) values = values

-- The values after a list of calls, and how each of them ends.
abbrev pub account : List Request → List Tree → List Tree
account [] values = values
account (r ∷ rs) values = account rs (added (entry_on r values) values)

abbrev pub account_endings : List Request → List Tree → List Ending
account_endings [] values = []
account_endings (r ∷ rs) values = entry_ending (entry_on r values) ∷ account_endings rs (added (entry_on r values) values)
