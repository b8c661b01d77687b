-- Demand 3, the client's words clause by clause: for every two lists of calls, each from a shelf of sound records. It is proved as
-- `demand_3` of proofs/Demands.antt.
use Rattle.std.specs.Prelude.{ℕ, ◌<◌, ◌≡◌, ◌↔◌, List, [], ◌∷◌, ◌++◌, length, get_or}
use Rattle.layout.specs.Bytes.{Bytes}
use Rattle.layout.specs.Tree.{Tree, null}
use Rattle.layout.specs.Sound.{Sound}
use Rattle.layout.specs.Value.{Same}
use Rattle.runs.specs.Call.{Call}
use Rattle.runs.specs.Account.{requests, account, account_endings}
use Rattle.runs.specs.Demand2.{ReadsAs}
use Rattle.runs.specs.Run.{Shelf, run, endings, Takes}
use Rattle.layout.specs.Ended.{Ending}

-- `b` is a sound record with the value `v`: it reads as a tree of this value, whose names rise in every object.
pub record SoundWith (b : Bytes) (v : Tree) : Type 0 where
  pub reads_as : ReadsAs b v
  pub sound : Sound reads_as.tree

-- The same place by place, of as many records as values.
abbrev pub AllSoundWith : Shelf → List Tree → Type 0
AllSoundWith [] [] = Unit {0}
AllSoundWith [] (v ∷ values) = ⊥
AllSoundWith (b ∷ shelf) [] = ⊥
AllSoundWith (b ∷ shelf) (v ∷ values) = SoundWith b v × AllSoundWith shelf values

-- A list of calls and the shelf that it starts from, with the values of the records there. "A starting shelf is one or more sound
-- records in a row"; "a call takes any records then on its shelf".
pub record Start : Type 0 where
  pub calls : List Call
  pub shelf : Shelf
  pub values : List Tree
  pub some_record : 0 < length shelf
  pub all_sound : AllSoundWith shelf values
  pub takes : Takes calls shelf

-- What there is after a list of calls: how each of them ended, and the records on the shelf; and beside it, by document 01's plain
-- account of the list, how each ends, and the values.
pub record After : Type 0 where
  pub ended : List Ending
  pub records : Shelf
  pub account_ends : List Ending
  pub values : List Tree

-- After the calls are run. The account is fed the calls and the values of the starting shelf, and nothing of the run.
abbrev pub after_run : Start → After
after_run s =
    record {
      ended = endings s.calls s.shelf;
      records = run s.calls s.shelf;
      account_ends = account_endings (requests s.calls) s.values;
      values = account (requests s.calls) s.values;
    }

-- "Each call has ended in the result, absence or number that document 01 gives it".
abbrev pub EndedAlike : After → Type 0
EndedAlike a = a.ended ≡ a.account_ends

-- "Every record on either shelf is sound and has the value that document 01's plain account of that list gives there".
abbrev pub HasItsValue : After → Type 0
HasItsValue a = AllSoundWith a.records a.values

-- Of these records, "any two .. have equal bytes exactly when those values are equal".
abbrev pub EqualAlike : Shelf → List Tree → Type 0
EqualAlike records values =
    (i j : ℕ) → i < length records → j < length records
    → (get_or records i [] ≡ get_or records j []) ↔ Same (get_or values i null) (get_or values j null)

-- Of two lists: the last line is about "any two of these records, from one shelf or both".
pub record Holds (p q : After) : Type 0 where
  pub ends_first : EndedAlike p
  pub ends_second : EndedAlike q
  pub values_first : HasItsValue p
  pub values_second : HasItsValue q
  pub equal : EqualAlike (p.records ++ q.records) (p.values ++ q.values)

-- "For every two lists of these calls": `p` and `q` are the one and the other.
abbrev pub Demand3 : Type 0
Demand3 = (p q : Start) → Holds (after_run p) (after_run q)
