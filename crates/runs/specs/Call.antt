-- A call of a run: document 01, "A call names its records by their places on the shelf, one place twice if it likes, and brings any
-- bytes as path and a result buffer of its own, of any length."
use Rattle.std.specs.Prelude.{ℕ, ◌<◌, Bool, true, false, T}
use Rattle.layout.specs.Bytes.{Bytes}
use Rattle.layout.specs.Ended.{Outcome}
use Rattle.builders.specs.Build.{append, build, on_two}
use Rattle.edits.specs.Path.{get_by, delete_by, on_path}
use Rattle.edits.specs.Concat.{concat}
use Rattle.edits.specs.Strip.{strip, on_one}
use Rattle.runs.specs.declared.call.Edit.{Edit}
use Rattle.runs.specs.declared.call.Edit.TheVariants.{Get, Delete, Concat, Strip, Append, Build}

-- Its kind, the places of its records, counted from 0, its path, and its buffer as it is lent. A call that takes one record takes the
-- left one, and one without a path does not look at it.
pub record Call : Type 0 where
  pub edit : Edit
  pub left : ℕ
  pub right : ℕ
  pub path : Bytes
  pub buffer : Bytes

-- What document 01 gives a call of a kind, on two records, with a path and a buffer of `room` bytes. It is what the contract of each
-- of the six functions cites, and `make_edit`, which calls them, promises it of all.
unfoldable pub outcome : Edit → Bytes → Bytes → Bytes → ℕ → Outcome
unfolding on_path on_two on_one concat
outcome Get left right path room = on_path get_by left path room
outcome Delete left right path room = on_path delete_by left path room
outcome Concat left right path room = on_two concat left right room
outcome Strip left right path room = on_one strip left room
outcome Append left right path room = on_two append left right room
outcome Build left right path room = on_two build left right room

-- Whether an edit takes two records; one that does not takes the left one alone.
abbrev pub takes_two : Edit → Bool
takes_two Get = false
takes_two Delete = false
takes_two Concat = true
takes_two Strip = false
takes_two Append = true
takes_two Build = true

-- "A call takes any records then on its shelf": the places that it names are there, on a shelf of `n` records.
abbrev pub There : Edit → ℕ → ℕ → ℕ → Type 0
There e left right n = (left < n) × (T (takes_two e) → right < n)
