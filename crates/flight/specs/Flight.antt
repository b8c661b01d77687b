-- The flight profile: document 02 §5.
use Rattle.std.specs.Prelude.{ℕ, ◌≤◌, Bool, ◌&&◌, List, T, leb, Some, Option}
use Rattle.layout.specs.Bytes.{Bytes}
use Rattle.layout.specs.Answer.{Answer, gives, ◌>>=◌, require}
use Rattle.layout.specs.Tree.{Tree}
use Rattle.layout.specs.Read.{read}
use Rattle.layout.specs.Limits.{depth}
use Rattle.layout.specs.Sound.{Sound}
use Rattle.layout.specs.Number.{is_integer}
use Rattle.layout.specs.Every.{every, is_sound, has_characters, names_ask, kinds_ask}
use Rattle.layout.specs.Ended.{Outcome}
use Rattle.layout.specs.Pipeline.{within, on_record}
use Rattle.layout.specs.declared.refusal.Refusal.TheVariants.{Profile}
use Rattle.edits.specs.Keypath.{Step}
use Rattle.edits.specs.Delete.{delete, deletable}
use Rattle.edits.specs.Concat.{concat}
use Rattle.edits.specs.Strip.{strip}

-- "A flight record is sound, at most 8 deep, has names of 1 to 32 characters, and holds no extension, float, decimal, NaN or
-- infinity." A root scalar has no depth.
pub record Flight (t : Tree) : Type 0 where
  pub sound : Sound t
  pub deep : depth t ≤ 8
  pub named : T (every (names_ask 1 32) t)
  pub plain : T (every kinds_ask t)

-- The same as a test: `flight_test` of proofs/Inside.antt.
unfoldable pub is_flight : Tree → Bool
unfolding has_characters is_integer
is_flight t = is_sound t && (leb (depth t) 8 && (every (names_ask 1 32) t && every kinds_ask t))

-- "A readable record outside the profile, or a result outside it, gives 12".
unfoldable pub profiled : Tree → Answer Tree
unfolding is_flight ◌>>=◌ require
profiled t = do
  _ ← require (is_flight t) Profile
  gives t

-- "Add the check": 1 to 5, then 12.
unfoldable pub flight : Bytes → Answer Tree
unfolding read profiled ◌>>=◌
flight b = read b >>= profiled

-- "Delete, concat and strip that take flight records and give flight records"; 12 of an input "stands after 6 and before 7, a result's
-- after 9". Delete goes by `on_path`, strip by `on_one`: the record, then the path, and then these lines, and 10 last.
unfoldable pub flight_delete_by : List Step → Tree → Answer (Option Tree)
unfolding profiled ◌>>=◌
flight_delete_by p t = do
  _ ← profiled t
  u ← deletable t
  v ← profiled (delete p u)
  gives (Some v)

unfoldable pub flight_strip : Tree → Answer Tree
unfolding profiled strip ◌>>=◌
flight_strip t = do
  _ ← profiled t
  v ← strip t
  profiled v

unfoldable pub flight_concat : Tree → Tree → Answer Tree
unfolding profiled concat within ◌>>=◌
flight_concat t u = do
  _ ← profiled t
  _ ← profiled u
  v ← concat t u
  w ← within v
  profiled w

-- Left record, right record, 12, 8, 9, 12, 10.
unfoldable pub on_flights : Bytes → Bytes → ℕ → Outcome
unfolding on_record flight_concat
on_flights left right room =
    on_record read (λ t u. flight_concat t u >>= λ v. gives (Some v)) left right room
