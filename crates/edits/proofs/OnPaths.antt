-- An edit with a path, step by step: document 01's order of numbers is the order of these laws.
use Prim.Native.Nat.{ℕ}
use mathlib.Core.Path.{◌≡◌}
use mathlib.Core.List.{List}
use Rattle.layout.specs.Bytes.{Bytes}
use Rattle.layout.specs.Answer.{Answer, gives, refused}
use Rattle.layout.specs.Tree.{Tree}
use Rattle.layout.specs.Encode.{encode}
use Rattle.layout.specs.Read.{read}
use Rattle.layout.specs.Ended.{into}
use Rattle.layout.specs.Room.{EndedIn, Fits}
use Rattle.layout.specs.declared.refusal.Refusal.{Refusal}
use Rattle.layout.proofs.Pipelines.{record_fits, record_first, record_second, record_edit, record_absent, record_done}
use Rattle.edits.specs.Keypath.{Step, path_of}
use Rattle.edits.specs.Path.{on_path}
use Rattle.std.specs.Prelude.{Ok, Err, Some, None, Option}
use Rattle.layout.specs.Ended.{Ending}

module _ (edit : List Step → Tree → Answer (Option Tree)) (target path o : Bytes) (room : ℕ) where
  -- The record is refused.
  pub path_left : (x : Refusal) → read target ≡ refused x → EndedIn (Err x) o o (on_path edit target path room)
  unfolding on_path
  path_left = record_first path_of (λ t p. edit p t) target path room o

  module _ (t : Tree) (ht : read target ≡ gives t) where
    -- The path is refused.
    pub path_path : {x : Refusal} → path_of path ≡ refused x → EndedIn (Err x) o o (on_path edit target path room)
    unfolding on_path
    path_path {x} = record_second path_of (λ t p. edit p t) target path room o t ht x

    module _ (p : List Step) (hp : path_of path ≡ gives p) where
      -- The edit refuses.
      pub path_edit : (x : Refusal) → edit p t ≡ refused x → EndedIn (Err x) o o (on_path edit target path room)
      unfolding on_path
      path_edit = record_edit path_of (λ t p. edit p t) target path room o t ht p hp

      -- The edit finds nothing.
      pub path_absent : edit p t ≡ gives None → EndedIn (Ok None) o o (on_path edit target path room)
      unfolding on_path
      path_absent = record_absent path_of (λ t p. edit p t) target path room o t ht p hp

      -- The edit gives a tree, and the end is that of storing its record.
      pub path_done : (v : Tree) → edit p t ≡ gives (Some v) → (e : Ending) (o' : Bytes) → EndedIn e o o' (into room (encode v))
          → EndedIn e o o' (on_path edit target path room)
      unfolding on_path
      path_done = record_done path_of (λ t p. edit p t) target path room o t ht p hp

pub path_fits : (edit : List Step → Tree → Answer (Option Tree)) (target path : Bytes) (room : ℕ) → Fits room (on_path edit target path room)
unfolding on_path
path_fits edit target path room = record_fits path_of (λ t p. edit p t) target path room
