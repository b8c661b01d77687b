-- The two edits with a path, on bytes: document 01, "Order: left record, right record, path, 7, absence, 8, 9, 10".
use Rattle.std.specs.Prelude.{ℕ, List, Some, Option}
use Rattle.layout.specs.Bytes.{Bytes}
use Rattle.layout.specs.Answer.{Answer, gives, ◌>>=◌}
use Rattle.layout.specs.Tree.{Tree}
use Rattle.layout.specs.Ended.{Outcome}
use Rattle.layout.specs.Pipeline.{on_record}
use Rattle.edits.specs.Keypath.{Step, path_of}
use Rattle.edits.specs.Find.{look_up}
use Rattle.edits.specs.Delete.{delete, deletable}

unfoldable pub get_by : List Step → Tree → Answer (Option Tree)
get_by p t = gives (look_up p t)

unfoldable pub delete_by : List Step → Tree → Answer (Option Tree)
unfolding ◌>>=◌
delete_by p t = do
  u ← deletable t
  gives (Some (delete p u))

unfoldable pub on_path : (List Step → Tree → Answer (Option Tree)) → Bytes → Bytes → ℕ → Outcome
unfolding on_record path_of get_by delete_by
on_path edit target path room = on_record path_of (λ t p. edit p t) target path room
