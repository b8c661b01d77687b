-- No result of an edit is longer than the longest record.
use Prim.Native.Nat.{ℕ, ◌≤◌}
use mathlib.Core.Path.{◌≡◌, sym, ◌∙◌}
use lib.Dec.{leb→le}
use lib.ListN.{length}
use Rattle.layout.specs.Bytes.{Bytes, Octets}
use Rattle.layout.specs.Answer.{Answer}
use Rattle.layout.specs.Tree.{Tree}
use Rattle.layout.specs.Ended.{Outcome, result}
use Rattle.layout.proofs.Answers.{from_require}
use Rattle.layout.proofs.Decoding.{read_is}
use Rattle.builders.specs.Build.{append, build, on_two}
use Rattle.builders.proofs.Results.{Keeps, result_made, append_keeps, build_keeps}
use Rattle.edits.specs.Path.{get_by, delete_by, on_path}
use Rattle.edits.specs.Concat.{concat}
use Rattle.edits.specs.Strip.{strip, on_one}
use Rattle.edits.proofs.Concats.{concat_keeps}
use Rattle.edits.proofs.PathResults.{get_made, delete_made}
use Rattle.edits.proofs.OperatorResults.{strip_made}

abbrev pub Limited : Outcome → Type 0
Limited o = (b : Bytes) → o ≡ result b → length b ≤ 65536

pub get_limited : (target path : Bytes) (room : ℕ) → Octets target → Limited (on_path get_by target path room)
get_limited target path room o b e = (get_made target path b room o e).short

pub delete_limited : (target path : Bytes) (room : ℕ) → Octets target → Limited (on_path delete_by target path room)
delete_limited target path room o b e = (delete_made target path b room o e).short

-- With two records: the result reads as a tree.
two_limited : (edit : Tree → Tree → Answer Tree) → Keeps edit → (l r : Bytes) (room : ℕ) → Octets l → Octets r → Limited (on_two edit l r room)
two_limited edit keeps l r room ol or b e =
    from_require _ _ _ (sym (read_is b) ∙ (result_made edit keeps l r b room ol or e).reads) λ test _. leb→le (length b) 65536 test

pub concat_limited : (left right : Bytes) (room : ℕ) → Octets left → Octets right → Limited (on_two concat left right room)
concat_limited = two_limited concat concat_keeps

pub append_limited : (array item : Bytes) (room : ℕ) → Octets array → Octets item → Limited (on_two append array item room)
append_limited = two_limited append append_keeps

pub build_limited : (names values : Bytes) (room : ℕ) → Octets names → Octets values → Limited (on_two build names values room)
build_limited = two_limited build build_keeps

-- Strip's is no longer than the record, which could be read.
pub strip_limited : (target : Bytes) (room : ℕ) → Octets target → Limited (on_one strip target room)
strip_limited target room o b e =
    let m = strip_made target b room o e in
    from_require _ _ _ (sym (read_is b) ∙ m.reads) λ test _. leb→le (length b) 65536 test
