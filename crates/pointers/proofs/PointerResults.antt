-- What a result of look-up by a pointer is: it reads as the tree found, is sound where the record was, and is no longer than it.
use Prim.Native.Nat.{ℕ}
use mathlib.Core.Path.{◌≡◌, ◌∙◌}
use mathlib.Core.List.{List}
use Rattle.layout.specs.Bytes.{Bytes, Octets}
use Rattle.layout.specs.Answer.{gives}
use Rattle.layout.specs.Tree.{Tree}
use Rattle.layout.specs.Ended.{result}
use Rattle.layout.proofs.Answers.{gives_inj}
use Rattle.edits.proofs.Kept.{NoMore, look_up_kept}
use Rattle.edits.proofs.Limited.{Limited}
use Rattle.edits.proofs.PathResults.{KeptMade, kept_made}
use Rattle.pointers.specs.Pointer.{point, pointer_of, on_pointer}
use Rattle.pointers.proofs.Steps.{as_path, pointer_is_path}
use Rattle.std.specs.Prelude.{Some}

-- What is found is valid, sound, and no deeper or longer.
pub point_kept : (ks : List Bytes) (t u : Tree) → point ks t ≡ Some u → NoMore u t
point_kept ks t u e = look_up_kept (as_path ks t) t u (pointer_is_path ks t ∙ e)

abbrev pub PointerMade : Bytes → Bytes → Bytes → Type 0
PointerMade target pointer b = KeptMade pointer_of (λ t ks. gives (point ks t)) target pointer b

pub pointer_made : (target pointer b : Bytes) (room : ℕ) → Octets target → on_pointer target pointer room ≡ result b
    → PointerMade target pointer b
unfolding on_pointer
pointer_made = kept_made pointer_of (λ t ks. gives (point ks t)) (λ ks t u e. point_kept ks t u (gives_inj e))

pub pointer_limited : (target pointer : Bytes) (room : ℕ) → Octets target → Limited (on_pointer target pointer room)
pointer_limited target pointer room o b e = (pointer_made target pointer b room o e).short
