-- An edit of two records, step by step: document 01's order of numbers is the order of these laws.
use Prim.Native.Nat.{ℕ, ◌<◌, ◌≤◌}
use native.Mathlib.Omega.{arith}
use native.Mathlib.Decide.{dec_le}
use mathlib.Core.Path.{◌≡◌, refl, ap, ◌∙◌}
use mathlib.Core.Bool.{Bool, true, false, cond, ◌&&◌}
use lib.Dec.{leb, ltb}
use lib.ListN.{length}
use borrow.Author.Tests.{le-leb, lt-leb, le-ltb, lt-ltb}
use Rattle.layout.specs.Bytes.{Bytes}
use Rattle.layout.specs.Answer.{Answer, gives, refused, ◌>>=◌, require}
use Rattle.layout.specs.Tree.{Tree}
use Rattle.layout.specs.Encode.{encode}
use Rattle.layout.specs.Read.{read}
use Rattle.layout.specs.Limits.{depth, record_length}
use Rattle.layout.specs.Ended.{refusal, into}
use Rattle.layout.specs.Room.{EndedIn, Fits}
use Rattle.layout.specs.declared.refusal.Refusal.{Refusal}
use Rattle.layout.specs.declared.refusal.Refusal.TheVariants.{Result}
use Rattle.layout.proofs.Patches.{in_refused}
use Rattle.layout.proofs.Pipelines.{found_written, record_fits, record_first, record_second, record_given, record_edit}
use Rattle.layout.proofs.Readables.{length_encode}
use Rattle.layout.specs.Pipeline.{within, written}
use Rattle.builders.specs.Build.{on_two}
use Rattle.builders.specs.Room.{sized}
use Rattle.std.specs.Prelude.{Err, Some, Option}
use Rattle.layout.specs.Ended.{Ending}

pub and_false : (a : Bool) → (a && false) ≡ false
and_false true = refl
and_false false = refl

within_deep : (v : Tree) → 64 < depth v → within v ≡ refused Result
unfolding within ◌>>=◌ require
within_deep v h = rw (lt-leb (depth v) 64 h, and_false (leb (record_length v) 65536))

-- A result within the depth is refused by its length alone.
pub written_sized : (v : Tree) (b : Bytes) (room : ℕ) → depth v ≤ 64 → b ≡ encode v → written room (within v) ≡ sized room b
unfolding within sized ◌>>=◌ require
written_sized v b room d e =
    let n : length b ≡ record_length v = ap length e ∙ length_encode v in
    rw (le-leb (depth v) 64 d, n) (go (dec_le (record_length v) 65536))
  where
    go : Dec (record_length v ≤ 65536)
        → written room (require (leb (record_length v) 65536 && true) Result >>= λ _. gives v)
        ≡ cond (ltb 65536 (record_length v)) (refusal Result) (into room b)
    go (yes k) = rw (le-leb (record_length v) 65536 k, le-ltb 65536 (record_length v) k, e)
    go (no k) = rw (lt-leb (record_length v) 65536 (omega arith), lt-ltb 65536 (record_length v) (omega arith))

-- The lines of an edit of two records are those of the pipeline.
abbrev lines : (Tree → Tree → Answer Tree) → Tree → Tree → Answer (Option Tree)
lines edit t u = edit t u >>= λ v. within v >>= λ w. gives (Some w)

module _ (edit : Tree → Tree → Answer Tree) (l r o : Bytes) (room : ℕ) where
  pub two_left : (x : Refusal) → read l ≡ refused x → EndedIn (Err x) o o (on_two edit l r room)
  unfolding on_two
  two_left = record_first read (lines edit) l r room o

  module _ (t : Tree) (hl : read l ≡ gives t) where
    pub two_right : (x : Refusal) → read r ≡ refused x → EndedIn (Err x) o o (on_two edit l r room)
    unfolding on_two
    two_right = record_second read (lines edit) l r room o t hl

    module _ (u : Tree) (hr : read r ≡ gives u) where
      pub two_edit : (x : Refusal) → edit t u ≡ refused x → EndedIn (Err x) o o (on_two edit l r room)
      unfolding on_two ◌>>=◌
      two_edit x e = record_edit read (lines edit) l r room o t hl u hr x (rw e)

      module _ (v : Tree) (he : edit t u ≡ gives v) where
        two_is : on_two edit l r room ≡ written room (within v)
        unfolding on_two ◌>>=◌
        two_is =
            record_given read (lines edit) l r room o t hl u hr (within v >>= λ w. gives (Some w)) (rw he)
            ∙ found_written room (within v)

        pub two_deep : 64 < depth v → EndedIn (Err Result) o o (on_two edit l r room)
        two_deep h = in_refused o _ Result (two_is ∙ ap (written room) (within_deep v h))

        pub two_sized : (e : Ending) (o' b : Bytes) → depth v ≤ 64 → b ≡ encode v → EndedIn e o o' (sized room b)
            → EndedIn e o o' (on_two edit l r room)
        two_sized e o' b d q h = rw (two_is ∙ written_sized v b room d q) h

pub two_fits : (edit : Tree → Tree → Answer Tree) (l r : Bytes) (room : ℕ) → Fits room (on_two edit l r room)
unfolding on_two
two_fits edit l r room = record_fits read (lines edit) l r room
