-- What the loop leaves in the buffer that stores members one after another, each at four places of its own: its two entries, its
-- name and its value. Behind the header it is the object's record: `woven_record` of proofs/Weaves.antt.
use Rattle.std.specs.Prelude.{ℕ, ◌+◌, List, [], ◌∷◌, ◌++◌, length}
use Rattle.layout.specs.Bytes.{Bytes, be32}
use Rattle.layout.specs.Patch.{patch}
use Rattle.layout.specs.Parts.{past}
use Rattle.layout.specs.declared.parts.MemberAt.{MemberAt}
use Rattle.layout.specs.declared.parts.Places.{Places}

-- The places behind a member with this name and value.
abbrev pub behind : Bytes → Bytes → Places → Places
behind n v at = past at (length n) (length v)

-- The entry that a member's value has where it stands.
abbrev pub own_entry : MemberAt → ℕ
own_entry m = m.val.jentry

-- The entries of values are given apart: a value that is written anew has another.
module _ (name value : MemberAt → Bytes) (entry : MemberAt → ℕ) where
  abbrev pub stored : Bytes → ℕ → ℕ → ℕ → ℕ → MemberAt → Bytes
  stored o a b c d m =
      patch (patch (patch (patch o a (be32 m.key.jentry)) b (be32 (entry m))) c (name m)) d (value m)

  unfoldable pub woven : Bytes → ℕ → ℕ → ℕ → ℕ → List MemberAt → Bytes
  woven o a b c d [] = o
  woven o a b c d (m ∷ ms) =
      woven (stored o a b c d m) (a + 4) (b + 4) (c + length (name m)) (d + length (value m)) ms

-- One column of the members: what `f` gives of each, in a row.
unfoldable pub column : (MemberAt → Bytes) → List MemberAt → Bytes
column f [] = []
column f (m ∷ ms) = f m ++ column f ms
