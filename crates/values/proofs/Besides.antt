-- The members of an object are its names beside its values.
use Prim.Native.Nat.{ℕ, zero, suc}
use mathlib.Core.Path.{◌≡◌, refl}
use mathlib.Core.List.{List, [], ◌∷◌, map}
use Rattle.std.specs.List.{zip}
use Rattle.layout.specs.Bytes.{Bytes}
use Rattle.layout.specs.Left.{Placed, placed_from}
use Rattle.layout.specs.Parts.{next_part}
use Rattle.layout.specs.declared.parts.PartAt.{PartAt}
use Rattle.values.specs.Alike.{beside, member_at, next, members_from}

-- There are none where the values have ended.
pub beside_none : (ns : List Placed) {vs : List Placed} → vs ≡ [] → map beside (zip ns vs) ≡ []
beside_none [] e = refl
beside_none (n ∷ ns) e = rw e

pub beside_from : (s : Bytes) (k v : PartAt) (n : ℕ)
    → map beside (zip (placed_from s k n) (placed_from s v n)) ≡ members_from s (record { key = k; val = v }) n
unfolding placed_from members_from member_at next
beside_from s k v zero = refl
beside_from s k v (suc n) = rw (beside_from s (next_part s k) (next_part s v) n)
