-- A buffer with bytes stored in it.
use Rattle.std.specs.Prelude.{ℕ, suc, [], ◌∷◌, set}
use Rattle.layout.specs.Bytes.{Bytes}

-- `old`, with the bytes stored from place `at` on; a byte whose place lies outside is not stored.
unfoldable pub patch : Bytes → ℕ → Bytes → Bytes
patch old at [] = old
patch old at (b ∷ bs) = patch (set old at b) (suc at) bs
