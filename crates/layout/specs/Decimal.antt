-- A number in decimal digits: document 01, "On an object an index stands for its decimal text".
use Rattle.std.specs.Prelude.{ℕ, zero, suc, ◌+◌, ◌/◌, ◌%◌, cond, [], ◌∷◌, ◌++◌, ltb}
use Rattle.layout.specs.Bytes.{Bytes}

-- The digits of a number below 10 ^ `most`, the first of them no 0 but for 0 itself.
unfoldable pub decimal : ℕ → ℕ → Bytes
decimal zero v = []
decimal (suc most) v = cond (ltb v 10) ((48 + v) ∷ []) (decimal most (v / 10) ++ ((48 + v % 10) ∷ []))
