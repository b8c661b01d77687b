-- Records of equal values. What a value is, document 01 says from "The value of a number or extension" on; of trees the layout's
-- `Same` says it, and `same` as a test.
use Rattle.std.specs.Prelude.{◌≡◌, Bool, false}
use Rattle.layout.specs.Bytes.{Bytes}
use Rattle.layout.specs.Answer.{Answer, gives, refused}
use Rattle.layout.specs.Tree.{Tree}
use Rattle.layout.specs.Order.{order, same_bytes}
use Rattle.layout.specs.Read.{read}
use Rattle.layout.specs.Value.{Same, same_kind, same}

-- Both are readable, and what they read as has equal values.
abbrev pub EqualValues : Bytes → Bytes → Type 0
EqualValues a b = (t u : Tree) × (read a ≡ gives t) × (read b ≡ gives u) × Same t u

-- The same as a test, which computes: `equal_values_is` of proofs/Grades.antt.
abbrev pub both_same : Answer Tree → Answer Tree → Bool
both_same (gives t) (gives u) = same t u
both_same (gives t) (refused r) = false
both_same (refused r) b = false

unfoldable pub equal_values : Bytes → Bytes → Bool
unfolding read same_kind same_bytes order
equal_values a b = both_same (read a) (read b)
