-- Path records: document 01, "A path is itself an array record: strings are names, integers of any listed width, 00 among them,
-- from −2^31 to 2^31−1 are indexes", and 6, "the path is unreadable, no array, or holds another kind of item".
use Rattle.std.specs.Prelude.{suc, ◌^◌, cond, List, [], ◌∷◌, ltb, ℤ, pos, negsuc, Err, Result, Ok}
use Rattle.std.specs.Int.Signed.{mag}
use Rattle.layout.specs.Bytes.{Bytes}
use Rattle.layout.specs.Answer.{Answer, gives, refused, ◌>>=◌}
use Rattle.layout.specs.Number.{decoded}
use Rattle.layout.specs.Decimal.{decimal}
use Rattle.layout.specs.Tree.{Tree, null, boolean, number, string, extension, array, object, Items, none, item}
use Rattle.layout.specs.Read.{read}
use Rattle.layout.specs.declared.number.Number.{Number}
use Rattle.layout.specs.declared.number.Number.TheVariants.{Nan, Infinity, NegInfinity, Int64, UInt64, Float64, Decimal64, WideDecimal}
use Rattle.layout.specs.declared.refusal.Refusal.TheVariants.{Path}
use Rattle.layout.specs.declared.refusal.Refusal.{Refusal}

pub data Step : Type 0 where
  name : Bytes → Step
  index : ℤ → Step

-- "From −2^31 to 2^31−1": `mag` of k and of −k − 1 is k.
unfoldable pub in_range : ℤ → Answer Step
in_range z = cond (ltb (mag z) (2 ^ 31)) (gives (index z)) (refused Path)

-- "Integers of any listed width, 00 among them".
abbrev pub integer : Number → Answer Step
integer Nan = refused Path
integer Infinity = refused Path
integer NegInfinity = refused Path
integer (Int64 z) = in_range z
integer (UInt64 v) = in_range (pos v)
integer (Float64 b) = refused Path
integer (Decimal64 z s) = refused Path
integer (WideDecimal n) = refused Path

abbrev pub integer_of : Result Number Refusal → Answer Step
integer_of (Ok n) = integer n
integer_of (Err r) = refused Path

abbrev pub step_of : Tree → Answer Step
step_of null = refused Path
step_of (boolean x) = refused Path
step_of (number b) = integer_of (decoded b)
step_of (string b) = gives (name b)
step_of (extension b) = refused Path
step_of (array ts) = refused Path
step_of (object ms) = refused Path

abbrev pub steps_of : Items → Answer (List Step)
steps_of none = gives []
steps_of (item t ts) = do
  s ← step_of t
  p ← steps_of ts
  gives (s ∷ p)

-- "No array".
abbrev pub path_in : Tree → Answer (List Step)
path_in null = refused Path
path_in (boolean x) = refused Path
path_in (number b) = refused Path
path_in (string b) = refused Path
path_in (extension b) = refused Path
path_in (array ts) = steps_of ts
path_in (object ms) = refused Path

-- "The path is unreadable", whatever its own number would be.
abbrev pub or_path : {A : Type 0} → Answer A → Answer A
or_path (gives a) = gives a
or_path (refused r) = refused Path

unfoldable pub path_of : Bytes → Answer (List Step)
unfolding read decoded in_range ◌>>=◌
path_of b = do
  t ← or_path (read b)
  path_in t

-- "On an object an index stands for its decimal text", a minus sign before that of a negative one; `negsuc k` is −k − 1.
unfoldable pub index_text : ℤ → Bytes
unfolding decimal
index_text (pos k) = decimal 10 k
index_text (negsuc k) = 0x2D ∷ decimal 10 (suc k)
