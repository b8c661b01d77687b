-- Which numbers a path and the edits can have, beside those of reading: 6 of a path, 7 of delete, 8 of concat and of strip.
use Prim.Native.Nat.{◌^◌}
use lib.Dec.{ltb}
use lib.IntN.{ℤ}
use lib.Signed.{mag}
use Rattle.layout.specs.Bytes.{Bytes}
use Rattle.layout.specs.Answer.{Answer, gives, refused}
use Rattle.layout.specs.Number.{decoded}
use Rattle.layout.specs.Tree.{Tree, null, boolean, number, string, extension, array, object, Items, none, item, Members}
use Rattle.layout.specs.Read.{read}
use Rattle.layout.specs.declared.number.Number.{Number}
use Rattle.layout.specs.declared.number.Number.TheVariants.{Nan, Infinity, NegInfinity, Int64, UInt64, Float64, Decimal64, WideDecimal}
use Rattle.layout.specs.declared.refusal.Refusal.{Refusal}
use Rattle.layout.specs.declared.refusal.Refusal.TheVariants.{Path, Kind, Repeated}
use Rattle.layout.proofs.Refusals.{RefusedBy, by_bind, by_require, by_cond}
use Rattle.edits.specs.Keypath.{index, in_range, integer, step_of, steps_of, path_in, or_path, path_of, integer_of}
use Rattle.edits.specs.Delete.{deletable}
use Rattle.edits.specs.Concat.{members_in, overlay_or, concat}
use Rattle.edits.specs.Strip.{stripped, unrepeated, strip}
use Rattle.std.specs.Prelude.{Err, Some, None, Option, Result, Ok}

-- A path: 6, whatever is wrong with it.
module _ (P : Refusal → Type 0) (path : P Path) where
  range_by : (z : ℤ) → RefusedBy P (in_range z)
  unfolding in_range
  range_by z = by_cond P (ltb (mag z) (2 ^ 31)) (index z) Path path

  integer_by : (n : Number) → RefusedBy P (integer n)
  integer_by Nan = path
  integer_by Infinity = path
  integer_by NegInfinity = path
  integer_by (Int64 z) = range_by z
  integer_by (UInt64 v) = range_by _
  integer_by (Float64 b) = path
  integer_by (Decimal64 z s) = path
  integer_by (WideDecimal n) = path

  integer_of_by : (n : Result Number Refusal) → RefusedBy P (integer_of n)
  integer_of_by (Ok n) = integer_by n
  integer_of_by (Err r) = path

  step_by : (t : Tree) → RefusedBy P (step_of t)
  step_by null = path
  step_by (boolean x) = path
  step_by (number b) = integer_of_by (decoded b)
  step_by (string b) = tt
  step_by (extension b) = path
  step_by (array ts) = path
  step_by (object ms) = path

  steps_by : (ts : Items) → RefusedBy P (steps_of ts)
  steps_by none = tt
  steps_by (item t ts) = by_bind P (step_of t) _ (step_by t) λ s. by_bind P (steps_of ts) _ (steps_by ts) λ p. tt

  array_by : (t : Tree) → RefusedBy P (path_in t)
  array_by null = path
  array_by (boolean x) = path
  array_by (number b) = path
  array_by (string b) = path
  array_by (extension b) = path
  array_by (array ts) = steps_by ts
  array_by (object ms) = path

  unreadable_by : (m : Answer Tree) → RefusedBy P (or_path m)
  unreadable_by (gives t) = tt
  unreadable_by (refused x) = path

  pub path_by : (b : Bytes) → RefusedBy P (path_of b)
  unfolding path_of
  path_by b = by_bind P (or_path (read b)) _ (unreadable_by (read b)) array_by

-- Delete on a root null, boolean, number or string: 7.
pub deletable_by : (P : Refusal → Type 0) → P Kind → (t : Tree) → RefusedBy P (deletable t)
deletable_by P kind null = kind
deletable_by P kind (boolean x) = kind
deletable_by P kind (number b) = kind
deletable_by P kind (string b) = kind
deletable_by P kind (extension b) = tt
deletable_by P kind (array ts) = tt
deletable_by P kind (object ms) = tt

-- A repeated name: 8.
module _ (P : Refusal → Type 0) (repeated : P Repeated) where
  overlay_by : (other : Tree) (ls rs : Option Members) → RefusedBy P (overlay_or other ls rs)
  overlay_by other None rs = tt
  overlay_by other (Some ls) None = tt
  overlay_by other (Some ls) (Some rs) = by_require P _ Repeated _ repeated tt

  pub concat_by : (t u : Tree) → RefusedBy P (concat t u)
  unfolding concat
  concat_by t u = overlay_by _ (members_in t) (members_in u)

  pub strip_by : (t : Tree) → RefusedBy P (strip t)
  unfolding strip
  strip_by t = by_require P (unrepeated t) Repeated (λ _. gives (stripped t)) repeated tt
