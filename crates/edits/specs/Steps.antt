-- The steps of a path record by its parts, as the code reads them. proofs/Paths.antt ties them to `path_of`.
use Rattle.std.specs.Prelude.{ℕ, ◌^◌, Bool, true, cond, ◌&&◌, List, [], ◌∷◌, ltb, eqb, ℤ, pos, length, Ok, Err, Some, None, Result, Option}
use Rattle.std.specs.Int.Signed.{mag}
use Rattle.std.specs.Option.{is_some}
use Rattle.layout.specs.Bytes.{Bytes}
use Rattle.layout.specs.Answer.{Answer, gives, refused}
use Rattle.layout.specs.Encode.{Part}
use Rattle.layout.specs.Entry.{code}
use Rattle.layout.specs.Number.{decoded}
use Rattle.layout.specs.declared.number.Number.{Number}
use Rattle.layout.specs.declared.number.Number.TheVariants.{Nan, Infinity, NegInfinity, Int64, UInt64, Float64, Decimal64, WideDecimal}
use Rattle.edits.specs.Keypath.{Step, name, index}
use Rattle.edits.specs.Find.{place}
use Rattle.edits.specs.declared.keypath.KeyPath.{KeyPath}
use Rattle.edits.specs.declared.keypath.KeyPath.TheVariants.{Index, Name}
use Rattle.layout.specs.declared.refusal.Refusal.{Refusal}
use Rattle.layout.specs.declared.refusal.Refusal.TheVariants.{Path}

unfoldable pub int_key : ℤ → Option KeyPath
int_key z = cond (ltb (mag z) (2 ^ 31)) (Some (Index z)) None

unfoldable pub number_key : Number → Option KeyPath
number_key Nan = None
number_key Infinity = None
number_key NegInfinity = None
number_key (Int64 z) = int_key z
number_key (UInt64 v) = int_key (pos v)
number_key (Float64 b) = None
number_key (Decimal64 z s) = None
number_key (WideDecimal n) = None

-- A payload that is no number is none either.
abbrev pub decoded_key : Result Number Refusal → Option KeyPath
decoded_key (Ok n) = number_key n
decoded_key (Err r) = None

-- An item of the path, by the code of its entry and its payload.
unfoldable pub code_key : ℕ → Bytes → Option KeyPath
code_key c b = cond (eqb c 1) (Some Name) (cond (eqb c 2) (decoded_key (decoded b)) None)

abbrev pub is_step : Option KeyPath → Bool
is_step k = is_some k

-- What is no index counts as a name by its payload: in a path that was read whole it is one.
unfoldable pub step : Option KeyPath → Bytes → Step
step (Some (Index z)) b = index z
step (Some Name) b = name b
step None b = name b

-- The item of an array that it means among `n`.
unfoldable pub key_place : Option KeyPath → ℕ → Option ℕ
key_place (Some (Index z)) n = place z n
key_place (Some Name) n = None
key_place None n = None

abbrev pub part_key : Part → Option KeyPath
part_key p = code_key (code p.kind) p.bytes

abbrev pub part_step : Part → Step
part_step p = step (part_key p) p.bytes

unfoldable pub are_steps : List Part → Bool
are_steps [] = true
are_steps (p ∷ ps) = is_step (part_key p) && are_steps ps

abbrev pub part_steps : List Part → List Step
part_steps [] = []
part_steps (p ∷ ps) = part_step p ∷ part_steps ps

abbrev pub steps_told : Answer (List Step) → Result ℕ Refusal
steps_told (gives p) = Ok (length p)
steps_told (refused r) = Err Path
