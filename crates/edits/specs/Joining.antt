-- What two records give to an array, as the code of concat goes. proofs/Joinings.antt ties it to `concat`.
use Rattle.std.specs.Prelude.{◌≡◌, Bool, false, not, ℕ, Ok, Err, Result}
use Rattle.layout.specs.declared.util.Header.{Header}
use Rattle.layout.specs.declared.util.Header.TheVariants.{Array, Object, Scalar}
use Rattle.builders.specs.Join.{as_one}
use Rattle.builders.specs.declared.join.Given.{Given}
use Rattle.builders.specs.declared.join.Given.TheVariants.{Table, Whole}
use Rattle.layout.specs.declared.refusal.Refusal.{Refusal}

-- An array gives the items of its table; any other record is one item.
abbrev pub as_given : Result Header Refusal → Given
as_given (Ok (Array n)) = Table n
as_given (Ok (Object n)) = as_one (Ok (Object n))
as_given (Ok (Scalar n)) = as_one (Ok (Scalar n))
as_given (Err r) = as_one (Err r)

-- A container that is given whole stands one level deeper.
abbrev pub is_deep : Given → Bool → Bool
is_deep (Table n) fits = false
is_deep Whole fits = not fits

-- Not two objects.
abbrev pub NoPair : Result Header Refusal → Result Header Refusal → Type 0
NoPair g h = (m n : ℕ) → g ≡ Ok (Object m) → h ≡ Ok (Object n) → ⊥
