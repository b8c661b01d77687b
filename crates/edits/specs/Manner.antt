-- How a container is written anew: in runs of its parts, or by the search.
use Rattle.layout.specs.Parts.{rises}
use Rattle.std.specs.Prelude.{ℕ, ◌+◌, ◌≡◌, ◌⊎◌, true, cond, Ok, Err, Result, Some, None, Option}
use Rattle.layout.specs.Bytes.{Bytes}
use Rattle.layout.specs.Read.{header}
use Rattle.layout.specs.declared.util.Header.{Header}
use Rattle.layout.specs.declared.util.Header.TheVariants.{Array, Object, Scalar}
use Rattle.edits.specs.declared.delete.Manner.{Manner}
use Rattle.edits.specs.declared.delete.Manner.TheVariants.{Items, Rising, Unsorted}
use Rattle.layout.specs.declared.refusal.Refusal.{Refusal}

-- How a container is written anew.
abbrev pub manner_of : Result Header Refusal → Bytes → Option Manner
manner_of (Ok (Array n)) s = Some (Items n)
manner_of (Ok (Object n)) s = cond (rises s n) (Some (Rising n)) (Some (Unsorted n))
manner_of (Ok (Scalar n)) s = None
manner_of (Err r) s = None

-- A container whose `n` parts can be copied in runs: an array, or an object whose names rise.
abbrev pub InRuns : Bytes → ℕ → Type 0
InRuns s n =
    (header s ≡ Ok (Array n))
    ⊎ ((m : ℕ) × (header s ≡ Ok (Object m)) × (n ≡ m + m) × (rises s m ≡ true))
