-- An array of names beside an array of values, as object build is handed them: document 01, "a name that is no string, or unequal
-- counts". `strings_parts` of proofs/Builds.antt says what the test asks of the parts of the array.
use Rattle.std.specs.Prelude.{ℕ, zero, suc, ◌+◌, ◌≡◌, Bool, true, ◌&&◌, eqb, Ok}
use Rattle.layout.specs.Bytes.{Bytes}
use Rattle.layout.specs.Entry.{code_of, entry_at}
use Rattle.layout.specs.Read.{header, read}
use Rattle.layout.specs.Check.{checked}
use Rattle.layout.specs.declared.util.Header.TheVariants.{Array}

-- Whether the `k` entries from the `i`th on are those of strings.
unfoldable pub strings_at : Bytes → ℕ → ℕ → Bool
strings_at s i zero = true
strings_at s i (suc k) = eqb (code_of (entry_at s i)) 1 && strings_at s (i + 1) k

-- Readable arrays of `n` names, all strings, and of `n` values.
pub record Pairs (ks vs : Bytes) (n : ℕ) : Type 0 where
  pub names : checked (read ks) ≡ Ok tt
  pub values : checked (read vs) ≡ Ok tt
  pub keys : header ks ≡ Ok (Array n)
  pub vals : header vs ≡ Ok (Array n)
  pub strings : strings_at ks 0 n ≡ true
