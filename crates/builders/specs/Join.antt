-- Two records written as one container: the header, the entries that each gives, the payloads that each gives. A record gives
-- the items of its table, of which a scalar has one, or itself whole as one item. That this is an array's record says
-- `joined_encode` of proofs/Joins.antt, and that it is an object's `joined_object` of proofs/Builds.antt.
use Rattle.std.specs.Prelude.{ℕ, ◌+◌, ◌*◌, ◌-◌, ◌≤◌, ◌++◌, length, take, drop, Ok, Err, Result}
use Rattle.layout.specs.Bytes.{Bytes, be32}
use Rattle.layout.specs.Entry.{entry_of}
use Rattle.layout.specs.declared.util.Header.{Header}
use Rattle.layout.specs.declared.util.Header.TheVariants.{Array, Object, Scalar}
use Rattle.builders.specs.declared.join.Given.{Given}
use Rattle.builders.specs.declared.join.Given.TheVariants.{Table, Whole}
use Rattle.layout.specs.declared.refusal.Refusal.{Refusal}

-- How many items.
unfoldable pub given_count : Given → ℕ
given_count (Table n) = n
given_count Whole = 1

-- Their entries, and where their payloads start.
unfoldable pub given_entries : Bytes → Given → Bytes
given_entries s (Table n) = take (4 * n) (drop 4 s)
given_entries s Whole = be32 (entry_of 5 (length s))

unfoldable pub given_start : Given → ℕ
given_start (Table n) = 4 + 4 * n
given_start Whole = 0

-- What is given lies in the bytes, which are no more than a record may have.
pub record Lies (s : Bytes) (g : Given) : Type 0 where
  pub starts : given_start g ≤ length s
  pub short : length s ≤ 65536

-- A record as one item.
abbrev pub as_one : Result Header Refusal → Given
as_one (Ok (Array n)) = Whole
as_one (Ok (Object n)) = Whole
as_one (Ok (Scalar n)) = Table 1
as_one (Err r) = Whole

unfoldable pub joined : ℕ → Bytes → Given → Bytes → Given → Bytes
joined w s g r h =
    be32 w ++ ((given_entries s g ++ given_entries r h) ++ (drop (given_start g) s ++ drop (given_start h) r))

unfoldable pub joined_length : Bytes → Given → Bytes → Given → ℕ
joined_length s g r h =
    4 + 4 * (given_count g + given_count h) + ((length s - given_start g) + (length r - given_start h))
