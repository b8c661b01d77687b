-- The part of a container that a step finds, by its place. proofs/Spots.antt ties it to `step_into`.
use Rattle.std.specs.Prelude.{◌≡◌, ℕ, suc, ◌+◌, Bool, cond, List, [], ◌∷◌, ltb, ℤ, pos, negsuc, Ok, Err, Some, None, Result, Option}
use Rattle.layout.specs.Bytes.{Bytes}
use Rattle.layout.specs.declared.util.Header.{Header}
use Rattle.layout.specs.declared.util.Header.TheVariants.{Array, Object, Scalar}
use Rattle.layout.specs.Entry.{lengths}
use Rattle.layout.specs.Order.{same_bytes}
use Rattle.layout.specs.Parts.{names_of, nth_part}
use Rattle.edits.specs.Keypath.{Step}
use Rattle.edits.specs.Find.{step_place, step_name}
use Rattle.layout.specs.declared.refusal.Refusal.{Refusal}
use Rattle.layout.specs.declared.parts.PartAt.{PartAt}

-- A sum, which may be negative, as a place among `n` items.
unfoldable pub among : ℤ → ℕ → Option ℕ
among (pos k) n = cond (ltb k n) (Some k) None
among (negsuc k) n = None

-- Which of the names is the first that has equal bytes.
abbrev pub one_more : Option ℕ → Option ℕ
one_more None = None
one_more (Some k) = Some (suc k)

unfoldable pub first : Bytes → List Bytes → Option ℕ
first n [] = None
first n (m ∷ ns) = cond (same_bytes n m) (Some 0) (one_more (first n ns))

-- The same by any test of a name; and that calls of a closure tell one.
unfoldable pub first_meant : (Bytes → Bool) → List Bytes → Option ℕ
first_meant meant [] = None
first_meant meant (m ∷ ns) = cond (meant m) (Some 0) (one_more (first_meant meant ns))

abbrev pub Tells : (Bytes → Bool → Type 0) → (Bytes → Bool) → Type 0
Tells returns meant = (name : Bytes) (answer : Bool) → returns name answer → answer ≡ meant name

unfoldable pub spot_at : Bytes → ℕ → Option ℕ → Option PartAt
spot_at s n None = None
spot_at s n (Some k) = Some (nth_part s n k)

-- The value of member `k` of `n`: its part stands behind those of the names.
unfoldable pub spot_member : Bytes → ℕ → Option ℕ → Option PartAt
spot_member s n None = None
spot_member s n (Some k) = Some (nth_part s (n + n) (n + k))

-- The same by the part of its name: the names from there on, and the values before it, stand between the two.
abbrev pub value_of : Bytes → ℕ → Option PartAt → Option PartAt
value_of s n None = None
value_of s n (Some a) = Some (record { index = n + a.index; place = a.place + lengths s a.index n })

unfoldable pub spot : Result Header Refusal → Bytes → Step → Option PartAt
unfolding spot_at spot_member
spot (Ok (Array n)) s t = spot_at s n (step_place t n)
spot (Ok (Object n)) s t = spot_member s n (first (step_name t) (names_of s n))
spot (Ok (Scalar n)) s t = None
spot (Err r) s t = None
