-- A container without an item, or with one written anew, as the code of delete stores it. `array_led` and `rising_led` of
-- proofs/Leds.antt, `gone` of proofs/Sorteds.antt and `below` of proofs/Onwards.antt tie it to `remains`.
use Rattle.layout.specs.Parts.{nth_part, part_payload, name_in, value_in}
use Rattle.std.specs.Prelude.{ℕ, ◌+◌, ◌≡◌, cond, List, [], ◌∷◌, length, Some}
use Rattle.layout.specs.Bytes.{Bytes}
use Rattle.layout.specs.Entry.{entry_of}
use Rattle.layout.specs.Read.{header}
use Rattle.layout.specs.Patch.{patch}
use Rattle.layout.specs.Order.{same_bytes}
use Rattle.layout.specs.declared.parts.MemberAt.{MemberAt}
use Rattle.edits.specs.Keypath.{Step}
use Rattle.edits.specs.Spot.{spot}
use Rattle.layout.specs.declared.parts.PartAt.{PartAt}
use Rattle.edits.specs.Remains.{remains_of}

-- What is stored of it, and its length.
pub record Stores (r : ℕ) (before after : Bytes) (at : ℕ) (b : Bytes) : Type 0 where
  pub length_is : r ≡ length b
  pub stored : after ≡ patch before at b

-- A part that some step leads to; and what is stored of the container without it, for each such step.
abbrev pub LedTo : Bytes → PartAt → Type 0
LedTo s a = (p : Step) × (spot (header s) s p ≡ Some a)

abbrev pub StoresBy : Bytes → PartAt → ℕ → Bytes → Bytes → ℕ → Type 0
StoresBy s a r before after at = (p : Step) → spot (header s) s p ≡ Some a → Stores r before after at (remains_of s (p ∷ []))

-- The name of member `k`.
abbrev pub name_of : Bytes → ℕ → ℕ → Bytes
name_of s n k = part_payload s (nth_part s (n + n) k)

-- The value of a member and its entry, where the values of a name are written anew.
abbrev pub anew_value : Bytes → Bytes → List Step → MemberAt → Bytes
anew_value s n p m = cond (same_bytes n (name_in s m)) (remains_of (value_in s m) p) (value_in s m)

abbrev pub anew_entry : Bytes → Bytes → List Step → MemberAt → ℕ
anew_entry s n p m = cond (same_bytes n (name_in s m)) (entry_of 5 (length (remains_of (value_in s m) p))) m.val.jentry
