-- Previews: document 02 §3, "Say what an edit would do".
use Rattle.std.specs.Prelude.{ℕ, ◌<◌, ◌≤◌, ◌≡◌, List, [], ◌∷◌, ◌++◌, T, length, Ok, Err, Some, None}
use Rattle.layout.specs.Bytes.{Bytes, Octets}
use Rattle.layout.specs.Refusal.{is_one_of, sender}
use Rattle.layout.specs.Ended.{Outcome, result, refusal, ending}
use Rattle.layout.specs.declared.refusal.Refusal.TheVariants.{Buffer}
use Rattle.builders.specs.Build.{append, build, on_two}
use Rattle.edits.specs.Path.{delete_by, on_path}
use Rattle.edits.specs.Concat.{concat}
use Rattle.edits.specs.Strip.{strip, on_one}
use Rattle.layout.specs.Ended.{Ending}

-- "Give the length or the number that the same edit would give on a copy of the inputs with a result buffer of 65,536 bytes." An edit
-- of given inputs is its outcome by the length of the buffer.
abbrev pub previewed : (ℕ → Outcome) → Ending
previewed edit = ending (edit 65536)

-- What a planner takes a preview for. A length: there is one result, it has that length, every buffer with room for it gets it, and a
-- shorter one gets 10.
pub record Budget (edit : ℕ → Outcome) (n : ℕ) : Type 0 where
  pub bytes : Bytes
  pub as_long : length bytes ≡ n
  pub serves : (room : ℕ) → n ≤ room → edit room ≡ result bytes
  pub short : (room : ℕ) → room < n → edit room ≡ refusal Buffer

-- A number: it is one of these, and every buffer gets it. There is never an absence.
abbrev pub Tells : List ℕ → (ℕ → Outcome) → Ending → Type 0
Tells numbers edit (Ok (Some n)) = Budget edit n
Tells numbers edit (Ok None) = ⊥
Tells numbers edit (Err x) = T (is_one_of numbers x) × ((room : ℕ) → edit room ≡ refusal x)

abbrev pub Foretold : List ℕ → (ℕ → Outcome) → Type 0
Foretold numbers edit = Tells numbers edit (previewed edit)

-- "For delete, concat, strip, append and object build", on any bytes. The sender's numbers are 1 to 5; 10, the lender's, is nowhere.
pub record Previews : Type 0 where
  pub of_delete : (target path : Bytes) → Octets target → Foretold (sender ++ (6 ∷ 7 ∷ [])) (on_path delete_by target path)
  pub of_concat : (left right : Bytes) → Octets left → Octets right → Foretold (sender ++ (8 ∷ 9 ∷ [])) (on_two concat left right)
  pub of_strip : (target : Bytes) → Octets target → Foretold (sender ++ (8 ∷ [])) (on_one strip target)
  pub of_append : (array item : Bytes) → Octets array → Octets item → Foretold (sender ++ (7 ∷ 9 ∷ [])) (on_two append array item)
  pub of_build : (names values : Bytes) → Octets names → Octets values → Foretold (sender ++ (7 ∷ 8 ∷ 9 ∷ [])) (on_two build names values)
