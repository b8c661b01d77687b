-- Look-up: document 01, "Edits on readable records".
use Rattle.std.specs.Prelude.{ℕ, zero, suc, ◌-◌, cond, List, [], ◌∷◌, ltb, ℤ, pos, negsuc, Some, None, Option}
use Rattle.layout.specs.Bytes.{Bytes}
use Rattle.layout.specs.Tree.{Tree, null, boolean, number, string, extension, array, object, Items, none, item}
use Rattle.builders.specs.Order.{find}
use Rattle.builders.specs.Build.{count}
use Rattle.edits.specs.Keypath.{Step, name, index, index_text}

-- One step and then the next, as long as something is found.
infixl 40 ◌then◌
abbrev pub ◌then◌ : {A B : Type 0} → Option A → (A → Option B) → Option B
None then f = None
Some a then f = f a

-- The place that an index means among `n` items: "A negative index counts back from the end of the array. An index equal to the
-- count finds nothing." `negsuc k` is −k − 1, so that −1 means the last item.
unfoldable pub place : ℤ → ℕ → Option ℕ
place (pos k) n = cond (ltb k n) (Some k) None
place (negsuc k) n = cond (ltb k n) (Some (n - suc k)) None

-- "A name on an array .. finds nothing."
abbrev pub step_place : Step → ℕ → Option ℕ
step_place (name b) n = None
step_place (index z) n = place z n

-- "On an object an index stands for its decimal text."
abbrev pub step_name : Step → Bytes
step_name (name b) = b
step_name (index z) = index_text z

abbrev pub item_at : Items → ℕ → Option Tree
item_at none i = None
item_at (item t ts) zero = Some t
item_at (item t ts) (suc i) = item_at ts i

-- One step inward: "the first member whose name has equal bytes"; "a step into a scalar, finds nothing".
abbrev pub step_into : Step → Tree → Option Tree
step_into s null = None
step_into s (boolean x) = None
step_into s (number b) = None
step_into s (string b) = None
step_into s (extension b) = None
step_into s (array ts) = step_place s (count ts) then item_at ts
step_into s (object ms) = find (step_name s) ms

-- "An empty path gives the record."
abbrev pub look_up : List Step → Tree → Option Tree
look_up [] t = Some t
look_up (s ∷ p) t = step_into s t then look_up p
