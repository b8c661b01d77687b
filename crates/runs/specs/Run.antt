-- A run: document 01, "A result, the bytes filled, goes to the shelf's end", and demand 3, "a result joins the shelf, anything else
-- leaves it as it was, and nobody else writes to it".
use Rattle.std.specs.Prelude.{List, [], ◌∷◌, ◌++◌, length, take, get_or, Ok, Err, Some, None}
use Rattle.layout.specs.Bytes.{Bytes}
use Rattle.layout.specs.Ended.{Outcome, ending, filled}
use Rattle.runs.specs.Call.{Call, outcome, There}
use Rattle.layout.specs.Ended.{Ending}

-- Document 01's shelf: records "in a row".
abbrev pub Shelf : Type 0
Shelf = List Bytes

-- What document 01 gives a call on a shelf. That the places are there is `Takes`, below.
abbrev pub outcome_on : Call → Shelf → Outcome
outcome_on c shelf =
    outcome c.edit (get_or shelf c.left []) (get_or shelf c.right []) c.path (length c.buffer)

-- How it ends, which is what the function answers, and what it leaves in its buffer: the two equations of `Ended`.
abbrev pub ends : Call → Shelf → Ending
ends c shelf = ending (outcome_on c shelf)

abbrev pub leaves : Call → Shelf → Bytes
leaves c shelf = filled (outcome_on c shelf) c.buffer

-- The shelf behind a call that ended so and left this in its buffer.
abbrev pub shelved : Ending → Bytes → Shelf → Shelf
shelved (Ok (Some n)) buffer shelf = shelf ++ (take n buffer ∷ [])
shelved (Ok None) buffer shelf = shelf
shelved (Err r) buffer shelf = shelf

abbrev pub after : Call → Shelf → Shelf
after c shelf = shelved (ends c shelf) (leaves c shelf) shelf

-- The shelf after a list of calls, and how each of them ended.
abbrev pub run : List Call → Shelf → Shelf
run [] shelf = shelf
run (c ∷ cs) shelf = run cs (after c shelf)

abbrev pub endings : List Call → Shelf → List Ending
endings [] shelf = []
endings (c ∷ cs) shelf = ends c shelf ∷ endings cs (after c shelf)

-- Each call of the list takes records "then on its shelf".
abbrev pub Takes : List Call → Shelf → Type 0
Takes [] shelf = Unit {0}
Takes (c ∷ cs) shelf = There c.edit c.left c.right (length shelf) × Takes cs (after c shelf)
