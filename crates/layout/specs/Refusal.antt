-- The numbers: the ten of document 01, "Who can cause each number", and those that document 02 adds: §1 the eleventh, §5 the twelfth.
use Rattle.std.specs.Prelude.{ℕ, Bool, false, ◌||◌, List, [], ◌∷◌, eqb}
use Rattle.layout.specs.declared.refusal.Refusal.{Refusal}
use Rattle.layout.specs.declared.refusal.Refusal.TheVariants.{Short, Layout, Text, Number, Limit, Path, Kind, Repeated, Result, Buffer, Pointer, Profile}

abbrev pub number : Refusal → ℕ
number Short = 1
number Layout = 2
number Text = 3
number Number = 4
number Limit = 5
number Path = 6
number Kind = 7
number Repeated = 8
number Result = 9
number Buffer = 10
number Pointer = 11
number Profile = 12

-- Whether a refusal is by one of these numbers.
abbrev pub is_one_of : List ℕ → Refusal → Bool
is_one_of [] r = false
is_one_of (n ∷ ns) r = eqb (number r) n || is_one_of ns r

-- "Sender of a record: 1 short, 2 layout, 3 text, 4 number, 5 too long or deep." Reading a record has no other numbers: `read_sent` of
-- proofs/Refusals.antt.
abbrev pub sender : List ℕ
sender = 1 ∷ 2 ∷ 3 ∷ 4 ∷ 5 ∷ []
