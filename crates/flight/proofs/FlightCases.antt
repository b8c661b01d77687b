-- Worked cases of document 02 §5 as one table: what the check answers of a record, and how an edit ends. `worked` proves every line,
-- about the definitions that the contracts cite.
use Prim.Native.Nat.{ℕ, zero, suc, ◌+◌}
use mathlib.Core.Path.{◌≡◌, refl}
use mathlib.Core.List.{List, [], ◌∷◌, ◌++◌}
use lib.ListN.{length, replicate}
use Rattle.layout.specs.Bytes.{Bytes, be32}
use Rattle.layout.specs.Tree.{Tree, array, object, none, item, empty, member}
use Rattle.layout.specs.Encode.{encode}
use Rattle.layout.specs.Order.{order, before, same_bytes}
use Rattle.layout.specs.Check.{checked}
use Rattle.layout.specs.Ended.{Outcome, result, refusal}
use Rattle.layout.specs.declared.refusal.Refusal.TheVariants.{Short, Layout, Path, Kind, Buffer, Profile}
use Rattle.layout.proofs.Lists.{Each}
use Rattle.layout.proofs.Cases.{◌▸◌, ◌also◌}
use Rattle.builders.specs.Order.{has, distinct}
use Rattle.edits.specs.Path.{on_path}
use Rattle.edits.specs.Strip.{on_one}
use Rattle.flight.specs.Flight.{flight, flight_delete_by, flight_strip, on_flights}
use Rattle.std.specs.Prelude.{Ok, Err, Result}
use Rattle.layout.specs.declared.refusal.Refusal.{Refusal}

-- ---- what a line says

data Line : Type 0 where
  says : Bytes → Result (Unit {0}) Refusal → Line
  ends : Outcome → Outcome → Line

abbrev Holds : Line → Type 0
Holds (says b c) = checked (flight b) ≡ c
Holds (ends o p) = o ≡ p

-- ---- records and paths

-- {"a":1}, {"b":true}, and document 01's D, {"a":null,"a":true}.
abbrev A : Bytes
A = 0x40000001 ▸ 0x10000001 ▸ 0x20000002 ▸ 0x61 ∷ 0x50 ∷ 0x01 ∷ []

abbrev true_b : Bytes
true_b = 0x40000001 ▸ 0x10000001 ▸ 0x40000000 ▸ 0x62 ∷ []

abbrev D : Bytes
D = 0x40000002 ▸ 0x10000001 ▸ 0x10000001 ▸ 0x00000000 ▸ 0x40000000 ▸ 0x61 ∷ 0x61 ∷ []

abbrev no_items : Bytes
no_items = 0x80000000 ▸ []

abbrev no_members : Bytes
no_members = 0x40000000 ▸ []

abbrev root_null : Bytes
root_null = 0x20000000 ▸ 0x00000000 ▸ []

-- A damaged record.
abbrev cut_short : Bytes
cut_short = 0x40 ∷ 0x00 ∷ 0x00 ∷ []

-- A number at the root, and in an array.
abbrev root_number : Bytes → Bytes
root_number b = 0x20000000 ▸ (0x20000000 + length b) ▸ b

abbrev number_in : Bytes → Bytes
number_in b = 0x80000001 ▸ (0x20000000 + length b) ▸ b

-- An object whose one name, with the value null, is this.
abbrev named : Bytes → Bytes
named n = 0x40000001 ▸ (0x10000000 + length n) ▸ 0x00000000 ▸ n

-- A text so many times over.
abbrev times : ℕ → Bytes → Bytes
times zero b = []
times (suc n) b = b ++ times n b

-- The path of the name "a".
abbrev name_a : Bytes
name_a = 0x80000001 ▸ 0x10000001 ▸ 0x61 ∷ []

-- `n + 1` arrays, and objects, one in another.
abbrev arrays : ℕ → Tree
arrays zero = array none
arrays (suc n) = array (item (arrays n) none)

abbrev objects : ℕ → Tree
objects zero = object empty
objects (suc n) = object (member (0x61 ∷ []) (objects n) empty)

-- ---- the table

abbrev table : List Line
table =
    -- "Sound": A is, and D is not.
    says A (Ok tt)
    ∷ says no_members (Ok tt)
    ∷ says root_null (Ok tt)
    ∷ says D (Err Profile)
    -- "At most 8 deep".
    ∷ says (encode (arrays 7)) (Ok tt)
    ∷ says (encode (arrays 8)) (Err Profile)
    ∷ says (encode (objects 7)) (Ok tt)
    ∷ says (encode (objects 8)) (Err Profile)
    -- "Names of 1 to 32 characters": é is one character in two bytes; a string may be empty.
    ∷ says (named []) (Err Profile)
    ∷ says (named (replicate 32 0x61)) (Ok tt)
    ∷ says (named (replicate 33 0x61)) (Err Profile)
    ∷ says (named (times 32 (0xC3 ∷ 0xA9 ∷ []))) (Ok tt)
    ∷ says (named (times 33 (0xC3 ∷ 0xA9 ∷ []))) (Err Profile)
    ∷ says (0x20000000 ▸ 0x10000000 ▸ []) (Ok tt)
    -- "No extension, float, decimal, NaN or infinity", at the root and inside; integers of every kind.
    ∷ says (0x20000000 ▸ 0x60000001 ▸ 0x07 ∷ []) (Err Profile)
    ∷ says (0x80000001 ▸ 0x60000001 ▸ 0x07 ∷ []) (Err Profile)
    ∷ says (root_number (0x60 ∷ replicate 8 0)) (Err Profile)
    ∷ says (root_number (0x70 ∷ replicate 9 0)) (Err Profile)
    ∷ says (root_number (0x10 ∷ [])) (Err Profile)
    ∷ says (root_number (0x20 ∷ [])) (Err Profile)
    ∷ says (root_number (0x30 ∷ [])) (Err Profile)
    ∷ says (number_in (0x10 ∷ [])) (Err Profile)
    ∷ says (root_number (0x00 ∷ [])) (Ok tt)
    ∷ says (root_number (0x40 ∷ 0xFF ∷ [])) (Ok tt)
    ∷ says (number_in (0x50 ∷ 0x01 ∷ 0x00 ∷ [])) (Ok tt)
    -- 1 to 5, and then 12.
    ∷ says cut_short (Err Short)
    ∷ says (0x80000001 ▸ 0x70000000 ▸ []) (Err Layout)
    -- "Each result has the bytes that the plain edit gives".
    ∷ ends (on_flights A true_b 24) (result (0x40000002 ▸ 0x10000001 ▸ 0x10000001 ▸ 0x20000002 ▸ 0x40000000 ▸ 0x61 ∷ 0x62 ∷ 0x50 ∷ 0x01 ∷ []))
    ∷ ends (on_path flight_delete_by A name_a 4) (result no_members)
    ∷ ends (on_one flight_strip (named (0x61 ∷ [])) 4) (result no_members)
    -- "An input's stands after 6 and before 7".
    ∷ ends (on_path flight_delete_by (root_number (0x10 ∷ [])) [] 65536) (refusal Path)
    ∷ ends (on_path flight_delete_by (root_number (0x10 ∷ [])) no_items 65536) (refusal Profile)
    ∷ ends (on_path flight_delete_by root_null no_items 65536) (refusal Kind)
    ∷ ends (on_flights (number_in (0x10 ∷ [])) cut_short 65536) (refusal Short)
    ∷ ends (on_flights A (number_in (0x10 ∷ [])) 0) (refusal Profile)
    -- 12 in 8's place: a repeated name is outside.
    ∷ ends (on_flights no_members D 65536) (refusal Profile)
    ∷ ends (on_one flight_strip D 65536) (refusal Profile)
    -- "A result's after 9", and before 10: an object of 8 levels beside a record that is none.
    ∷ ends (on_flights (encode (objects 7)) root_null 65536) (refusal Profile)
    ∷ ends (on_flights (encode (objects 7)) root_null 0) (refusal Profile)
    ∷ ends (on_flights root_null (encode (objects 7)) 65536) (refusal Profile)
    ∷ ends (on_flights no_items (encode (objects 7)) 0) (refusal Profile)
    -- What has 8 levels without a new one is a result, and 10 where there is no room.
    ∷ ends (on_flights (encode (arrays 7)) no_items 60) (result (encode (arrays 7)))
    ∷ ends (on_flights (encode (objects 7)) no_members 0) (refusal Buffer)
    ∷ []

worked : Each Holds table
unfolding flight on_path flight_delete_by on_one flight_strip on_flights order before be32 same_bytes has distinct
worked =
    refl
    also refl
    also refl
    also refl
    also refl
    also refl
    also refl
    also refl
    also refl
    also refl
    also refl
    also refl
    also refl
    also refl
    also refl
    also refl
    also refl
    also refl
    also refl
    also refl
    also refl
    also refl
    also refl
    also refl
    also refl
    also refl
    also refl
    also refl
    also refl
    also refl
    also refl
    also refl
    also refl
    also refl
    also refl
    also refl
    also refl
    also refl
    also refl
    also refl
    also refl
    also refl
    also refl
    also tt
