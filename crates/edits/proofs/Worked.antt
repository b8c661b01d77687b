-- Document 01, "Worked bytes": "Marked * are proved". One table, in the document's order, each line a call and the answer that the
-- document gives it; `worked` proves every line, about the definitions that the contracts cite and for a buffer of every length. Two
-- lines without a star stand among them, where their other half has one.
use Prim.Native.Nat.{ℕ}
use mathlib.Core.Path.{◌≡◌, refl}
use mathlib.Core.Bool.{true}
use mathlib.Core.List.{List, [], ◌∷◌}
use Rattle.layout.specs.Bytes.{Bytes, be32, be_value}
use Rattle.layout.specs.Answer.{gives}
use Rattle.layout.specs.Tree.{Tree, null, boolean, number, object, empty, member}
use Rattle.layout.specs.Number.{signed, number_of}
use Rattle.layout.specs.Read.{read}
use Rattle.layout.specs.Check.{checked, soundness}
use Rattle.layout.specs.Ended.{Outcome, result, absence, refusal}
use Rattle.layout.specs.Order.{order, before, same_bytes}
use Rattle.layout.specs.declared.refusal.Refusal.TheVariants.{Short, Layout, Repeated}
use Rattle.layout.proofs.Lists.{Each}
use Rattle.layout.proofs.Cases.{◌▸◌, told, ◌also◌}
use Rattle.builders.specs.Order.{has}
use Rattle.builders.specs.Build.{on_two}
use Rattle.edits.specs.Find.{place}
use Rattle.edits.specs.Path.{get_by, delete_by, on_path}
use Rattle.edits.specs.Concat.{concat}
use Rattle.edits.specs.Strip.{strip, on_one}
use Rattle.std.specs.Prelude.{Ok, Err, Result, Bool, false}
use Rattle.layout.specs.declared.refusal.Refusal.{Refusal}

-- ---- what a line says

data Line : Type 0 where
  reads : Bytes → Tree → Line
  checks : Bytes → Result (Unit {0}) Refusal → Line
  tests : Bytes → Result Bool Refusal → Line
  gets : Bytes → Bytes → Outcome → Line
  deletes : Bytes → Bytes → Outcome → Line
  strips : Bytes → Outcome → Line
  concats : Bytes → Bytes → Outcome → Line

abbrev Holds : Line → Type 0
Holds (reads s t) = read s ≡ gives t
Holds (checks s c) = checked (read s) ≡ c
Holds (tests s c) = soundness (read s) ≡ c
Holds (gets s path o) = (room : ℕ) → on_path get_by s path room ≡ told o room
Holds (deletes s path o) = (room : ℕ) → on_path delete_by s path room ≡ told o room
Holds (strips s o) = (room : ℕ) → on_one strip s room ≡ told o room
Holds (concats l r o) = (room : ℕ) → on_two concat l r room ≡ told o room

-- ---- records and paths

-- "A is 40000001 10000001 20000002 61 5001, that is {"a":1}. D is 40000002 10000001 10000001 00000000 40000000 61 61."
abbrev A : Bytes
A = 0x40000001 ▸ 0x10000001 ▸ 0x20000002 ▸ 0x61 ∷ 0x50 ∷ 0x01 ∷ []

abbrev D : Bytes
D = 0x40000002 ▸ 0x10000001 ▸ 0x10000001 ▸ 0x00000000 ▸ 0x40000000 ▸ 0x61 ∷ 0x61 ∷ []

abbrev nulls : Bytes
nulls = 0x80000001 ▸ 0x00000000 ▸ []

abbrev root_null : Bytes
root_null = 0x20000000 ▸ 0x00000000 ▸ []

abbrev true_a : Bytes
true_a = 0x40000001 ▸ 0x10000001 ▸ 0x40000000 ▸ 0x61 ∷ []

-- The path of one name, and of one index by its number payload.
abbrev name_a : Bytes
name_a = 0x80000001 ▸ 0x10000001 ▸ 0x61 ∷ []

abbrev index_0 : Bytes
index_0 = 0x80000001 ▸ 0x20000001 ▸ 0x00 ∷ []

abbrev index : ℕ → ℕ → Bytes
index first value = 0x80000001 ▸ 0x20000002 ▸ first ∷ value ∷ []

-- ---- the table

abbrev table : List Line
table =
    -- "A is .., that is {"a":1}."
    reads A (object (member (0x61 ∷ []) (number (0x50 ∷ 0x01 ∷ [])) empty))
    -- "* A then 40000001 10000001 40000000 62: 40000002 10000001 10000001 20000002 40000000 61 62 5001."
    ∷ concats A (0x40000001 ▸ 0x10000001 ▸ 0x40000000 ▸ 0x62 ∷ [])
    (result (0x40000002 ▸ 0x10000001 ▸ 0x10000001 ▸ 0x20000002 ▸ 0x40000000 ▸ 0x61 ∷ 0x62 ∷ 0x50 ∷ 0x01 ∷ []))
    -- "* A, path 80000001 10000001 61: 20000000 20000002 5001."
    ∷ gets A name_a (result (0x20000000 ▸ 0x20000002 ▸ 0x50 ∷ 0x01 ∷ []))
    -- "* 80000001 00000000 at index 0 and −1: 20000000 00000000; * at 1 and −2: absent."
    ∷ gets nulls index_0 (result root_null)
    ∷ gets nulls (index 0x40 0xFF) (result root_null)
    ∷ gets nulls (index 0x50 0x01) absence
    ∷ gets nulls (index 0x40 0xFE) absence
    -- "* Its deletion at 0: 80000000. * Its strip: itself."
    ∷ deletes nulls index_0 (result (0x80000000 ▸ []))
    ∷ strips nulls (result nulls)
    -- "* D is readable, not sound. * Strip and * deletion of "a" both give 40000001 10000001 40000000 61."
    ∷ reads D (object (member (0x61 ∷ []) null (member (0x61 ∷ []) (boolean true) empty)))
    ∷ checks D (Ok tt)
    ∷ tests D (Ok false)
    ∷ strips D (result true_a)
    ∷ deletes D name_a (result true_a)
    -- "* 40000000 then D: 8. D then 40000000: 40000001 10000001 00000000 61."
    ∷ concats (0x40000000 ▸ []) D (refusal Repeated)
    ∷ concats D (0x40000000 ▸ []) (result (0x40000001 ▸ 0x10000001 ▸ 0x00000000 ▸ 0x61 ∷ []))
    -- "* Root null then root null: 80000002 00000000 00000000."
    ∷ concats root_null root_null (result (0x80000002 ▸ 0x00000000 ▸ 0x00000000 ▸ []))
    -- "* 400000: 1. .. * 80000000 00: 2."
    ∷ checks (0x40 ∷ 0x00 ∷ 0x00 ∷ []) (Err Short)
    ∷ checks (0x80000000 ▸ 0x00 ∷ []) (Err Layout)
    ∷ []

worked : Each Holds table
unfolding read before order same_bytes has on_path on_two on_one concat be32 place number_of signed be_value
worked =
    refl
    also (λ room. refl)
    also (λ room. refl)
    also (λ room. refl)
    also (λ room. refl)
    also (λ room. refl)
    also (λ room. refl)
    also (λ room. refl)
    also (λ room. refl)
    also refl
    also refl
    also refl
    also (λ room. refl)
    also (λ room. refl)
    also (λ room. refl)
    also (λ room. refl)
    also (λ room. refl)
    also refl
    also refl
    also tt
