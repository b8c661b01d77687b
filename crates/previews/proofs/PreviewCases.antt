-- Worked cases of document 02 §3 as one table: an edit of given records, and what its preview tells. `worked` proves every line, about
-- the definition that the contracts cite.
use Prim.Native.Nat.{ℕ, zero, suc, ◌+◌}
use mathlib.Core.Path.{◌≡◌, refl}
use mathlib.Core.List.{List, [], ◌∷◌}
use lib.ListN.{replicate}
use Rattle.layout.specs.Bytes.{Bytes, be32}
use Rattle.layout.specs.Tree.{Tree, object, empty, member}
use Rattle.layout.specs.Encode.{encode}
use Rattle.layout.specs.Ended.{Outcome}
use Rattle.layout.specs.Order.{order, same_bytes}
use Rattle.layout.specs.declared.refusal.Refusal.TheVariants.{Short, Layout, Path, Kind, Repeated, Result}
use Rattle.layout.proofs.Lists.{Each}
use Rattle.layout.proofs.Cases.{◌▸◌, letters, ◌also◌}
use Rattle.builders.specs.Order.{has, distinct}
use Rattle.builders.specs.Build.{append, build, on_two}
use Rattle.edits.specs.Path.{delete_by, on_path}
use Rattle.edits.specs.Concat.{concat}
use Rattle.edits.specs.Strip.{strip, on_one}
use Rattle.previews.specs.Preview.{previewed}
use Rattle.std.specs.Prelude.{Ok, Err, Some}
use Rattle.layout.specs.Ended.{Ending}

-- ---- what a line says

data Line : Type 0 where
  tells : (ℕ → Outcome) → Ending → Line

abbrev Holds : Line → Type 0
Holds (tells edit e) = previewed edit ≡ e

-- ---- records and paths

-- {"a":1}, {"b":true}, and document 01's D, {"a":null,"a":true}.
abbrev A : Bytes
A = 0x40000001 ▸ 0x10000001 ▸ 0x20000002 ▸ 0x61 ∷ 0x50 ∷ 0x01 ∷ []

abbrev true_b : Bytes
true_b = 0x40000001 ▸ 0x10000001 ▸ 0x40000000 ▸ 0x62 ∷ []

abbrev D : Bytes
D = 0x40000002 ▸ 0x10000001 ▸ 0x10000001 ▸ 0x00000000 ▸ 0x40000000 ▸ 0x61 ∷ 0x61 ∷ []

abbrev no_items : Bytes
no_items = 0x80000000 ▸ []

abbrev no_members : Bytes
no_members = 0x40000000 ▸ []

abbrev nulls : Bytes
nulls = 0x80000001 ▸ 0x00000000 ▸ []

abbrev root_null : Bytes
root_null = 0x20000000 ▸ 0x00000000 ▸ []

abbrev root_extension : Bytes
root_extension = 0x20000000 ▸ 0x60000001 ▸ 0xAB ∷ []

-- The array of the name "a", which is its path too, that of "b", and ["a","a"].
abbrev name_a : Bytes
name_a = 0x80000001 ▸ 0x10000001 ▸ 0x61 ∷ []

abbrev name_b : Bytes
name_b = 0x80000001 ▸ 0x10000001 ▸ 0x62 ∷ []

abbrev twice_a : Bytes
twice_a = 0x80000002 ▸ 0x10000001 ▸ 0x10000001 ▸ letters "aa"

abbrev two_nulls : Bytes
two_nulls = 0x80000002 ▸ 0x00000000 ▸ 0x00000000 ▸ []

-- A damaged record.
abbrev cut_short : Bytes
cut_short = 0x40 ∷ 0x00 ∷ 0x00 ∷ []

-- An extension of `n` bytes at the root, and `n + 1` objects, one in another.
abbrev extended : ℕ → Bytes
extended n = 0x20000000 ▸ (0x60000000 + n) ▸ replicate n 0

abbrev deep : ℕ → Tree
deep zero = object empty
deep (suc n) = object (member [] (deep n) empty)

-- ---- the table

abbrev table : List Line
table =
    -- "Give the length": of what is left, of the record itself where the path finds nothing, of what two records become.
    tells (on_path delete_by A name_a) (Ok (Some 4))
    ∷ tells (on_path delete_by A name_b) (Ok (Some 15))
    ∷ tells (on_path delete_by root_extension no_items) (Ok (Some 9))
    ∷ tells (on_two concat A true_b) (Ok (Some 24))
    ∷ tells (on_two concat true_b A) (Ok (Some 24))
    ∷ tells (on_two concat A A) (Ok (Some 15))
    ∷ tells (on_two concat D no_members) (Ok (Some 13))
    ∷ tells (on_two concat root_null root_null) (Ok (Some 12))
    ∷ tells (on_one strip D) (Ok (Some 13))
    ∷ tells (on_one strip root_null) (Ok (Some 8))
    ∷ tells (on_two append no_items A) (Ok (Some 23))
    ∷ tells (on_two append no_items root_null) (Ok (Some 8))
    ∷ tells (on_two build name_a nulls) (Ok (Some 13))
    ∷ tells (on_two build no_items no_items) (Ok (Some 4))
    -- "Or the number": the sender's, a path's, and the author's.
    ∷ tells (on_one strip cut_short) (Err Short)
    ∷ tells (on_two append no_items (0x80000000 ▸ 0x00 ∷ [])) (Err Layout)
    ∷ tells (on_path delete_by A A) (Err Path)
    ∷ tells (on_path delete_by root_null no_items) (Err Kind)
    ∷ tells (on_two append A A) (Err Kind)
    ∷ tells (on_two build name_a two_nulls) (Err Kind)
    ∷ tells (on_two concat no_members D) (Err Repeated)
    ∷ tells (on_two build twice_a two_nulls) (Err Repeated)
    -- The order of the numbers is the edit's: left record, right record, path, 7.
    ∷ tells (on_two append A cut_short) (Err Short)
    ∷ tells (on_path delete_by root_null A) (Err Path)
    -- A result that would be too deep is 9.
    ∷ tells (on_two concat (encode (deep 63)) root_null) (Err Result)
    ∷ []

worked : Each Holds table
unfolding on_path on_two on_one concat order be32 same_bytes has distinct
worked =
    refl
    also refl
    also refl
    also refl
    also refl
    also refl
    also refl
    also refl
    also refl
    also refl
    also refl
    also refl
    also refl
    also refl
    also refl
    also refl
    also refl
    also refl
    also refl
    also refl
    also refl
    also refl
    also refl
    also refl
    also refl
    also tt

-- "With a result buffer of 65,536 bytes": the length of a result of 65,536 bytes is told, and of one byte more it is 9, not 10.
longest : previewed (on_two append nulls (extended 65524)) ≡ Ok (Some 65536)
unfolding on_two be32
longest = refl

too_long : previewed (on_two append nulls (extended 65525)) ≡ Err Result
unfolding on_two be32
too_long = refl
