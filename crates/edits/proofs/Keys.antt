-- What an item of a path record is: numbers and codes as keys, and whether all items are steps.
use Prim.Native.Nat.{ℕ, zero, suc, ◌^◌, ◌<◌}
use native.Mathlib.Omega.{arith}
use mathlib.Core.Path.{◌≡◌, refl}
use mathlib.Core.List.{map}
use Rattle.edits.specs.Keypath.{Step}
use lib.IntN.{ℤ, pos}
use lib.Signed.{mag}
use mir.Syntax.{w32}
use mir.Val.{SFits, to_z, of_z}
use mir.ValLaws.{to_z-of_z}
use native.Mathlib.Decide.{dec_lt}
use Rattle.std.specs.Result.{OkIff, result_ok}
use lib.ListN.{take, drop}
use borrow.Author.Tests.{ne_eqb, lt-ltb, le-ltb}
use Rattle.layout.specs.Bytes.{Bytes}
use Rattle.layout.specs.Entry.{code, code_of, length_of, kind_of, entry_at}
use Rattle.layout.specs.Number.{decoded}
use Rattle.layout.specs.Place.{part_at, parts_at}
use Rattle.layout.specs.declared.number.Number.{Number}
use Rattle.layout.specs.declared.number.Number.TheVariants.{Nan, Infinity, NegInfinity, Int64, UInt64, Float64, Decimal64, WideDecimal}
use Rattle.layout.proofs.Fields.{code_lt}
use Rattle.edits.specs.Steps.{int_key, number_key, code_key, decoded_key, is_step, step, part_key, are_steps, part_steps}
use Rattle.edits.specs.declared.keypath.KeyPath.{KeyPath}
use Rattle.edits.specs.declared.keypath.KeyPath.TheVariants.{Index, Name}
use Rattle.layout.specs.declared.refusal.Refusal.{Refusal}
use Rattle.std.specs.Prelude.{Ok, Err, Some, None, Result, Option}
use Rattle.std.specs.List.{list_all}
use Rattle.layout.specs.Left.{Placed, placed_from}
use Rattle.layout.specs.Parts.{next_part}
use Rattle.layout.specs.declared.parts.PartAt.{PartAt}

-- An integer as an index: what `i32::try_from` gives of it.
index_none : (z : ℤ) → ¬ SFits w32 z → None ≡ int_key z
unfolding int_key
index_none z h = go (dec_lt (mag z) (2 ^ 31))
  where
    go : Dec (mag z < 2 ^ 31) → None ≡ int_key z
    go (yes q) = absurd (h (record { sfits = q }))
    go (no q) = rw (le-ltb (mag z) (2 ^ 31) (omega arith))

index_some : (z : ℤ) → SFits w32 z → Some (Index z) ≡ int_key z
unfolding int_key
index_some z h = rw (lt-ltb (mag z) (2 ^ 31) h.sfits)

module _ {E : Type 0} (z : ℤ) (r : Result ℤ E) (h : OkIff r (SFits w32 z) z) where
  pub no_index : result_ok r ≡ None → None ≡ int_key z
  no_index = go r h
    where
      go : (r : Result ℤ E) → OkIff r (SFits w32 z) z → result_ok r ≡ None → None ≡ int_key z
      go (Ok i) h q = cc
      go (Err e) h q = index_none z h

  pub an_index : (i : ℤ) → result_ok r ≡ Some i → Some (Index (to_z w32 (of_z w32 i))) ≡ int_key z
  an_index = go r h
    where
      go : (r : Result ℤ E) → OkIff r (SFits w32 z) z → (i : ℤ) → result_ok r ≡ Some i → Some (Index (to_z w32 (of_z w32 i))) ≡ int_key z
      go (Ok j) h i q = let e : i ≡ z = cc in rw (e, to_z-of_z w32 z h.0) (index_some z h.0)
      go (Err e) h i q = cc

-- A number's key by what it is. `v` is what the machine reads of z.
module _ (n : Number) (k : Option KeyPath) where
  pub signed_key : (v z : ℤ) → n ≡ Int64 z → v ≡ z → k ≡ int_key v → k ≡ number_key n
  unfolding number_key
  signed_key v z e ev h = rw (e, ← ev) h

  pub unsigned_key : (v : ℕ) → n ≡ UInt64 v → k ≡ int_key (pos v) → k ≡ number_key n
  unfolding number_key
  unsigned_key v e h = rw e h

pub no_key : (n : Number) → ((z : ℤ) → n ≡ Int64 z → ⊥) → ((v : ℕ) → n ≡ UInt64 v → ⊥) → None ≡ number_key n
unfolding number_key
no_key Nan p q = refl
no_key Infinity p q = refl
no_key NegInfinity p q = refl
no_key (Int64 z) p q = absurd (p z refl)
no_key (UInt64 v) p q = absurd (q v refl)
no_key (Float64 b) p q = refl
no_key (Decimal64 z s) p q = refl
no_key (WideDecimal b) p q = refl

-- What was decoded is a number or none.
pub decoded_none : (n : Result Number Refusal) → result_ok n ≡ None → None ≡ decoded_key n
decoded_none (Ok m) q = cc
decoded_none (Err x) q = refl

pub decoded_some : (n : Result Number Refusal) (m : Number) → result_ok n ≡ Some m → number_key m ≡ decoded_key n
decoded_some (Ok k) m q = let e : k ≡ m = cc in rw e
decoded_some (Err x) m q = cc

-- By the code of an entry.
module _ (e c : ℕ) (b : Bytes) (hc : c ≡ code_of e) where
  pub key_name : c ≡ 1 → Some Name ≡ code_key (code_of e) b
  unfolding code_key
  key_name q = rw (← hc, q)

  pub key_number : c ≡ 2 → (n : Result Number Refusal) (k : Option KeyPath) → n ≡ decoded b → k ≡ decoded_key n → k ≡ code_key (code_of e) b
  unfolding code_key
  key_number q n k hn hk = rw (← hc, q, ← hn) hk

  pub key_other : (c ≡ 1 → ⊥) → (c ≡ 2 → ⊥) → None ≡ code_key (code_of e) b
  unfolding code_key
  key_other p q = rw (← hc, ne_eqb c 1 p, ne_eqb c 2 q)

-- The code without a meaning is no step, as null is none.
pub kind_key : (c : ℕ) (b : Bytes) → c < 8 → code_key (code (kind_of c)) b ≡ code_key c b
unfolding code_key kind_of
kind_key zero b h = refl
kind_key (suc zero) b h = refl
kind_key (suc (suc zero)) b h = refl
kind_key (suc (suc (suc zero))) b h = refl
kind_key (suc (suc (suc (suc zero)))) b h = refl
kind_key (suc (suc (suc (suc (suc zero))))) b h = refl
kind_key (suc (suc (suc (suc (suc (suc zero)))))) b h = refl
kind_key (suc (suc (suc (suc (suc (suc (suc zero))))))) b h = refl
kind_key (suc (suc (suc (suc (suc (suc (suc (suc c)))))))) b h = let z : ⊥ = omega arith in absurd z

-- The key of a part, by its entry and payload.
pub part_key_at : (s : Bytes) (i p e l : ℕ) (piece : Bytes) → e ≡ entry_at s i → l ≡ length_of e → piece ≡ take l (drop p s)
    → part_key (part_at s i p) ≡ code_key (code_of e) piece
part_key_at s i p e l piece he hl hp = rw (hp, hl, he) (kind_key (code_of (entry_at s i)) _ (code_lt (entry_at s i)))

-- The step that a part of a table is.
abbrev pub placed_step : Placed → Step
placed_step q = step (code_key (code_of q.jentry) q.bytes) q.bytes

pub steps_placed : (s : Bytes) (at : PartAt) (k : ℕ) → map placed_step (placed_from s at k) ≡ part_steps (parts_at s at.index at.place k)
unfolding placed_from parts_at
steps_placed s at zero = refl
steps_placed s at (suc k) = rw (kind_key (code_of (entry_at s at.index)) _ (code_lt (entry_at s at.index)), steps_placed s (next_part s at) k)

-- All items that are left are steps where those of the parts are.
pub all_steps : (s : Bytes) (at : PartAt) (k : ℕ)
    → list_all (λ (q : Placed). is_step (code_key (code_of q.jentry) q.bytes)) (placed_from s at k)
    ≡ are_steps (parts_at s at.index at.place k)
unfolding placed_from parts_at are_steps
all_steps s at zero = refl
all_steps s at (suc k) = rw (kind_key (code_of (entry_at s at.index)) _ (code_lt (entry_at s at.index)), all_steps s (next_part s at) k)
