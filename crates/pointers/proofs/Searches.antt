-- The part of a container that a token finds, by the container's header.
use Prim.Native.Nat.{ℕ, ◌%◌, ◌^◌}
use mathlib.Core.Path.{◌≡◌, refl, sym, ◌∙◌}
use Rattle.layout.specs.Bytes.{Bytes}
use Rattle.layout.specs.Entry.{code_of, entry_of}
use Rattle.layout.specs.Parts.{names_of}
use Rattle.layout.specs.Read.{header}
use Rattle.layout.specs.declared.refusal.Refusal.{Refusal}
use Rattle.layout.specs.declared.util.Header.{Header}
use Rattle.layout.specs.declared.util.Header.TheVariants.{Array, Object, Scalar}
use Rattle.edits.specs.Find.{place, step_place}
use Rattle.edits.specs.Steps.{code_key, step}
use Rattle.edits.specs.Spot.{first, spot_at, spot_member, spot}
use Rattle.edits.proofs.Finds.{spot_array}
use Rattle.pointers.specs.Pointer.{undo, index_of}
use Rattle.pointers.specs.Token.{index_step, index_in, token_at}
use Rattle.pointers.proofs.Indexes.{meant}
use Rattle.std.specs.Prelude.{Ok, Err, Some, None, Result, Option}
use Rattle.layout.specs.declared.parts.PartAt.{PartAt}

step_in : (k : Bytes) (o : Option ℕ) (n : ℕ) → step_place (index_step k o) n ≡ index_in o n
unfolding place
step_in k None n = refl
step_in k (Some i) n = refl

-- The name of a path's step, by an entry with a string's code.
pub name_step : (s k : Bytes) (n e : ℕ) (r : Option PartAt) → header s ≡ Ok (Object n) → e ≡ entry_of (1 % 2 ^ 3) (0 % 2 ^ 28)
    → r ≡ spot (header s) s (step (code_key (code_of e) k) k) → r ≡ spot_member s n (first k (names_of s n))
unfolding spot step code_key code_of
name_step s k n e r h q w = rw (h, q) at w

module _ (s t : Bytes) (h : Result Header Refusal) (hh : h ≡ header s) where
  pub token_array : (n : ℕ) (r : Option PartAt) → h ≡ Ok (Array n) → r ≡ spot_at s n (meant t n) → r ≡ spot (header s) s (token_at (header s) t)
  unfolding token_at
  token_array n r q e =
      let k = undo t in
      rw (← hh, q, spot_array n s (index_step (undo t) (index_of (undo t))), step_in (undo t) (index_of (undo t)) n) e

  pub token_object : (n : ℕ) (r : Option PartAt) → h ≡ Ok (Object n) → r ≡ spot_member s n (first (undo t) (names_of s n))
      → r ≡ spot (header s) s (token_at (header s) t)
  unfolding token_at spot
  token_object n r q e = rw (← hh, q) e

  pub token_scalar : (n : ℕ) → h ≡ Ok (Scalar n) → None ≡ spot (header s) s (token_at (header s) t)
  unfolding spot
  token_scalar n q = rw (sym hh ∙ q)

  pub token_refused : (r : Refusal) → h ≡ Err r → None ≡ spot (header s) s (token_at (header s) t)
  unfolding spot
  token_refused r q = rw (sym hh ∙ q)
