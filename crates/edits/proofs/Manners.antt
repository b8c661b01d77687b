-- How a container is written anew, by its header and its names; and a run of its parts, as the code stores it.
use Rattle.layout.specs.Parts.{rises}
use Prim.Native.Nat.{ℕ}
use mathlib.Core.Path.{◌≡◌}
use mathlib.Core.Bool.{Bool, true, false}
use Rattle.layout.specs.Bytes.{Bytes}
use Rattle.layout.specs.Patch.{patch}
use Rattle.layout.specs.Read.{header}
use Rattle.layout.specs.declared.refusal.Refusal.{Refusal}
use Rattle.layout.specs.declared.util.Header.{Header}
use Rattle.layout.specs.declared.util.Header.TheVariants.{Array, Object}
use Rattle.edits.specs.Manner.{manner_of}
use Rattle.edits.specs.declared.delete.Manner.TheVariants.{Items, Rising, Unsorted}
use Rattle.std.specs.Prelude.{Ok, Some, Result}

module _ (s : Bytes) (h : Result Header Refusal) (hh : h ≡ header s) where
  pub manner_items : (n : ℕ) → h ≡ Ok (Array n) → Some (Items n) ≡ manner_of (header s) s
  manner_items n e = rw (← hh, e)

  module _ (n : ℕ) (g : Bool) (hg : g ≡ rises s n) (e : h ≡ Ok (Object n)) where
    pub manner_rising : g ≡ true → Some (Rising n) ≡ manner_of (header s) s
    manner_rising t = rw (← hh, e, ← hg, t)

    pub manner_unsorted : g ≡ false → Some (Unsorted n) ≡ manner_of (header s) s
    manner_unsorted t = rw (← hh, e, ← hg, t)

-- Two stores, one after the other.
pub two_stored : (o o₁ o₂ x x' y y' : Bytes) (e p : ℕ) → x ≡ x' → y ≡ y' → o₁ ≡ patch o e x → o₂ ≡ patch o₁ p y
    → o₂ ≡ patch (patch o e x') p y'
two_stored o o₁ o₂ x x' y y' e p hx hy e₁ e₂ = rw (e₂, e₁, hx, hy)
