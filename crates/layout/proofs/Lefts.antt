-- What is left of a table: the first part and those behind it, and what the names of all of them are.
use Prim.Native.Nat.{ℕ, zero, suc, ◌+◌, ◌-◌}
use native.Mathlib.Omega.{arith}
use mathlib.Core.Path.{◌≡◌, refl}
use mathlib.Core.Bool.{Bool}
use mathlib.Core.List.{[], ◌∷◌, map}
use lib.ListN.{take, drop}
use Rattle.std.specs.List.{list_all}
use Rattle.layout.specs.Bytes.{Bytes}
use Rattle.layout.specs.Entry.{length_of, entry_at}
use Rattle.layout.specs.Order.{before}
use Rattle.layout.specs.Place.{parts_at, rising_from, rising_parts}
use Rattle.layout.specs.Parts.{texts, next_part}
use Rattle.layout.specs.Every.{each}
use Rattle.layout.specs.Left.{Placed, placed, placed_from, part_shown}
use Rattle.layout.specs.declared.parts.PartAt.{PartAt}
use Rattle.layout.proofs.Neighbours.{follows, neighbours}

stepped : (s : Bytes) (at : PartAt) (k j : ℕ) → k ≡ suc j → placed_from s at k ≡ placed s at ∷ placed_from s (next_part s at) j
unfolding placed_from
stepped s at k j e = rw e

module _ (s : Bytes) (at : PartAt) (count : ℕ) where
  pub left_none : count ≡ 0 → placed_from s at count ≡ []
  unfolding placed_from
  left_none z = rw z

  pub left_step : ¬ (count ≡ 0) → placed_from s at count ≡ placed s at ∷ placed_from s (next_part s at) (count - 1)
  unfolding placed_from
  left_step some = stepped s at count (count - 1) (omega arith)

-- A part by the numbers that are read of it.
pub shown_is : (s : Bytes) (at : PartAt) (e l : ℕ) (b : Bytes) → e ≡ entry_at s at.index → l ≡ length_of e → b ≡ take l (drop at.place s)
    → placed s at ≡ record { at = at; jentry = e; bytes = b }
shown_is s at e l b he hl hb = rw (hb, hl, he)

pub behind_is : (s : Bytes) (at : PartAt) (e l : ℕ) → e ≡ entry_at s at.index → l ≡ length_of e
    → next_part s at ≡ record { index = at.index + 1; place = at.place + l }
behind_is s at e l he hl = rw (hl, he)

-- Of all of them.
pub texts_left : (s : Bytes) (at : PartAt) (k : ℕ) → map (λ (q : Placed). q.bytes) (placed_from s at k) ≡ texts (parts_at s at.index at.place k)
unfolding placed_from parts_at
texts_left s at zero = refl
texts_left s at (suc k) = rw (texts_left s (next_part s at) k)

pub parts_left : (s : Bytes) (at : PartAt) (k : ℕ) → map part_shown (placed_from s at k) ≡ parts_at s at.index at.place k
unfolding placed_from parts_at
parts_left s at zero = refl
parts_left s at (suc k) = rw (parts_left s (next_part s at) k)

pub all_each : (f : Bytes → Bool) (s : Bytes) (at : PartAt) (k : ℕ)
    → list_all (λ (q : Placed). f q.bytes) (placed_from s at k) ≡ each f (texts (parts_at s at.index at.place k))
unfolding placed_from parts_at
all_each f s at zero = refl
all_each f s at (suc k) = rw (all_each f s (next_part s at) k)

follows_rising : (q : Placed) (s : Bytes) (at : PartAt) (k : ℕ)
    → follows (λ (x y : Placed). before x.bytes y.bytes) q (placed_from s at k) ≡ rising_from q.bytes (parts_at s at.index at.place k)
unfolding placed_from parts_at rising_from
follows_rising q s at zero = refl
follows_rising q s at (suc k) = rw (follows_rising (placed s at) s (next_part s at) k)

pub names_rise : (s : Bytes) (at : PartAt) (k : ℕ)
    → neighbours (λ (x y : Placed). before x.bytes y.bytes) (placed_from s at k) ≡ rising_parts (parts_at s at.index at.place k)
unfolding placed_from parts_at rising_parts
names_rise s at zero = refl
names_rise s at (suc k) = follows_rising (placed s at) s (next_part s at) k
