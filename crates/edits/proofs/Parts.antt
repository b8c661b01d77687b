-- The parts of a container by their places, and the first of its names that has equal bytes.
use Prim.Native.Nat.{ℕ, zero, suc, ◌+◌, ◌<◌}
use native.Mathlib.Omega.{arith}
use native.Mathlib.Nat.{zero-add, add-zero}
use mathlib.Core.Path.{◌≡◌, refl, sym, ap, ◌∙◌}
use mathlib.Core.Bool.{Bool, true, false, cond}
use mathlib.Core.List.{List, [], ◌∷◌}
use lib.ListN.{length}
use Rattle.layout.specs.Bytes.{Bytes}
use Rattle.layout.specs.Place.{parts_at}
use Rattle.layout.proofs.Places.{length_parts}
use Rattle.layout.specs.Order.{same_bytes}
use Rattle.layout.specs.Parts.{start_of, texts, nth_part, names_of}
use Rattle.builders.proofs.Builds.{length_texts}
use Rattle.std.specs.Prelude.{Option as Maybe, Some, None, Option}
use Rattle.std.specs.List.{find}
use Rattle.layout.specs.Table.{table_place}
use Rattle.layout.specs.Left.{Placed, placed, placed_from, placed_at}
use Rattle.layout.proofs.Carries.{place_first, place_behind}
use Rattle.edits.specs.Spot.{first, first_meant, one_more, spot_at}
use Rattle.layout.specs.declared.parts.PartAt.{PartAt}

-- The first name that has equal bytes, counted from the `i`th on.
abbrev pub moved : ℕ → Option ℕ → Option ℕ
moved i None = None
moved i (Some k) = Some (i + k)

moved_none : (o : Option ℕ) → moved 0 o ≡ o
moved_none None = refl
moved_none (Some k) = ap Some (zero-add k)

moved_more : (i : ℕ) (o : Option ℕ) → moved i (one_more o) ≡ moved (i + 1) o
moved_more i None = refl
moved_more i (Some k) = ap Some (omega arith)

first_below : (name : Bytes) (ns : List Bytes) (k : ℕ) → first name ns ≡ Some k → k < length ns
unfolding first
first_below name [] k e = let z : ◌≡◌ {A = ℕ} 0 1 = cc in let w : ⊥ = omega arith in absurd w
first_below name (m ∷ ns) k e = go (same_bytes name m) (first name ns) (first_below name ns) e
  where
    go : (b : Bool) (o : Option ℕ) → ((j : ℕ) → o ≡ Some j → j < length ns) → cond b (Some 0) (one_more o) ≡ Some k
        → k < suc (length ns)
    go true o h q = let z : 0 ≡ k = cc in omega arith
    go false None h q = let z : ◌≡◌ {A = ℕ} 0 1 = cc in let w : ⊥ = omega arith in absurd w
    go false (Some j) h q = let z : suc j ≡ k = cc in omega (arith, h j refl)

-- The first name among n is one of the n.
pub first_lt : (name s : Bytes) (start n k : ℕ) → first name (texts (parts_at s 0 start n)) ≡ Some k → k < n
first_lt name s start n k e =
    omega (
      arith,
      first_below name (texts (parts_at s 0 start n)) k e,
      length_texts (parts_at s 0 start n),
      length_parts s 0 start n,
    )

-- The part that a search through the names comes to.
abbrev pub spot_shown : Maybe Placed → Option PartAt
spot_shown None = None
spot_shown (Some q) = Some q.at

module _ (meant : Bytes → Bool) (s : Bytes) (n : ℕ) where
  found_from : (i k : ℕ)
      → spot_shown (find (λ (q : Placed). meant q.bytes) (placed_from s (nth_part s n i) k))
      ≡ spot_at s n (moved i (first_meant meant (texts (parts_at s i (table_place s n i) k))))
  unfolding placed_from parts_at first_meant spot_at
  found_from i zero = refl
  found_from i (suc k) = rw (place_behind s n i) (go (meant (placed s (nth_part s n i)).bytes) (found_from (i + 1) k))
    where
      go : (b : Bool)
          → spot_shown (find (λ (q : Placed). meant q.bytes) (placed_from s (nth_part s n (i + 1)) k))
          ≡ spot_at s n (moved (i + 1) (first_meant meant (texts (parts_at s (i + 1) (table_place s n (i + 1)) k))))
          → spot_shown (cond b (Some (placed s (nth_part s n i))) (find (λ (q : Placed). meant q.bytes) (placed_from s (nth_part s n (i + 1)) k)))
          ≡ spot_at s n (moved i (cond b (Some 0) (one_more (first_meant meant (texts (parts_at s (i + 1) (table_place s n (i + 1)) k))))))
      go true h = rw (add-zero i)
      go false h = h ∙ ap (spot_at s n) (sym (moved_more i _))

pub found : (meant : Bytes → Bool) (s : Bytes) (n : ℕ)
    → spot_shown (find (λ (q : Placed). meant q.bytes) (placed_at s (start_of (n + n)) n)) ≡ spot_at s (n + n) (first_meant meant (names_of s n))
found meant s n = rw (place_first s (n + n)) (found_from meant s (n + n) 0 n ∙ ap (spot_at s (n + n)) (moved_none _))

-- A search comes to the next part or goes on behind it.
module _ (meant : Bytes → Bool) (ps : List Placed) where
  module _ (q : Placed) (qs : List Placed) (b : Bool) (e : ps ≡ q ∷ qs) (hb : b ≡ meant q.bytes) where
    pub found_here : b ≡ true → Some q.at ≡ spot_shown (find (λ (p : Placed). meant p.bytes) ps)
    found_here h = rw (e, ← hb, h)

    pub found_behind : b ≡ false
        → spot_shown (find (λ (p : Placed). meant p.bytes) qs) ≡ spot_shown (find (λ (p : Placed). meant p.bytes) ps)
    found_behind h = rw (e, ← hb, h)

  pub found_none : ps ≡ [] → None ≡ spot_shown (find (λ (p : Placed). meant p.bytes) ps)
  found_none e = rw e

-- The test of a name by its bytes.
pub first_is : (name : Bytes) (ns : List Bytes) → first_meant (same_bytes name) ns ≡ first name ns
unfolding first_meant first
first_is name [] = refl
first_is name (m ∷ ns) = rw (first_is name ns)
