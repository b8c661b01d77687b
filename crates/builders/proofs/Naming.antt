-- The tests of names: strings, among others, distinct.
use Prim.Native.Nat.{ℕ, zero, suc}
use mathlib.Core.Path.{◌≡◌, refl, sym, ◌∙◌}
use mathlib.Core.Bool.{Bool, true, false}
use mathlib.Core.List.{List, [], ◌∷◌, map}
use lib.Dec.{eqb}
use Rattle.std.specs.List.{list_all, list_any}
use Rattle.layout.specs.Bytes.{Bytes}
use Rattle.layout.specs.Entry.{code_of}
use Rattle.layout.specs.Place.{parts_at, rising_parts}
use Rattle.layout.specs.Order.{rising, same_bytes}
use Rattle.layout.specs.Parts.{texts, next_part}
use Rattle.layout.specs.Left.{Placed, placed_from}
use Rattle.layout.specs.declared.parts.PartAt.{PartAt}
use Rattle.layout.proofs.Sounds.{rising_test, texts_rise}
use Rattle.builders.specs.Order.{has, distinct}
use Rattle.builders.specs.Names.{strings_at}
use Rattle.builders.proofs.InOrders.{rising_distinct}

-- Of all parts, and of some names.
pub all_strings : (s : Bytes) (at : PartAt) (k : ℕ)
    → list_all (λ (q : Placed). eqb (code_of q.jentry) 1) (placed_from s at k) ≡ strings_at s at.index k
unfolding placed_from strings_at
all_strings s at zero = refl
all_strings s at (suc k) = rw (all_strings s (next_part s at) k)

pub any_has : (name : Bytes) (ps : List Placed)
    → list_any (λ (q : Placed). same_bytes name q.bytes) ps ≡ has name (map (λ (q : Placed). q.bytes) ps)
unfolding has
any_has name [] = refl
any_has name (p ∷ ps) = rw (any_has name ps)

-- Distinct: names that rise are.
pub distinct_rising : (s : Bytes) (start n : ℕ) (g : Bool) → g ≡ rising_parts (parts_at s 0 start n) → g ≡ true
    → true ≡ distinct (texts (parts_at s 0 start n))
distinct_rising s start n g e q =
    let ns = texts (parts_at s 0 start n) in
    let r : rising ns ≡ true = sym (texts_rise (parts_at s 0 start n)) ∙ sym e ∙ q in
    sym (rising_distinct ns ((rising_test ns).0 (rw r tt)))

-- Others are compared, each with those behind it.
module _ (all : Bool) (ps : List Placed) (inv : all ≡ distinct (map (λ (q : Placed). q.bytes) ps)) where
  module _ (p : Placed) (qs : List Placed) (e : ps ≡ p ∷ qs) (g : Bool) (hg : g ≡ has p.bytes (map (λ (q : Placed). q.bytes) qs)) where
    pub distinct_twice : g ≡ true → false ≡ all
    unfolding distinct
    distinct_twice q = rw (inv, e, ← hg, q)

    pub distinct_more : g ≡ false → all ≡ distinct (map (λ (q : Placed). q.bytes) qs)
    unfolding distinct
    distinct_more q = inv ∙ rw (e, ← hg, q)

  pub distinct_end : ps ≡ [] → true ≡ all
  unfolding distinct
  distinct_end e = rw (inv, e)
