-- The one sound tree of a value. A proper value is equal to it, has its length and depth, and is equal to another exactly where the two
-- have the same one.
use Prim.Native.Nat.{ℕ, suc, ◌+◌, max}
use native.Mathlib.Omega.{arith}
use mathlib.Core.Path.{◌≡◌, refl, ap, ap₂, sym, ◌∙◌, subst}
use mathlib.Core.Logic.{inl, ◌↔◌}
use mathlib.Core.Bool.{true}
use mathlib.Core.List.{◌∷◌}
use Rattle.layout.specs.Bytes.{Bytes}
use Rattle.layout.specs.Tree.{Tree, null, boolean, number, string, extension, array, object, Items, none, item, Members, empty, member, names}
use Rattle.layout.specs.Limits.{depth, depth_items, depth_members, size, size_items, size_members, record_length}
use Rattle.layout.specs.Sound.{Sound, SoundItems, SoundMembers}
use Rattle.layout.specs.Value.{Same, SameItems, SameMembers}
use Rattle.std.specs.declared.cmp.Ordering.{Ordering}
use Rattle.std.specs.declared.cmp.Ordering.TheVariants.{Less, Equal, Greater}
use Rattle.layout.proofs.Values.{sound_same}
use Rattle.layout.proofs.Sames.{same_sym, same_trans}
use Rattle.layout.specs.Order.{order}
use Rattle.builders.specs.Order.{by, in_order, find, distinct}
use Rattle.builders.proofs.InOrders.{in_order_rising, in_order_sound, in_order_same, in_order_size, gather, gather_in_order, find_in_order}
use Rattle.builders.specs.Canon.{canon, canon_items, canon_members, canon_found}
use Rattle.builders.proofs.Proper.{Proper, ProperItems, ProperMembers, same_proper}
use Rattle.std.specs.Prelude.{Some}

pub canon_names : (ms : Members) → names (canon_members ms) ≡ names ms
canon_names empty = refl
canon_names (member n t ms) = ap (λ ns. n ∷ ns) (canon_names ms)

canon_finds : (n : Bytes) (ms : Members) → find n (canon_members ms) ≡ canon_found (find n ms)
canon_finds n empty = refl
canon_finds n (member m t ms) = first (order n m) (canon_finds n ms)
  where
    first : (o : Ordering) → find n (canon_members ms) ≡ canon_found (find n ms)
        → by o (find n (canon_members ms)) (Some (canon t)) (find n (canon_members ms)) ≡ canon_found (by o (find n ms) (Some t) (find n ms))
    first Less e = e
    first Equal e = refl
    first Greater e = e

-- A name finds what it found.
pub canon_find : (n : Bytes) (ms : Members) → find n (in_order (canon_members ms)) ≡ canon_found (find n ms)
canon_find n ms = find_in_order n (canon_members ms) ∙ canon_finds n ms

mutual
  pub canon_sound : (t : Tree) → Sound (canon t)
  canon_sound null = tt
  canon_sound (boolean x) = tt
  canon_sound (number b) = tt
  canon_sound (string b) = tt
  canon_sound (extension b) = tt
  canon_sound (array ts) = canon_sound_items ts
  canon_sound (object ms) = (in_order_rising (canon_members ms), in_order_sound (canon_members ms) (canon_sound_members ms))

  canon_sound_items : (ts : Items) → SoundItems (canon_items ts)
  canon_sound_items none = tt
  canon_sound_items (item t ts) = (canon_sound t, canon_sound_items ts)

  canon_sound_members : (ms : Members) → SoundMembers (canon_members ms)
  canon_sound_members empty = tt
  canon_sound_members (member n t ms) = (canon_sound t, canon_sound_members ms)

pub canon_distinct : (ms : Members) → distinct (names ms) ≡ true → distinct (names (canon_members ms)) ≡ true
canon_distinct ms d = rw (canon_names ms) d

mutual
  pub same_canon : (t : Tree) → Proper t → Same t (canon t)
  same_canon null p = refl
  same_canon (boolean x) p = refl
  same_canon (number b) p = refl
  same_canon (string b) p = refl
  same_canon (extension b) p = refl
  same_canon (array ts) p = (canon_items ts, refl, same_canon_items ts p)
  same_canon (object ms) p =
      same_trans (object ms) (object (canon_members ms)) (canon (object ms))
      (canon_members ms, refl, same_canon_members ms p.1)
      (in_order (canon_members ms), refl, in_order_same (canon_members ms) (canon_distinct ms p.0))

  same_canon_items : (ts : Items) → ProperItems ts → SameItems ts (canon_items ts)
  same_canon_items none p = refl
  same_canon_items (item t ts) p = (canon t, canon_items ts, refl, same_canon t p.0, same_canon_items ts p.1)

  same_canon_members : (ms : Members) → ProperMembers ms → SameMembers ms (canon_members ms)
  same_canon_members empty p = refl
  same_canon_members (member n t ms) p = (canon t, canon_members ms, inl (refl, refl, refl), same_canon t p.1, same_canon_members ms p.2)

pub canon_proper : (t : Tree) → Proper t → Proper (canon t)
canon_proper t p = same_proper (canon t) t (same_sym t (canon t) (same_canon t p)) p

-- A sound tree that is equal is that one.
pub canon_unique : (t u : Tree) → Proper t → Sound u → Same t u → canon t ≡ u
canon_unique t u p s h =
    (sound_same (canon t) u (canon_sound t) s).0 (same_trans (canon t) t u (same_sym t (canon t) (same_canon t p)) h)

pub same_canons : (t u : Tree) → Proper t → Proper u → Same t u ↔ (canon t ≡ canon u)
same_canons t u p q = (
  λ h. canon_unique t (canon u) p (canon_sound u) (same_trans t u (canon u) h (same_canon u q)),
  λ e. same_trans t (canon t) u (same_canon t p) (same_sym u (canon t) (subst (λ (x : Tree). Same u x) (sym e) (same_canon u q))),
)

-- ---- length and depth

gathered_depth : (ms : Members) → depth_members ms ≡ gather max 0 (λ n t. depth t) ms
gathered_depth empty = refl
gathered_depth (member n t ms) = ap (max (depth t)) (gathered_depth ms)

in_order_deep : (ms : Members) → distinct (names ms) ≡ true → depth_members (in_order ms) ≡ depth_members ms
in_order_deep ms d =
    gathered_depth (in_order ms) ∙ gather_in_order max (λ a b c. omega arith) 0 (λ n t. depth t) ms d ∙ sym (gathered_depth ms)

mutual
  pub canon_depth : (t : Tree) → Proper t → depth (canon t) ≡ depth t
  canon_depth null p = refl
  canon_depth (boolean x) p = refl
  canon_depth (number b) p = refl
  canon_depth (string b) p = refl
  canon_depth (extension b) p = refl
  canon_depth (array ts) p = ap suc (canon_depth_items ts p)
  canon_depth (object ms) p = ap suc (in_order_deep (canon_members ms) (canon_distinct ms p.0) ∙ canon_depth_members ms p.1)

  canon_depth_items : (ts : Items) → ProperItems ts → depth_items (canon_items ts) ≡ depth_items ts
  canon_depth_items none p = refl
  canon_depth_items (item t ts) p = ap₂ max (canon_depth t p.0) (canon_depth_items ts p.1)

  canon_depth_members : (ms : Members) → ProperMembers ms → depth_members (canon_members ms) ≡ depth_members ms
  canon_depth_members empty p = refl
  canon_depth_members (member n t ms) p = ap₂ max (canon_depth t p.1) (canon_depth_members ms p.2)

mutual
  canon_size : (t : Tree) → Proper t → size (canon t) ≡ size t
  canon_size null p = refl
  canon_size (boolean x) p = refl
  canon_size (number b) p = refl
  canon_size (string b) p = refl
  canon_size (extension b) p = refl
  canon_size (array ts) p = ap (λ (n : ℕ). 4 + n) (canon_size_items ts p)
  canon_size (object ms) p =
      ap (λ (n : ℕ). 4 + n) (in_order_size (canon_members ms) (canon_distinct ms p.0) ∙ canon_size_members ms p.1)

  canon_size_items : (ts : Items) → ProperItems ts → size_items (canon_items ts) ≡ size_items ts
  canon_size_items none p = refl
  canon_size_items (item t ts) p = omega (arith, canon_size t p.0, canon_size_items ts p.1)

  canon_size_members : (ms : Members) → ProperMembers ms → size_members (canon_members ms) ≡ size_members ms
  canon_size_members empty p = refl
  canon_size_members (member n t ms) p = omega (arith, canon_size t p.1, canon_size_members ms p.2)

pub canon_length : (t : Tree) → Proper t → record_length (canon t) ≡ record_length t
canon_length null p = refl
canon_length (boolean x) p = refl
canon_length (number b) p = refl
canon_length (string b) p = refl
canon_length (extension b) p = refl
canon_length (array ts) p = canon_size (array ts) p
canon_length (object ms) p = canon_size (object ms) p
