-- Append: from what the checks and the headers say to the outcome.
use Prim.Native.Nat.{ℕ, ◌+◌, ◌^◌, ◌≤◌, max}
use native.Mathlib.Omega.{arith}
use mathlib.Core.Path.{◌≡◌, refl, ap, sym, ◌∙◌}
use lib.ListN.{length}
use lib.Bits.{bit_or, or_shifted}
use Rattle.layout.specs.Bytes.{Bytes}
use Rattle.layout.specs.Answer.{gives, refused, ◌>>=◌}
use Rattle.layout.specs.Tree.{Tree, null, boolean, number, string, extension, array, object, Items, none, item}
use Rattle.layout.specs.Encode.{item_parts}
use Rattle.layout.specs.Read.{header, read}
use Rattle.layout.specs.Limits.{depth_items, record_length}
use Rattle.layout.specs.Check.{checked, nesting}
use Rattle.layout.specs.Room.{EndedIn}
use Rattle.layout.specs.declared.refusal.Refusal.{Refusal}
use Rattle.layout.specs.declared.refusal.Refusal.TheVariants.{Kind, Result as NoResult}
use Rattle.layout.specs.declared.util.Header.{Header}
use Rattle.layout.specs.declared.util.Header.TheVariants.{Array}
use Rattle.layout.proofs.Readables.{record_of_length, length_encode}
use Rattle.layout.proofs.Nestings.{head_of, readable_gives, refused_as}
use Rattle.builders.specs.Build.{items_of, join, append, on_two}
use Rattle.builders.specs.Join.{given_count, given_start, Lies, as_one, joined}
use Rattle.builders.specs.Room.{sized}
use Rattle.builders.specs.declared.join.Given.{Given}
use Rattle.builders.specs.declared.join.Given.TheVariants.{Table}
use Rattle.builders.proofs.Knowns.{Known, known, BothOctets, no_array, an_array, nested_gives, nested_refused, deep_nesting, fits_nesting}
use Rattle.builders.proofs.Joins.{Gives, array_gives, one_gives, joined_encode}
use Rattle.builders.proofs.Twos.{two_left, two_right, two_edit, two_deep, two_sized}
use Rattle.std.specs.Prelude.{Ok, Err, Bool, Result, false}
use Rattle.layout.specs.Ended.{Ending}

-- What a readable record gives.
module _ (a : Bytes) (n : ℕ) (ts : Items) (k : Known a (array ts)) (e : n ≡ length (item_parts ts)) where
  pub array_lies : Lies a (Table n)
  unfolding given_start
  array_lies =
      let l = record_of_length (2 ^ 31 + length (item_parts ts)) (item_parts ts) in
      record { starts = omega (arith, ap length k.bytes); short = k.short }

  pub items_given : Gives a (Table n) ts
  items_given = rw (e, ← k.bytes) (array_gives ts)

start_one : (u : Tree) → given_start (as_one (head_of u)) ≤ record_length u
unfolding given_start
start_one null = omega arith
start_one (boolean x) = omega arith
start_one (number b) = omega arith
start_one (string b) = omega arith
start_one (extension b) = omega arith
start_one (array ts) = omega arith
start_one (object ms) = omega arith

module _ (b : Bytes) (g : Given) (u : Tree) (k : Known b u) (e : g ≡ as_one (header b)) where
  pub one_lies : Lies b g
  one_lies =
      rw (e, k.head) (record { starts = omega (arith, start_one u, length_encode u, ap length k.bytes); short = k.short })

  pub one_given : Gives b g (item u none)
  one_given = rw (e, k.head, ← k.bytes) (one_gives u)

-- The tree of the result.
append_other : (t u : Tree) → items_of t ≡ refused Kind → append t u ≡ refused Kind
unfolding append ◌>>=◌
append_other t u e = rw e

append_array : (ts : Items) (u : Tree) → append (array ts) u ≡ gives (array (join ts (item u none)))
unfolding append ◌>>=◌
append_array ts u = refl

pub depth_join : (ts us : Items) → depth_items (join ts us) ≡ max (depth_items ts) (depth_items us)
depth_join none us = omega arith
depth_join (item t ts) us = rw (depth_join ts us) (omega arith)

-- The header of an array with one item more.
one_more : (a : Bytes) (k : ℕ) (b : Bytes) (g : Given) → Lies a (Table k) → given_count g ≡ 1
    → bit_or (2 ^ 31) (k + 1) ≡ 2 ^ 31 + (given_count (Table k) + given_count g)
unfolding given_start given_count
one_more a k b g l e = or_shifted 1 31 (k + 1) (omega (arith, l.starts, l.short)) ∙ rw e

-- What the tests so far have shown of the array and the item, one record for each test passed.
pub record ArrayRead (a b : Bytes) : Type 0 where
  pub octets : BothOctets a b
  pub array : checked (read a) ≡ Ok tt

pub record BothRead (a b : Bytes) : Type 0 where
  pub before : ArrayRead a b
  pub item : (x : Refusal) → nesting (read b) ≡ Err x → ⊥

pub record Counted (a b : Bytes) (k : ℕ) : Type 0 where
  pub before : BothRead a b
  pub count : header a ≡ Ok (Array k)

-- The first test that fails decides the answer.
abbrev Answers : Bytes → Bytes → Bytes → ℕ → Ending → Type 0
Answers a b o room e = EndedIn e o o (on_two append a b room)

module _ {a b : Bytes} where
  pub append_left : BothOctets a b → {o : Bytes} (room : ℕ) {c : Result (Unit {0}) Refusal} → c ≡ checked (read a) → {x : Refusal} → c ≡ Err x
      → Answers a b o room (Err x)
  append_left s {o} room {c} hc {x} q = two_left append a b o room x (refused_as (read a) c x hc q)

  module _ (s : ArrayRead a b) where
    left : (t : Tree) × Known a t
    left = let w = readable_gives (read a) (Ok tt) (sym s.array) refl in (w.0, known a w.0 s.octets.left w.1)

    pub append_right : {o : Bytes} (room : ℕ) {n : Result Bool Refusal} → n ≡ nesting (read b) → {x : Refusal} → n ≡ Err x
        → Answers a b o room (Err x)
    append_right {o} room {n} hn {x} q = two_right append a b o room left.0 left.1.reads x (nested_refused (read b) n x hn q)

  module _ (s : BothRead a b) where
    abbrev array_at : (t : Tree) × Known a t
    array_at = left s.before

    right : (u : Tree) × Known b u
    right = let w = nested_gives (read b) (nesting (read b)) refl s.item in (w.0, known b w.0 s.before.octets.right w.1)

    pub append_kind : {o : Bytes} (room : ℕ) {h : Result Header Refusal} → h ≡ header a → ((k : ℕ) → h ≡ Ok (Array k) → ⊥)
        → Answers a b o room (Err Kind)
    append_kind {o} room hh q =
        two_edit append a b o room array_at.0 array_at.1.reads right.0 right.1.reads Kind
        (append_other array_at.0 right.0 (no_array array_at.0 (λ k e. q k (hh ∙ array_at.1.head ∙ e))))

  module _ {k : ℕ} (s : Counted a b k) where
    abbrev array_of : (t : Tree) × Known a t
    array_of = left s.before.before

    abbrev item_of : (u : Tree) × Known b u
    item_of = right s.before

    items : (ts : Items) × (array_of.0 ≡ array ts) × (k ≡ length (item_parts ts))
    items = an_array array_of.0 k (sym array_of.1.head ∙ s.count)

    an_items : Known a (array items.0)
    an_items = rw items.1 at array_of.1

    pub append_deep : {o : Bytes} (room : ℕ) {n : Result Bool Refusal} → n ≡ nesting (read b) → n ≡ Ok false → Answers a b o room (Err NoResult)
    append_deep {o} room hn q =
        let d = deep_nesting item_of.0 (sym q ∙ hn ∙ ap nesting item_of.1.reads) in
        two_deep append a b o room (array items.0) an_items.reads item_of.0 item_of.1.reads _
        (append_array items.0 item_of.0) (omega (arith, depth_join items.0 (item item_of.0 none)))

    pub array_left : Lies a (Table k)
    array_left = array_lies a k items.0 an_items items.2

    module _ {g : Given} (hg : g ≡ as_one (header b)) where
      pub append_lies : Lies b g
      append_lies = one_lies b g item_of.0 item_of.1 hg

      pub append_ends : {n : Result Bool Refusal} → n ≡ nesting (read b) → (n ≡ Ok false → ⊥) → {o o' : Bytes} (room : ℕ) {e : Ending}
          → EndedIn e o o' (sized room (joined (bit_or (2 ^ 31) (k + 1)) a (Table k) b g))
          → EndedIn e o o' (on_two append a b room)
      append_ends {n} hn q {o} {o'} room {e} h =
          let d = fits_nesting item_of.0 n (hn ∙ ap nesting item_of.1.reads) q in
          let one = one_given b g item_of.0 item_of.1 hg in
          two_sized append a b o room (array items.0) an_items.reads item_of.0 item_of.1.reads _
          (append_array items.0 item_of.0) e o' (joined (bit_or (2 ^ 31) (k + 1)) a (Table k) b g)
          (omega (arith, depth_join items.0 (item item_of.0 none), an_items.deep))
          (joined_encode (bit_or (2 ^ 31) (k + 1)) a (Table k) items.0 b g (item item_of.0 none)
          (items_given a k items.0 an_items items.2) one (one_more a k b g array_left one.count))
          h
