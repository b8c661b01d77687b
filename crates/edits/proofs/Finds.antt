-- The part that a step finds: the item of an array, the value of an object.
use Rattle.layout.specs.Parts.{start_of, texts, nth_part}
use Prim.Native.Nat.{ℕ, suc, ◌+◌, ◌-◌, ◌^◌, ◌<◌}
use native.Mathlib.Omega.{arith}
use native.Mathlib.Nat.{zero-add}
use mathlib.Core.Path.{◌≡◌, refl, sym, ap, ◌∙◌}
use mathlib.Core.Bool.{Bool, true, false, cond}
use mathlib.Core.List.{List}
use lib.Dec.{ltb}
use lib.IntN.{ℤ, pos, negsuc}
use borrow.Author.Tests.{ltb-true}
use Rattle.layout.specs.Bytes.{Bytes}
use Rattle.layout.specs.Entry.{lengths}
use Rattle.layout.specs.Place.{parts_at}
use Rattle.layout.specs.Read.{header}
use Rattle.layout.specs.declared.refusal.Refusal.{Refusal}
use Rattle.layout.specs.declared.util.Header.{Header}
use Rattle.layout.specs.declared.util.Header.TheVariants.{Array, Object, Scalar}
use Rattle.layout.proofs.Places.{lengths_split}
use Rattle.layout.proofs.Walks.{lengths_le}
use Rattle.edits.specs.Keypath.{Step, index_text}
use Rattle.edits.specs.Find.{place, step_place, step_name}
use Rattle.edits.specs.Steps.{step, key_place}
use Rattle.edits.specs.Spot.{first, spot_at, spot_member, value_of, spot}
use Rattle.edits.specs.declared.keypath.KeyPath.{KeyPath}
use Rattle.edits.specs.declared.keypath.KeyPath.TheVariants.{Index, Name}
use Rattle.layout.specs.declared.parts.PartAt.{PartAt}
use Rattle.std.specs.Prelude.{Ok, Err, Some, None, Result, Option}

-- The value of a member.

lengths_two : (s : Bytes) (n k : ℕ) → lengths s 0 (n + k) ≡ lengths s 0 k + lengths s k n
lengths_two s n k =
    let c : n + k ≡ k + n = omega arith in
    rw c (lengths_split s 0 k n ∙ ap (λ (i : ℕ). lengths s 0 k + lengths s i n) (zero-add k))

-- The part of its name.
pub key_part : (s : Bytes) (n : ℕ) (o : Option ℕ) (key : PartAt) → Some key ≡ spot_at s n o → (k : ℕ) × (o ≡ Some k) × (key ≡ nth_part s n k)
unfolding spot_at
key_part s n None key e = let z : ◌≡◌ {A = ℕ} 0 1 = cc in let w : ⊥ = omega arith in absurd w
key_part s n (Some k) key e = (k, refl, cc)

-- The value by the part of its name: the names from there on, and the values before it, stand between the two.
pub value_at : (s : Bytes) (n : ℕ) (o : Option ℕ) → value_of s n (spot_at s (n + n) o) ≡ spot_member s n o
unfolding spot_at spot_member
value_at s n None = refl
value_at s n (Some k) =
    let e : start_of (n + n) + lengths s 0 k + lengths s k n ≡ start_of (n + n) + lengths s 0 (n + k) = omega (arith, lengths_two s n k) in
    rw e

module _ (s : Bytes) (n : ℕ) (o : Option ℕ) (name : Option PartAt) (hn : name ≡ spot_at s (n + n) o) where
  pub member_value : (r : Option PartAt) → r ≡ value_of s n name → r ≡ spot_member s n o
  member_value r e = e ∙ ap (value_of s n) hn ∙ value_at s n o

  pub name_bounds : n < 2 ^ 29 → ((k : ℕ) → o ≡ Some k → k < n) → (key : PartAt) → name ≡ Some key
      → (key.index < n) × (key.place < 2 ^ 60)
  name_bounds few h key q =
      let w = key_part s (n + n) o key (sym q ∙ hn) in
      let k = w.0 in
      let ei : key.index ≡ k = ap (λ (x : PartAt). x.index) w.2 in
      let ep : key.place ≡ start_of (n + n) + lengths s 0 k = ap (λ (x : PartAt). x.place) w.2 in
      let l : k < n = h k w.1 in
      (omega arith, omega (arith, lengths_le s 0 k))

-- The item that an index finds.

pub cond_some : (b : Bool) (x k : ℕ) → cond b (Some x) None ≡ Some k → (b ≡ true) × (x ≡ k)
cond_some true x k e = (refl, cc)
cond_some false x k e = let z : ◌≡◌ {A = ℕ} 0 1 = cc in let w : ⊥ = omega arith in absurd w

pub place_lt : (z : ℤ) (n k : ℕ) → place z n ≡ Some k → k < n
unfolding place
place_lt (pos j) n k e = let w = cond_some (ltb j n) j k e in omega (arith, ltb-true j n w.0, w.1)
place_lt (negsuc j) n k e = let w = cond_some (ltb j n) (n - suc j) k e in omega (arith, ltb-true j n w.0, w.1)

-- A place that was told, as the code goes on with it.
pub told_in : (n : ℕ) (o : Option ℕ) → ((k : ℕ) → o ≡ Some k → k < n) → (place : Option ℕ) → place ≡ o
    → (k : ℕ) → place ≡ Some k → k < n
told_in n o lt place h k q = lt k (sym h ∙ q)

-- A key of a path's item, where it was told which.
pub key_none : (s : Bytes) (n : ℕ) (key : Option KeyPath) → key ≡ None → None ≡ spot_at s n (key_place key n)
unfolding key_place spot_at
key_none s n key q = rw q

pub key_name : (s : Bytes) (n : ℕ) (key : Option KeyPath) (k : KeyPath) → key ≡ Some k → k ≡ Name → None ≡ spot_at s n (key_place key n)
unfolding key_place spot_at
key_name s n key k q e = rw (q, e)

module _ (s : Bytes) (n : ℕ) (place : Option ℕ) where
  pub place_none : place ≡ None → None ≡ spot_at s n place
  unfolding spot_at
  place_none q = rw q

  pub place_found : (k : ℕ) → place ≡ Some k → (p : PartAt) → p ≡ nth_part s n k → Some p ≡ spot_at s n place
  unfolding spot_at
  place_found k q p e = rw q (ap Some e)

  pub told_at : (o : Option ℕ) → place ≡ o → (r : Option PartAt) → r ≡ spot_at s n place → r ≡ spot_at s n o
  told_at o h r e = e ∙ ap (spot_at s n) h

-- The item that an index of a path finds.
module _ (n : ℕ) (key : Option KeyPath) (v z : ℤ) (hk : key ≡ Some (Index z)) (hv : v ≡ z) where
  pub item_place : place v n ≡ key_place key n
  unfolding key_place
  item_place = rw (hk, ← hv)

-- The value that a step finds.

module _ (s : Bytes) (n : ℕ) (key : Option KeyPath) (text : Bytes) (ns : List Bytes) (r : Option PartAt) where
  pub value_name : (k : KeyPath) → key ≡ Some k → k ≡ Name → r ≡ spot_member s n (first text ns)
      → r ≡ spot_member s n (first (step_name (step key text)) ns)
  unfolding step
  value_name k h q e = rw (h, q) e

  pub value_none : key ≡ None → r ≡ spot_member s n (first text ns) → r ≡ spot_member s n (first (step_name (step key text)) ns)
  unfolding step
  value_none h e = rw h e

  pub value_index : (v z : ℤ) (piece : Bytes) → key ≡ Some (Index z) → v ≡ z → piece ≡ index_text v → r ≡ spot_member s n (first piece ns)
      → r ≡ spot_member s n (first (step_name (step key text)) ns)
  unfolding step
  value_index v z piece hk hv hp e = rw (hk, ← hv, ← hp) e

-- One step, by the header.

place_step : (k : Option KeyPath) (b : Bytes) (n : ℕ) → step_place (step k b) n ≡ key_place k n
unfolding step key_place
place_step (Some (Index z)) b n = refl
place_step (Some Name) b n = refl
place_step None b n = refl

pub spot_array : (n : ℕ) (s : Bytes) (t : Step) → spot (Ok (Array n)) s t ≡ spot_at s n (step_place t n)
unfolding spot
spot_array n s t = refl

pub spot_object : (n : ℕ) (s : Bytes) (t : Step)
    → spot (Ok (Object n)) s t ≡ spot_member s n (first (step_name t) (texts (parts_at s 0 (start_of (n + n)) n)))
unfolding spot
spot_object n s t = refl

module _ (s text : Bytes) (k k₀ : Option KeyPath) (h : Result Header Refusal) (hk : k ≡ k₀) (hh : h ≡ header s) where
  pub step_array : (n : ℕ) (r : Option PartAt) → h ≡ Ok (Array n) → r ≡ spot_at s n (key_place k n) → r ≡ spot (header s) s (step k₀ text)
  step_array n r q e = rw (← hh, q, spot_array n s (step k₀ text), place_step k₀ text n, ← hk) e

  pub step_object : (n : ℕ) (r : Option PartAt) → h ≡ Ok (Object n)
      → r ≡ spot_member s n (first (step_name (step k text)) (texts (parts_at s 0 (start_of (n + n)) n)))
      → r ≡ spot (header s) s (step k₀ text)
  step_object n r q e = rw (← hh, q, spot_object n s (step k₀ text), ← hk) e

  pub step_scalar : (n : ℕ) → h ≡ Ok (Scalar n) → None ≡ spot (header s) s (step k₀ text)
  unfolding spot
  step_scalar n q = rw (sym hh ∙ q)

  pub step_refused : (r : Refusal) → h ≡ Err r → None ≡ spot (header s) s (step k₀ text)
  unfolding spot
  step_refused r q = rw (sym hh ∙ q)
