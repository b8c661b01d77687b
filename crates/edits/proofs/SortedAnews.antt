-- An object whose names do not rise, with one of its values written anew: its members stand, in byte order, for those of the tree
-- that is left.
use Prim.Native.Nat.{ℕ, zero, suc, ◌+◌, ◌*◌, ◌-◌, ◌^◌, ◌≤◌, ◌<◌}
use native.Mathlib.Omega.{arith}
use mathlib.Core.Path.{◌≡◌, refl, ap, sym, ◌∙◌}
use mathlib.Core.Logic.{inl, inr}
use mathlib.Core.Bool.{true, false}
use mathlib.Core.List.{List, [], ◌∷◌, ◌++◌, append_assoc}
use lib.Bits.{bit_or}
use lib.ListN.{length, take, drop}
use Rattle.layout.specs.Bytes.{Bytes, Octets, be32}
use Rattle.layout.specs.Entry.{length_of, entry_at, lengths}
use Rattle.layout.specs.Tree.{Tree, object, Members, empty, member, names, kind}
use Rattle.layout.specs.Encode.{Part, name_part, name_parts, member_parts, payload, record_of}
use Rattle.std.specs.Ordering.{is_eq}
use Rattle.layout.specs.Order.{order, same_bytes}
use Rattle.layout.specs.Sound.{Rising}
use Rattle.layout.specs.Read.{header}
use Rattle.layout.specs.Check.{checked}
use Rattle.layout.specs.Patch.{patch}
use Rattle.std.specs.declared.cmp.Ordering.{Ordering}
use Rattle.std.specs.declared.cmp.Ordering.TheVariants.{Less, Equal, Greater}
use Rattle.layout.specs.declared.item.Kind.TheVariants.{Container}
use Rattle.layout.specs.declared.util.Header.TheVariants.{Object}
use Rattle.layout.proofs.Orders.{bytes_test, unlike_bytes}
use Rattle.layout.proofs.Level.{AllFit}
use Rattle.layout.proofs.Answers.{gives_inj}
use Rattle.layout.proofs.Encoding.{object_fits}
use Rattle.layout.proofs.Values.{In, rising_tail, rising_all, ≺-irrefl}
use Rattle.builders.specs.Order.{by, find, in_order}
use Rattle.layout.specs.Parts.{name_in, value_in, members_at}
use Rattle.builders.specs.Search.{kept_of, nth}
use Rattle.builders.specs.Sorted.{sorted}
use Rattle.builders.specs.Weave.{own_entry, woven, column}
use Rattle.builders.specs.declared.search.Kept.TheVariants.{All}
use Rattle.layout.specs.declared.parts.MemberAt.{MemberAt}
use Rattle.layout.specs.declared.parts.Places.{Places}
use Rattle.builders.proofs.Orderings.{order_equal, order_refl}
use Rattle.builders.proofs.InOrders.{in_order_rising, find_in_order}
use Rattle.builders.proofs.Searches.{kept_all, nth_inside}
use Rattle.builders.proofs.Storing.{column_cons}
use Rattle.builders.proofs.Stands.{Stands, Stand, stand_sorted}
use Rattle.edits.specs.Keypath.{Step}
use Rattle.edits.specs.Find.{step_name, step_into}
use Rattle.edits.specs.Delete.{change_member, anew}
use Rattle.edits.specs.Cut.{Stores, name_of, anew_value, anew_entry}
use Rattle.edits.specs.Way.{Cuts, Onward, step_at, steps_from, way_behind}
use Rattle.edits.specs.Remains.{remains_of}
use Rattle.layout.specs.Parts.{members_of}
use Rattle.edits.specs.Members.{places_for, in_turn, sizes_of}
use Rattle.layout.specs.declared.parts.PartAt.{PartAt}
use Rattle.edits.specs.declared.delete.Way.{Way}
use Rattle.edits.specs.declared.members.Sizes.{Sizes}
use Rattle.edits.proofs.Deletes.{some_inj, nothing_some, change_in_order}
use Rattle.edits.proofs.Splits.{member_split}
use Rattle.edits.proofs.Rows.{row_bytes}
use Rattle.edits.proofs.Withouts.{object_word}
use Rattle.edits.proofs.Sorteds.{ValueAt, value_at, stand_sizes, stand_woven}
use Rattle.edits.proofs.Onwards.{Below, below}
use Rattle.std.specs.Prelude.{Ok, Some}

-- Two names by the test.
same_as : (n m : Bytes) (o : Ordering) → order n m ≡ o → same_bytes n m ≡ is_eq o
unfolding same_bytes
same_as n m o q = rw q

same_true : (n m : Bytes) → same_bytes n m ≡ true → n ≡ m
same_true n m e = (bytes_test n m).0 (rw e tt)

same_false : (n m : Bytes) → (n ≡ m → ⊥) → same_bytes n m ≡ false
same_false n m d = sym (unlike_bytes n m d)

-- The name of a member that stands is among the names.
pub nth_in : (name value : MemberAt → Bytes) (entry : MemberAt → ℕ) (xs : List MemberAt) (ms : Members) → Stand name value entry xs ms
    → (i : ℕ) (m : MemberAt) → nth xs i ≡ Some m → In (name m) (names ms)
unfolding nth
nth_in name value entry [] ms h i m e = let z : ◌≡◌ {A = ℕ} 0 1 = cc in let w : ⊥ = omega arith in absurd w
nth_in name value entry (x ∷ xs) empty h i m e = absurd h
nth_in name value entry (x ∷ xs) (member k t ms) h zero m e = let q : x ≡ m = cc in inl (rw (← q) h.0.2)
nth_in name value entry (x ∷ xs) (member k t ms) h (suc i) m e = inr (nth_in name value entry xs ms h.1 i m e)

-- Members some of which have the name, the value of those being `before`, and what is put in its stead.
module _ (s n : Bytes) (rest : List Step) (before after : Tree)
    (here : remains_of (payload before) rest ≡ payload after) (made : kind after ≡ Container) where
  abbrev name : MemberAt → Bytes
  name = name_in s

  abbrev value : MemberAt → Bytes
  value = value_in s

  abbrev Anew : List MemberAt → Members → Type 0
  Anew = Stand (name_in s) (anew_value s n rest) (anew_entry s n rest)

  other_head : (x : MemberAt) (m : Bytes) (t : Tree) → Stands (name_in s) (value_in s) own_entry x m t → same_bytes n (name_in s x) ≡ false
      → Stands (name_in s) (anew_value s n rest) (anew_entry s n rest) x m t
  other_head x m t h g = (h.0, rw g h.1, h.2, rw g h.3)

  this_head : (x : MemberAt) (m : Bytes) → Stands (name_in s) (value_in s) own_entry x m before → same_bytes n (name_in s x) ≡ true
      → Stands (name_in s) (anew_value s n rest) (anew_entry s n rest) x m after
  this_head x m h g =
      let l : remains_of (value_in s x) rest ≡ payload after = ap (λ (b : Bytes). remains_of b rest) h.3 ∙ here in
      (h.0, rw (g, l, made), h.2, rw (g, l))

  -- Where no name is the one meant, all stays.
  stand_others : (xs : List MemberAt) (ms : Members) → ((m : Bytes) → In m (names ms) → n ≡ m → ⊥) → Stand name value own_entry xs ms → Anew xs ms
  stand_others [] empty d h = tt
  stand_others [] (member m t ms) d h = absurd h
  stand_others (x ∷ xs) empty d h = absurd h
  stand_others (x ∷ xs) (member m t ms) d h = (
    other_head x m t h.0 (same_false n (name_in s x) (λ q. d m (inl refl) (q ∙ h.0.2))),
    stand_others xs ms (λ k i. d k (inr i)) h.1,
  )

  anew_by : (o : Ordering) (x : MemberAt) (xs : List MemberAt) (m : Bytes) (t : Tree) (ms : Members) → order n m ≡ o → Rising (m ∷ names ms)
      → by o (find n ms) (Some t) (find n ms) ≡ Some before → Stand name value own_entry (x ∷ xs) (member m t ms)
      → (find n ms ≡ Some before → Anew xs (change_member (Some after) n ms))
      → Anew (x ∷ xs) (by o (member m t (change_member (Some after) n ms)) (member m after ms) (member m t (change_member (Some after) n ms)))
  anew_by Equal x xs m t ms q r f h go =
      let a : n ≡ m = order_equal n m q in
      let b : t ≡ before = some_inj f in
      let g : same_bytes n (name_in s x) ≡ true = rw h.0.2 (same_as n m Equal q) in (
        this_head x m (rw b at h.0) g,
        stand_others xs ms (λ k i e. ≺-irrefl m (rw (← sym a ∙ e) at (rising_all m (names ms) r k i))) h.1,
      )
  anew_by Less x xs m t ms q r f h go = (other_head x m t h.0 (rw h.0.2 (same_as n m Less q)), go f)
  anew_by Greater x xs m t ms q r f h go = (other_head x m t h.0 (rw h.0.2 (same_as n m Greater q)), go f)

  pub stand_anew : (xs : List MemberAt) (ms : Members) → Rising (names ms) → find n ms ≡ Some before → Stand name value own_entry xs ms
      → Anew xs (change_member (Some after) n ms)
  stand_anew [] empty r f h = nothing_some f
  stand_anew [] (member m t ms) r f h = absurd h
  stand_anew (x ∷ xs) empty r f h = absurd h
  stand_anew (x ∷ xs) (member m t ms) r f h =
      anew_by (order n m) x xs m t ms refl r f h (λ g. stand_anew xs ms (rising_tail m (names ms) r) g h.1)

  -- The member that the search finds, by its name.
  found_later : (o : Ordering) (m : Bytes) (t : Tree) (ms : Members) → order n m ≡ o → by o (find n ms) (Some t) (find n ms) ≡ Some before
      → (n ≡ m → ⊥) → find n ms ≡ Some before
  found_later Less m t ms q f d = f
  found_later Equal m t ms q f d = absurd (d (order_equal n m q))
  found_later Greater m t ms q f d = f

  found_now : (o : Ordering) (m : Bytes) (t : Tree) (ms : Members) → order n m ≡ o → by o (find n ms) (Some t) (find n ms) ≡ Some before
      → n ≡ m → t ≡ before
  found_now Equal m t ms q f e = some_inj f
  found_now Less m t ms q f e = let z : Less ≡ Equal = sym q ∙ rw e (order_refl m) in let w : ◌≡◌ {A = ℕ} 0 1 = cc in let v : ⊥ = omega arith in absurd v
  found_now Greater m t ms q f e = let z : Greater ≡ Equal = sym q ∙ rw e (order_refl m) in let w : ◌≡◌ {A = ℕ} 0 1 = cc in let v : ⊥ = omega arith in absurd v

  pub stand_found : (xs : List MemberAt) (ms : Members) → Rising (names ms) → find n ms ≡ Some before → Stand name value own_entry xs ms
      → (i : ℕ) (m : MemberAt) → nth xs i ≡ Some m → same_bytes n (name_in s m) ≡ true → value_in s m ≡ payload before
  unfolding nth
  stand_found [] ms r f h i m e g = let z : ◌≡◌ {A = ℕ} 0 1 = cc in let w : ⊥ = omega arith in absurd w
  stand_found (x ∷ xs) empty r f h i m e g = absurd h
  stand_found (x ∷ xs) (member k t ms) r f h zero m e g =
      let q : x ≡ m = cc in
      let a : n ≡ k = same_true n (name_in s m) g ∙ rw (← q) h.0.2 in
      let b : t ≡ before = found_now (order n k) k t ms refl f a in
      rw (← q, ← b) h.0.3
  stand_found (x ∷ xs) (member k t ms) r f h (suc i) m e g =
      let a : n ≡ name_in s m = same_true n (name_in s m) g in
      let d : n ≡ k → ⊥ = λ z. ≺-irrefl k (rw (sym a ∙ z) at (rising_all k (names ms) r (name_in s m) (nth_in name value own_entry xs ms h.1 i m e))) in
      stand_found xs ms (rising_tail k (names ms) r) (found_later (order n k) k t ms refl f d) h.1 i m e g

-- One of a column is no longer than the column.
pub column_part : (f : MemberAt → Bytes) (xs : List MemberAt) (i : ℕ) (m : MemberAt) → nth xs i ≡ Some m → length (f m) ≤ length (column f xs)
unfolding nth
column_part f [] i m e = let z : ◌≡◌ {A = ℕ} 0 1 = cc in let w : ⊥ = omega arith in absurd w
column_part f (x ∷ xs) zero m e = let q : x ≡ m = cc in rw (← q) (omega (arith, column_cons f x xs))
column_part f (x ∷ xs) (suc i) m e = omega (arith, column_cons f x xs, column_part f xs i m e)

-- The name of the member that a step leads to, as the code reads it.
pub name_found : (s : Bytes) (n : ℕ) (val : PartAt) (p : Step) → ValueAt s n val p → name_of s n (val.index - n) ≡ step_name p
name_found s n val p v =
    let sp = member_split (step_name p) v.members v.value v.found in
    let f = object_fits v.members (omega (arith, ap length v.bytes, v.short)) in
    let all : name_parts (names v.members) ++ member_parts v.members ≡ sp.keys_left ++ (name_part (step_name p) ∷ (sp.keys_right ++ member_parts v.members)) =
    rw sp.keys (append_assoc sp.keys_left (name_part (step_name p) ∷ sp.keys_right) (member_parts v.members)) in
    let e : record_of (2 ^ 30 + length (member_parts v.members)) (sp.keys_left ++ (name_part (step_name p) ∷ (sp.keys_right ++ member_parts v.members))) ≡ s =
    ap (record_of (2 ^ 30 + length (member_parts v.members))) (sym all) ∙ v.bytes in
    let k : val.index - n ≡ length sp.keys_left = omega (arith, v.index, sp.keys_before) in
    let m : n + n ≡ length (sp.keys_left ++ (name_part (step_name p) ∷ (sp.keys_right ++ member_parts v.members))) =
    omega (arith, v.count, f.whole, ap length all) in
    name_by s _ (n + n) (val.index - n) sp.keys_left (step_name p) (sp.keys_right ++ member_parts v.members) e k m (rw all at f.fits)
  where
    name_by : (s : Bytes) (w total i : ℕ) (l : List Part) (b : Bytes) (r : List Part) → record_of w (l ++ (name_part b ∷ r)) ≡ s → i ≡ length l
        → total ≡ length (l ++ (name_part b ∷ r)) → AllFit (l ++ (name_part b ∷ r))
        → take (length_of (entry_at s i)) (drop (4 + 4 * total + lengths s 0 i) s) ≡ b
    name_by s w total i l b r e hi ht f = rw (hi, ht, ← e) (row_bytes w l (name_part b) r f)

-- The same object in the code's terms: to be written anew in byte order of the names, and its members measured.
pub record SortedAnew (s path : Bytes) (n : ℕ) (val : PartAt) (w : Way) (allowance : ℕ) : Type 0 where
  pub octets : Octets s
  pub cuts : Cuts s path w allowance
  pub onward : Onward s path w val
  pub is_object : header s ≡ Ok (Object n)

pub record Measured (s path : Bytes) (n : ℕ) (val : PartAt) (w : Way) (from : Places) (z : Sizes) (next : Way) (name : Bytes) : Type 0 where
  pub from_is : from ≡ members_of s n
  pub sizes_are : z ≡ sizes_of s (in_turn s from n All)
  pub next_is : next ≡ way_behind path w
  pub name_is : name ≡ name_of s n (val.index - n)

module _ {s path : Bytes} {n : ℕ} {val : PartAt} {w : Way} {allowance : ℕ} (given : SortedAnew s path n val w allowance) where
  down : Below s path w val allowance
  down = below s path w val allowance given.octets given.cuts given.onward

  pub at_value : ValueAt s n val (step_at path w.step)
  at_value =
      value_at s n val (step_at path w.step) given.octets (ap checked down.contained.reads) given.cuts.short
      given.is_object given.onward.leads

  pub allows : 1 ≤ allowance
  allows = down.allowed

  abbrev ms : Members
  ms = at_value.members

  abbrev key : Bytes
  key = step_name (step_at path w.step)

  same_tree : down.tree ≡ object ms
  same_tree = gives_inj (sym down.contained.reads ∙ at_value.reads)

  same_value : down.value ≡ at_value.value
  same_value = some_inj (sym down.found ∙ ap (step_into (step_at path w.step)) same_tree ∙ at_value.found)

  module _ {from : Places} {z : Sizes} {next : Way} {name : Bytes} (measured : Measured s path n val w from z next name) where
    abbrev steps : List Step
    steps = steps_from path next

    abbrev searched : List MemberAt
    searched = kept_of All 0 (members_at s s from n)

    abbrev all : List MemberAt
    all = sorted (name_in s) searched

    named : name ≡ key
    named = measured.name_is ∙ name_found s n val (step_at path w.step) at_value

    own : Stand (name_in s) (value_in s) own_entry all (in_order ms)
    own =
        stand_sorted (name_in s) (value_in s) own_entry searched ms
        (rw (kept_all 0 (members_at s s from n), measured.from_is) at_value.stand)

    finds : find name (in_order ms) ≡ Some down.value
    finds = rw named (find_in_order key ms ∙ at_value.found ∙ ap Some (sym same_value))

    inner : remains_of (payload down.value) steps ≡ payload down.after
    inner = rw measured.next_is down.inner

    standing : Stand (name_in s) (anew_value s name steps) (anew_entry s name steps) all (change_member (Some down.after) name (in_order ms))
    standing = stand_anew s name steps down.value down.after inner down.made all (in_order ms) (in_order_rising ms) finds own

    remains_is : remains_of s (steps_from path w) ≡ payload (object (change_member (Some down.after) name (in_order ms)))
    remains_is =
        down.remains_is
        ∙ ap (λ (t : Tree). payload (anew (Some down.after) (step_at path w.step) t)) same_tree
        ∙ ap (λ (q : Members). payload (object q)) (change_in_order key down.after ms)
        ∙ ap (λ (k : Bytes). payload (object (change_member (Some down.after) k (in_order ms)))) (sym named)

    counted : z.count ≡ length all
    counted = ap (λ (x : Sizes). x.count) measured.sizes_are

    keyed : z.keys ≡ length (column (name_in s) all)
    keyed = ap (λ (x : Sizes). x.keys) measured.sizes_are

    summed : 4 + 8 * z.count + z.keys + length (column (anew_value s name steps) all) ≡ length (remains_of s (steps_from path w))
    summed =
        omega (
          arith,
          counted,
          keyed,
          ap length remains_is,
          stand_sizes (name_in s) (anew_value s name steps) (anew_entry s name steps) all
              (change_member (Some down.after) name (in_order ms)) standing,
        )

    pub anew_room : 4 + 8 * z.count + z.keys + length (column (anew_value s name steps) all) ≤ 65536
    anew_room = omega (arith, summed, down.remains_shorter, given.cuts.short)

    -- The member whose value is written anew: what the nested call asks.
    pub anew_cuts : (i : ℕ) {m : MemberAt} → nth all i ≡ Some m → same_bytes name (name_in s m) ≡ true → Cuts (value_in s m) path next (allowance - 1)
    anew_cuts i {m} e g =
        let v : value_in s m ≡ payload down.value =
        stand_found s name steps down.value down.after inner down.made all (in_order ms) (in_order_rising ms) finds own i m e g in
        rw (v, measured.next_is) down.cuts

    pub value_anew_short : (i : ℕ) {m : MemberAt} → nth all i ≡ Some m → length (anew_value s name steps m) < 2 ^ 28
    value_anew_short i {m} e = omega (arith, anew_room, column_part (anew_value s name steps) all i m e)

    pub anew_count : (i : ℕ) {m : MemberAt} → nth all i ≡ Some m → i < z.count
    anew_count i {m} e = omega (arith, counted, nth_inside all i m e)

    pub anew_remains : {to : Places} {at v end : ℕ} {b b₁ b₂ : Bytes} → to ≡ places_for z at → v ≡ bit_or (2 ^ 30) z.count
        → b₁ ≡ patch b at (be32 v)
        → b₂ ≡ woven (name_in s) (anew_value s name steps) (anew_entry s name steps) b₁ to.key_jentry to.val_jentry to.key to.val all
        → end ≡ to.val + length (column (anew_value s name steps) all)
        → Stores (end - at) b b₂ at (remains_of s (steps_from path w))
    anew_remains {to} {at} {v} {end} {b} {b₁} {b₂} et ev e₁ e₂ ee =
        let q : v ≡ 2 ^ 30 + z.count = ev ∙ object_word z.count (omega (arith, anew_room)) in
        let tv : to.val ≡ at + 4 + 4 * z.count + 4 * z.count + z.keys = ap (λ (x : Places). x.val) et in
        rw remains_is (record {
          length_is = omega (arith, ee, tv, summed, ap length remains_is);
          stored =
              stand_woven (name_in s) (anew_value s name steps) (anew_entry s name steps) all
              (change_member (Some down.after) name (in_order ms)) standing b b₁ b₂ at z counted keyed (rw q at e₁) (rw et at e₂);
        })
