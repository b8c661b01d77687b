-- What a step has handed out: it lies in the slice, and every name and string has the number of its code points.
use Prim.Native.Nat.{ℕ, zero, suc, ◌+◌, ◌≤◌}
use native.Mathlib.Omega.{arith}
use mathlib.Core.Path.{◌≡◌, refl, sym, ap, ◌∙◌}
use mathlib.Core.Logic.{inl, inr}
use mathlib.Core.Bool.{Bool, true, false, not, cond, ◌&&◌}
use borrow.Author.Tests.{eqb-true, eqb-false}
use lib.Dec.{eqb}
use lib.ListN.{length}
use Rattle.layout.specs.Bytes.{Bytes, inside, word_at}
use Rattle.layout.specs.Answer.{Answer, gives, refused, ◌>>=◌}
use Rattle.layout.specs.Entry.{top_of, code_of, length_of, kind_of, entry_good}
use Rattle.layout.specs.Walk.{item_of, counted, characters_of, item_at, ends_with, array_step, member_at, member_step, object_step}
use Rattle.layout.specs.Walk.{Numbered}
use Rattle.layout.specs.declared.refusal.Refusal.TheVariants.{Short, Layout}
use Rattle.layout.specs.declared.item.Kind.TheVariants.{String}
use Rattle.layout.specs.declared.item.JsonbItem.{JsonbItem}
use Rattle.layout.specs.declared.iterator.ArrayIterator.{ArrayIterator}
use Rattle.layout.specs.declared.iterator.ObjectIterator.{ObjectIterator}
use Rattle.layout.specs.declared.iterator.ObjectMember.{ObjectMember}
use Rattle.layout.proofs.Answers.{from_bind, refused_gives, gives_inj}
use Rattle.layout.proofs.Fields.{inside_le}
use Rattle.layout.proofs.Places.{and_both}
use Rattle.std.specs.Prelude.{Ok, Err, Some, None, Result, Option}
use Rattle.layout.specs.declared.refusal.Refusal.{Refusal}
use Rattle.std.proofs.lemmas.Option.{some_pair_parts}

-- ---- an item

-- No other code than 1 is that of a string.
other_kind : (c : ℕ) → (c ≡ 1 → ⊥) → kind_of c ≡ String → ⊥
unfolding kind_of
other_kind zero h e = let z : ◌≡◌ {A = ℕ} 0 1 = cc in omega arith
other_kind (suc zero) h e = h refl
other_kind (suc (suc zero)) h e = let z : ◌≡◌ {A = ℕ} 0 1 = cc in omega arith
other_kind (suc (suc (suc zero))) h e = let z : ◌≡◌ {A = ℕ} 0 1 = cc in omega arith
other_kind (suc (suc (suc (suc zero)))) h e = let z : ◌≡◌ {A = ℕ} 0 1 = cc in omega arith
other_kind (suc (suc (suc (suc (suc zero))))) h e = let z : ◌≡◌ {A = ℕ} 0 1 = cc in omega arith
other_kind (suc (suc (suc (suc (suc (suc zero)))))) h e = let z : ◌≡◌ {A = ℕ} 0 1 = cc in omega arith
other_kind (suc (suc (suc (suc (suc (suc (suc c))))))) h e = let z : ◌≡◌ {A = ℕ} 0 1 = cc in omega arith

module _ (s : Bytes) (w place : ℕ) where
  item_is : item_at s w place ≡ (characters_of s w place >>= λ c. gives (item_of w place c))
  unfolding item_at
  item_is = refl

  -- An item is its entry's, with the characters that were counted.
  item_counted : {i : JsonbItem} → item_at s w place ≡ gives i → (c : Option ℕ) × (characters_of s w place ≡ gives c) × (item_of w place c ≡ i)
  item_counted h = from_bind (sym item_is ∙ h) λ c hc e. (c, hc, gives_inj e)

  numbered_by : (c : Option ℕ) → characters_of s w place ≡ gives c → Numbered s (item_of w place c)
  unfolding characters_of counted item_of kind_of
  numbered_by c h = by_code (eqb (code_of w) 1) refl
    where
      of_text : (o : Option ℕ) → counted o ≡ gives c → (n : ℕ) × (o ≡ Some n) × (c ≡ Some n)
      of_text None e = refused_gives e
      of_text (Some n) e = (n, refl, sym (gives_inj e))

      by_code : (b : Bool) → eqb (code_of w) 1 ≡ b → Numbered s (item_of w place c)
      by_code true q = inl (ap kind_of (eqb-true (code_of w) 1 q), of_text _ (rw q at h))
      by_code false q = inr (other_kind (code_of w) (eqb-false (code_of w) 1 q), sym (gives_inj (rw q at h)))

  pub numbered : (i : JsonbItem) → item_at s w place ≡ gives i → Numbered s i
  numbered i h = let c = item_counted h in rw (← c.2) (numbered_by c.0 c.1)

  -- It stands where its entry says.
  pub item_within : (i : JsonbItem) → item_at s w place ≡ gives i → inside s place (length_of w) ≡ true → i.place + i.length ≤ length s
  unfolding item_of
  item_within i h t = let c = item_counted h in rw (← c.2) (inside_le s place (length_of w) true (sym t) refl)

-- ---- a step over an array

-- A step that has found an item has passed its tests: the payload lies in the slice, and the item was handed out.
item_tests : (a b c d : Bool) (x : Result (Option (JsonbItem × ArrayIterator)) Refusal) (i : JsonbItem) (n : ArrayIterator)
    → cond a (Ok None) (cond (not b) (Err Short) (cond (not c) (Err Layout) (cond (not d) (Err Layout) x))) ≡ Ok (Some (i, n))
    → (d ≡ true) × (x ≡ Ok (Some (i, n)))
item_tests true b c d x i n q = (cc, cc)
item_tests false false c d x i n q = (cc, cc)
item_tests false true false d x i n q = (cc, cc)
item_tests false true true false x i n q = (cc, cc)
item_tests false true true true x i n q = (refl, q)

item_ends : (y : ArrayIterator) (a : Answer JsonbItem) (i : JsonbItem) (n : ArrayIterator)
    → ends_with {B = Result (Option (JsonbItem × ArrayIterator)) Refusal} (λ i. Ok (Some (i, y))) Err a ≡ Ok (Some (i, n)) → a ≡ gives i
unfolding ends_with
item_ends y (gives j) i n q = let z : Some (j, y) ≡ Some (i, n) = cc in ap gives (some_pair_parts j i y n z).0
item_ends y (refused r) i n q = cc

module _ (s : Bytes) (w : ArrayIterator) (r : Result (Option (JsonbItem × ArrayIterator)) Refusal) (i : JsonbItem) (n : ArrayIterator) (hr : r ≡ array_step s w) (q : r ≡ Ok (Some (i, n))) where
  abbrev entry : ℕ
  entry = word_at s w.jentry_offset

  found_item : (inside s w.item_offset (length_of entry) ≡ true) × (item_at s entry w.item_offset ≡ gives i)
  unfolding array_step
  found_item =
      let t =
      item_tests (eqb w.remaining 0) (inside s w.jentry_offset 4) (entry_good false entry)
      (inside s w.item_offset (length_of entry)) _ i n (sym hr ∙ q)
      in
      (t.0, item_ends _ (item_at s entry w.item_offset) i n t.1)

  pub item_inside : i.place + i.length ≤ length s
  item_inside = item_within s entry w.item_offset i found_item.1 found_item.0

  -- "Let walks hand this number out with every [..] string item."
  pub item_numbered : Numbered s i
  item_numbered = numbered s entry w.item_offset i found_item.1

-- ---- a step over an object

entry_tests : (a b c d e : Bool) (x : Result (Option (ObjectMember × ObjectIterator)) Refusal) (m : ObjectMember) (n : ObjectIterator)
    → cond a (Ok None)
    (cond (not b) (Err Short)
    (cond (not c) (Err Layout)
    (cond (not d) (Err Short) (cond (not e) (Err Layout) x)))) ≡ Ok (Some (m, n))
    → (c ≡ true) × (x ≡ Ok (Some (m, n)))
entry_tests true b c d e x m n q = (cc, cc)
entry_tests false false c d e x m n q = (cc, cc)
entry_tests false true false d e x m n q = (cc, cc)
entry_tests false true true false e x m n q = (cc, cc)
entry_tests false true true true false x m n q = (cc, cc)
entry_tests false true true true true x m n q = (refl, q)

payload_tests : (a b : Bool) (x : Result (Option (ObjectMember × ObjectIterator)) Refusal) (m : ObjectMember) (n : ObjectIterator)
    → cond (not a) (Err Layout) (cond (not b) (Err Layout) x) ≡ Ok (Some (m, n)) → (b ≡ true) × (x ≡ Ok (Some (m, n)))
payload_tests false b x m n q = (cc, cc)
payload_tests true false x m n q = (cc, cc)
payload_tests true true x m n q = (refl, q)

member_ends : (y : ObjectIterator) (a : Answer ObjectMember) (m : ObjectMember) (n : ObjectIterator)
    → ends_with {B = Result (Option (ObjectMember × ObjectIterator)) Refusal} (λ m. Ok (Some (m, y))) Err a ≡ Ok (Some (m, n)) → a ≡ gives m
unfolding ends_with
member_ends y (gives j) m n q = let z : Some (j, y) ≡ Some (m, n) = cc in ap gives (some_pair_parts j m y n z).0
member_ends y (refused r) m n q = cc

module _ (s : Bytes) (w : ObjectIterator) (r : Result (Option (ObjectMember × ObjectIterator)) Refusal) (m : ObjectMember)
    (n : ObjectIterator) (hr : r ≡ object_step s w) (q : r ≡ Ok (Some (m, n))) where
  abbrev key_entry : ℕ
  key_entry = word_at s w.key_jentry_offset

  abbrev val_entry : ℕ
  val_entry = word_at s w.val_jentry_offset

  found_entries : (entry_good true key_entry ≡ true) × (member_step s w key_entry val_entry ≡ Ok (Some (m, n)))
  unfolding object_step
  found_entries =
      entry_tests (eqb w.remaining 0) (inside s w.key_jentry_offset 4) (entry_good true key_entry)
      (inside s w.val_jentry_offset 4) (entry_good false val_entry) (member_step s w key_entry val_entry) m n (sym hr ∙ q)

  found_payloads : (inside s w.val_offset (length_of val_entry) ≡ true) × (member_at s w key_entry val_entry ≡ gives m)
  unfolding member_step
  found_payloads =
      let t =
      payload_tests (inside s w.key_offset (length_of key_entry)) (inside s w.val_offset (length_of val_entry)) _ m n
      found_entries.1
      in
      (t.0, member_ends _ (member_at s w key_entry val_entry) m n t.1)

  found_items : (item_at s key_entry w.key_offset ≡ gives m.key) × (item_at s val_entry w.val_offset ≡ gives m.val)
  unfolding member_at
  found_items =
      from_bind found_payloads.1 λ i hi e. from_bind e λ j hj e₁.
      let same : record { key = i; val = j } ≡ m = gives_inj e₁ in
      rw (← same) (hi, hj)

  pub value_inside : m.val.place + m.val.length ≤ length s
  value_inside = item_within s val_entry w.val_offset m.val found_items.1 found_payloads.0

  -- "Let walks hand this number out with every name and string item."
  pub member_numbered : Numbered s m.key × Numbered s m.val
  member_numbered =
      (numbered s key_entry w.key_offset m.key found_items.0, numbered s val_entry w.val_offset m.val found_items.1)

  -- A name is a string, so that it has one.
  pub name_string : m.key.kind ≡ String
  unfolding entry_good item_of kind_of
  name_string =
      let good = and_both (eqb (top_of key_entry) 0) (not (eqb (code_of key_entry) 7) && eqb (code_of key_entry) 1) found_entries.0 in
      let code = and_both (not (eqb (code_of key_entry) 7)) (eqb (code_of key_entry) 1) good.1 in
      let c = item_counted s key_entry w.key_offset found_items.0 in
      rw (← c.2) (ap kind_of (eqb-true (code_of key_entry) 1 code.1))
