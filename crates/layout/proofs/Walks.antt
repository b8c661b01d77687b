-- Laws of the walks: a step of the code is the step of the definition, test by test.
use Prim.Native.Nat.{ℕ, zero, suc, ◌+◌, ◌*◌, ◌-◌, ◌^◌, ◌≤◌}
use mathlib.Core.Path.{◌≡◌, refl, sym, ◌∙◌}
use mathlib.Core.Bool.{Bool, true, false, cond, not}
use native.Mathlib.Omega.{arith}
use mathlib.Core.Logic.{◌⊎◌, inl, inr}
use lib.ListN.{take, drop}
use borrow.Author.Tests.{ne_eqb}
use Rattle.layout.specs.Bytes.{Bytes, inside, word_at}
use Rattle.layout.specs.Answer.{Answer, gives, refused, ◌>>=◌}
use Rattle.layout.specs.Tree.{Tree}
use Rattle.layout.specs.Text.{code_points}
use Rattle.layout.specs.Check.{checked, text_checked}
use Rattle.layout.specs.Entry.{code_of, length_of, entry_at, lengths, entry_good}
use Rattle.layout.specs.Walk.{item_of, counted, characters_of, item_at, ends_with, array_step, member_at, member_step, object_step}
use Rattle.layout.specs.Walk.{array_walk, object_walk, opening, array_opened, object_opened}
use Rattle.layout.specs.Parts.{first_part, members_of}
use Rattle.layout.specs.Pass.{handed, entry_told, length_told}
use Rattle.layout.proofs.Fields.{length_lt}
use Rattle.layout.proofs.Texts.{passed_some, refused_none}
use Rattle.layout.specs.declared.refusal.Refusal.{Refusal}
use Rattle.layout.specs.declared.refusal.Refusal.TheVariants.{Short, Layout}
use Rattle.layout.specs.declared.util.Header.{Header}
use Rattle.layout.specs.declared.util.Header.TheVariants.{Array, Object, Scalar}
use Rattle.layout.specs.declared.item.JsonbItem.{JsonbItem}
use Rattle.layout.specs.declared.iterator.ArrayIterator.{ArrayIterator}
use Rattle.layout.specs.declared.iterator.ObjectIterator.{ObjectIterator}
use Rattle.layout.specs.declared.parts.PartAt.{PartAt}
use Rattle.layout.specs.declared.parts.Places.{Places}
use Rattle.std.specs.Prelude.{Ok, Err, Some, None, Result, Option}
use Rattle.layout.specs.declared.iterator.ObjectMember.{ObjectMember}

-- What the tests of an entry have left, and that of its payload's place.
pub record Entered (s : Bytes) (at : ℕ) (name : Bool) (e : ℕ) : Type 0 where
  pub whole : inside s at 4 ≡ true
  pub is : e ≡ word_at s at
  pub good : entry_good name e ≡ true

pub record Held (s : Bytes) (at e l : ℕ) : Type 0 where
  pub is : l ≡ length_of e
  pub whole : inside s at l ≡ true

module _ {s : Bytes} {at : ℕ} {name : Bool} {r : Result ℕ Refusal} (hr : r ≡ entry_told s at name) where
  pub entered : {e : ℕ} → r ≡ Ok e → Entered s at name e
  unfolding entry_told
  entered {e} q = go (inside s at 4) (entry_good name (word_at s at)) refl refl (sym q ∙ hr)
    where
      go : (a b : Bool) → inside s at 4 ≡ a → entry_good name (word_at s at) ≡ b
          → Ok e ≡ cond (not a) (Err Short) (cond (not b) (Err Layout) (Ok (word_at s at))) → Entered s at name e
      go true true ha hb h = let is : e ≡ word_at s at = cc in record { whole = ha; is = is; good = rw is hb }
      go true false ha hb h = let z : ⊥ = cc in absurd z
      go false b ha hb h = let z : ⊥ = cc in absurd z

-- The refusal of an entry is that of a step that asks for it next.
pub entry_refused : (s : Bytes) (at : ℕ) (name : Bool) {r : Result ℕ Refusal} → r ≡ entry_told s at name → {A : Type 0} (next : Result A Refusal)
    {x : Refusal} → r ≡ Err x
    → Err x ≡ cond (not (inside s at 4)) (Err Short) (cond (not (entry_good name (word_at s at))) (Err Layout) next)
unfolding entry_told
entry_refused s at name hr next {x} q = go (inside s at 4) (entry_good name (word_at s at)) (sym q ∙ hr)
  where
    go : (a b : Bool) → Err x ≡ cond (not a) (Err Short) (cond (not b) (Err Layout) (Ok (word_at s at)))
        → Err x ≡ cond (not a) (Err Short) (cond (not b) (Err Layout) next)
    go true true h = let z : ⊥ = cc in absurd z
    go true false h = let z : x ≡ Layout = cc in rw z
    go false b h = let z : x ≡ Short = cc in rw z

module _ {s : Bytes} {at w : ℕ} {r : Result ℕ Refusal} (hr : r ≡ length_told s at w) where
  pub held : {l : ℕ} → r ≡ Ok l → Held s at w l
  unfolding length_told
  held {l} q = go (inside s at (length_of w)) refl (sym q ∙ hr)
    where
      go : (a : Bool) → inside s at (length_of w) ≡ a → Ok l ≡ cond (not a) (Err Layout) (Ok (length_of w)) → Held s at w l
      go true ha h = let is : l ≡ length_of w = cc in record { is = is; whole = rw is ha }
      go false ha h = let z : ⊥ = cc in absurd z

pub length_refused : (s : Bytes) (at w : ℕ) {r : Result ℕ Refusal} → r ≡ length_told s at w → {A : Type 0} (next : Result A Refusal)
    {x : Refusal} → r ≡ Err x
    → Err x ≡ cond (not (inside s at (length_of w))) (Err Layout) next
unfolding length_told
length_refused s at w hr next {x} q = go (inside s at (length_of w)) (sym q ∙ hr)
  where
    go : (a : Bool) → Err x ≡ cond (not a) (Err Layout) (Ok (length_of w)) → Err x ≡ cond (not a) (Err Layout) next
    go true h = let z : ⊥ = cc in absurd z
    go false h = let z : x ≡ Layout = cc in rw z

-- What is handed out of an entry, by its code and by the text check.
module _ (s : Bytes) (w place code : ℕ) (hc : code ≡ code_of w) where
  pub hand_other : (code ≡ 1 → ⊥) → (i : JsonbItem) → i ≡ item_of w place None → Ok i ≡ handed (item_at s w place)
  unfolding item_at characters_of ends_with ◌>>=◌
  hand_other z i hi = rw (← hc, ne_eqb code 1 z, hi)

  module _ (z : code ≡ 1) (l : ℕ) (hl : l ≡ length_of w) (b : Bytes) (hb : b ≡ take l (drop place s))
      (r : Result ℕ Refusal) (hr : r ≡ text_checked (code_points b)) where
    pub hand_text : (n : ℕ) → r ≡ Ok n → (i : JsonbItem) → i ≡ item_of w place (Some n)
        → Ok i ≡ handed (item_at s w place)
    unfolding item_at characters_of counted ends_with ◌>>=◌
    hand_text n q i hi = rw (← hc, z, ← hl, ← hb, passed_some (code_points b) r n hr q, hi)

    pub hand_bad : (x : Refusal) → r ≡ Err x → Err x ≡ handed (item_at s w place)
    unfolding item_at characters_of counted ends_with ◌>>=◌
    hand_bad x q = let h = refused_none (code_points b) r x hr q in rw (← hc, z, ← hl, ← hb, h.0, h.1)

-- What `hand_out` has answered.
handed_item : (a : Answer JsonbItem) (h : Result JsonbItem Refusal) (i : JsonbItem) → h ≡ handed a → h ≡ Ok i → a ≡ gives i
unfolding ends_with
handed_item (gives j) h i e q = cc
handed_item (refused r) h i e q = cc

handed_refusal : (a : Answer JsonbItem) (h : Result JsonbItem Refusal) (r : Refusal) → h ≡ handed a → h ≡ Err r → a ≡ refused r
unfolding ends_with
handed_refusal (gives j) h r e q = cc
handed_refusal (refused x) h r e q = cc

module _ (s : Bytes) (w : ArrayIterator) where
  pub array_end : w.remaining ≡ 0 → Ok None ≡ array_step s w
  unfolding array_step
  array_end z = rw z

  module _ (z : w.remaining ≡ 0 → ⊥) {r : Result ℕ Refusal} (hr : r ≡ entry_told s w.jentry_offset false) where
    pub array_no_entry : {x : Refusal} → r ≡ Err x → Err x ≡ array_step s w
    unfolding array_step
    array_no_entry q = rw (ne_eqb w.remaining 0 z) (entry_refused _ _ _ hr _ q)

    pub array_no_payload : {e : ℕ} → r ≡ Ok e → {l : Result ℕ Refusal} → l ≡ length_told s w.item_offset e → {x : Refusal} → l ≡ Err x
        → Err x ≡ array_step s w
    unfolding array_step
    array_no_payload q hl u = let n = entered hr q in rw (ne_eqb w.remaining 0 z, n.whole, ← n.is, n.good) (length_refused _ _ _ hl _ u)

-- A step over an array that has come to its item: one is left, and its entry `e` and its payload, of `l` bytes, lie in the slice.
pub record AtItem (s : Bytes) (w : ArrayIterator) (e l : ℕ) : Type 0 where
  pub left : w.remaining ≡ 0 → ⊥
  pub entry : Entered s w.jentry_offset false e
  pub payload : Held s w.item_offset e l

module _ {s : Bytes} {w : ArrayIterator} {e l : ℕ} (at : AtItem s w e l) where
  abbrev next_walk : ArrayIterator
  next_walk =
      record { jentry_offset = w.jentry_offset + 4; item_offset = w.item_offset + l; remaining = w.remaining - 1 }

  -- What is handed out decides.
  at_item : array_step s w ≡ ends_with (λ i. (Ok (Some (i, next_walk)))) Err (item_at s e w.item_offset)
  unfolding array_step
  at_item =
      rw (
        ne_eqb w.remaining 0 at.left,
        at.entry.whole,
        ← at.entry.is,
        at.entry.good,
        ← at.payload.is,
        at.payload.whole,
      )

  module _ {h : Result JsonbItem Refusal} (hh : h ≡ handed (item_at s e w.item_offset)) where
    pub array_bad : {r : Refusal} → h ≡ Err r → Err r ≡ array_step s w
    unfolding ends_with
    array_bad {r = r} v = rw (at_item, handed_refusal (item_at s e w.item_offset) h r hh v)

    pub array_item : {i : JsonbItem} → h ≡ Ok i → Ok (Some (i, next_walk)) ≡ array_step s w
    unfolding ends_with
    array_item {i = i} v = rw (at_item, handed_item (item_at s e w.item_offset) h i hh v)

-- A step over an object whose name and value, of `l` and `m` bytes by their entries `k` and `v`, lie in the slice.
pub record AtMember (s : Bytes) (w : ObjectIterator) (k v l m : ℕ) : Type 0 where
  pub name : Held s w.key_offset k l
  pub value : Held s w.val_offset v m

module _ {s : Bytes} {w : ObjectIterator} {k v l m : ℕ} (at : AtMember s w k v l m) where
  abbrev next_member_walk : ObjectIterator
  next_member_walk =
      record {
        key_jentry_offset = w.key_jentry_offset + 4;
        val_jentry_offset = w.val_jentry_offset + 4;
        key_offset = w.key_offset + l;
        val_offset = w.val_offset + m;
        remaining = w.remaining - 1;
      }

  at_member : member_step s w k v ≡ ends_with (λ m. (Ok (Some (m, next_member_walk)))) Err (member_at s w k v)
  unfolding member_step
  at_member = rw (← at.name.is, at.name.whole, ← at.value.is, at.value.whole)

  module _ {g : Result JsonbItem Refusal} (hg : g ≡ handed (item_at s k w.key_offset)) where
    pub name_bad : {x : Refusal} → g ≡ Err x → Err x ≡ member_step s w k v
    unfolding member_at ends_with ◌>>=◌
    name_bad {x = x} t = rw (at_member, handed_refusal (item_at s k w.key_offset) g x hg t)

    module _ {i : JsonbItem} (t : g ≡ Ok i) {h : Result JsonbItem Refusal} (hh : h ≡ handed (item_at s v w.val_offset)) where
      key_is : item_at s k w.key_offset ≡ gives i
      key_is = handed_item (item_at s k w.key_offset) g i hg t

      pub value_bad : {x : Refusal} → h ≡ Err x → Err x ≡ member_step s w k v
      unfolding member_at ends_with ◌>>=◌
      value_bad {x = x} c = rw (at_member, key_is, handed_refusal (item_at s v w.val_offset) h x hh c)

      pub member_both : {j : JsonbItem} → h ≡ Ok j → Ok (Some ((record { key = i; val = j }), next_member_walk)) ≡ member_step s w k v
      unfolding member_at ends_with ◌>>=◌
      member_both {j = j} c = rw (at_member, key_is, handed_item (item_at s v w.val_offset) h j hh c)

module _ (s : Bytes) (w : ObjectIterator) where
  module _ (k v : ℕ) {r : Result ℕ Refusal} (hr : r ≡ length_told s w.key_offset k) where
    pub member_no_name : {x : Refusal} → r ≡ Err x → Err x ≡ member_step s w k v
    unfolding member_step
    member_no_name q = length_refused _ _ _ hr _ q

    pub member_no_value : {l : ℕ} → r ≡ Ok l → {m : Result ℕ Refusal} → m ≡ length_told s w.val_offset v → {x : Refusal} → m ≡ Err x
        → Err x ≡ member_step s w k v
    unfolding member_step
    member_no_value q hm u = let n = held hr q in rw (← n.is, n.whole) (length_refused _ _ _ hm _ u)

  pub object_end : w.remaining ≡ 0 → Ok None ≡ object_step s w
  unfolding object_step
  object_end z = rw z

  module _ (z : w.remaining ≡ 0 → ⊥) {r : Result ℕ Refusal} (hr : r ≡ entry_told s w.key_jentry_offset true) where
    pub object_no_name : {x : Refusal} → r ≡ Err x → Err x ≡ object_step s w
    unfolding object_step
    object_no_name q = rw (ne_eqb w.remaining 0 z) (entry_refused _ _ _ hr _ q)

    module _ {k : ℕ} (q : r ≡ Ok k) {t : Result ℕ Refusal} (ht : t ≡ entry_told s w.val_jentry_offset false) where
      pub object_no_value : {x : Refusal} → t ≡ Err x → Err x ≡ object_step s w
      unfolding object_step
      object_no_value u = let n = entered hr q in rw (ne_eqb w.remaining 0 z, n.whole, ← n.is, n.good) (entry_refused _ _ _ ht _ u)

      pub object_member : {v : ℕ} → t ≡ Ok v → (m : Result (Option (ObjectMember × ObjectIterator)) Refusal) → m ≡ member_step s w k v
          → m ≡ object_step s w
      unfolding object_step
      object_member u m hm =
          let n = entered hr q in
          let v = entered ht u in
          rw (ne_eqb w.remaining 0 z, n.whole, ← n.is, n.good, v.whole, ← v.is, v.good) hm

-- The lengths of entries, summed one by one.
pub lengths_le : (s : Bytes) (i n : ℕ) → lengths s i n ≤ 2 ^ 28 * n
unfolding lengths
lengths_le s i zero = omega arith
lengths_le s i (suc n) = omega (arith, length_lt (entry_at s i), lengths_le s (i + 1) n)

-- A walk starts where the first part stands, or the first member.
pub array_opens : (n : ℕ) (first : PartAt) → first ≡ first_part n
    → record { jentry_offset = 4; item_offset = first.place; remaining = n } ≡ array_walk n
unfolding array_walk
array_opens n first e = rw e

pub object_opens : (s : Bytes) (n : ℕ) (first : Places) → first ≡ members_of s n
    → record {
      key_jentry_offset = first.key_jentry;
      val_jentry_offset = first.val_jentry;
      key_offset = first.key;
      val_offset = first.val;
      remaining = n;
    } ≡ object_walk s n
unfolding object_walk
object_opens s n first e = let d : 4 + 4 * (n + n) ≡ 4 + 8 * n = omega arith in rw (e, d)

-- Opening, by what the check and the header have said.
pub opening_refused : {A : Type 0} (fault : Refusal → A) (found : Result Header Refusal → A) (a : Answer Tree) (h : Result Header Refusal) (c : Result (Unit {0}) Refusal) (r : Refusal)
    → c ≡ checked a → c ≡ Err r → fault r ≡ opening fault found a h
unfolding opening
opening_refused fault found (refused q) h c r e f = cc
opening_refused fault found (gives t) h c r e f = cc

pub opening_found : {A : Type 0} (fault : Refusal → A) (found : Result Header Refusal → A) (a : Answer Tree) (h k : Result Header Refusal) (c : Result (Unit {0}) Refusal) (x : A)
    → c ≡ checked a → c ≡ Ok tt → k ≡ h → x ≡ found k → x ≡ opening fault found a h
unfolding opening
opening_found fault found (refused q) h k c x e f hk hx = cc
opening_found fault found (gives t) h k c x e f hk hx = rw (← hk) hx

-- Where each of three things is out, so is their sum.
pub none_of : {A B C : Type 0} → (A → ⊥) → (B → ⊥) → (C → ⊥) → A ⊎ (B ⊎ C) → ⊥
none_of f g h (inl a) = f a
none_of f g h (inr (inl b)) = g b
none_of f g h (inr (inr c)) = h c

-- What a header opens.
pub array_other : (h : Result Header Refusal) → ((n : ℕ) → h ≡ Ok (Array n) → ⊥) → Ok None ≡ array_opened h
unfolding array_opened
array_other (Ok (Array n)) q = absurd (q n refl)
array_other (Ok (Object n)) q = refl
array_other (Ok (Scalar n)) q = refl
array_other (Err r) q = refl

pub array_own : (h : Result Header Refusal) (n : ℕ) (w : ArrayIterator) → h ≡ Ok (Array n) → w ≡ array_walk n → Ok (Some w) ≡ array_opened h
unfolding array_opened
array_own h n w e hw = rw (e, hw)

pub object_other : (s : Bytes) (h : Result Header Refusal) → ((n : ℕ) → h ≡ Ok (Object n) → ⊥) → Ok None ≡ object_opened s h
unfolding object_opened
object_other s (Ok (Array n)) q = refl
object_other s (Ok (Object n)) q = absurd (q n refl)
object_other s (Ok (Scalar n)) q = refl
object_other s (Err r) q = refl

pub object_own : (s : Bytes) (h : Result Header Refusal) (n : ℕ) (w : ObjectIterator) → h ≡ Ok (Object n) → w ≡ object_walk s n → Ok (Some w) ≡ object_opened s h
unfolding object_opened
object_own s h n w e hw = rw (e, hw)
