-- A container in which a step leads to a part: what is left of it where the part goes, and where it is written anew.
use Rattle.layout.specs.Parts.{rises}
use Prim.Native.Nat.{ℕ, suc, ◌+◌, ◌-◌, ◌^◌, ◌≤◌, ◌<◌}
use native.Mathlib.Omega.{arith}
use native.Mathlib.Numerals.{add-one}
use mathlib.Core.Path.{◌≡◌, refl, ap, ap₂, sym, ◌∙◌}
use mathlib.Core.Logic.{⊎_elim}
use mathlib.Core.Bool.{Bool, true, false, cond}
use mathlib.Core.List.{List, [], ◌∷◌, ◌++◌, append_assoc}
use lib.ListN.{length, take, drop, length-append}
use lib.Seq.{take_at, drop_at, drop-drop}
use Rattle.layout.specs.Bytes.{Bytes, Octets}
use Rattle.layout.specs.Tree.{Tree, array, object, Items, Members, names}
use Rattle.layout.specs.Encode.{Part, payload, part, record_of, item_parts, name_part, name_parts, member_parts}
use Rattle.layout.specs.Read.{header, nested}
use Rattle.layout.specs.Check.{checked}
use Rattle.layout.specs.Sound.{Rising}
use Rattle.layout.specs.declared.util.Header.{Header}
use Rattle.layout.specs.declared.util.Header.TheVariants.{Array, Object, Scalar}
use Rattle.layout.proofs.Encoding.{names_count}
use Rattle.layout.proofs.Patches.{length_patch}
use Rattle.builders.specs.Order.{in_order}
use Rattle.builders.specs.Build.{count}
use Rattle.builders.proofs.InOrders.{rising_in_order}
use Rattle.builders.proofs.Knowns.{an_array}
use Rattle.edits.specs.Keypath.{Step}
use Rattle.edits.specs.Find.{step_place, step_name, item_at, step_into, ◌then◌}
use Rattle.edits.specs.Delete.{change_member, change_item, change_at, anew, remains}
use Rattle.layout.specs.Parts.{nth_part}
use Rattle.edits.specs.Spot.{spot}
use Rattle.edits.specs.Cut.{Stores}
use Rattle.edits.specs.Manner.{InRuns, manner_of}
use Rattle.edits.specs.Remains.{remains_in, remains_of}
use Rattle.layout.specs.Parts.{count_parts, PartOf, parts_of}
use Rattle.edits.specs.Runs.{Table, without, without_member}
use Rattle.layout.specs.declared.parts.PartAt.{PartAt}
use Rattle.edits.specs.declared.delete.Manner.TheVariants.{Items as ByItems, Rising as ByRising, Unsorted}
use Rattle.edits.proofs.Deletes.{change_rising}
use Rattle.edits.proofs.Splits.{ItemSplit, item_split, MemberSplit, member_split}
use Rattle.edits.proofs.Tables.{Contains, contains, array_parted, object_parted, object_rises}
use Rattle.edits.proofs.Spots.{array_spot}
use Rattle.edits.proofs.Sorteds.{ValueAt, value_at}
use Rattle.std.specs.Prelude.{Ok, Err, Some, None, Result, Option}
use Rattle.layout.specs.declared.refusal.Refusal.{Refusal}

-- What the manner says of the header.
pub manner_array : (s : Bytes) (h : Result Header Refusal) (n : ℕ) → Some (ByItems n) ≡ manner_of h s → h ≡ Ok (Array n)
manner_array s (Ok (Array m)) n e = cc
manner_array s (Ok (Scalar m)) n e = let z : ◌≡◌ {A = ℕ} 0 1 = cc in let w : ⊥ = omega arith in absurd w
manner_array s (Err r) n e = let z : ◌≡◌ {A = ℕ} 0 1 = cc in let w : ⊥ = omega arith in absurd w
manner_array s (Ok (Object m)) n e = go (rises s m) e
  where
    go : (g : Bool) → Some (ByItems n) ≡ cond g (Some (ByRising m)) (Some (Unsorted m)) → ◌≡◌ {A = Result Header Refusal} (Ok (Object m)) (Ok (Array n))
    go true q = let z : ◌≡◌ {A = ℕ} 0 1 = cc in let w : ⊥ = omega arith in absurd w
    go false q = let z : ◌≡◌ {A = ℕ} 0 1 = cc in let w : ⊥ = omega arith in absurd w

pub manner_object : (s : Bytes) (h : Result Header Refusal) (n : ℕ) → Some (ByRising n) ≡ manner_of h s
    → (h ≡ Ok (Object n)) × (rises s n ≡ true)
manner_object s (Ok (Array m)) n e = let z : ◌≡◌ {A = ℕ} 0 1 = cc in let w : ⊥ = omega arith in absurd w
manner_object s (Ok (Scalar m)) n e = let z : ◌≡◌ {A = ℕ} 0 1 = cc in let w : ⊥ = omega arith in absurd w
manner_object s (Err r) n e = let z : ◌≡◌ {A = ℕ} 0 1 = cc in let w : ⊥ = omega arith in absurd w
manner_object s (Ok (Object m)) n e = go (rises s m) refl e
  where
    go : (g : Bool) → rises s m ≡ g → Some (ByRising n) ≡ cond g (Some (ByRising m)) (Some (Unsorted m))
        → (◌≡◌ {A = Result Header Refusal} (Ok (Object m)) (Ok (Object n))) × (rises s n ≡ true)
    go true r q = let z : m ≡ n = cc in (ap (λ x. Ok (Object x)) z, rw (← z) r)
    go false r q = let z : ◌≡◌ {A = ℕ} 0 1 = cc in let w : ⊥ = omega arith in absurd w

pub manner_search : (s : Bytes) (h : Result Header Refusal) (n : ℕ) → Some (Unsorted n) ≡ manner_of h s → h ≡ Ok (Object n)
manner_search s (Ok (Array m)) n e = let z : ◌≡◌ {A = ℕ} 0 1 = cc in let w : ⊥ = omega arith in absurd w
manner_search s (Ok (Scalar m)) n e = let z : ◌≡◌ {A = ℕ} 0 1 = cc in let w : ⊥ = omega arith in absurd w
manner_search s (Err r) n e = let z : ◌≡◌ {A = ℕ} 0 1 = cc in let w : ⊥ = omega arith in absurd w
manner_search s (Ok (Object m)) n e = go (rises s m) e
  where
    go : (g : Bool) → Some (Unsorted n) ≡ cond g (Some (ByRising m)) (Some (Unsorted m)) → ◌≡◌ {A = Result Header Refusal} (Ok (Object m)) (Ok (Object n))
    go true q = let z : ◌≡◌ {A = ℕ} 0 1 = cc in let w : ⊥ = omega arith in absurd w
    go false q = cc

-- Where it says none, no step leads on.
pub no_manner : {C : Type 0} (s : Bytes) (h : Result Header Refusal) → None ≡ manner_of h s → (a : PartAt) (p : Step) → spot h s p ≡ Some a → C
unfolding spot
no_manner s (Ok (Array m)) e a p q = let z : ◌≡◌ {A = ℕ} 0 1 = cc in let w : ⊥ = omega arith in absurd w
no_manner s (Ok (Object m)) e a p q = absurd (go (rises s m) e)
  where
    go : (g : Bool) → None ≡ cond g (Some (ByRising m)) (Some (Unsorted m)) → ⊥
    go true r = let z : ◌≡◌ {A = ℕ} 0 1 = cc in omega arith
    go false r = let z : ◌≡◌ {A = ℕ} 0 1 = cc in omega arith
no_manner s (Ok (Scalar m)) e a p q = let z : ◌≡◌ {A = ℕ} 0 1 = cc in let w : ⊥ = omega arith in absurd w
no_manner s (Err r) e a p q = let z : ◌≡◌ {A = ℕ} 0 1 = cc in let w : ⊥ = omega arith in absurd w

-- The same bytes, written in another way.
pub stores_as : {r : ℕ} {before after : Bytes} {at : ℕ} {b c : Bytes} → c ≡ b → Stores r before after at b → Stores r before after at c
stores_as e h = rw e h

pub stores_length : {r : ℕ} {before after : Bytes} {at : ℕ} {b : Bytes} → Stores r before after at b → length after ≡ length before
stores_length h = ap length h.stored ∙ length_patch _ _ _

-- A list without one of its places.
without_split : (l : List Part) (q : Part) (r : List Part) (k : ℕ) → length l ≡ k → without k (l ++ (q ∷ r)) ≡ l ++ r
without_split l q r k e =
    let a : take k (l ++ (q ∷ r)) ≡ l = take_at l (q ∷ r) k e in
    let d : drop (k + 1) (l ++ (q ∷ r)) ≡ r = sym (drop-drop 1 k (l ++ (q ∷ r))) ∙ ap (drop 1) (drop_at l (q ∷ r) k e) in
    let b : drop (suc k) (l ++ (q ∷ r)) ≡ r = rw (add-one k) at d in
    rw (a, b)

-- A container at the part that a step leads to, and what becomes of it where that part is written anew.
pub record Led (s : Bytes) (n : ℕ) (a : PartAt) (p : Step) : Type 0 where
  pub tree : Tree
  pub value : Tree
  pub contained : Contains 64 s tree
  pub found : step_into p tree ≡ Some value
  pub table : Table s n
  pub inside : PartOf s n a
  pub word : ℕ
  pub small : word < 2 ^ 32
  pub left : List Part
  pub right : List Part
  pub parts : parts_of s n ≡ left ++ (part value ∷ right)
  pub before : length left ≡ a.index
  pub bytes : record_of word (left ++ (part value ∷ right)) ≡ s
  pub changed : (u : Tree) → payload (anew (Some u) p tree) ≡ record_of word (left ++ (part u ∷ right))

-- An array.
module _ (s : Bytes) (a : PartAt) (p : Step) (ts : Items) (c : Contains 64 s (array ts)) (k : ℕ) (v : Tree) (hk : step_place p (count ts) ≡ Some k)
    (sp : ItemSplit ts k v) (hv : item_at ts k ≡ Some v) (ha : a ≡ nth_part s (length (item_parts ts)) k) where
  abbrev n : ℕ
  n = length (item_parts ts)

  index_is : a.index ≡ k
  index_is = ap (λ (x : PartAt). x.index) ha

  array_parts : parts_of s n ≡ sp.left ++ (part v ∷ sp.right)
  array_parts = (array_parted ts s c.bytes c.short).0 ∙ sp.whole

  size_all : length sp.left + suc (length sp.right) ≡ n
  size_all = sym (length-append sp.left (part v ∷ sp.right)) ∙ ap length (sym sp.whole)

  array_led_by : Led s n a p
  array_led_by =
      record {
        tree = array ts;
        value = v;
        contained = c;
        found = rw (hk, hv);
        table = record { readable = ap checked c.reads; short = c.short; count = ap count_parts c.head };
        inside = record { inside = omega (arith, index_is, sp.before, size_all); is = ha ∙ ap (nth_part s n) (sym index_is) };
        word = 2 ^ 31 + n;
        small = omega (arith, (array_parted ts s c.bytes c.short).1.table, c.short);
        left = sp.left;
        right = sp.right;
        parts = array_parts;
        before = sp.before ∙ sym index_is;
        bytes = rw (← sp.whole) c.bytes;
        changed = λ u. changed_array u;
      }
    where
      changed_array : (u : Tree) → payload (anew (Some u) p (array ts)) ≡ record_of (2 ^ 31 + n) (sp.left ++ (part u ∷ sp.right))
      changed_array u =
          let l : length (sp.left ++ (part u ∷ sp.right)) ≡ n = omega (arith, size_all, length-append sp.left (part u ∷ sp.right)) in
          rw (hk, sp.changed u, l)

  array_gone_by : remains_of s (p ∷ []) ≡ record_of (2 ^ 31 + (n - 1)) (without a.index (parts_of s n))
  unfolding remains_of
  array_gone_by =
      let l : length (sp.left ++ sp.right) ≡ n - 1 = omega (arith, size_all, length-append sp.left sp.right) in
      let w : without a.index (parts_of s n) ≡ sp.left ++ sp.right =
      rw (array_parts, index_is) (without_split sp.left (part v) sp.right k sp.before) in
      let met : step_into p (array ts) ≡ Some v = rw (hk, hv) in
      let left : remains_of s (p ∷ []) ≡ payload (array (change_item None k ts)) =
      ap (λ r. remains_in r (p ∷ [])) c.reads ∙ ap (λ o. payload (anew (o then remains []) p (array ts))) met
      ∙ ap (λ o. payload (array (change_at None o ts))) hk in
      left ∙ rw (sp.gone, l, w)

pub array_led : (s : Bytes) (n : ℕ) (a : PartAt) (p : Step) → Octets s → checked (nested 64 s) ≡ Ok tt → length s ≤ 65536
    → header s ≡ Ok (Array n) → spot (header s) s p ≡ Some a
    → Led s n a p × (remains_of s (p ∷ []) ≡ record_of (2 ^ 31 + (n - 1)) (without a.index (parts_of s n)))
array_led s n a p o c l h q =
    let k = contains 64 s o l c in
    let w = an_array k.0 n (sym k.1.head ∙ h) in
    let k' : Contains 64 s (array w.0) = rw w.1 at k.1 in
    let sp = array_spot w.0 s p a k'.bytes l q in
    let is = item_split w.0 sp.0 sp.1 sp.3 in
    rw w.2 (
      array_led_by s a p w.0 k' sp.0 sp.1 sp.2 is sp.3 sp.4,
      array_gone_by s a p w.0 k' sp.0 sp.1 sp.2 is sp.3 sp.4,
    )

-- An object whose names rise.
module _ (s : Bytes) (n : ℕ) (a : PartAt) (p : Step) (v : ValueAt s n a p) (ha : a ≡ nth_part s (n + n) a.index)
    (up : rises s n ≡ true) where
  abbrev ms : Members
  ms = v.members

  abbrev sp : MemberSplit (step_name p) v.members v.value
  sp = member_split (step_name p) v.members v.value v.found

  object_parts : parts_of s (n + n) ≡ name_parts (names ms) ++ member_parts ms
  object_parts = ap (λ (m : ℕ). parts_of s (m + m)) v.count ∙ (object_parted ms s v.bytes v.short).0

  names_all : length (name_parts (names ms)) ≡ n
  names_all = names_count ms ∙ sym v.count

  names_rise : Rising (names ms)
  names_rise = object_rises ms s n v.bytes v.short v.count up

  stays : (o : Option Tree) → in_order (change_member o (step_name p) ms) ≡ change_member o (step_name p) ms
  stays o = rising_in_order (change_member o (step_name p) ms) (change_rising o (step_name p) ms names_rise)

  vals_all : length sp.vals_left + suc (length sp.vals_right) ≡ n
  vals_all = sym (length-append sp.vals_left (part v.value ∷ sp.vals_right)) ∙ ap length (sym sp.vals) ∙ sym v.count

  -- The parts before the value are the names and the values before it.
  object_left : name_parts (names ms) ++ member_parts ms ≡ (name_parts (names ms) ++ sp.vals_left) ++ (part v.value ∷ sp.vals_right)
  object_left = rw sp.vals (sym (append_assoc (name_parts (names ms)) sp.vals_left (part v.value ∷ sp.vals_right)))

  rising_led_by : Led s (n + n) a p
  rising_led_by =
      record {
        tree = object ms;
        value = v.value;
        contained = v.contained;
        found = v.found;
        table = record { readable = ap checked v.reads; short = v.short; count = ap count_parts v.contained.head ∙ omega (arith, v.count) };
        inside = record { inside = omega (arith, v.index, v.below); is = ha };
        word = 2 ^ 30 + n;
        small = omega (arith, v.table, v.short);
        left = name_parts (names ms) ++ sp.vals_left;
        right = sp.vals_right;
        parts = object_parts ∙ object_left;
        before = omega (arith, length-append (name_parts (names ms)) sp.vals_left, names_all, sp.vals_before, v.index);
        bytes = ap₂ (λ (i : ℕ) (l : List Part). record_of (2 ^ 30 + i) l) v.count (sym object_left) ∙ v.bytes;
        changed = λ u. changed_object u;
      }
    where
      changed_object : (u : Tree) → payload (anew (Some u) p (object ms))
          ≡ record_of (2 ^ 30 + n) ((name_parts (names ms) ++ sp.vals_left) ++ (part u ∷ sp.vals_right))
      changed_object u =
          let l : length (sp.vals_left ++ (part u ∷ sp.vals_right)) ≡ n = omega (arith, vals_all, length-append sp.vals_left (part u ∷ sp.vals_right)) in
          rw (stays (Some u), sp.keys_changed u, sp.vals_changed u, l, append_assoc (name_parts (names ms)) sp.vals_left (part u ∷ sp.vals_right))

  rising_gone_by : remains_of s (p ∷ []) ≡ record_of (2 ^ 30 + (n - 1)) (without_member n (a.index - n) (parts_of s (n + n)))
  unfolding remains_of
  rising_gone_by =
      let k : a.index - n ≡ sp.count = omega (arith, v.index) in
      let l : length (sp.vals_left ++ sp.vals_right) ≡ n - 1 = omega (arith, vals_all, length-append sp.vals_left sp.vals_right) in
      let tk : take n (parts_of s (n + n)) ≡ sp.keys_left ++ (name_part (step_name p) ∷ sp.keys_right) =
      ap (take n) object_parts ∙ take_at (name_parts (names ms)) (member_parts ms) n names_all ∙ sp.keys in
      let dv : drop n (parts_of s (n + n)) ≡ sp.vals_left ++ (part v.value ∷ sp.vals_right) =
      ap (drop n) object_parts ∙ drop_at (name_parts (names ms)) (member_parts ms) n names_all ∙ sp.vals in
      let w : without_member n (a.index - n) (parts_of s (n + n)) ≡ (sp.keys_left ++ sp.keys_right) ++ (sp.vals_left ++ sp.vals_right) =
      rw (k, tk, dv)
      (ap₂ ◌++◌ (without_split sp.keys_left (name_part (step_name p)) sp.keys_right sp.count sp.keys_before)
      (without_split sp.vals_left (part v.value) sp.vals_right sp.count sp.vals_before)) in
      let left : remains_of s (p ∷ []) ≡ payload (object (in_order (change_member None (step_name p) ms))) =
      ap (λ r. remains_in r (p ∷ [])) v.reads ∙ ap (λ o. payload (anew (o then remains []) p (object ms))) v.found in
      left ∙ rw (stays None, sp.keys_gone, sp.vals_gone, l, w)

pub rising_led : (s : Bytes) (n : ℕ) (a : PartAt) (p : Step) → Octets s → checked (nested 64 s) ≡ Ok tt → length s ≤ 65536
    → header s ≡ Ok (Object n) → rises s n ≡ true → spot (header s) s p ≡ Some a
    → Led s (n + n) a p × (n ≤ a.index) × (remains_of s (p ∷ []) ≡ record_of (2 ^ 30 + (n - 1)) (without_member n (a.index - n) (parts_of s (n + n))))
rising_led s n a p o c l h up q =
    let v = value_at s n a p o c l h q in (
      rising_led_by s n a p v v.stands up,
      omega (arith, v.index),
      rising_gone_by s n a p v v.stands up,
    )

pub runs_led : (s : Bytes) (n : ℕ) (a : PartAt) (p : Step) → Octets s → checked (nested 64 s) ≡ Ok tt → length s ≤ 65536 → InRuns s n
    → spot (header s) s p ≡ Some a → Led s n a p
runs_led s n a p o c l r q =
    ⊎_elim
    (λ h. (array_led s n a p o c l h q).0)
    (λ h. rw h.2 (rising_led s h.0 a p o c l h.1 h.3 q).0)
    r
