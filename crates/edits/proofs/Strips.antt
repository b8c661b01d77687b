-- What strip means: what each name and each place finds after it, that no member is null at any level, that the result is sound
-- and no longer, and where it is refused.
use Prim.Native.Nat.{ℕ, zero, suc}
use native.Mathlib.Omega.{arith}
use mathlib.Core.Path.{◌≡◌, refl, ap, subst, sym, ◌∙◌}
use mathlib.Core.Logic.{inl, inr, ⊎_elim}
use mathlib.Core.Bool.{Bool, true, false, cond, ◌&&◌}
use mathlib.Core.List.{List, [], ◌∷◌}
use lib.IntN.{pos}
use Rattle.layout.specs.Bytes.{Bytes}
use Rattle.layout.specs.Answer.{gives, refused, ◌>>=◌, require}
use Rattle.layout.specs.Order.{order}
use Rattle.layout.specs.Tree.{Tree, null, boolean, number, string, extension, array, object, Items, none, item, Members, empty, member, kind, names}
use Rattle.layout.specs.Sound.{Rising, Sound, SoundItems, SoundMembers}
use Rattle.layout.specs.Every.{every, every_items}
use Rattle.std.specs.declared.cmp.Ordering.{Ordering}
use Rattle.std.specs.declared.cmp.Ordering.TheVariants.{Less, Equal, Greater}
use Rattle.layout.specs.declared.refusal.Refusal.TheVariants.{Repeated}
use Rattle.layout.proofs.Answers.{from_require, to_require, gives_inj}
use Rattle.layout.proofs.Values.{In, rising_tail, rising_all}
use Rattle.layout.proofs.Questions.{and_apart, and_joined, member_apart, member_joined}
use Rattle.builders.specs.Order.{by, in_order, find, distinct}
use Rattle.builders.specs.Build.{count}
use Rattle.builders.proofs.InOrders.{unlike, has_not, distinct_cons, rising_distinct, rising_cons, in_order_rising, rising_in_order}
use Rattle.builders.proofs.InOrders.{find_in_order, in_order_valid, in_order_sound, in_order_asked, in_order_depth, gather, gather_in_order}
use Rattle.builders.proofs.Results.{is_true}
use Rattle.builders.proofs.Twos.{and_false}
use Rattle.edits.specs.Keypath.{Step, name, index}
use Rattle.edits.specs.Find.{◌then◌, step_place, step_name, item_at, step_into, look_up}
use Rattle.edits.specs.Strip.{is_null, kept, stripped, stripped_items, stripped_members, unrepeated, unrepeated_items, unrepeated_members, strip}
use Rattle.edits.proofs.Deletes.{some_inj, nothing_some, then_some, by_equal, find_first, find_later, found_in, not_in}
use Rattle.edits.proofs.Findings.{index_finds}
use Rattle.edits.proofs.Kept.{NoMore, NoMoreItems, NoMoreMembers, no_more_same, in_order_shorter}
use Rattle.std.specs.Prelude.{Some, None, Option}

-- ---- null members

-- By cases on a test.
by_test : (p : Bool) (P : Bool → Type 0) → (p ≡ true → P true) → (p ≡ false → P false) → P p
by_test true P f g = f refl
by_test false P f g = g refl

pub null_is : (t : Tree) → is_null t ≡ true → t ≡ null
null_is null e = refl
null_is (boolean x) e = cc
null_is (number b) e = cc
null_is (string b) e = cc
null_is (extension b) e = cc
null_is (array ts) e = cc
null_is (object ms) e = cc

-- An item keeps its kind, and no other item becomes null.
pub kind_stripped : (t : Tree) → kind (stripped t) ≡ kind t
kind_stripped null = refl
kind_stripped (boolean true) = refl
kind_stripped (boolean false) = refl
kind_stripped (number b) = refl
kind_stripped (string b) = refl
kind_stripped (extension b) = refl
kind_stripped (array ts) = refl
kind_stripped (object ms) = refl

pub null_stripped : (t : Tree) → is_null (stripped t) ≡ is_null t
null_stripped null = refl
null_stripped (boolean x) = refl
null_stripped (number b) = refl
null_stripped (string b) = refl
null_stripped (extension b) = refl
null_stripped (array ts) = refl
null_stripped (object ms) = refl

-- ---- repeated names

-- Members in order are tested as they were, where no name is there twice.
unrepeated_gather : (ms : Members) → unrepeated_members ms ≡ gather ◌&&◌ true (λ n t. unrepeated t) ms
unrepeated_gather empty = refl
unrepeated_gather (member n t ms) = ap (λ (b : Bool). unrepeated t && b) (unrepeated_gather ms)

pub in_order_unrepeated : (ms : Members) → distinct (names ms) ≡ true → unrepeated_members (in_order ms) ≡ unrepeated_members ms
in_order_unrepeated ms d =
    unrepeated_gather (in_order ms) ∙ gather_in_order ◌&&◌ swap true (λ n t. unrepeated t) ms d ∙ sym (unrepeated_gather ms)
  where
    swap : (a b c : Bool) → (a && (b && c)) ≡ (b && (a && c))
    swap true b c = refl
    swap false true c = refl
    swap false false c = refl

-- Null members have no names in them that could be repeated.
pub kept_unrepeated : (ms : Members) → unrepeated_members (kept ms) ≡ unrepeated_members ms
kept_unrepeated empty = refl
kept_unrepeated (member n t ms) =
    by_test (is_null t)
    (λ p. unrepeated_members (cond p (kept ms) (member n t (kept ms))) ≡ (unrepeated t && unrepeated_members ms))
    (λ e. rw (null_is t e) (kept_unrepeated ms))
    (λ _. ap (λ (b : Bool). unrepeated t && b) (kept_unrepeated ms))

-- A name repeated within a member is one repeated within the object.
pub find_unrepeated : (ms : Members) (n : Bytes) (t : Tree) → find n ms ≡ Some t → unrepeated t ≡ false → unrepeated_members ms ≡ false
find_unrepeated empty n t e h = nothing_some e
find_unrepeated (member m u ms) n t e h =
    by_equal n m (λ (a : Option Tree). a ≡ Some t → unrepeated_members (member m u ms) ≡ false) _ _
    (λ _ e. rw (find_unrepeated ms n t e h) (and_false (unrepeated u)))
    (λ _ e. rw (some_inj {x = u} e, h))
    e

-- ---- the members that stay

-- Their names and order are the same, whether their values are stripped or not.
pub stripped_kept_names : (ms : Members) → names (stripped_members ms) ≡ names (kept ms)
stripped_kept_names empty = refl
stripped_kept_names (member n t ms) = go (is_null t) (stripped_kept_names ms)
  where
    go : (p : Bool) → names (stripped_members ms) ≡ names (kept ms)
        → names (cond p (stripped_members ms) (member n (stripped t) (stripped_members ms))) ≡ names (cond p (kept ms) (member n t (kept ms)))
    go true e = e
    go false e = ap (λ (ns : List Bytes). n ∷ ns) e

-- ---- what is stripped is sound, and no longer and no deeper

mutual
  -- Whatever the record was: in every object that is written anew the names rise.
  pub strip_sound : (t : Tree) → Sound (stripped t)
  strip_sound null = tt
  strip_sound (boolean x) = tt
  strip_sound (number b) = tt
  strip_sound (string b) = tt
  strip_sound (extension b) = tt
  strip_sound (array ts) = strip_items_sound ts
  strip_sound (object ms) = (in_order_rising (stripped_members ms), in_order_sound (stripped_members ms) (strip_members_sound ms))

  strip_items_sound : (ts : Items) → SoundItems (stripped_items ts)
  strip_items_sound none = tt
  strip_items_sound (item t ts) = (strip_sound t, strip_items_sound ts)

  strip_members_sound : (ms : Members) → SoundMembers (stripped_members ms)
  strip_members_sound empty = tt
  strip_members_sound (member n t ms) =
      by_test (is_null t) (λ p. SoundMembers (cond p (stripped_members ms) (member n (stripped t) (stripped_members ms))))
      (λ _. strip_members_sound ms)
      (λ _. (strip_sound t, strip_members_sound ms))

mutual
  -- As valid as it was, no deeper and no longer.
  pub strip_shrinks : (t : Tree) → NoMore (stripped t) t
  strip_shrinks null = no_more_same null
  strip_shrinks (boolean x) = no_more_same (boolean x)
  strip_shrinks (number b) = no_more_same (number b)
  strip_shrinks (string b) = no_more_same (string b)
  strip_shrinks (extension b) = no_more_same (extension b)
  strip_shrinks (array ts) =
      let k = strip_items_shrink ts in
      record {
        valid = k.valid;
        sound = k.sound;
        deep = omega arith;
        payload = omega arith;
        long = omega arith;
        asked = k.asked;
      }
  strip_shrinks (object ms) =
      let k = strip_members_shrink ms in
      let d = in_order_depth (stripped_members ms) in
      let b = in_order_shorter (stripped_members ms) in
      record {
        valid = λ v. in_order_valid (stripped_members ms) (k.valid v);
        sound = λ _. strip_sound (object ms);
        deep = omega arith;
        payload = omega arith;
        long = omega arith;
        asked = λ a p h. in_order_asked a p (stripped_members ms) (k.asked a p h);
      }

  strip_items_shrink : (ts : Items) → NoMoreItems (stripped_items ts) ts
  strip_items_shrink none =
      record { valid = λ v. v; sound = λ s. s; deep = omega arith; payload = omega arith; asked = λ a p h. h }
  strip_items_shrink (item t ts) =
      let a = strip_shrinks t in
      let k = strip_items_shrink ts in
      record {
        valid = λ v. (a.valid v.0, k.valid v.1);
        sound = λ s. (a.sound s.0, k.sound s.1);
        deep = omega arith;
        payload = omega arith;
        asked = λ q p h.
            let rest = and_apart (every q t) (every_items q ts) h in
            and_joined (every q (stripped t)) (every_items q (stripped_items ts)) (a.asked q p rest.0) (k.asked q p rest.1);
      }

  strip_members_shrink : (ms : Members) → NoMoreMembers (stripped_members ms) ms
  strip_members_shrink empty =
      record { valid = λ v. v; sound = λ s. s; deep = omega arith; payload = omega arith; asked = λ a p h. h }
  strip_members_shrink (member n t ms) =
      let a = strip_shrinks t in
      let k = strip_members_shrink ms in
      by_test (is_null t)
      (λ p. NoMoreMembers (cond p (stripped_members ms) (member n (stripped t) (stripped_members ms))) (member n t ms))
      (λ _.
      record {
        valid = λ v. k.valid v.2;
        sound = λ s. k.sound s.1;
        deep = omega arith;
        payload = omega arith;
        asked = λ q p h. k.asked q p (member_apart q p n t ms h).2;
      })
      (λ _.
      record {
        valid = λ v. (v.0, a.valid v.1, k.valid v.2);
        sound = λ s. (a.sound s.0, k.sound s.1);
        deep = omega arith;
        payload = omega arith;
        asked = λ q p h.
            let rest = member_apart q p n t ms h in
            member_joined q p n (stripped t) (stripped_members ms) rest.0 (a.asked q p rest.1) (k.asked q p rest.2);
      })

-- ---- what a name finds, and a place in an array

-- A name finds what it found among the members that stay, stripped.
pub strip_find : (ms : Members) (n : Bytes) → find n (in_order (stripped_members ms)) ≡ (find n (kept ms) then λ t. Some (stripped t))
strip_find ms n = find_in_order n (stripped_members ms) ∙ go ms
  where
    first : (t : Tree) (o : Ordering) (x y : Option Tree) → x ≡ (y then λ t. Some (stripped t))
        → by o x (Some (stripped t)) x ≡ (by o y (Some t) y then λ t. Some (stripped t))
    first t Less x y e = e
    first t Equal x y e = refl
    first t Greater x y e = e

    go : (ms : Members) → find n (stripped_members ms) ≡ (find n (kept ms) then λ t. Some (stripped t))
    go empty = refl
    go (member m t ms) =
        by_test (is_null t)
        (λ p. find n (cond p (stripped_members ms) (member m (stripped t) (stripped_members ms)))
        ≡ (find n (cond p (kept ms) (member m t (kept ms))) then λ t. Some (stripped t)))
        (λ _. go ms)
        (λ _. first t (order n m) (find n (stripped_members ms)) (find n (kept ms)) (go ms))

-- The members that stay have names that were there, and values that are not null.
kept_names : (ms : Members) (x : Bytes) → In x (names (kept ms)) → In x (names ms)
kept_names empty x i = i
kept_names (member n t ms) x i =
    by_test (is_null t) (λ p. In x (names (cond p (kept ms) (member n t (kept ms)))) → In x (names (member n t ms)))
    (λ _ i. inr (kept_names ms x i))
    (λ _ i. ⊎_elim (λ j. inl j) (λ j. inr (kept_names ms x j)) i)
    i

kept_not_null : (ms : Members) (n : Bytes) (t : Tree) → find n (kept ms) ≡ Some t → is_null t ≡ false
kept_not_null empty n t e = nothing_some e
kept_not_null (member m u ms) n t e =
    by_test (is_null u) (λ p. find n (cond p (kept ms) (member m u (kept ms))) ≡ Some t → is_null t ≡ false)
    (λ _ e. kept_not_null ms n t e)
    (λ h e.
    by_equal n m (λ (a : Option Tree). a ≡ Some t → is_null t ≡ false) _ _
    (λ _ e. kept_not_null ms n t e) (λ _ e. rw (← some_inj {x = u} e) h) e)
    e

-- Where no name is there twice, a name finds what it found, unless that is null.
kept_find : (ms : Members) → distinct (names ms) ≡ true → (n : Bytes)
    → find n (kept ms) ≡ (find n ms then λ t. cond (is_null t) None (Some t))
kept_find empty d n = refl
kept_find (member m t ms) d n =
    let c = distinct_cons m (names ms) d in
    by_equal n m (λ (a : Option Tree). find n (kept (member m t ms)) ≡ (a then λ t. cond (is_null t) None (Some t))) _ _
    (λ h. later h (is_null t) ∙ kept_find ms c.1 n)
    (λ e.
    by_test (is_null t) (λ p. find n (cond p (kept ms) (member m t (kept ms))) ≡ cond p None (Some t))
    (λ _. not_in n (kept ms) (λ i. has_not m (names ms) c.0 (rw e at (kept_names ms n i))))
    (λ _. subst (λ (k : Bytes). find k (member m t (kept ms)) ≡ Some t) (sym e) (find_first m t (kept ms))))
  where
    later : (n ≡ m → ⊥) → (p : Bool) → find n (cond p (kept ms) (member m t (kept ms))) ≡ find n (kept ms)
    later h true = refl
    later h false = find_later n m t (kept ms) h

pub strip_finds : (ms : Members) → distinct (names ms) ≡ true → (n : Bytes)
    → find n (in_order (stripped_members ms)) ≡ (find n ms then λ t. cond (is_null t) None (Some (stripped t)))
strip_finds ms d n =
    strip_find ms n ∙ ap (λ (o : Option Tree). o then λ t. Some (stripped t)) (kept_find ms d n) ∙ go (find n ms)
  where
    test : (t : Tree) (p : Bool) → (cond p None (Some t) then λ t. Some (stripped t)) ≡ cond p None (Some (stripped t))
    test t true = refl
    test t false = refl

    go : (o : Option Tree) → ((o then λ t. cond (is_null t) None (Some t)) then λ t. Some (stripped t))
        ≡ (o then λ t. cond (is_null t) None (Some (stripped t)))
    go None = refl
    go (Some t) = test t (is_null t)

-- Every item of an array stays in its place, stripped: "nulls in arrays .. stay".
pub strip_item : (ts : Items) (i : ℕ) → item_at (stripped_items ts) i ≡ (item_at ts i then λ t. Some (stripped t))
strip_item none i = refl
strip_item (item t ts) zero = refl
strip_item (item t ts) (suc i) = strip_item ts i

pub strip_count : (ts : Items) → count (stripped_items ts) ≡ count ts
strip_count none = refl
strip_count (item t ts) = ap suc (strip_count ts)

-- ---- no null member

-- What a step finds in what is stripped is itself something stripped.
strip_step : (s : Step) (t c : Tree) → step_into s (stripped t) ≡ Some c → (u : Tree) × (stripped u ≡ c)
strip_step s null c e = nothing_some e
strip_step s (boolean x) c e = nothing_some e
strip_step s (number b) c e = nothing_some e
strip_step s (string b) c e = nothing_some e
strip_step s (extension b) c e = nothing_some e
strip_step s (array ts) c e =
    let f = then_some (step_place s (count (stripped_items ts))) (item_at (stripped_items ts)) c e in
    let g = then_some (item_at ts f.0) (λ t. Some (stripped t)) c (sym (strip_item ts f.0) ∙ f.2) in
    (g.0, some_inj g.2)
strip_step s (object ms) c e =
    let g = then_some (find (step_name s) (kept ms)) (λ t. Some (stripped t)) c (sym (strip_find ms (step_name s)) ∙ e) in
    (g.0, some_inj g.2)

strip_not_null : (t : Tree) (n : Bytes) → step_into (name n) (stripped t) ≡ Some null → ⊥
strip_not_null null n e = nothing_some e
strip_not_null (boolean x) n e = nothing_some e
strip_not_null (number b) n e = nothing_some e
strip_not_null (string b) n e = nothing_some e
strip_not_null (extension b) n e = nothing_some e
strip_not_null (array ts) n e = nothing_some e
strip_not_null (object ms) n e =
    let g = then_some (find n (kept ms)) (λ t. Some (stripped t)) null (sym (strip_find ms n) ∙ e) in
    let no = kept_not_null ms n g.0 g.1 in
    let yes : is_null g.0 ≡ true = sym (null_stripped g.0) ∙ ap is_null (some_inj g.2) in
    let z : ◌≡◌ {A = ℕ} 0 1 = cc in
    omega arith

-- "Members whose value is null go, at every level": no object that a path leads to has one.
abbrev pub NoNull : Tree → Type 0
NoNull t = (p : List Step) (ms : Members) (n : Bytes) → look_up p t ≡ Some (object ms) → find n ms ≡ Some null → ⊥

pub strip_no_null : (t : Tree) (p : List Step) (ms : Members) (n : Bytes) → look_up p (stripped t) ≡ Some (object ms)
    → find n ms ≡ Some null → ⊥
strip_no_null t [] ms n e f = strip_not_null t n (ap (step_into (name n)) (some_inj e) ∙ f)
strip_no_null t (s ∷ p) ms n e f =
    let g = then_some (step_into s (stripped t)) (look_up p) (object ms) e in
    let u = strip_step s t g.0 g.1 in
    strip_no_null u.0 p ms n (ap (look_up p) u.1 ∙ g.2) f

-- ---- a tree that is its own strip

-- What a name finds behind the first of rising names.
behind : (n : Bytes) (t : Tree) (ms : Members) → Rising (n ∷ names ms) → (x : Bytes) (u : Tree) → find x ms ≡ Some u
    → find x (member n t ms) ≡ Some u
behind n t ms r x u e =
    find_later x n t ms (λ k. unlike n x (rising_all n (names ms) r x (found_in x ms u e)) (sym k)) ∙ e

mutual
  -- A sound tree without a null member stays as it is.
  pub strip_same : (t : Tree) → Sound t → NoNull t → stripped t ≡ t
  strip_same null s h = refl
  strip_same (boolean x) s h = refl
  strip_same (number b) s h = refl
  strip_same (string b) s h = refl
  strip_same (extension b) s h = refl
  strip_same (array ts) s h =
      ap array
      (strip_items_same ts s
      (λ i t k p ms n e f. h (index (pos i) ∷ p) ms n (ap (λ (o : Option Tree). o then look_up p) (index_finds i ts ∙ k) ∙ e) f))
  strip_same (object ms) s h =
      ap object
      (ap in_order
      (strip_members_same ms s.0 s.1 (λ n e. h [] ms n refl e)
      (λ x t k p ns n e f. h (name x ∷ p) ns n (ap (λ (o : Option Tree). o then look_up p) k ∙ e) f))
      ∙ rising_in_order ms s.0)

  strip_items_same : (ts : Items) → SoundItems ts → ((i : ℕ) (t : Tree) → item_at ts i ≡ Some t → NoNull t) → stripped_items ts ≡ ts
  strip_items_same none s h = refl
  strip_items_same (item t ts) s h =
      let a = strip_same t s.0 (h 0 t refl) in
      let b = strip_items_same ts s.1 (λ i u k. h (suc i) u k) in
      cc

  strip_members_same : (ms : Members) → Rising (names ms) → SoundMembers ms → ((n : Bytes) → find n ms ≡ Some null → ⊥)
      → ((n : Bytes) (t : Tree) → find n ms ≡ Some t → NoNull t) → stripped_members ms ≡ ms
  strip_members_same empty r s z h = refl
  strip_members_same (member n t ms) r s z h =
      by_test (is_null t) (λ p. cond p (stripped_members ms) (member n (stripped t) (stripped_members ms)) ≡ member n t ms)
      (λ e. absurd (z n (find_first n t ms ∙ ap Some (null_is t e))))
      (λ _.
      let a = strip_same t s.0 (h n t (find_first n t ms)) in
      let b = strip_members_same ms (rising_tail n (names ms) r) s.1 (λ x k. z x (behind n t ms r x null k))
      (λ x u k. h x u (behind n t ms r x u k)) in
      cc)

-- To strip again changes nothing.
pub strip_again : (t : Tree) → stripped (stripped t) ≡ stripped t
strip_again t = strip_same (stripped t) (strip_sound t) (strip_no_null t)

-- ---- where strip is refused

kept_rising : (ms : Members) → Rising (names ms) → Rising (names (kept ms))
kept_rising empty r = tt
kept_rising (member n t ms) r =
    by_test (is_null t) (λ p. Rising (names (cond p (kept ms) (member n t (kept ms)))))
    (λ _. kept_rising ms (rising_tail n (names ms) r))
    (λ _.
    rising_cons n (names (kept ms)) (λ x i. rising_all n (names ms) r x (kept_names ms x i))
    (kept_rising ms (rising_tail n (names ms) r)))

mutual
  -- In a sound tree no name is repeated.
  pub sound_unrepeated : (t : Tree) → Sound t → unrepeated t ≡ true
  sound_unrepeated null s = refl
  sound_unrepeated (boolean x) s = refl
  sound_unrepeated (number b) s = refl
  sound_unrepeated (string b) s = refl
  sound_unrepeated (extension b) s = refl
  sound_unrepeated (array ts) s = sound_items_unrepeated ts s
  sound_unrepeated (object ms) s =
      rw (rising_distinct (names (kept ms)) (kept_rising ms s.0)) (sound_members_unrepeated ms s.1)

  sound_items_unrepeated : (ts : Items) → SoundItems ts → unrepeated_items ts ≡ true
  sound_items_unrepeated none s = refl
  sound_items_unrepeated (item t ts) s = rw (sound_unrepeated t s.0) (sound_items_unrepeated ts s.1)

  sound_members_unrepeated : (ms : Members) → SoundMembers ms → unrepeated_members ms ≡ true
  sound_members_unrepeated empty s = refl
  sound_members_unrepeated (member n t ms) s = rw (sound_unrepeated t s.0) (sound_members_unrepeated ms s.1)

-- "A name repeated among kept members is 8."
strip_is : (t : Tree) → strip t ≡ (require (unrepeated t) Repeated >>= λ _. gives (stripped t))
unfolding strip
strip_is t = refl

pub strip_gives : (t u : Tree) → strip t ≡ gives u → (unrepeated t ≡ true) × (u ≡ stripped t)
strip_gives t u e = from_require _ _ _ (sym (strip_is t) ∙ e) λ test e₁. (is_true (unrepeated t) test, sym (gives_inj e₁))

pub strip_given : (t : Tree) → unrepeated t ≡ true → strip t ≡ gives (stripped t)
strip_given t e = strip_is t ∙ to_require (unrepeated t) Repeated _ _ (rw e tt) refl

pub strip_refused : (t : Tree) → unrepeated t ≡ false → strip t ≡ refused Repeated
unfolding strip
strip_refused t e = rw e

-- Strip refuses no sound tree.
pub strip_of_sound : (t : Tree) → Sound t → strip t ≡ gives (stripped t)
strip_of_sound t s = strip_given t (sound_unrepeated t s)
