-- What a change leaves as it was, and what it changes: the members and the items that delete writes anew.
use Prim.Native.Nat.{ℕ, zero, suc, ◌<◌, ◌≤◌}
use native.Mathlib.Omega.{arith}
use mathlib.Core.Path.{◌≡◌, refl, ap, sym, ◌∙◌}
use mathlib.Core.Logic.{◌⊎◌, inl, inr, ⊎_elim}
use mathlib.Core.Bool.{true, false}
use mathlib.Core.List.{◌∷◌}
use Rattle.layout.specs.Bytes.{Bytes}
use Rattle.layout.specs.Order.{order}
use Rattle.layout.specs.Tree.{Tree, Items, none, item, Members, empty, member, names}
use Rattle.layout.specs.Sound.{◌≺◌, Rising}
use Rattle.layout.specs.Value.{Taken}
use Rattle.layout.proofs.Values.{≺-irrefl, ≺-trans, In, rising_tail, rising_all}
use Rattle.builders.specs.Order.{by, in_order, find, distinct}
use Rattle.builders.specs.Build.{count, join}
use Rattle.builders.proofs.Orderings.{order_cases, by_order, order_refl}
use Rattle.builders.proofs.InOrders.{unlike, rising_cons, in_order_rising, find_in_order, has_not, distinct_cons}
use Rattle.builders.proofs.Proper.{distinct_with}
use Rattle.edits.specs.Keypath.{Step, name, index}
use Rattle.edits.specs.Find.{◌then◌, step_place, item_at}
use Rattle.edits.specs.Delete.{kept_member, change_item, change_member}
use Rattle.edits.proofs.Finds.{place_lt}
use Rattle.std.specs.Prelude.{Some, None, Option}

-- ---- something or nothing

pub some_inj : {A : Type 0} {x y : A} → Some x ≡ Some y → x ≡ y
some_inj e = cc

pub nothing_some : {A C : Type 0} {x : A} → None ≡ Some x → C
nothing_some e = let z : ◌≡◌ {A = ℕ} 0 1 = cc in let w : ⊥ = omega arith in absurd w

pub false_true : {C : Type 0} → false ≡ true → C
false_true e = let z : ◌≡◌ {A = ℕ} 0 1 = cc in let w : ⊥ = omega arith in absurd w

-- Where two steps find something, each does.
pub then_some : {A B : Type 0} (o : Option A) (f : A → Option B) (y : B) → o then f ≡ Some y
    → (x : A) × (o ≡ Some x) × (f x ≡ Some y)
then_some None f y e = nothing_some e
then_some (Some x) f y e = (x, refl, e)

-- By cases on whether something was found.
pub found_or_not : {A : Type 0} (o : Option A) → (o ≡ None) ⊎ ((x : A) × (o ≡ Some x))
found_or_not None = inl refl
found_or_not (Some x) = inr (x, refl)

-- ---- what a name finds

-- By cases on whether two names are equal.
pub by_equal : {A : Type 0} (a b : Bytes) (P : A → Type 0) (x y : A) → ((a ≡ b → ⊥) → P x) → (a ≡ b → P y) → P (by (order a b) x y x)
by_equal a b P x y f g = by_order a b P x y x (λ l. f (unlike a b l)) g (λ l. f (λ e. unlike b a l (sym e)))

pub equal_or_not : (a b : Bytes) → (a ≡ b) ⊎ (a ≡ b → ⊥)
equal_or_not a b = by_equal {A = Unit {0}} a b (λ _. (a ≡ b) ⊎ (a ≡ b → ⊥)) tt tt (λ h. inr h) (λ e. inl e)

pub find_first : (n : Bytes) (t : Tree) (ms : Members) → find n (member n t ms) ≡ Some t
find_first n t ms = rw (order_refl n)

pub find_later : (x n : Bytes) (t : Tree) (ms : Members) → (x ≡ n → ⊥) → find x (member n t ms) ≡ find x ms
find_later x n t ms h = by_equal x n (λ (a : Option Tree). a ≡ find x ms) _ _ (λ _. refl) (λ e. absurd (h e))

pub found_in : (n : Bytes) (ms : Members) (t : Tree) → find n ms ≡ Some t → In n (names ms)
found_in n empty t e = nothing_some e
found_in n (member m u ms) t e =
    by_equal n m (λ (a : Option Tree). a ≡ Some t → In n (names (member m u ms))) _ _
    (λ _ e. inr (found_in n ms t e)) (λ k _. inl k) e

pub not_in : (n : Bytes) (ms : Members) → (In n (names ms) → ⊥) → find n ms ≡ None
not_in n ms h = ⊎_elim (λ e. e) (λ f. absurd (h (found_in n ms f.0 f.1))) (found_or_not (find n ms))

-- ---- members changed

-- Every other name finds what it found.
pub find_other : (o : Option Tree) (n x : Bytes) (ms : Members) → (x ≡ n → ⊥) → find x (change_member o n ms) ≡ find x ms
find_other o n x empty h = refl
find_other o n x (member m t ms) h =
    by_equal n m (λ (a : Members). find x a ≡ find x (member m t ms)) _ _
    (λ _. ap (λ (a : Option Tree). by (order x m) a (Some t) a) (find_other o n x ms h))
    (λ e. here o (λ k. h (k ∙ sym e)))
  where
    here : (o : Option Tree) → (x ≡ m → ⊥) → find x (kept_member m o ms) ≡ find x (member m t ms)
    here None k = sym (find_later x m t ms k)
    here (Some u) k = find_later x m u ms k ∙ sym (find_later x m t ms k)

-- The name itself finds what was put there, if it found anything.
pub find_changed : (n : Bytes) (u : Tree) (ms : Members) (t : Tree) → find n ms ≡ Some t
    → find n (change_member (Some u) n ms) ≡ Some u
find_changed n u empty t e = nothing_some e
find_changed n u (member m v ms) t e =
    by_equal n m (λ (a : Members). find n a ≡ Some u) _ _
    (λ h. find_later n m v (change_member (Some u) n ms) h ∙ find_changed n u ms t (sym (find_later n m v ms h) ∙ e))
    (λ k. rw (k, order_refl m))

-- A name that finds nothing changes nothing.
pub change_missing : (o : Option Tree) (n : Bytes) (ms : Members) → find n ms ≡ None → change_member o n ms ≡ ms
change_missing o n empty e = refl
change_missing o n (member m t ms) e =
    by_equal n m (λ (a : Members). a ≡ member m t ms) _ _
    (λ h. ap (member m t) (change_missing o n ms (sym (find_later n m t ms h) ∙ e)))
    (λ k. nothing_some (sym e ∙ ap (λ (x : Bytes). find x (member m t ms)) k ∙ find_first m t ms))

-- No name is new.
change_names : (o : Option Tree) (n : Bytes) (ms : Members) (x : Bytes) → In x (names (change_member o n ms)) → In x (names ms)
change_names o n empty x i = i
change_names o n (member m t ms) x i =
    by_equal n m (λ (a : Members). In x (names a) → In x (names (member m t ms))) _ _
    (λ _ i. ⊎_elim (λ j. inl j) (λ j. inr (change_names o n ms x j)) i) (λ _ i. here o i) i
  where
    here : (o : Option Tree) → In x (names (kept_member m o ms)) → In x (names (member m t ms))
    here None i = inr i
    here (Some u) i = i

-- Names that rise go on rising.
pub change_rising : (o : Option Tree) (n : Bytes) (ms : Members) → Rising (names ms) → Rising (names (change_member o n ms))
change_rising o n empty h = tt
change_rising o n (member m t ms) h =
    by_equal n m (λ (a : Members). Rising (names a)) _ _
    (λ _.
    rising_cons m (names (change_member o n ms)) (λ x i. rising_all m (names ms) h x (change_names o n ms x i))
    (change_rising o n ms (rising_tail m (names ms) h)))
    (λ _. here o)
  where
    here : (o : Option Tree) → Rising (names (kept_member m o ms))
    here None = rising_tail m (names ms) h
    here (Some u) = h

-- Names that stand there once go on doing so, and the name of a member that goes finds nothing more.
pub change_distinct : (o : Option Tree) (n : Bytes) (ms : Members) → distinct (names ms) ≡ true
    → distinct (names (change_member o n ms)) ≡ true
change_distinct o n empty d = d
change_distinct o n (member m t ms) d =
    let k = distinct_cons m (names ms) d in
    by_equal n m (λ (a : Members). distinct (names a) ≡ true) _ _
    (λ _.
    distinct_with m (names (change_member o n ms)) (λ i. has_not m (names ms) k.0 (change_names o n ms m i))
    (change_distinct o n ms k.1))
    (λ _. here o k.1)
  where
    here : (o : Option Tree) → distinct (names ms) ≡ true → distinct (names (kept_member m o ms)) ≡ true
    here None k = k
    here (Some u) k = d

pub find_gone : (n : Bytes) (ms : Members) → distinct (names ms) ≡ true → find n (change_member None n ms) ≡ None
find_gone n empty d = refl
find_gone n (member m t ms) d =
    let k = distinct_cons m (names ms) d in
    by_equal n m (λ (a : Members). find n a ≡ None) _ _
    (λ h. find_later n m t (change_member None n ms) h ∙ find_gone n ms k.1)
    (λ (e : n ≡ m). not_in n ms (λ i. has_not m (names ms) k.0 (rw e at i)))

-- The members without the first that has the name.
pub change_taken : (n : Bytes) (v : Tree) (ms : Members) → find n ms ≡ Some v → Taken n v ms (change_member None n ms)
change_taken n v empty e = nothing_some e
change_taken n v (member m t ms) e =
    by_equal n m (λ (a : Members). Taken n v (member m t ms) a) _ _
    (λ h. inr (change_member None n ms, refl, change_taken n v ms (sym (find_later n m t ms h) ∙ e)))
    (λ k. inl (k, some_inj (sym e ∙ ap (λ (x : Bytes). find x (member m t ms)) k ∙ find_first m t ms), refl))

-- ---- members in order

-- Members whose names rise are known by what each name finds.
pub find_unique : (ms ns : Members) → Rising (names ms) → Rising (names ns) → ((x : Bytes) → find x ms ≡ find x ns) → ms ≡ ns
find_unique empty empty p q h = refl
find_unique empty (member m u ns) p q h = nothing_some (h m ∙ find_first m u ns)
find_unique (member n t ms) empty p q h = nothing_some (sym (h n) ∙ find_first n t ms)
find_unique (member n t ms) (member m u ns) p q h =
    order_cases n m (λ _. member n t ms ≡ member m u ns)
    (λ l. absurd (clash n t ms m u ns q l h))
    (λ e.
    let v : t ≡ u = some_inj (sym (find_first n t ms) ∙ h n ∙ ap (λ x. find x (member m u ns)) e ∙ find_first m u ns) in
    let rest : ms ≡ ns = find_unique ms ns (rising_tail n (names ms) p) (rising_tail m (names ns) q) (λ x. tails x e) in
    cc (e, v, rest))
    (λ l. absurd (clash m u ns n t ms p l (λ x. sym (h x))))
  where
    -- A first name below all names of the other would be found there.
    clash : (n : Bytes) (t : Tree) (ms : Members) (m : Bytes) (u : Tree) (ns : Members) → Rising (m ∷ names ns) → n ≺ m
        → ((x : Bytes) → find x (member n t ms) ≡ find x (member m u ns)) → ⊥
    clash n t ms m u ns q l h =
        let i : In n (names (member m u ns)) = found_in n (member m u ns) t (sym (h n) ∙ find_first n t ms) in
        ⊎_elim (λ e. unlike n m l e) (λ j. ≺-irrefl n (≺-trans n m n l (rising_all m (names ns) q n j))) i

    -- The first name stands in neither rest, and every other name looks past it.
    tails : (x : Bytes) → n ≡ m → find x ms ≡ find x ns
    tails x e =
        ⊎_elim
        (λ k.
        not_in x ms (λ i. unlike n x (rising_all n (names ms) p x i) (sym k))
        ∙ sym (not_in x ns (λ i. unlike m x (rising_all m (names ns) q x i) (sym (k ∙ e)))))
        (λ k. sym (find_later x n t ms k) ∙ h x ∙ find_later x m u ns (λ j. k (j ∙ sym e)))
        (equal_or_not x n)

-- A member changed and then the order, or the order and then the change.
pub change_in_order : (n : Bytes) (u : Tree) (ms : Members)
    → in_order (change_member (Some u) n ms) ≡ change_member (Some u) n (in_order ms)
change_in_order n u ms =
    find_unique (in_order (change_member (Some u) n ms)) (change_member (Some u) n (in_order ms))
    (in_order_rising (change_member (Some u) n ms)) (change_rising (Some u) n (in_order ms) (in_order_rising ms))
    (λ x. find_in_order x (change_member (Some u) n ms) ∙ alike x)
  where
    own : find n (change_member (Some u) n ms) ≡ find n (change_member (Some u) n (in_order ms))
    own =
        ⊎_elim
        (λ e. ap (find n) (change_missing (Some u) n ms e) ∙ e
        ∙ sym (ap (find n) (change_missing (Some u) n (in_order ms) (find_in_order n ms ∙ e)) ∙ find_in_order n ms ∙ e))
        (λ f. find_changed n u ms f.0 f.1 ∙ sym (find_changed n u (in_order ms) f.0 (find_in_order n ms ∙ f.1)))
        (found_or_not (find n ms))

    other : (x : Bytes) → (x ≡ n → ⊥) → find x (change_member (Some u) n ms) ≡ find x (change_member (Some u) n (in_order ms))
    other x h = find_other (Some u) n x ms h ∙ sym (find_other (Some u) n x (in_order ms) h ∙ find_in_order x ms)

    alike : (x : Bytes) → find x (change_member (Some u) n ms) ≡ find x (change_member (Some u) n (in_order ms))
    alike x = ⊎_elim (λ e. rw e own) (λ h. other x h) (equal_or_not x n)

-- ---- places

-- The place that a step means is one of the array's.
pub step_below : (s : Step) (n i : ℕ) → step_place s n ≡ Some i → i < n
step_below (name b) n i e = nothing_some e
step_below (index z) n i e = place_lt z n i e

pub item_there : (ts : Items) (i : ℕ) → i < count ts → (c : Tree) × (item_at ts i ≡ Some c)
item_there none i h = let w : ⊥ = omega arith in absurd w
item_there (item t ts) zero h = (t, refl)
item_there (item t ts) (suc i) h = item_there ts i (omega arith)

pub item_past : (ts : Items) (i : ℕ) → count ts ≤ i → item_at ts i ≡ None
item_past none i h = refl
item_past (item t ts) zero h = let w : ⊥ = omega arith in absurd w
item_past (item t ts) (suc i) h = item_past ts i (omega arith)

-- ---- items changed

pub item_changed : (u : Tree) (i : ℕ) (ts : Items) → i < count ts → item_at (change_item (Some u) i ts) i ≡ Some u
item_changed u i none h = let w : ⊥ = omega arith in absurd w
item_changed u zero (item t ts) h = refl
item_changed u (suc i) (item t ts) h = item_changed u i ts (omega arith)

pub item_other : (u : Tree) (i j : ℕ) (ts : Items) → (j ≡ i → ⊥) → item_at (change_item (Some u) i ts) j ≡ item_at ts j
item_other u i j none h = refl
item_other u zero zero (item t ts) h = absurd (h refl)
item_other u zero (suc j) (item t ts) h = refl
item_other u (suc i) zero (item t ts) h = refl
item_other u (suc i) (suc j) (item t ts) h = item_other u i j ts (λ e. h (ap suc e))

-- Items before a changed one stay; those behind one that goes move up by one.
pub item_before : (o : Option Tree) (i j : ℕ) (ts : Items) → j < i → item_at (change_item o i ts) j ≡ item_at ts j
item_before o i j none h = refl
item_before o zero j (item t ts) h = let w : ⊥ = omega arith in absurd w
item_before o (suc i) zero (item t ts) h = refl
item_before o (suc i) (suc j) (item t ts) h = item_before o i j ts (omega arith)

pub item_behind : (i j : ℕ) (ts : Items) → i ≤ j → item_at (change_item None i ts) j ≡ item_at ts (suc j)
item_behind i j none h = refl
item_behind zero j (item t ts) h = refl
item_behind (suc i) zero (item t ts) h = let w : ⊥ = omega arith in absurd w
item_behind (suc i) (suc j) (item t ts) h = item_behind i j ts (omega arith)

pub count_changed : (u : Tree) (i : ℕ) (ts : Items) → count (change_item (Some u) i ts) ≡ count ts
count_changed u i none = refl
count_changed u zero (item t ts) = refl
count_changed u (suc i) (item t ts) = ap suc (count_changed u i ts)

pub count_gone : (i : ℕ) (ts : Items) → i < count ts → suc (count (change_item None i ts)) ≡ count ts
count_gone i none h = let w : ⊥ = omega arith in absurd w
count_gone zero (item t ts) h = refl
count_gone (suc i) (item t ts) h = ap suc (count_gone i ts (omega arith))

-- The items before one that goes, and those behind it.
pub change_split : (i : ℕ) (ts : Items) (v : Tree) → item_at ts i ≡ Some v
    → (front back : Items) × (ts ≡ join front (item v back)) × (count front ≡ i) × (change_item None i ts ≡ join front back)
change_split i none v e = nothing_some e
change_split zero (item t ts) v e = (none, ts, ap (λ (x : Tree). item x ts) (some_inj e), refl, refl)
change_split (suc i) (item t ts) v e =
    let k = change_split i ts v e in
    (item t k.0, k.1, ap (item t) k.2, ap suc k.3, ap (item t) k.4)
