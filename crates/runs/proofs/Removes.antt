-- Delete on values: the value without what the path finds, and what delete leaves of a tree of equal value, are equal values.
use Prim.Native.Nat.{ℕ, zero, suc}
use mathlib.Core.Path.{◌≡◌, refl, ap, sym, ◌∙◌, subst₂}
use mathlib.Core.Logic.{inl, inr, ⊎_elim}
use mathlib.Core.Bool.{true}
use mathlib.Core.List.{List, [], ◌∷◌}
use Rattle.layout.specs.Bytes.{Bytes}
use Rattle.layout.specs.Tree.{Tree, null, boolean, number, string, extension, array, object, Items, none, item, Members, empty, member, names}
use Rattle.layout.specs.Value.{Same, SameItems, SameMembers}
use Rattle.layout.proofs.Sames.{same_members_sym}
use Rattle.builders.specs.Order.{find, distinct}
use Rattle.builders.specs.Build.{count}
use Rattle.builders.proofs.InOrders.{has_not, distinct_cons}
use Rattle.builders.proofs.Proper.{Proper, ProperItems, ProperMembers, same_distinct, Fewer, fewer_distinct}
use Rattle.edits.specs.Keypath.{Step}
use Rattle.edits.specs.Find.{◌then◌, step_place, step_name, item_at, step_into, look_up}
use Rattle.edits.specs.Delete.{kept_item, change_item, change_member, anew, remains, or_same, delete}
use Rattle.edits.proofs.Deletes.{some_inj, nothing_some, then_some, equal_or_not, find_later, not_in, find_other, find_changed, find_gone}
use Rattle.edits.proofs.Meanings.{deleted_missing, deleted_found}
use Rattle.runs.specs.Plain.{member_name, item_number, how_many, numbered, taken, inward, plain_look_up}
use Rattle.runs.specs.Plain.{left_member, left_item, leave_named, leave_numbered, leave, rest, plain_delete}
use Rattle.runs.proofs.Named.{by_name, named_find}
use Rattle.runs.proofs.Alikes.{SameFound, some_same, none_same, finds_same, anew_same}
use Rattle.runs.proofs.Looks.{count_same, place_number, same_name, ProperFound, taken_proper, step_same, look_up_same}
use Rattle.runs.proofs.SameNames.{find_same}
use Rattle.std.specs.Prelude.{Some, None, Option}

-- ---- members

-- Every other name finds what it found.
leave_other : (f : Tree → Option Tree) (n x : Bytes) (ms : Members) → (x ≡ n → ⊥) → find x (leave_named f n ms) ≡ find x ms
leave_other f n x empty h = refl
leave_other f n x (member m t ms) h =
    by_name n m (λ (a : Members). find x a ≡ find x (member m t ms)) _ _
    (λ e. here (f t) (λ k. h (k ∙ sym e)) (leave_other f n x ms h))
    (λ _. there (leave_other f n x ms h))
  where
    here : (o : Option Tree) → (x ≡ m → ⊥) → find x (leave_named f n ms) ≡ find x ms
        → find x (left_member m o (leave_named f n ms)) ≡ find x (member m t ms)
    here None k e = e ∙ sym (find_later x m t ms k)
    here (Some u) k e = find_later x m u (leave_named f n ms) k ∙ e ∙ sym (find_later x m t ms k)

    there : find x (leave_named f n ms) ≡ find x ms → find x (member m t (leave_named f n ms)) ≡ find x (member m t ms)
    there e =
        ⊎_elim
        (λ (q : x ≡ m). find_same x m t (leave_named f n ms) q ∙ sym (find_same x m t ms q))
        (λ k. find_later x m t (leave_named f n ms) k ∙ e ∙ sym (find_later x m t ms k))
        (equal_or_not x m)

-- A name that finds nothing leaves all.
leave_missing : (f : Tree → Option Tree) (n : Bytes) (ms : Members) → find n ms ≡ None → leave_named f n ms ≡ ms
leave_missing f n empty e = refl
leave_missing f n (member m t ms) e =
    by_name n m (λ (a : Members). a ≡ member m t ms) _ _
    (λ q. nothing_some {x = t} (sym e ∙ find_same n m t ms q))
    (λ k. ap (member m t) (leave_missing f n ms (sym (find_later n m t ms k) ∙ e)))

-- The name itself finds what is left.
leave_here : (f : Tree → Option Tree) (n : Bytes) (ms : Members) (c : Tree) → distinct (names ms) ≡ true → find n ms ≡ Some c
    → find n (leave_named f n ms) ≡ f c
leave_here f n empty c d e = nothing_some e
leave_here f n (member m t ms) c d e =
    let k = distinct_cons m (names ms) d in
    by_name n m (λ (a : Members). find n a ≡ f c) _ _
    (λ (q : n ≡ m).
    let same : t ≡ c = some_inj (sym (find_same n m t ms q) ∙ e) in
    let gone : find n ms ≡ None = not_in n ms (λ i. has_not m (names ms) k.0 (rw q at i)) in
    rw (leave_missing f n ms gone, ← same) (here (f t) q gone))
    (λ h. find_later n m t (leave_named f n ms) h ∙ leave_here f n ms c k.1 (sym (find_later n m t ms h) ∙ e))
  where
    here : (o : Option Tree) → n ≡ m → find n ms ≡ None → find n (left_member m o ms) ≡ o
    here None q g = g
    here (Some u) q g = find_same n m u ms q

-- What is left as it is leaves all.
leave_kept : (f : Tree → Option Tree) (n : Bytes) (ms : Members) (c : Tree) → distinct (names ms) ≡ true → find n ms ≡ Some c → f c ≡ Some c
    → leave_named f n ms ≡ ms
leave_kept f n empty c d e g = refl
leave_kept f n (member m t ms) c d e g =
    let k = distinct_cons m (names ms) d in
    by_name n m (λ (a : Members). a ≡ member m t ms) _ _
    (λ (q : n ≡ m).
    let same : t ≡ c = some_inj (sym (find_same n m t ms q) ∙ e) in
    let gone : find n ms ≡ None = not_in n ms (λ i. has_not m (names ms) k.0 (rw q at i)) in
    rw (leave_missing f n ms gone, same, g))
    (λ h. ap (member m t) (leave_kept f n ms c k.1 (sym (find_later n m t ms h) ∙ e) g))

leave_fewer : (f : Tree → Option Tree) (n : Bytes) (ms : Members) → Fewer (names (leave_named f n ms)) (names ms)
leave_fewer f n empty = refl
leave_fewer f n (member m t ms) =
    by_name n m (λ (a : Members). Fewer (names a) (names (member m t ms))) _ _
    (λ _. here (f t) (leave_fewer f n ms))
    (λ _. inr (names (leave_named f n ms), refl, leave_fewer f n ms))
  where
    here : (o : Option Tree) → Fewer (names (leave_named f n ms)) (names ms) → Fewer (names (left_member m o (leave_named f n ms))) (names (member m t ms))
    here None k = inl k
    here (Some u) k = inr (names (leave_named f n ms), refl, k)

-- ---- items

-- A number that finds nothing leaves all, and so does what is left as it is.
leave_no_item : (f : Tree → Option Tree) (o : Option ℕ) (ts : Items) → numbered o ts ≡ None → leave_numbered f o ts ≡ ts
leave_no_item f None ts e = refl
leave_no_item f (Some i) none e = refl
leave_no_item f (Some zero) (item t ts) e = nothing_some (sym e)
leave_no_item f (Some (suc i)) (item t ts) e = ap (item t) (leave_no_item f (Some i) ts e)

leave_same_item : (f : Tree → Option Tree) (o : Option ℕ) (ts : Items) (c : Tree) → numbered o ts ≡ Some c → f c ≡ Some c → leave_numbered f o ts ≡ ts
leave_same_item f None ts c e g = refl
leave_same_item f (Some i) none c e g = refl
leave_same_item f (Some zero) (item t ts) c e g = rw (some_inj e, g)
leave_same_item f (Some (suc i)) (item t ts) c e g = ap (item t) (leave_same_item f (Some i) ts c e g)

-- ---- a step that finds nothing, or leaves what it finds

leave_none : (f : Tree → Option Tree) (s : Step) (t : Tree) → taken s t ≡ None → leave f s t ≡ t
leave_none f s null e = refl
leave_none f s (boolean x) e = refl
leave_none f s (number b) e = refl
leave_none f s (string b) e = refl
leave_none f s (extension b) e = refl
leave_none f s (array ts) e = ap array (leave_no_item f (item_number s (how_many ts)) ts e)
leave_none f s (object ms) e = ap object (leave_missing f (member_name s) ms (sym (named_find (member_name s) ms) ∙ e))

leave_same : (f : Tree → Option Tree) (s : Step) (t c : Tree) → Proper t → taken s t ≡ Some c → f c ≡ Some c → leave f s t ≡ t
leave_same f s null c p e g = refl
leave_same f s (boolean x) c p e g = refl
leave_same f s (number b) c p e g = refl
leave_same f s (string b) c p e g = refl
leave_same f s (extension b) c p e g = refl
leave_same f s (array ts) c p e g = ap array (leave_same_item f (item_number s (how_many ts)) ts c e g)
leave_same f s (object ms) c p e g = ap object (leave_kept f (member_name s) ms c p.0 (sym (named_find (member_name s) ms) ∙ e) g)

-- ---- one step

-- What is left of the item that is found, on both sides.
items_left : (v w : Option Tree) (ts us : Items) → SameFound v w → SameItems ts us → SameItems (left_item v ts) (kept_item w us)
items_left None None ts us k h = h
items_left None (Some w) ts us k h = absurd k
items_left (Some v) None ts us k h = absurd k
items_left (Some v) (Some w) ts us k h = (w, us, refl, k, h)

-- The name of the member that is changed finds what is left of it.
change_here : (o : Option Tree) (n : Bytes) (ns : Members) (c : Tree) → distinct (names ns) ≡ true → find n ns ≡ Some c
    → find n (change_member o n ns) ≡ o
change_here None n ns c d e = find_gone n ns d
change_here (Some u) n ns c d e = find_changed n u ns c e

module _ (f : Tree → Option Tree) (o : Option Tree) (c : Tree) (k : SameFound (f c) o) where
  leave_members : (n : Bytes) (ms ns : Members) (c' : Tree) → SameMembers ms ns → distinct (names ms) ≡ true → find n ms ≡ Some c
      → find n ns ≡ Some c' → (x : Bytes) → SameFound (find x (leave_named f n ms)) (find x (change_member o n ns))
  leave_members n ms ns c' h d e e' x =
      let d' = same_distinct ns ms (same_members_sym ms ns h) d in
      ⊎_elim
      (λ (q : x ≡ n). rw (q, leave_here f n ms c d e, change_here o n ns c' d' e') k)
      (λ w. subst₂ SameFound (sym (leave_other f n x ms w)) (sym (find_other o n x ns w)) (finds_same ms ns h d x))
      (equal_or_not x n)

  leave_items : (i : ℕ) (ts us : Items) → SameItems ts us → numbered (Some i) ts ≡ Some c
      → SameItems (leave_numbered f (Some i) ts) (change_item o i us)
  leave_items i none us h e = nothing_some e
  leave_items zero (item t ts) us h e = rw (h.2, some_inj e) (items_left (f c) o ts h.1 k h.4)
  leave_items (suc i) (item t ts) us h e = rw h.2 (h.0, change_item o i h.1, refl, h.3, leave_items i ts h.1 h.4 e)

  leave_same_value : (s : Step) (t u c' : Tree) → Same t u → Proper t → taken s t ≡ Some c → step_into s u ≡ Some c'
      → Same (leave f s t) (anew o s u)
  leave_same_value s null u c' h p e e' = nothing_some e
  leave_same_value s (boolean x) u c' h p e e' = nothing_some e
  leave_same_value s (number b) u c' h p e e' = nothing_some e
  leave_same_value s (string b) u c' h p e e' = nothing_some e
  leave_same_value s (extension b) u c' h p e e' = nothing_some e
  leave_same_value s (array ts) u c' h p e e' =
      let us = h.0 in
      let g = then_some (step_place s (count us)) (item_at us) c' (rw h.1 at e') in
      let i = g.0 in
      let n : item_number s (how_many ts) ≡ Some i = ap (item_number s) (sym (count_same ts us h.2)) ∙ place_number s (count us) i g.1 in
      rw (h.1, g.1, n) (change_item o i us, refl, leave_items i ts us h.2 (ap (λ (o : Option ℕ). numbered o ts) (sym n) ∙ e))
  leave_same_value s (object ms) u c' h p e e' =
      let n = member_name s in
      let ns = h.0 in
      let found : find (step_name s) ns ≡ Some c' = rw h.1 at e' in
      rw (h.1, same_name s)
      (anew_same (leave_named f n ms) (change_member o n ns)
      (fewer_distinct (names (leave_named f n ms)) (names ms) (leave_fewer f n ms) p.0)
      (leave_members n ms ns c' h.2 p.0 (sym (named_find n ms) ∙ e) (ap (λ (x : Bytes). find x ns) (sym (same_name s)) ∙ found)))

-- ---- paths

-- A path that finds nothing leaves the value.
plain_missing : (p : List Step) (t : Tree) → Proper t → plain_look_up p t ≡ None → plain_delete p t ≡ t
plain_missing [] t h e = nothing_some (sym e)
plain_missing (s ∷ p) t h e = go (taken s t) refl (taken_proper s t h) e (λ c k m. rest_same p c m (plain_missing p c k m))
  where
    rest_same : (p : List Step) (c : Tree) → plain_look_up p c ≡ None → plain_delete p c ≡ c → rest p c ≡ Some c
    rest_same [] c m q = nothing_some (sym m)
    rest_same (r ∷ p) c m q = ap Some q

    go : (o : Option Tree) → taken s t ≡ o → ProperFound o → inward o (plain_look_up p) ≡ None
        → ((c : Tree) → Proper c → plain_look_up p c ≡ None → rest p c ≡ Some c) → leave (rest p) s t ≡ t
    go None q k m f = leave_none (rest p) s t q
    go (Some c) q k m f = leave_same (rest p) s t c h q (f c k m)

-- What is left where the path finds something.
rest_same : (p : List Step) (c c' v : Tree) → look_up p c' ≡ Some v → Same (plain_delete p c) (delete p c')
    → SameFound (rest p c) (remains p c')
rest_same [] c c' v e h = tt
rest_same (s ∷ p) c c' v e h =
    let is : delete (s ∷ p) c' ≡ anew (step_into s c' then remains p) s c' =
    ap (λ (o : Option Tree). or_same c' (o then λ _. remains (s ∷ p) c')) e in
    rw is at h

pub delete_same : (p : List Step) (t u : Tree) → Same t u → Proper t → Same (plain_delete p t) (delete p u)
delete_same [] t u h k = h
delete_same (s ∷ p) t u h k = whether (look_up (s ∷ p) u) refl (look_up_same (s ∷ p) t u h k) (delete_same p)
  where
    whether : (o : Option Tree) → look_up (s ∷ p) u ≡ o → SameFound (plain_look_up (s ∷ p) t) o
        → ((c c' : Tree) → Same c c' → Proper c → Same (plain_delete p c) (delete p c'))
        → Same (plain_delete (s ∷ p) t) (delete (s ∷ p) u)
    whether None e q f = rw (deleted_missing (s ∷ p) u e, plain_missing (s ∷ p) t k (none_same (plain_look_up (s ∷ p) t) q)) h
    whether (Some v) e q f =
        let g = then_some (step_into s u) (look_up p) v e in
        let c' = g.0 in
        let w = some_same (taken s t) c' (rw g.1 at (step_same s t u h k)) in
        let c = w.0 in
        let proper : ProperFound (Some c) = rw w.1 at (taken_proper s t k) in
        rw (deleted_found s p u c' v g.1 g.2)
        (leave_same_value (rest p) (remains p c') c (rest_same p c c' v g.2 (f c c' w.2 proper)) s t u c' h k w.1 g.1)

-- ---- what is left is proper

module _ (f : Tree → Option Tree) (keeps : (t : Tree) → Proper t → ProperFound (f t)) where
  leave_members_proper : (n : Bytes) (ms : Members) → ProperMembers ms → ProperMembers (leave_named f n ms)
  leave_members_proper n empty p = tt
  leave_members_proper n (member m t ms) p =
      by_name n m ProperMembers _ _
      (λ _. here (f t) (keeps t p.1) (leave_members_proper n ms p.2))
      (λ _. (p.0, p.1, leave_members_proper n ms p.2))
    where
      here : (o : Option Tree) → ProperFound o → ProperMembers (leave_named f n ms) → ProperMembers (left_member m o (leave_named f n ms))
      here None k q = q
      here (Some u) k q = (p.0, k, q)

  leave_items_proper : (o : Option ℕ) (ts : Items) → ProperItems ts → ProperItems (leave_numbered f o ts)
  leave_items_proper None ts p = p
  leave_items_proper (Some i) none p = tt
  leave_items_proper (Some zero) (item t ts) p = here (f t) (keeps t p.0)
    where
      here : (o : Option Tree) → ProperFound o → ProperItems (left_item o ts)
      here None k = p.1
      here (Some u) k = (k, p.1)
  leave_items_proper (Some (suc i)) (item t ts) p = (p.0, leave_items_proper (Some i) ts p.1)

  leave_proper : (s : Step) (t : Tree) → Proper t → Proper (leave f s t)
  leave_proper s null p = p
  leave_proper s (boolean x) p = p
  leave_proper s (number b) p = p
  leave_proper s (string b) p = p
  leave_proper s (extension b) p = p
  leave_proper s (array ts) p = leave_items_proper (item_number s (how_many ts)) ts p
  leave_proper s (object ms) p = (
    fewer_distinct (names (leave_named f (member_name s) ms)) (names ms) (leave_fewer f (member_name s) ms) p.0,
    leave_members_proper (member_name s) ms p.1,
  )

rest_proper : (p : List Step) (t : Tree) → Proper t → ProperFound (rest p t)
rest_proper [] t h = tt
rest_proper (s ∷ p) t h = leave_proper (rest p) (rest_proper p) s t h

pub delete_proper : (p : List Step) (t : Tree) → Proper t → Proper (plain_delete p t)
delete_proper [] t h = h
delete_proper (s ∷ p) t h = leave_proper (rest p) (rest_proper p) s t h
