-- Equality of values is an equivalence: `same_refl` of Values, and here the other way round and one after the other. And the test
-- of it, `same`, says what `Same` says.
use mathlib.Core.Path.{◌≡◌, refl, sym, ap, ap₂, subst, ◌∙◌}
use mathlib.Core.Logic.Iff
use mathlib.Core.Logic.{◌⊎◌, inl, inr, ⊎_elim, ◌↔◌}
use mathlib.Core.Bool.{Bool, true, false, ◌&&◌}
use lib.Dec.{T, eqb, eqb→eq}
use borrow.Author.Tests.{eqb-false}
use Rattle.layout.specs.Bytes.{Bytes}
use Rattle.layout.specs.Entry.{code, kind_of}
use Rattle.layout.specs.Tree.{Tree, null, boolean, number, string, extension, array, object, Items, none, item, Members, empty, member, kind}
use Rattle.layout.specs.Encode.{payload}
use Rattle.layout.specs.Order.{same_bytes}
use Rattle.layout.specs.Value.{Taken, Same, SameItems, SameMembers}
use Rattle.layout.specs.Value.{same_kind, same_scalar, of_array, of_object, take_out, same, same_items, same_members}
use Rattle.layout.specs.declared.item.Kind.{Kind}
use Rattle.layout.specs.declared.item.Kind.TheVariants.{Null, String, Number, False, True, Container, Extension}
use Rattle.layout.proofs.Level.{eq_test}
use Rattle.layout.proofs.Values.{same_refl, same_members_refl}
use Rattle.layout.proofs.Orders.{bytes_test}
use Rattle.layout.proofs.Sounds.{both}

-- A member put in at some place of one side, and in front of the other.
same_taken : (n : Bytes) (t u : Tree) (ns r ms : Members) → Taken n u ns r → Same u t → SameMembers r ms → SameMembers ns (member n t ms)
same_taken n t u empty r ms k s h = absurd k
same_taken n t u (member m x ns) r ms k s h =
    ⊎_elim
    (λ e.
    let rest : SameMembers ns ms = rw e.2 at h in
    let same : Same x t = rw e.1 at s in
    (t, ms, inl (sym e.0, refl, refl), same, rest))
    (λ e.
    let split : SameMembers (member m x e.0) ms = rw e.1 at h in
    (split.0, member n t split.1, inr (split.1, refl, split.2), split.3, same_taken n t u ns e.0 split.1 e.2 s split.4))
    k

mutual
  pub same_sym : (t u : Tree) → Same t u → Same u t
  same_sym null u h = rw h refl
  same_sym (boolean x) u h = rw h refl
  same_sym (number b) u h = rw h refl
  same_sym (string b) u h = rw h refl
  same_sym (extension b) u h = rw h refl
  same_sym (array ts) u h = rw h.1 (ts, refl, same_items_sym ts h.0 h.2)
  same_sym (object ms) u h = rw h.1 (ms, refl, same_members_sym ms h.0 h.2)

  same_items_sym : (ts us : Items) → SameItems ts us → SameItems us ts
  same_items_sym none us h = rw h refl
  same_items_sym (item t ts) us h = rw h.2 (t, ts, refl, same_sym t h.0 h.3, same_items_sym ts h.1 h.4)

  pub same_members_sym : (ms ns : Members) → SameMembers ms ns → SameMembers ns ms
  same_members_sym empty ns h = rw h refl
  same_members_sym (member n t ms) ns h =
      same_taken n t h.0 ns h.1 ms h.2 (same_sym t h.0 h.3) (same_members_sym ms h.1 h.4)

-- A member of one side has its like on the other, and what is left of both is equal.
same_like : (n : Bytes) (u : Tree) (ns r ps : Members) → Taken n u ns r → SameMembers ns ps
    → (v : Tree) × (q : Members) × Taken n v ps q × Same u v × SameMembers r q
same_like n u empty r ps k h = absurd k
same_like n u (member m x ns) r ps k h =
    ⊎_elim
    (λ e.
    let same : Same u h.0 = rw e.1 h.3 in
    let rest : SameMembers r h.1 = rw e.2 h.4 in
    let there : Taken n h.0 ps h.1 = rw e.0 h.2 in
    (h.0, h.1, there, same, rest))
    (λ e.
    let (v, q, k₁, s₁, r₁) = same_like n u ns e.0 h.1 e.2 h.4 in
    let w = taken_two m h.0 n v ps h.1 q h.2 k₁ in
    let r₂ : SameMembers (member m x e.0) w.0 = (h.0, q, w.2, h.3, r₁) in
    (v, w.0, w.1, s₁, subst (λ (z : Members). SameMembers z w.0) (sym e.1) r₂))
    k
  where
    -- Two members taken one after the other can be taken the other way round.
    taken_two : (m : Bytes) (x : Tree) (n : Bytes) (v : Tree) (ps p q : Members) → Taken m x ps p → Taken n v p q
        → (w : Members) × Taken n v ps w × Taken m x w q
    taken_two m x n v empty p q a b = absurd a
    taken_two m x n v (member y z ps) p q a b =
        ⊎_elim
        (λ e.
        let b₁ : Taken n v ps q = rw e.2 at b in
        (member y z q, inr (q, refl, b₁), inl (e.0, e.1, refl)))
        (λ e.
        let b₁ : Taken n v (member y z e.0) q = rw e.1 at b in
        ⊎_elim
        (λ f. (ps, inl (f.0, f.1, refl), rw f.2 e.2))
        (λ f.
        let g = taken_two m x n v ps e.0 f.0 e.2 f.2 in
        (member y z g.0, inr (g.0, refl, g.1), inr (f.0, f.1, g.2)))
        b₁)
        a

mutual
  pub same_trans : (t u v : Tree) → Same t u → Same u v → Same t v
  same_trans null u v h k = rw h at k
  same_trans (boolean x) u v h k = rw h at k
  same_trans (number b) u v h k = rw h at k
  same_trans (string b) u v h k = rw h at k
  same_trans (extension b) u v h k = rw h at k
  same_trans (array ts) u v h k =
      let l : Same (array h.0) v = rw h.1 at k in
      (l.0, l.1, same_items_trans ts h.0 l.0 h.2 l.2)
  same_trans (object ms) u v h k =
      let l : Same (object h.0) v = rw h.1 at k in
      (l.0, l.1, same_members_trans ms h.0 l.0 h.2 l.2)

  same_items_trans : (ts us vs : Items) → SameItems ts us → SameItems us vs → SameItems ts vs
  same_items_trans none us vs h k = rw h at k
  same_items_trans (item t ts) us vs h k =
      let l : SameItems (item h.0 h.1) vs = rw h.2 at k in
      (l.0, l.1, l.2, same_trans t h.0 l.0 h.3 l.3, same_items_trans ts h.1 l.1 h.4 l.4)

  same_members_trans : (ms ns ps : Members) → SameMembers ms ns → SameMembers ns ps → SameMembers ms ps
  same_members_trans empty ns ps h k = rw h at k
  same_members_trans (member n t ms) ns ps h k =
      let l = same_like n h.0 ns h.1 ps h.2 k in
      (l.0, l.1, l.2, same_trans t h.0 l.0 h.3 l.3, same_members_trans ms h.1 l.1 h.4 l.4)

-- ---- The test

-- Scalars are told by their kind and payload.

kind_code : (k : Kind) → kind_of (code k) ≡ k
unfolding kind_of
kind_code Null = refl
kind_code String = refl
kind_code Number = refl
kind_code False = refl
kind_code True = refl
kind_code Container = refl
kind_code Extension = refl

pub kind_test : (k l : Kind) → T (same_kind k l) ↔ (k ≡ l)
unfolding same_kind
kind_test k l = (
  λ h. sym (kind_code k) ∙ ap kind_of (eqb→eq (code k) (code l) h) ∙ kind_code l,
  λ e. eq_test (code k) (code l) (ap code e),
)

-- A tree that is no container.
abbrev pub Leaf : Tree → Type 0
Leaf t = eqb (code (kind t)) 5 ≡ false

abbrev leaf_of : Kind → Bytes → Tree
leaf_of Null b = null
leaf_of String b = string b
leaf_of Number b = number b
leaf_of False b = boolean false
leaf_of True b = boolean true
leaf_of Container b = null
leaf_of Extension b = extension b

leaf_is : (t : Tree) → Leaf t → leaf_of (kind t) (payload t) ≡ t
leaf_is null h = refl
leaf_is (boolean true) h = refl
leaf_is (boolean false) h = refl
leaf_is (number b) h = refl
leaf_is (string b) h = refl
leaf_is (extension b) h = refl
leaf_is (array ts) h = cc
leaf_is (object ms) h = cc

leaf_same : (t u : Tree) → Leaf t → (u ≡ t) ↔ Same t u
leaf_same null u l = Iff.rfl
leaf_same (boolean x) u l = Iff.rfl
leaf_same (number b) u l = Iff.rfl
leaf_same (string b) u l = Iff.rfl
leaf_same (extension b) u l = Iff.rfl
leaf_same (array ts) u l = absurd (eqb-false 5 5 l refl)
leaf_same (object ms) u l = absurd (eqb-false 5 5 l refl)

pub scalar_test : (t u : Tree) → Leaf t → T (same_scalar t u) ↔ Same t u
scalar_test t u l =
    Iff.trans
    (both (same_kind (kind t) (kind u)) (same_bytes (payload t) (payload u))
    (kind_test (kind t) (kind u)) (bytes_test (payload t) (payload u)))
    (Iff.trans equal (leaf_same t u l))
  where
    equal : ((kind t ≡ kind u) × (payload t ≡ payload u)) ↔ (u ≡ t)
    equal = (
      λ h. let m : Leaf u = rw (← h.0) l in sym (leaf_is u m) ∙ ap₂ leaf_of (sym h.0) (sym h.1) ∙ leaf_is t l,
      λ h. (ap kind (sym h), ap payload (sym h)),
    )

-- Only arrays pass a test of items, and only objects one of members.

passed_array : (test : Items → Bool) (u : Tree) → T (of_array test u) → (us : Items) × (u ≡ array us) × T (test us)
passed_array test null h = absurd h
passed_array test (boolean x) h = absurd h
passed_array test (number b) h = absurd h
passed_array test (string b) h = absurd h
passed_array test (extension b) h = absurd h
passed_array test (array us) h = (us, refl, h)
passed_array test (object ns) h = absurd h

passed_object : (test : Members → Bool) (u : Tree) → T (of_object test u) → (ns : Members) × (u ≡ object ns) × T (test ns)
passed_object test null h = absurd h
passed_object test (boolean x) h = absurd h
passed_object test (number b) h = absurd h
passed_object test (string b) h = absurd h
passed_object test (extension b) h = absurd h
passed_object test (array us) h = absurd h
passed_object test (object ns) h = (ns, refl, h)

-- A member that passes, which `take_out` takes out; and that there is none.
abbrev Found : Bytes → (Tree → Bool) → Members → Type 0
Found n value ns = (v : Tree) × (r : Members) × Taken n v ns r × T (value v) × ((rest : Members → Bool) → take_out n value rest ns ≡ rest r)

abbrev Missing : Bytes → (Tree → Bool) → Members → Type 0
Missing n value ns =
    ((v : Tree) (r : Members) → Taken n v ns r → T (value v) → ⊥) × ((rest : Members → Bool) → take_out n value rest ns ≡ false)

searched : (n : Bytes) (value : Tree → Bool) (ns : Members) → Found n value ns ⊎ Missing n value ns
searched n value empty = inr (λ v r k h. k, λ rest. refl)
searched n value (member m u ns) = go (same_bytes n m && value u) refl (searched n value ns)
  where
    passes : T (same_bytes n m && value u) ↔ ((n ≡ m) × T (value u))
    passes = both (same_bytes n m) (value u) (bytes_test n m) Iff.rfl

    go : (b : Bool) → (same_bytes n m && value u) ≡ b → Found n value ns ⊎ Missing n value ns
        → Found n value (member m u ns) ⊎ Missing n value (member m u ns)
    go true e s =
        let w = passes.0 (rw e tt) in
        inl (u, ns, inl (w.0, refl, refl), w.1, λ rest. rw e)
    go false e s =
        ⊎_elim
        (λ w. inl (w.0, member m u w.1, inr (w.1, refl, w.2), w.3, λ rest. rw e (w.4 (λ r. rest (member m u r)))))
        (λ w. inr (
          λ v r k h.
              ⊎_elim
              (λ i. let p : T (value u) = rw (← i.1) h in rw e at (passes.1 (i.0, p)))
              (λ i. w.0 v i.0 i.2 h)
              k,
          λ rest. rw e (w.1 (λ r. rest (member m u r))),
        ))
        s

-- Of two members of one name and value either can be taken out: what is left is equal.
taken_alike : (n : Bytes) (u v : Tree) (ns r q : Members) → Taken n u ns r → Taken n v ns q → Same u v → SameMembers r q
taken_alike n u v empty r q k l h = absurd k
taken_alike n u v (member m x ns) r q k l h =
    ⊎_elim
    (λ i.
    let h₁ : Same x v = rw i.1 at h in
    ⊎_elim
    (λ j. rw (i.2, j.2) (same_members_refl ns))
    (λ j. rw (i.2, j.1, ← i.0) (same_taken n x v ns j.0 j.0 j.2 (same_sym x v h₁) (same_members_refl j.0)))
    l)
    (λ i.
    ⊎_elim
    (λ j.
    let h₁ : Same x u = rw (← j.1) (same_sym u v h) in
    rw (i.1, j.2, ← j.0) (u, i.0, i.2, h₁, same_members_refl i.0))
    (λ j. rw (i.1, j.1) (x, j.0, inl (refl, refl, refl), same_refl x, taken_alike n u v ns i.0 j.0 i.2 j.2 h))
    l)
    k

no_items : (us : Items) → T (same_items none us) → us ≡ none
no_items none h = refl
no_items (item u us) h = absurd h

first_item : (t : Tree) (ts us : Items) → T (same_items (item t ts) us)
    → (u : Tree) × (r : Items) × (us ≡ item u r) × T (same t u) × T (same_items ts r)
first_item t ts none h = absurd h
first_item t ts (item u us) h =
    let w = (both (same t u) (same_items ts us) Iff.rfl Iff.rfl).0 h in
    (u, us, refl, w.0, w.1)

no_members : (ns : Members) → T (same_members empty ns) → ns ≡ empty
no_members empty h = refl
no_members (member m u ns) h = absurd h

mutual
  -- The test of two trees answers whether they have equal values.
  pub same_test : (t u : Tree) → T (same t u) ↔ Same t u
  same_test null u = scalar_test null u refl
  same_test (boolean true) u = scalar_test (boolean true) u refl
  same_test (boolean false) u = scalar_test (boolean false) u refl
  same_test (number b) u = scalar_test (number b) u refl
  same_test (string b) u = scalar_test (string b) u refl
  same_test (extension b) u = scalar_test (extension b) u refl
  same_test (array ts) u = (
    λ h.
        let (us, e, k) = passed_array (λ us. same_items ts us) u h in
        (us, e, (items_test ts us).0 k),
    λ h. rw h.1 ((items_test ts h.0).1 h.2),
  )
  same_test (object ms) u = (
    λ h.
        let (ns, e, k) = passed_object (λ ns. same_members ms ns) u h in
        (ns, e, (members_test ms ns).0 k),
    λ h. rw h.1 ((members_test ms h.0).1 h.2),
  )

  items_test : (ts us : Items) → T (same_items ts us) ↔ SameItems ts us
  items_test none us = (no_items us, λ h. rw h tt)
  items_test (item t ts) us = (
    λ h.
        let (u, r, e, k, l) = first_item t ts us h in
        (u, r, e, (same_test t u).0 k, (items_test ts r).0 l),
    λ h.
        rw h.2 ((both (same t h.0) (same_items ts h.1) Iff.rfl Iff.rfl).1
        ((same_test t h.0).1 h.3, (items_test ts h.1).1 h.4)),
  )

  -- The first like a member may be another than the one that `SameMembers` takes out; but both are alike, and so is what they leave.
  members_test : (ms ns : Members) → T (same_members ms ns) ↔ SameMembers ms ns
  members_test empty ns = (no_members ns, λ h. rw h tt)
  members_test (member n t ms) ns = (
    λ h.
        ⊎_elim
        (λ w. (w.0, w.1, w.2, (same_test t w.0).0 w.3, (members_test ms w.1).0 (rw (w.4 (λ r. same_members ms r)) at h)))
        (λ w. absurd (rw (w.1 (λ r. same_members ms r)) at h))
        (searched n (λ u. same t u) ns),
    λ h.
        ⊎_elim
        (λ w.
        let alike : Same h.0 w.0 = same_trans h.0 t w.0 (same_sym t h.0 h.3) ((same_test t w.0).0 w.3) in
        let left : SameMembers h.1 w.1 = taken_alike n h.0 w.0 ns h.1 w.1 h.2 w.2 alike in
        rw (w.4 (λ r. same_members ms r)) ((members_test ms w.1).1 (same_members_trans ms h.1 w.1 h.4 left)))
        (λ w. absurd (w.0 h.0 h.1 h.2 ((same_test t h.0).1 h.3)))
        (searched n (λ u. same t u) ns),
  )
