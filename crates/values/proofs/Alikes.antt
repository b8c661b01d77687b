-- Equal values: the code's way through the bytes of two trees comes to the layout's `Same`.
use Prim.Native.Nat.{ℕ, zero, suc, ◌+◌, ◌^◌, ◌<◌, ◌≤◌}
use native.Mathlib.Omega.{arith}
use native.Mathlib.Nat.{zero-add}
use native.Mathlib.Decide.{ℕ_discrete}
use mathlib.Core.Path.{◌≡◌, refl, sym, ap, ◌∙◌}
use mathlib.Core.Logic.Iff
use mathlib.Core.Logic.{◌↔◌}
use mathlib.Core.Bool.{Bool, true, false, ◌&&◌}
use mathlib.Core.List.{List, [], ◌∷◌, ◌++◌}
use lib.Dec.{T, eqb}
use lib.ListN.{length, drop, length-append}
use lib.Seq.{drop_at}
use borrow.Author.Tests.{eq-eqb, ne_eqb, eqb-true, eqb-false}
use Rattle.layout.specs.Bytes.{Bytes, word_at}
use Rattle.layout.specs.Entry.{code, lengths}
use Rattle.layout.specs.Tree.{Tree, null, boolean, number, string, extension, array, object, Items, none, item, Members, empty, member, names, kind}
use Rattle.layout.specs.Encode.{Part, entries, payloads, name_parts, payload, item_parts, member_parts, part, scalar, encode}
use Rattle.layout.specs.Limits.{depth, depth_items, depth_members}
use Rattle.layout.specs.Order.{same_bytes}
use Rattle.layout.specs.Parts.{start_of}
use Rattle.layout.specs.Place.{parts_at}
use Rattle.layout.specs.Value.{Same, SameItems, SameMembers, same_kind}
use Rattle.layout.specs.declared.item.Kind.{Kind}
use Rattle.layout.specs.declared.item.Kind.TheVariants.{Null, String, Number, False, True, Container, Extension}
use Rattle.layout.proofs.Fields.{word_at_be32}
use Rattle.layout.proofs.Level.{eq_test}
use Rattle.layout.proofs.Encoding.{array_header, object_header, scalar_header, array_fits, object_fits, ObjectFits, names_count, items_fit}
use Rattle.layout.proofs.Readables.{record_of_length}
use Rattle.layout.proofs.Places.{parts_at_record, drop_parts, names_at}
use Rattle.layout.proofs.Sounds.{both}
use Rattle.layout.proofs.Sames.{Leaf, kind_test, scalar_test}
use Rattle.values.specs.Alike.{same_payload, same_part, same_parts, same_at}
use Rattle.values.specs.declared.value.PairAt.{PairAt}
use Rattle.values.specs.Alike.{Member, member_at, next, members_from, first, members}
use Rattle.values.proofs.Likes.{listed, Tells, Told, Small, same_length, members_test}

-- "Values of unlike sort differ": by the kind, and between containers by the header.

one_kind : (t u : Tree) → Same t u → kind t ≡ kind u
one_kind null u h = rw h
one_kind (boolean x) u h = rw h
one_kind (number b) u h = rw h
one_kind (string b) u h = rw h
one_kind (extension b) u h = rw h
one_kind (array ts) u h = rw h.1
one_kind (object ms) u h = rw h.1

-- Trees are arrays, objects or leaves.
by_sort : (G : Tree → Type 0) → ((us : Items) → G (array us)) → ((ns : Members) → G (object ns)) → ((u : Tree) → Leaf u → G u) → (u : Tree) → G u
by_sort G a o l null = l null refl
by_sort G a o l (boolean true) = l (boolean true) refl
by_sort G a o l (boolean false) = l (boolean false) refl
by_sort G a o l (number b) = l (number b) refl
by_sort G a o l (string b) = l (string b) refl
by_sort G a o l (extension b) = l (extension b) refl
by_sort G a o l (array us) = a us
by_sort G a o l (object ns) = o ns

-- Leaves: equal kinds and payloads.

payload_leaf : (f : Bytes → Bytes → Bool) (k : Kind) (a b : Bytes) → eqb (code k) 5 ≡ false → same_payload f k a b ≡ same_bytes a b
unfolding same_payload
payload_leaf f Null a b h = refl
payload_leaf f String a b h = refl
payload_leaf f Number a b h = refl
payload_leaf f False a b h = refl
payload_leaf f True a b h = refl
payload_leaf f Container a b h = absurd (eqb-false 5 5 h refl)
payload_leaf f Extension a b h = refl

leaf_test : (f : Bytes → Bytes → Bool) (t u : Tree) → Leaf t → T (same_part f (part t) (part u)) ↔ Same t u
unfolding same_part
leaf_test f t u l = rw (payload_leaf f (kind t) (payload t) (payload u) l) (scalar_test t u l)

-- Containers.

-- Unlike headers.
never : (w v : ℕ) (b : Bool) {A : Type 0} → (w ≡ v → ⊥) → (A → ⊥) → T (eqb w v && b) ↔ A
never w v b n a = (λ h. absurd (rw (ne_eqb w v n) at h), λ h. absurd (a h))

-- Like headers but for the count.
counts : (w n m : ℕ) (b : Bool) {A : Type 0} → (n ≡ m → T b ↔ A) → (A → n ≡ m) → T (eqb (w + n) (w + m) && b) ↔ A
counts w n m b {A} p q = go (ℕ_discrete n m)
  where
    go : Dec (n ≡ m) → T (eqb (w + n) (w + m) && b) ↔ A
    go (yes e) = rw (eq-eqb (w + n) (w + m) (ap (λ k. w + k) e)) (p e)
    go (no e) = never (w + n) (w + m) b (λ k. e (omega arith)) (λ a. e (q a))

array_word : (ts : Items) → length (item_parts ts) < 2 ^ 29 → word_at (payload (array ts)) 0 ≡ 2 ^ 31 + length (item_parts ts)
array_word ts h = word_at_be32 (2 ^ 31 + length (item_parts ts)) _ (omega arith)

object_word : (ms : Members) → length (member_parts ms) < 2 ^ 29 → word_at (payload (object ms)) 0 ≡ 2 ^ 30 + length (member_parts ms)
object_word ms h = word_at_be32 (2 ^ 30 + length (member_parts ms)) _ (omega arith)

-- Members from names and values.
abbrev pairs : List Part → List Part → List Member
pairs [] vs = []
pairs (n ∷ ns) [] = []
pairs (n ∷ ns) (v ∷ vs) = record { name = n.bytes; value = v } ∷ pairs ns vs

pairs_of : (ms : Members) → pairs (name_parts (names ms)) (member_parts ms) ≡ listed ms
pairs_of empty = refl
pairs_of (member n t ms) = rw (pairs_of ms)

pairs_from : (s : Bytes) (m : PairAt) (k : ℕ)
    → members_from s m k ≡ pairs (parts_at s m.key.index m.key.place k) (parts_at s m.val.index m.val.place k)
unfolding parts_at members_from member_at next
pairs_from s m zero = refl
pairs_from s m (suc k) = rw (pairs_from s (next s m) k)

-- The members of an object's bytes are those of the object.
members_record : (ms : Members) → ObjectFits ms → members (payload (object ms)) (length (member_parts ms)) ≡ listed ms
unfolding first
members_record ms f =
    let np : List Part = name_parts (names ms) in
    let mp : List Part = member_parts ms in
    let n : ℕ = length mp in
    let s : Bytes = payload (object ms) in
    let p : ℕ = start_of (n + n) in
    let w = names_at (2 ^ 30 + n) n np mp (names_count ms) f.whole f.fits f.named in
    let behind = sym (drop_parts s 0 p n n) ∙ ap (drop n) w.0 ∙ drop_at np mp n (names_count ms) in
    let v : parts_at s n (p + lengths s 0 n) n ≡ mp = rw (zero-add n) at behind in
    pairs_from s (first s n) n ∙ rw (w.1, v) (pairs_of ms)

items_length : (ts us : Items) → SameItems ts us → length (item_parts ts) ≡ length (item_parts us)
items_length none us h = rw h
items_length (item t ts) us h = rw (h.2, items_length ts h.1 h.4)

small_members : (ms : Members) → length (payloads (member_parts ms)) < 2 ^ 28 → Small ms
small_members empty h = tt
small_members (member n t ms) h =
    let l = length-append (payload t) (payloads (member_parts ms)) in
    (omega arith, small_members ms (omega arith))

abbrev items_of : Tree → Items
items_of null = none
items_of (boolean x) = none
items_of (number b) = none
items_of (string b) = none
items_of (extension b) = none
items_of (array ts) = ts
items_of (object ms) = none

abbrev members_of : Tree → Members
members_of null = empty
members_of (boolean x) = empty
members_of (number b) = empty
members_of (string b) = empty
members_of (extension b) = empty
members_of (array ts) = empty
members_of (object ms) = ms

array_same : (ts us : Items) → SameItems ts us ↔ Same (array ts) (array us)
array_same ts us = (λ h. (us, refl, h), λ h. let e : us ≡ h.0 = ap items_of h.1 in rw e h.2)

object_same : (ms ns : Members) → SameMembers ms ns ↔ Same (object ms) (object ns)
object_same ms ns = (λ h. (ns, refl, h), λ h. let e : ns ≡ h.0 = ap members_of h.1 in rw e h.2)

abbrev first_of : Items → Tree
first_of none = null
first_of (item t ts) = t

abbrev rest_of : Items → Items
rest_of none = none
rest_of (item t ts) = ts

item_same : (t u : Tree) (ts us : Items) → (Same t u × SameItems ts us) ↔ SameItems (item t ts) (item u us)
item_same t u ts us = (
  λ h. (u, us, refl, h.0, h.1),
  λ h.
      let e : u ≡ h.0 = ap first_of h.2 in
      let r : us ≡ h.1 = ap rest_of h.2 in
      (rw e h.3, rw r h.4),
)

module _ (k : ℕ) where
  -- Two arrays, and two objects, where what they hold is told.
  array_test : (ts us : Items) → length (payload (array ts)) < 2 ^ 28 → length (payload (array us)) < 2 ^ 28 →
      T (same_parts (same_at k) (item_parts ts) (item_parts us)) ↔ SameItems ts us →
      T (same_at (suc k) (payload (array ts)) (payload (array us))) ↔ Same (array ts) (array us)
  unfolding same_at
  array_test ts us h s ih =
      let ps : List Part = item_parts ts in
      let qs : List Part = item_parts us in
      let f = array_fits ts h in
      let g = array_fits us s in
      rw (array_word ts f.count, array_word us g.count, array_header (length ps) (entries ps ++ payloads ps) f.count)
      (counts (2 ^ 31) (length ps) (length qs) _
      (λ e. rw (parts_at_record (2 ^ 31 + length ps) 0 ps f.fits tt, e, parts_at_record (2 ^ 31 + length qs) 0 qs g.fits tt)
      (Iff.trans ih (array_same ts us)))
      (λ a. items_length ts us ((array_same ts us).1 a)))

  object_test : (ms ns : Members) → length (payload (object ms)) < 2 ^ 28 → length (payload (object ns)) < 2 ^ 28 → Told (same_at k) ms →
      T (same_at (suc k) (payload (object ms)) (payload (object ns))) ↔ Same (object ms) (object ns)
  unfolding same_at
  object_test ms ns h s told =
      let n : ℕ = length (member_parts ms) in
      let m : ℕ = length (member_parts ns) in
      let ps : List Part = name_parts (names ms) ++ member_parts ms in
      let f = object_fits ms h in
      let g = object_fits ns s in
      rw (object_word ms f.count, object_word ns g.count, object_header n (entries ps ++ payloads ps) f.count)
      (counts (2 ^ 30) n m _
      (λ e. rw (members_record ms f, e, members_record ns g)
      (Iff.trans (members_test (same_at k) ms ns told (small_members ms f.small) (small_members ns g.small) e) (object_same ms ns)))
      (λ a. same_length ms ns ((object_same ms ns).1 a)))

  array_object : (ts : Items) (ns : Members) → length (payload (array ts)) < 2 ^ 28 → length (payload (object ns)) < 2 ^ 28 →
      T (same_at (suc k) (payload (array ts)) (payload (object ns))) ↔ Same (array ts) (object ns)
  unfolding same_at
  array_object ts ns h s =
      let f = (array_fits ts h).count in
      let g = (object_fits ns s).count in
      rw (array_word ts f, object_word ns g)
      (never (2 ^ 31 + length (item_parts ts)) (2 ^ 30 + length (member_parts ns)) _ (λ e. omega arith)
      (λ a. let e : object ns ≡ array a.0 = a.1 in let z : ◌≡◌ {A = ℕ} 0 1 = cc in omega arith))

  object_array : (ms : Members) (us : Items) → length (payload (object ms)) < 2 ^ 28 → length (payload (array us)) < 2 ^ 28 →
      T (same_at (suc k) (payload (object ms)) (payload (array us))) ↔ Same (object ms) (array us)
  unfolding same_at
  object_array ms us h s =
      let f = (object_fits ms h).count in
      let g = (array_fits us s).count in
      rw (object_word ms f, array_word us g)
      (never (2 ^ 30 + length (member_parts ms)) (2 ^ 31 + length (item_parts us)) _ (λ e. omega arith)
      (λ a. let e : array us ≡ object a.0 = a.1 in let z : ◌≡◌ {A = ℕ} 0 1 = cc in omega arith))

leaf_other : (f : Bytes → Bytes → Bool) (t u : Tree) → code (kind t) ≡ 5 → Leaf u → T (same_part f (part t) (part u)) ↔ Same t u
unfolding same_part same_kind
leaf_other f t u e l =
    never (code (kind t)) (code (kind u)) (same_payload f (kind t) (payload t) (payload u))
    (λ q. eqb-false (code (kind u)) 5 l (sym q ∙ e))
    (λ h. eqb-false (code (kind u)) 5 l (ap code (sym (one_kind t u h)) ∙ e))

mutual
  unfolding same_part same_kind same_payload same_parts

  -- The test of items answers whether they have equal values.
  part_test : (t : Tree) (k : ℕ) → depth t ≤ k → length (payload t) < 2 ^ 28 → Tells (same_at k) t
  part_test null k d h u s = leaf_test (same_at k) null u refl
  part_test (boolean true) k d h u s = leaf_test (same_at k) (boolean true) u refl
  part_test (boolean false) k d h u s = leaf_test (same_at k) (boolean false) u refl
  part_test (number b) k d h u s = leaf_test (same_at k) (number b) u refl
  part_test (string b) k d h u s = leaf_test (same_at k) (string b) u refl
  part_test (extension b) k d h u s = leaf_test (same_at k) (extension b) u refl
  part_test (array ts) zero d h u s = let z : ⊥ = omega arith in absurd z
  part_test (array ts) (suc k) d h u s =
      by_sort (λ v. length (payload v) < 2 ^ 28 → T (same_part (same_at (suc k)) (part (array ts)) (part v)) ↔ Same (array ts) v)
      (λ us r. array_test k ts us h r (items_test ts us k (omega arith) (array_fits ts h).small (array_fits us r).small))
      (λ ns r. array_object k ts ns h r)
      (λ v l r. leaf_other (same_at (suc k)) (array ts) v refl l)
      u s
  part_test (object ms) zero d h u s = let z : ⊥ = omega arith in absurd z
  part_test (object ms) (suc k) d h u s =
      by_sort (λ v. length (payload v) < 2 ^ 28 → T (same_part (same_at (suc k)) (part (object ms)) (part v)) ↔ Same (object ms) v)
      (λ us r. object_array k ms us h r)
      (λ ns r. object_test k ms ns h r (members_told ms k (omega arith) (object_fits ms h).small))
      (λ v l r. leaf_other (same_at (suc k)) (object ms) v refl l)
      u s

  items_test : (ts us : Items) (k : ℕ) → depth_items ts ≤ k → length (payloads (item_parts ts)) < 2 ^ 28 → length (payloads (item_parts us)) < 2 ^ 28 →
      T (same_parts (same_at k) (item_parts ts) (item_parts us)) ↔ SameItems ts us
  items_test none none k d h s = (λ _. refl, λ _. tt)
  items_test none (item u us) k d h s = (λ a. absurd a, λ a. let z : ◌≡◌ {A = ℕ} 0 1 = cc in omega arith)
  items_test (item t ts) none k d h s = (λ a. absurd a, λ a. let e : none ≡ item a.0 a.1 = a.2 in let z : ◌≡◌ {A = ℕ} 0 1 = cc in omega arith)
  items_test (item t ts) (item u us) k d h s =
      let l = length-append (payload t) (payloads (item_parts ts)) in
      let r = length-append (payload u) (payloads (item_parts us)) in
      Iff.trans
      (both (same_part (same_at k) (part t) (part u)) (same_parts (same_at k) (item_parts ts) (item_parts us))
      (part_test t k (omega arith) (omega arith) u (omega arith)) (items_test ts us k (omega arith) (omega arith) (omega arith)))
      (item_same t u ts us)

  members_told : (ms : Members) (k : ℕ) → depth_members ms ≤ k → length (payloads (member_parts ms)) < 2 ^ 28 → Told (same_at k) ms
  members_told empty k d h = tt
  members_told (member n t ms) k d h =
      let l = length-append (payload t) (payloads (member_parts ms)) in
      (λ u s. part_test t k (omega arith) (omega arith) u s, members_told ms k (omega arith) (omega arith))

-- Records. A leaf's has a header of its own, and its one part.

leaf_record : (t : Tree) → Leaf t → encode t ≡ scalar t
leaf_record null l = refl
leaf_record (boolean x) l = refl
leaf_record (number b) l = refl
leaf_record (string b) l = refl
leaf_record (extension b) l = refl
leaf_record (array ts) l = absurd (eqb-false 5 5 l refl)
leaf_record (object ms) l = absurd (eqb-false 5 5 l refl)

scalar_word : (t : Tree) → word_at (scalar t) 0 ≡ 2 ^ 29
scalar_word t = word_at_be32 (2 ^ 29) _ (omega arith)

scalar_part : (t : Tree) → length (scalar t) ≤ 65536 → parts_at (scalar t) 0 8 1 ≡ part t ∷ []
scalar_part t h =
    parts_at_record (2 ^ 29) 0 (part t ∷ []) (items_fit (item t none) (omega (arith, record_of_length (2 ^ 29) (part t ∷ [])))) tt

scalars_test : (k : ℕ) (t u : Tree) → Leaf t → length (scalar t) ≤ 65536 → length (scalar u) ≤ 65536 →
    T (same_at (suc k) (scalar t) (scalar u)) ↔ Same t u
unfolding same_at same_parts
scalars_test k t u l h s =
    rw (scalar_word t, scalar_word u, scalar_header (entries (part t ∷ []) ++ payloads (part t ∷ [])), scalar_part t h, scalar_part u s)
    (Iff.trans (both (same_part (same_at k) (part t) (part u)) true (leaf_test (same_at k) t u l) (λ x. x, λ x. x)) (λ x. x.0, λ x. (x, tt)))

container_record : (t : Tree) → code (kind t) ≡ 5 → encode t ≡ payload t
container_record = by_sort (λ t. code (kind t) ≡ 5 → encode t ≡ payload t) (λ ts e. refl) (λ ms e. refl) (λ t l e. absurd (eqb-false (code (kind t)) 5 l e))

container_word : (t : Tree) → code (kind t) ≡ 5 → length (encode t) ≤ 65536 → 2 ^ 30 ≤ word_at (encode t) 0
container_word =
    by_sort (λ t. code (kind t) ≡ 5 → length (encode t) ≤ 65536 → 2 ^ 30 ≤ word_at (encode t) 0)
    (λ ts e h. omega (arith, array_word ts (array_fits ts (omega arith)).count))
    (λ ms e h. omega (arith, object_word ms (object_fits ms (omega arith)).count))
    (λ t l e h. absurd (eqb-false (code (kind t)) 5 l e))

container_part : (f : Bytes → Bytes → Bool) (t u : Tree) → code (kind t) ≡ 5 → code (kind u) ≡ 5 → same_part f (part t) (part u) ≡ f (payload t) (payload u)
unfolding same_part same_kind same_payload
container_part f t u e g = rw (container t e, container u g)
  where
    container : (t : Tree) → code (kind t) ≡ 5 → kind t ≡ Container
    container t e = (kind_test (kind t) Container).0 (eq_test (code (kind t)) 5 e)

containers_test : (k : ℕ) (t u : Tree) → code (kind t) ≡ 5 → code (kind u) ≡ 5 → depth t ≤ k → length (encode t) ≤ 65536 → length (encode u) ≤ 65536 →
    T (same_at k (encode t) (encode u)) ↔ Same t u
containers_test k t u e f d h s =
    let p = container_record t e in
    let q = container_record u f in
    rw (p, q, ← container_part (same_at k) t u e f) (part_test t k d (omega (arith, ap length p)) u (omega (arith, ap length q)))

-- A leaf and a container.
heads_differ : (k : ℕ) (a b : Bytes) {A : Type 0} → (word_at a 0 ≡ word_at b 0 → ⊥) → (A → ⊥) → T (same_at (suc k) a b) ↔ A
unfolding same_at
heads_differ k a b n m = never (word_at a 0) (word_at b 0) _ n m

-- On the records of trees within the limits the test answers whether the trees have equal values.
pub record_test : (t u : Tree) → depth t ≤ 64 → length (encode t) ≤ 65536 → length (encode u) ≤ 65536 → T (same_at 64 (encode t) (encode u)) ↔ Same t u
record_test t u d h s = go (eqb (code (kind t)) 5) (eqb (code (kind u)) 5) refl refl
  where
    leaf_word : (t : Tree) → Leaf t → word_at (encode t) 0 ≡ 2 ^ 29
    leaf_word t l = ap (λ b. word_at b 0) (leaf_record t l) ∙ scalar_word t

    go : (x y : Bool) → eqb (code (kind t)) 5 ≡ x → eqb (code (kind u)) 5 ≡ y → T (same_at 64 (encode t) (encode u)) ↔ Same t u
    go true true p q = containers_test 64 t u (eqb-true (code (kind t)) 5 p) (eqb-true (code (kind u)) 5 q) d h s
    go false false p q =
        let e = leaf_record t p in
        let f = leaf_record u q in
        rw (e, f) (scalars_test 63 t u p (omega (arith, ap length e)) (omega (arith, ap length f)))
    go true false p q =
        heads_differ 63 (encode t) (encode u) (λ e. omega (arith, container_word t (eqb-true (code (kind t)) 5 p) h, leaf_word u q))
        (λ a. eqb-false (code (kind u)) 5 q (ap code (sym (one_kind t u a)) ∙ eqb-true (code (kind t)) 5 p))
    go false true p q =
        heads_differ 63 (encode t) (encode u) (λ e. omega (arith, container_word u (eqb-true (code (kind u)) 5 q) s, leaf_word t p))
        (λ a. eqb-false (code (kind t)) 5 p (ap code (one_kind t u a) ∙ eqb-true (code (kind u)) 5 q))
