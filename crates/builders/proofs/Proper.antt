-- Proper values, those that an account can have: texts and numbers as a record's, and no name twice in an object, in whatever order its
-- members stand. An equal value is one too.
use Prim.Native.Nat.{ℕ}
use native.Mathlib.Omega.{arith}
use mathlib.Core.Path.{◌≡◌, refl}
use mathlib.Core.Logic.{◌⊎◌, inl, inr, ⊎_elim}
use mathlib.Core.Bool.{true}
use mathlib.Core.List.{List, [], ◌∷◌, ◌++◌}
use lib.Dec.{T}
use Rattle.layout.specs.Bytes.{Bytes, Octets, be32}
use Rattle.layout.specs.Text.{utf8}
use Rattle.layout.specs.Number.{listed}
use Rattle.layout.specs.Tree.{Tree, null, boolean, number, string, extension, array, object, Items, none, item, Members, empty, member, names}
use Rattle.layout.specs.Encode.{Part, entry_word, entries, payloads, record_of, name_parts, item_parts, member_parts, payload, part, scalar, encode}
use Rattle.layout.specs.Limits.{Valid, ValidItems, ValidMembers}
use Rattle.layout.specs.Value.{Taken, Same, SameItems, SameMembers}
use Rattle.layout.proofs.Words.{octets_left, octets_right, octets_append}
use Rattle.layout.proofs.Decoding.{payloads_append}
use Rattle.layout.proofs.Values.{In, taken_in, same_names}
use Rattle.layout.proofs.Sames.{same_members_sym}
use Rattle.builders.specs.Order.{distinct}
use Rattle.builders.proofs.InOrders.{not_has, has_not, distinct_cons}

abbrev mutual
  pub Proper : Tree → Type 0
  Proper null = Unit {0}
  Proper (boolean x) = Unit {0}
  Proper (number b) = T (listed b) × Octets b
  Proper (string b) = T (utf8 b) × Octets b
  Proper (extension b) = Octets b
  Proper (array ts) = ProperItems ts
  Proper (object ms) = (distinct (names ms) ≡ true) × ProperMembers ms

  pub ProperItems : Items → Type 0
  ProperItems none = Unit {0}
  ProperItems (item t ts) = Proper t × ProperItems ts

  pub ProperMembers : Members → Type 0
  ProperMembers empty = Unit {0}
  ProperMembers (member n t ms) = (T (utf8 n) × Octets n) × Proper t × ProperMembers ms

pub distinct_with : (n : Bytes) (ns : List Bytes) → (In n ns → ⊥) → distinct ns ≡ true → distinct (n ∷ ns) ≡ true
unfolding distinct
distinct_with n ns h d = rw (not_has n ns h) d

-- ---- its record

-- What stands behind the header and the table.
pub octets_payloads : (w : ℕ) (ps : List Part) → Octets (record_of w ps) → Octets (payloads ps)
octets_payloads w ps o = octets_right (entries ps) (payloads ps) (octets_right (be32 w) (entries ps ++ payloads ps) o)

octets_be32 : (w : ℕ) → Octets (be32 w)
unfolding be32
octets_be32 w = (omega arith, (omega arith, (omega arith, (omega arith, tt))))

octets_entries : (ps : List Part) → Octets (entries ps)
octets_entries [] = tt
octets_entries (p ∷ ps) = octets_append (be32 (entry_word p)) (entries ps) (octets_be32 (entry_word p)) (octets_entries ps)

octets_record : (w : ℕ) (ps : List Part) → Octets (payloads ps) → Octets (record_of w ps)
octets_record w ps o = octets_append (be32 w) (entries ps ++ payloads ps) (octets_be32 w) (octets_append (entries ps) (payloads ps) (octets_entries ps) o)

mutual
  proper_payload : (t : Tree) → Proper t → Octets (payload t)
  proper_payload null p = tt
  proper_payload (boolean x) p = tt
  proper_payload (number b) p = p.1
  proper_payload (string b) p = p.1
  proper_payload (extension b) p = p
  proper_payload (array ts) p = octets_record _ (item_parts ts) (items_payloads ts p)
  proper_payload (object ms) p =
      let ps = name_parts (names ms) in
      let o : Octets (payloads (ps ++ member_parts ms)) =
      rw (payloads_append ps (member_parts ms)) (octets_append (payloads ps) (payloads (member_parts ms)) (names_payloads ms p.1) (members_payloads ms p.1)) in
      octets_record _ (ps ++ member_parts ms) o

  items_payloads : (ts : Items) → ProperItems ts → Octets (payloads (item_parts ts))
  items_payloads none p = tt
  items_payloads (item t ts) p = octets_append (payload t) (payloads (item_parts ts)) (proper_payload t p.0) (items_payloads ts p.1)

  names_payloads : (ms : Members) → ProperMembers ms → Octets (payloads (name_parts (names ms)))
  names_payloads empty p = tt
  names_payloads (member n t ms) p = octets_append n (payloads (name_parts (names ms))) p.0.1 (names_payloads ms p.2)

  members_payloads : (ms : Members) → ProperMembers ms → Octets (payloads (member_parts ms))
  members_payloads empty p = tt
  members_payloads (member n t ms) p = octets_append (payload t) (payloads (member_parts ms)) (proper_payload t p.1) (members_payloads ms p.2)

-- A scalar's record has one part.
octets_scalar : (t : Tree) → Octets (payload t) → Octets (scalar t)
octets_scalar t o = octets_record _ (part t ∷ []) (octets_append (payload t) [] o tt)

pub proper_octets : (t : Tree) → Proper t → Octets (encode t)
proper_octets null p = octets_scalar null tt
proper_octets (boolean x) p = octets_scalar (boolean x) tt
proper_octets (number b) p = octets_scalar (number b) p.1
proper_octets (string b) p = octets_scalar (string b) p.1
proper_octets (extension b) p = octets_scalar (extension b) p
proper_octets (array ts) p = proper_payload (array ts) p
proper_octets (object ms) p = proper_payload (object ms) p

-- What the record of a tree is made of, is made of bytes.
pub encoded_octets : (t : Tree) → Octets (encode t) → Octets (payload t)
encoded_octets null o = tt
encoded_octets (boolean x) o = tt
encoded_octets (number b) o = octets_left b [] (octets_payloads _ (part (number b) ∷ []) o)
encoded_octets (string b) o = octets_left b [] (octets_payloads _ (part (string b) ∷ []) o)
encoded_octets (extension b) o = octets_left b [] (octets_payloads _ (part (extension b) ∷ []) o)
encoded_octets (array ts) o = o
encoded_octets (object ms) o = o

mutual
  pub proper_valid : (t : Tree) → Proper t → Valid t
  proper_valid null p = tt
  proper_valid (boolean x) p = tt
  proper_valid (number b) p = p.0
  proper_valid (string b) p = p.0
  proper_valid (extension b) p = tt
  proper_valid (array ts) p = valid_items ts p
  proper_valid (object ms) p = valid_members ms p.1

  valid_items : (ts : Items) → ProperItems ts → ValidItems ts
  valid_items none p = tt
  valid_items (item t ts) p = (proper_valid t p.0, valid_items ts p.1)

  valid_members : (ms : Members) → ProperMembers ms → ValidMembers ms
  valid_members empty p = tt
  valid_members (member n t ms) p = (p.0.0, proper_valid t p.1, valid_members ms p.2)

-- ---- an equal value

member_proper : (n : Bytes) (u : Tree) (ns r : Members) → Taken n u ns r → ProperMembers ns → (T (utf8 n) × Octets n) × Proper u × ProperMembers r
member_proper n u empty r k p = absurd k
member_proper n u (member m x ns) r k p =
    ⊎_elim
    (λ e. rw (e.0, e.1, e.2) p)
    (λ e. let q = member_proper n u ns e.0 e.2 p.2 in (q.0, q.1, rw e.1 (p.0, p.1, q.2)))
    k

others_distinct : (n : Bytes) (u : Tree) (ns r : Members) → Taken n u ns r → distinct (names ns) ≡ true → (In n (names r) → ⊥) × (distinct (names r) ≡ true)
others_distinct n u empty r k d = absurd k
others_distinct n u (member m x ns) r k d =
    let c = distinct_cons m (names ns) d in
    let new = has_not m (names ns) c.0 in
    ⊎_elim
    (λ e. rw (e.0, e.2) (new, c.1))
    (λ e.
    let q = others_distinct n u ns e.0 e.2 c.1 in
    rw e.1 (
      λ i. ⊎_elim (λ (f : n ≡ m). new (rw f at (taken_in n u ns e.0 e.2))) (λ j. q.0 j) i,
      distinct_with m (names e.0) (λ i. new (others_in n u ns e.0 e.2 m i)) q.1,
    ))
    k
  where
    others_in : (n : Bytes) (u : Tree) (ns r : Members) → Taken n u ns r → (m : Bytes) → In m (names r) → In m (names ns)
    others_in n u empty r k m i = absurd k
    others_in n u (member y x ns) r k m i =
        ⊎_elim
        (λ e. inr (rw e.2 at i))
        (λ e. ⊎_elim (λ j. inl j) (λ j. inr (others_in n u ns e.0 e.2 m j)) (rw e.1 at i))
        k

pub same_distinct : (ms ns : Members) → SameMembers ms ns → distinct (names ns) ≡ true → distinct (names ms) ≡ true
unfolding distinct
same_distinct empty ns h d = refl
same_distinct (member n t ms) ns h d =
    let q = others_distinct n h.0 ns h.1 h.2 d in
    let back = same_members_sym ms h.1 h.4 in
    distinct_with n (names ms) (λ i. q.0 (same_names h.1 ms back n i)) (same_distinct ms h.1 h.4 q.1)

mutual
  pub same_proper : (t u : Tree) → Same t u → Proper u → Proper t
  same_proper null u h p = tt
  same_proper (boolean x) u h p = tt
  same_proper (number b) u h p = rw h at p
  same_proper (string b) u h p = rw h at p
  same_proper (extension b) u h p = rw h at p
  same_proper (array ts) u h p = let q : ProperItems h.0 = rw h.1 at p in same_proper_items ts h.0 h.2 q
  same_proper (object ms) u h p =
      let q : Proper (object h.0) = rw h.1 at p in
      (same_distinct ms h.0 h.2 q.0, same_proper_members ms h.0 h.2 q.1)

  same_proper_items : (ts us : Items) → SameItems ts us → ProperItems us → ProperItems ts
  same_proper_items none us h p = tt
  same_proper_items (item t ts) us h p =
      let q : ProperItems (item h.0 h.1) = rw h.2 at p in
      (same_proper t h.0 h.3 q.0, same_proper_items ts h.1 h.4 q.1)

  same_proper_members : (ms ns : Members) → SameMembers ms ns → ProperMembers ns → ProperMembers ms
  same_proper_members empty ns h p = tt
  same_proper_members (member n t ms) ns h p =
      let q = member_proper n h.0 ns h.1 h.2 p in
      (q.0, same_proper t h.0 h.3 q.1, same_proper_members ms h.1 h.4 q.2)

-- ---- fewer names

-- `ns` is `ms` with some names left out.
abbrev pub Fewer : List Bytes → List Bytes → Type 0
Fewer ns [] = ns ≡ []
Fewer ns (m ∷ ms) = Fewer ns ms ⊎ ((r : List Bytes) × (ns ≡ m ∷ r) × Fewer r ms)

pub fewer_in : (ns ms : List Bytes) → Fewer ns ms → (x : Bytes) → In x ns → In x ms
fewer_in ns [] h x i = rw h at i
fewer_in ns (m ∷ ms) h x i =
    ⊎_elim
    (λ k. inr (fewer_in ns ms k x i))
    (λ k. ⊎_elim (λ e. inl e) (λ j. inr (fewer_in k.0 ms k.2 x j)) (rw k.1 at i))
    h

pub fewer_distinct : (ns ms : List Bytes) → Fewer ns ms → distinct ms ≡ true → distinct ns ≡ true
fewer_distinct ns [] h d = rw h d
fewer_distinct ns (m ∷ ms) h d =
    let c = distinct_cons m ms d in
    ⊎_elim
    (λ k. fewer_distinct ns ms k c.1)
    (λ k. rw k.1 (distinct_with m k.0 (λ i. has_not m ms c.0 (fewer_in k.0 ms k.2 m i)) (fewer_distinct k.0 ms k.2 c.1)))
    h
