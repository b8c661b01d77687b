-- What a walk over a readable record means: it hands out the record's parts in turn, and then answers the end.
use Prim.Native.Nat.{ℕ, zero, suc, ◌+◌, ◌*◌, ◌-◌, ◌≤◌, ◌<◌}
use native.Mathlib.Nat.{add-zero, zero-add, sub-zero, not-suc-le-zero}
use native.Mathlib.Omega.{arith}
use mathlib.Core.Path.{◌≡◌, refl, sym, ap, ◌∙◌}
use mathlib.Core.Bool.{Bool, true, false, not, ◌&&◌, ◌||◌}
use mathlib.Core.List.{List}
use lib.Dec.{ltb, eqb}
use lib.ListN.{length, take, drop}
use borrow.Author.Tests.{le-leb, lt-ltb, ne_eqb, eqb-true}
use Rattle.layout.specs.Bytes.{Bytes, inside, word_at}
use Rattle.layout.specs.Answer.{Answer, gives, refused, ◌>>=◌}
use Rattle.layout.specs.Entry.{top_of, code_of, length_of, kind_of, entry_at, lengths, entry_good}
use Rattle.layout.specs.Text.{code_points}
use Rattle.layout.specs.Tree.{Tree, array, object, Items, Members, pair}
use Rattle.layout.specs.Encode.{Part}
use Rattle.layout.specs.Read.{header, entry_ok, text, number_in, payload_in, items_in, names_in, scalar_in, nested, root_in, read}
use Rattle.layout.specs.Place.{table_ok, parts_at}
use Rattle.layout.specs.Walk.{item_of, counted, characters_of, item_at, ends_with, array_step, member_at, member_step, object_step}
use Rattle.layout.specs.Walk.{array_walk, object_walk, opening}
use Rattle.layout.specs.Parts.{first_part, nth_part}
use Rattle.layout.specs.Table.{table_place, nth_member, ItemCarried, ArrayCarried, MemberCarried, ObjectCarried}
use Rattle.layout.specs.Walk.{array_opened, array_open, object_opened, object_open, walked, object_walked, paired}
use Rattle.layout.specs.declared.item.Kind.{Kind}
use Rattle.layout.specs.declared.item.Kind.TheVariants.{Null, String, Number, False, True, Container, Extension}
use Rattle.layout.specs.declared.refusal.Refusal.{Refusal}
use Rattle.layout.specs.declared.refusal.Refusal.TheVariants.{Layout}
use Rattle.layout.specs.declared.util.Header.{Header}
use Rattle.layout.specs.declared.util.Header.TheVariants.{Array, Object, Scalar}
use Rattle.layout.specs.declared.iterator.ArrayIterator.{ArrayIterator}
use Rattle.layout.specs.declared.iterator.ObjectIterator.{ObjectIterator}
use Rattle.layout.proofs.Answers.{from_bind, from_require, refused_gives, gives_inj}
use Rattle.layout.proofs.Texts.{utf8_some}
use Rattle.layout.proofs.Decoding.{text_is, text_valid, read_is}
use Rattle.layout.proofs.Places.{and_both, table_head, table_split, lengths_split, laid, length_parts, take_parts, drop_parts}
use Rattle.layout.proofs.Checks.{one_less, told_array, told_object}
use Rattle.layout.proofs.Carries.{place_behind, part_start, object_start}
use Rattle.layout.proofs.Walks.{array_opens, object_opens, array_other, object_other}
use Rattle.std.specs.Prelude.{Ok, Err, Some, None, Result, Option}

-- One entry of a table.
lengths_cons : (s : Bytes) (i n : ℕ) → lengths s i (suc n) ≡ length_of (entry_at s i) + lengths s (i + 1) n
unfolding lengths
lengths_cons s i n = refl

-- A place that lies in the slice passes its test.
inside_yes : (s : Bytes) (at n : ℕ) → at + n ≤ length s → inside s at n ≡ true
unfolding inside
inside_yes s at n h = le-leb (at + n) (length s) h

-- Rule 5 asks all that a step asks.
ok_good : (name : Bool) (e : ℕ) → entry_ok name e ≡ true → entry_good name e ≡ true
unfolding entry_ok
ok_good name e q =
    (and_both (entry_good name e) (not (eqb (code_of e) 0 || (eqb (code_of e) 3 || eqb (code_of e) 4)) || eqb (length_of e) 0) q).0

-- What is good as a name is good as an item.
good_item : (name : Bool) (e : ℕ) → entry_good name e ≡ true → entry_good false e ≡ true
unfolding entry_good
good_item true e q =
    let h = and_both (eqb (top_of e) 0) (not (eqb (code_of e) 7) && eqb (code_of e) 1) q in
    rw (h.0, (and_both (not (eqb (code_of e) 7)) (eqb (code_of e) 1) h.1).0)
good_item false e q = q

-- What reads as a text, or as an item of any kind, is handed out.
module _ (s : Bytes) (e p : ℕ) where
  abbrev Given : Type 0
  Given = (c : Option ℕ) × (item_at s e p ≡ gives (item_of e p c))

  text_given : (x : Bytes) → text (take (length_of e) (drop p s)) ≡ gives x → Given
  unfolding item_at characters_of counted ◌>>=◌
  text_given x h =
      let n = utf8_some (take (length_of e) (drop p s)) (rw (text_is (take (length_of e) (drop p s)) h) at (text_valid _ x h)) in
      by_code n.0 n.1 (eqb (code_of e) 1) refl
    where
      by_code : (n : ℕ) → code_points (take (length_of e) (drop p s)) ≡ Some n → (b : Bool) → eqb (code_of e) 1 ≡ b → Given
      by_code n h true q = (Some n, rw (q, h))
      by_code n h false q = (None, rw q)

  item_given : (inner : Bytes → Answer Tree) (t : Tree) → payload_in inner (kind_of (code_of e)) (take (length_of e) (drop p s)) ≡ gives t → Given
  unfolding item_at characters_of kind_of ◌>>=◌
  item_given inner t h = by_code (eqb (code_of e) 1) refl
    where
      by_code : (b : Bool) → eqb (code_of e) 1 ≡ b → Given
      by_code true q = from_bind (rw (eqb-true (code_of e) 1 q) at h) λ x hx _. text_given x hx
      by_code false q = (None, rw q)

-- The walk at entry `i` and payload place `p`, with `k` items left.
abbrev walk_at : ℕ → ℕ → ℕ → ArrayIterator
walk_at i p k = record { jentry_offset = 4 + 4 * i; item_offset = p; remaining = k }

step_at : (s : Bytes) (i p k : ℕ) → entry_good false (entry_at s i) ≡ true
    → 4 + 4 * (i + 1) ≤ length s → p + length_of (entry_at s i) ≤ length s
    → (c : Option ℕ) → item_at s (entry_at s i) p ≡ gives (item_of (entry_at s i) p c)
    → array_step s (walk_at i p (suc k)) ≡ Ok (Some ((item_of (entry_at s i) p c), (walk_at (i + 1) (p + length_of (entry_at s i)) k)))
unfolding array_step ends_with entry_at
step_at s i p k good table payload c given =
    let a : 4 + 4 * i + 4 ≡ 4 + 4 * (i + 1) = omega arith in
    let b : suc k - 1 ≡ k = omega arith in
    rw (
      ne_eqb (suc k) 0 (λ q. omega arith),
      inside_yes s (4 + 4 * i) 4 (omega arith),
      good,
      inside_yes s p (length_of (word_at s (4 + 4 * i))) payload,
      given,
      a,
      b,
    )

-- The `k` items from entry `i` on, the first at `p`: entries that pass rule 5, with table and payloads inside the slice, and payloads
-- that read.
pub record ItemsAhead (s : Bytes) (m i p k : ℕ) : Type 0 where
  pub table : table_ok s m i k ≡ true
  pub inside : 4 + 4 * (i + k) ≤ length s
  pub payloads : p + lengths s i k ≤ length s
  pub inner : Bytes → Answer Tree
  pub trees : Items
  pub reads : items_in inner (parts_at s i p k) ≡ gives trees

-- A step hands out the first of them, and is then before the others.
item_step : (s : Bytes) (m i p k : ℕ) → ItemsAhead s m i p (suc k)
    → (c : Option ℕ)
    × (array_step s (walk_at i p (suc k)) ≡ Ok (Some ((item_of (entry_at s i) p c), (walk_at (i + 1) (p + length_of (entry_at s i)) k))))
    × ItemsAhead s m (i + 1) (p + length_of (entry_at s i)) k
unfolding parts_at
item_step s m i p k a =
    let h = table_head s m i k a.table in
    let l = lengths_cons s i k in
    from_bind a.reads λ t ht reads₁. from_bind reads₁ λ us hu _.
    let g = item_given s (entry_at s i) p a.inner t ht in (
      g.0,
      step_at s i p k (good_item (ltb i m) _ (ok_good (ltb i m) _ h.0)) (omega (arith, a.inside)) (omega (arith, a.payloads)) g.0 g.1,
      record {
        table = h.1;
        inside = omega (arith, a.inside);
        payloads = omega (arith, a.payloads);
        inner = a.inner;
        trees = us;
        reads = hu;
      },
    )

-- So a walk over them hands out their parts, and ends.
walked_at : (s : Bytes) (m i p k : ℕ) → ItemsAhead s m i p k → walked s (walk_at i p k) (suc k) ≡ Some (parts_at s i p k)
unfolding walked array_step item_of parts_at
walked_at s m i p zero a = refl
walked_at s m i p (suc k) a =
    let w = item_step s m i p k a in
    rw (w.1, walked_at s m (i + 1) (p + length_of (entry_at s i)) k w.2)

-- Behind `j` of them the others are ahead, from where the lengths before them sum to.
items_behind : (s : Bytes) (m i p j k : ℕ) → j ≤ k → ItemsAhead s m i p k → ItemsAhead s m (i + j) (p + lengths s i j) (k - j)
unfolding lengths
items_behind s m i p zero k h a = rw (add-zero i, add-zero p, sub-zero k) a
items_behind s m i p (suc j) zero h a = absurd (not-suc-le-zero h)
items_behind s m i p (suc j) (suc k) h a =
    let l = length_of (entry_at s i) in
    let e : i + suc j ≡ i + 1 + j = omega arith in
    let e₁ : p + (l + lengths s (i + 1) j) ≡ p + l + lengths s (i + 1) j = omega arith in
    let e₂ : suc k - suc j ≡ k - j = omega arith in
    rw (e, e₁, e₂) (items_behind s m (i + 1) (p + l) j k (omega arith) (item_step s m i p k a).2)

-- The walk before the first item of an array of `n` hands out its `n` parts in turn, and then answers the end; and it carries their places.
pub walked_array : (s : Bytes) (n : ℕ) → ItemsAhead s 0 0 (4 + 4 * n) n
    → walked s (array_walk n) (suc n) ≡ Some (parts_at s 0 (4 + 4 * n) n)
unfolding array_walk
walked_array s n a = walked_at s 0 0 (4 + 4 * n) n a

item_carried : (s : Bytes) (n k r : ℕ) → n - k ≡ suc r → ItemsAhead s 0 k (table_place s n k) (suc r) → ItemCarried s n k
item_carried s n k r e a =
    let q : n - (k + 1) ≡ r = omega arith in
    let w = item_step s 0 k (table_place s n k) r a in
    (w.0, rw (e, q, ← place_behind s n k) w.1)

pub array_carries : (s : Bytes) (n : ℕ) → ItemsAhead s 0 0 (4 + 4 * n) n → ArrayCarried s n
array_carries s n a = (
  rw (sub-zero n) (sym (array_opens n (nth_part s n 0) (sym (part_start s n (first_part n) refl)))),
  λ k h. item_carried s n k (n - (k + 1)) (one_less n k h)
      (rw (zero-add k, one_less n k h) at (items_behind s 0 0 (4 + 4 * n) k n (omega arith) a)),
)

-- The same for an object: name entry `i`, value entry `j`, name at `q`, value at `p`.
abbrev walk_over : ℕ → ℕ → ℕ → ℕ → ℕ → ObjectIterator
walk_over i j q p k =
    record { key_jentry_offset = 4 + 4 * i; val_jentry_offset = 4 + 4 * j; key_offset = q; val_offset = p; remaining = k }

step_over : (s : Bytes) (i j q p k : ℕ) → entry_good true (entry_at s i) ≡ true → entry_good false (entry_at s j) ≡ true
    → 4 + 4 * (i + 1) ≤ length s → 4 + 4 * (j + 1) ≤ length s
    → q + length_of (entry_at s i) ≤ length s → p + length_of (entry_at s j) ≤ length s
    → (c c' : Option ℕ) → item_at s (entry_at s i) q ≡ gives (item_of (entry_at s i) q c)
    → item_at s (entry_at s j) p ≡ gives (item_of (entry_at s j) p c')
    → object_step s (walk_over i j q p (suc k))
    ≡ Ok (Some ((record { key = item_of (entry_at s i) q c; val = item_of (entry_at s j) p c' }), (walk_over (i + 1) (j + 1) (q + length_of (entry_at s i)) (p + length_of (entry_at s j)) k)))
unfolding object_step member_step member_at ends_with entry_at ◌>>=◌
step_over s i j q p k name value table table' payload payload' c c' given given' =
    let a : 4 + 4 * i + 4 ≡ 4 + 4 * (i + 1) = omega arith in
    let a' : 4 + 4 * j + 4 ≡ 4 + 4 * (j + 1) = omega arith in
    let b : suc k - 1 ≡ k = omega arith in
    rw (
      ne_eqb (suc k) 0 (λ q. omega arith),
      inside_yes s (4 + 4 * i) 4 (omega arith),
      name,
      inside_yes s (4 + 4 * j) 4 (omega arith),
      value,
      inside_yes s q (length_of (word_at s (4 + 4 * i))) payload,
      inside_yes s p (length_of (word_at s (4 + 4 * j))) payload',
      given,
      given',
      a,
      a',
      b,
    )

-- The `k` members from name entry `i` and value entry `j` on, in the same way.
pub record MembersAhead (s : Bytes) (m i j q p k : ℕ) : Type 0 where
  pub named : i + k ≤ m
  pub names : table_ok s m i k ≡ true
  pub values : table_ok s m j k ≡ true
  pub names_inside : 4 + 4 * (i + k) ≤ length s
  pub values_inside : 4 + 4 * (j + k) ≤ length s
  pub names_fit : q + lengths s i k ≤ length s
  pub values_fit : p + lengths s j k ≤ length s
  pub texts : List Bytes
  pub texts_read : names_in (parts_at s i q k) ≡ gives texts
  pub inner : Bytes → Answer Tree
  pub trees : Items
  pub trees_read : items_in inner (parts_at s j p k) ≡ gives trees

member_step_on : (s : Bytes) (m i j q p k : ℕ) → MembersAhead s m i j q p (suc k)
    → (c : Option ℕ) × (c' : Option ℕ)
    × (object_step s (walk_over i j q p (suc k))
    ≡ Ok (Some ((record { key = item_of (entry_at s i) q c; val = item_of (entry_at s j) p c' }), (walk_over (i + 1) (j + 1) (q + length_of (entry_at s i)) (p + length_of (entry_at s j)) k))))
    × MembersAhead s m (i + 1) (j + 1) (q + length_of (entry_at s i)) (p + length_of (entry_at s j)) k
unfolding parts_at
member_step_on s m i j q p k a =
    let h = table_head s m i k a.names in
    let h' = table_head s m j k a.values in
    let l = lengths_cons s i k in
    let l' = lengths_cons s j k in
    let name : entry_ok true (entry_at s i) ≡ true = rw (lt-ltb i m (omega (arith, a.named))) at h.0 in
    from_bind a.texts_read λ x hx texts₁. from_bind texts₁ λ xs hxs _.
    from_bind a.trees_read λ t ht reads₁. from_bind reads₁ λ us hu _.
    let g = text_given s (entry_at s i) q x hx in
    let g' = item_given s (entry_at s j) p a.inner t ht in (
      g.0,
      g'.0,
      step_over s i j q p k (ok_good true _ name) (good_item (ltb j m) _ (ok_good (ltb j m) _ h'.0))
          (omega (arith, a.names_inside)) (omega (arith, a.values_inside)) (omega (arith, a.names_fit)) (omega (arith, a.values_fit))
          g.0 g'.0 g.1 g'.1,
      record {
        named = omega (arith, a.named);
        names = h.1;
        values = h'.1;
        names_inside = omega (arith, a.names_inside);
        values_inside = omega (arith, a.values_inside);
        names_fit = omega (arith, a.names_fit);
        values_fit = omega (arith, a.values_fit);
        texts = xs;
        texts_read = hxs;
        inner = a.inner;
        trees = us;
        trees_read = hu;
      },
    )

walked_over : (s : Bytes) (m i j q p k : ℕ) → MembersAhead s m i j q p k
    → object_walked s (walk_over i j q p k) (suc k) ≡ Some (paired (parts_at s i q k) (parts_at s j p k))
unfolding object_walked object_step item_of parts_at
walked_over s m i j q p zero a = refl
walked_over s m i j q p (suc k) a =
    let w = member_step_on s m i j q p k a in
    rw (w.2, walked_over s m (i + 1) (j + 1) (q + length_of (entry_at s i)) (p + length_of (entry_at s j)) k w.3)

members_behind : (s : Bytes) (m i j q p r k : ℕ) → r ≤ k → MembersAhead s m i j q p k
    → MembersAhead s m (i + r) (j + r) (q + lengths s i r) (p + lengths s j r) (k - r)
unfolding lengths
members_behind s m i j q p zero k h a = rw (add-zero i, add-zero j, add-zero q, add-zero p, sub-zero k) a
members_behind s m i j q p (suc r) zero h a = absurd (not-suc-le-zero h)
members_behind s m i j q p (suc r) (suc k) h a =
    let l = length_of (entry_at s i) in
    let l' = length_of (entry_at s j) in
    let e : i + suc r ≡ i + 1 + r = omega arith in
    let e' : j + suc r ≡ j + 1 + r = omega arith in
    let e₁ : q + (l + lengths s (i + 1) r) ≡ q + l + lengths s (i + 1) r = omega arith in
    let e₁' : p + (l' + lengths s (j + 1) r) ≡ p + l' + lengths s (j + 1) r = omega arith in
    let e₂ : suc k - suc r ≡ k - r = omega arith in
    rw (e, e', e₁, e₁', e₂)
    (members_behind s m (i + 1) (j + 1) (q + l) (p + l') r k (omega arith) (member_step_on s m i j q p k a).3)

-- The walk before the first member of an object of `n` hands out its `n` names with their values in turn, and then answers the end; and
-- it carries their places.
abbrev ObjectAhead : Bytes → ℕ → Type 0
ObjectAhead s n = MembersAhead s n 0 n (4 + 8 * n) (4 + 8 * n + lengths s 0 n) n

pub walked_object : (s : Bytes) (n : ℕ) → ObjectAhead s n
    → object_walked s (object_walk s n) (suc n)
    ≡ Some (paired (parts_at s 0 (4 + 8 * n) n) (parts_at s n (4 + 8 * n + lengths s 0 n) n))
unfolding object_walk
walked_object s n a = walked_over s n 0 n (4 + 8 * n) (4 + 8 * n + lengths s 0 n) n a

member_carried : (s : Bytes) (n k r : ℕ) → n - k ≡ suc r
    → MembersAhead s n k (n + k) (table_place s (n + n) k) (table_place s (n + n) (n + k)) (suc r) → MemberCarried s n k
member_carried s n k r e a =
    let q : n - (k + 1) ≡ r = omega arith in
    let x : n + (k + 1) ≡ n + k + 1 = omega arith in
    let w = member_step_on s n k (n + k) (table_place s (n + n) k) (table_place s (n + n) (n + k)) r a in
    (w.0, w.1, rw (e, q, x, ← place_behind s (n + n) k, ← place_behind s (n + n) (n + k)) w.2)

members_at_table : (s : Bytes) (n k : ℕ) → k < n → ObjectAhead s n
    → MembersAhead s n k (n + k) (table_place s (n + n) k) (table_place s (n + n) (n + k)) (suc (n - (k + 1)))
members_at_table s n k h a =
    let e : 4 + 8 * n ≡ 4 + 4 * (n + n) = omega arith in
    let v : 4 + 4 * (n + n) + lengths s 0 n + lengths s n k ≡ table_place s (n + n) (n + k) =
    omega (arith, rw (zero-add n) at (lengths_split s 0 n k)) in
    rw (zero-add k, one_less n k h, e, v) at (members_behind s n 0 n (4 + 8 * n) (4 + 8 * n + lengths s 0 n) k n (omega arith) a)

pub object_carries : (s : Bytes) (n : ℕ) → ObjectAhead s n → ObjectCarried s n
object_carries s n a = (
  rw (sub-zero n) (sym (object_opens s n (nth_member s n 0) (sym (object_start s n)))),
  λ k h. member_carried s n k (n - (k + 1)) (one_less n k h) (members_at_table s n k h a),
)

-- A scalar record holds no container.
abbrev Flat : Tree → Type 0
Flat t = ((ts : Items) → t ≡ array ts → ⊥) × ((ms : Members) → t ≡ object ms → ⊥)

plain : {t : Tree} → ((ts : Items) → t ≡ array ts → ◌≡◌ {A = ℕ} 0 1) → ((ms : Members) → t ≡ object ms → ◌≡◌ {A = ℕ} 0 1) → Flat t
plain f g = ((λ ts q. omega (arith, f ts q)), (λ ms q. omega (arith, g ms q)))

payload_flat : (k : Kind) (b : Bytes) (t : Tree) → payload_in (λ _. refused Layout) k b ≡ gives t → Flat t
unfolding number_in
payload_flat Null b t e = plain (λ ts q. cc) (λ ms q. cc)
payload_flat String b t e = from_bind e λ x hx e₁. plain (λ ts q. cc) (λ ms q. cc)
payload_flat Number b t e = from_require _ _ _ e λ _ e₁. plain (λ ts q. cc) (λ ms q. cc)
payload_flat False b t e = plain (λ ts q. cc) (λ ms q. cc)
payload_flat True b t e = plain (λ ts q. cc) (λ ms q. cc)
payload_flat Container b t e = refused_gives e
payload_flat Extension b t e = plain (λ ts q. cc) (λ ms q. cc)

scalar_flat : (n : ℕ) (b : Bytes) (t : Tree) → scalar_in n b ≡ gives t → Flat t
scalar_flat n b t e =
    from_require _ _ _ e λ _ e₁. from_require _ _ _ e₁ λ _ e₂. from_bind e₂ λ x hx e₃. from_require _ _ _ e₃ λ _ e₄.
    payload_flat x.kind (drop 4 b) t e₄

-- A record that reads as an array: opening gives a walk, which hands out the parts that read as the items and then ends.
pub record ArrayWalked (s : Bytes) (ts : Items) : Type 0 where
  pub count : ℕ
  pub each : List Part
  pub opened : array_open s ≡ Ok (Some (array_walk count))
  pub handed_out : walked s (array_walk count) (suc count) ≡ Some each
  pub carried : ArrayCarried s count
  pub items : items_in (nested 63) each ≡ gives ts

array_by : (s : Bytes) (ts : Items) (h : Result Header Refusal) → h ≡ header s → read s ≡ gives (array ts)
    → root_in h (drop 4 s) ≡ gives (array ts) → ArrayWalked s ts
unfolding opening array_opened
array_by s ts (Err r) hh e q = refused_gives q
array_by s ts (Ok (Scalar n)) hh e q = absurd ((scalar_flat n (drop 4 s) _ q).0 ts refl)
array_by s ts (Ok (Object n)) hh e q =
    from_bind q λ ps hp q₁. from_bind q₁ λ ns hn q₂. from_bind q₂ λ us hu q₃.
    let z : ◌≡◌ {A = ℕ} 0 1 = cc in let w : ⊥ = omega arith in absurd w
array_by s ts (Ok (Array n)) hh e q =
    from_bind q λ ps hp q₁. from_bind q₁ λ us hu q₂.
    let l = laid s n 0 ps (told_array s _ hh n refl).0 hp in
    let same : us ≡ ts = cc in
    let ahead : ItemsAhead s 0 0 (4 + 4 * n) n =
    record {
      table = l.table;
      inside = omega (arith, l.fits);
      payloads = l.fits;
      inner = nested 63;
      trees = us;
      reads = rw l.same at hu;
    } in
    record {
      count = n;
      each = ps;
      opened = rw (e, ← hh);
      handed_out = rw l.same (walked_array s n ahead);
      carried = array_carries s n ahead;
      items = hu ∙ ap gives same;
    }

pub array_walks : (s : Bytes) (ts : Items) → read s ≡ gives (array ts) → ArrayWalked s ts
array_walks s ts e = from_require _ _ _ (sym (read_is s) ∙ e) λ _ q. array_by s ts (header s) refl e q

-- The same of an object: the walk hands out the names, and with each its value.
pub record ObjectWalked (s : Bytes) (ms : Members) : Type 0 where
  pub count : ℕ
  pub keys : List Part
  pub vals : List Part
  pub texts : List Bytes
  pub trees : Items
  pub opened : object_open s ≡ Ok (Some (object_walk s count))
  pub handed_out : object_walked s (object_walk s count) (suc count) ≡ Some (paired keys vals)
  pub carried : ObjectCarried s count
  pub all_keys : length keys ≡ count
  pub all_vals : length vals ≡ count
  pub names : names_in keys ≡ gives texts
  pub items : items_in (nested 63) vals ≡ gives trees
  pub members : ms ≡ pair texts trees

object_by : (s : Bytes) (ms : Members) (h : Result Header Refusal) → h ≡ header s → read s ≡ gives (object ms)
    → root_in h (drop 4 s) ≡ gives (object ms) → ObjectWalked s ms
unfolding opening object_opened
object_by s ms (Err r) hh e q = refused_gives q
object_by s ms (Ok (Scalar n)) hh e q = absurd ((scalar_flat n (drop 4 s) _ q).1 ms refl)
object_by s ms (Ok (Array n)) hh e q =
    from_bind q λ ps hp q₁. from_bind q₁ λ us hu q₂.
    let z : ◌≡◌ {A = ℕ} 0 1 = cc in let w : ⊥ = omega arith in absurd w
object_by s ms (Ok (Object n)) hh e q =
    from_bind q λ ps hp q₁. from_bind q₁ λ ns hn q₂. from_bind q₂ λ us hu q₃.
    let l = laid s (n + n) n ps (told_object s _ hh n refl).0 hp in
    let a : 4 + 4 * (n + n) ≡ 4 + 8 * n = omega arith in
    let b : 0 + n ≡ n = omega arith in
    let same : ps ≡ parts_at s 0 (4 + 8 * n) (n + n) = rw (← a) l.same in
    let keys : take n ps ≡ parts_at s 0 (4 + 8 * n) n = rw same (take_parts s 0 (4 + 8 * n) n n) in
    let vals : drop n ps ≡ parts_at s n (4 + 8 * n + lengths s 0 n) n = rw (same, drop_parts s 0 (4 + 8 * n) n n, b) in
    let t = table_split s n 0 n n l.table in
    let total : lengths s 0 (n + n) ≡ lengths s 0 n + lengths s n n = rw b at (lengths_split s 0 n n) in
    let ahead : ObjectAhead s n =
    record {
      named = omega arith;
      names = t.0;
      values = rw b at t.1;
      names_inside = omega (arith, l.fits);
      values_inside = omega (arith, l.fits);
      names_fit = omega (arith, l.fits);
      values_fit = omega (arith, l.fits);
      texts = ns;
      texts_read = rw keys at hn;
      inner = nested 63;
      trees = us;
      trees_read = rw vals at hu;
    } in
    record {
      count = n;
      keys = take n ps;
      vals = drop n ps;
      texts = ns;
      trees = us;
      opened = rw (e, ← hh);
      handed_out = rw (keys, vals) (walked_object s n ahead);
      carried = object_carries s n ahead;
      all_keys = rw (keys, length_parts s 0 (4 + 8 * n) n);
      all_vals = rw (vals, length_parts s n (4 + 8 * n + lengths s 0 n) n);
      names = hn;
      items = hu;
      members = cc;
    }

pub object_walks : (s : Bytes) (ms : Members) → read s ≡ gives (object ms) → ObjectWalked s ms
object_walks s ms e = from_require _ _ _ (sym (read_is s) ∙ e) λ _ q. object_by s ms (header s) refl e q

-- Of any other record there is no walk: a refusal is the check's, and another kind is an absence.
pub array_refusal : (s : Bytes) (r : Refusal) → read s ≡ refused r → array_open s ≡ Err r
unfolding opening
array_refusal s r e = rw e

pub object_refusal : (s : Bytes) (r : Refusal) → read s ≡ refused r → object_open s ≡ Err r
unfolding opening
object_refusal s r e = rw e

pub array_absence : (s : Bytes) (t : Tree) → read s ≡ gives t → ((ts : Items) → t ≡ array ts → ⊥) → array_open s ≡ Ok None
unfolding opening
array_absence s t e other =
    from_require _ _ _ (sym (read_is s) ∙ e) λ _ q.
    rw e (sym (array_other (header s) λ n h. from_bind (rw h at q) λ ps hp q₁. from_bind q₁ λ us hu q₂. other us (sym (gives_inj q₂))))

pub object_absence : (s : Bytes) (t : Tree) → read s ≡ gives t → ((ms : Members) → t ≡ object ms → ⊥) → object_open s ≡ Ok None
unfolding opening
object_absence s t e other =
    from_require _ _ _ (sym (read_is s) ∙ e) λ _ q.
    rw e
    (sym (object_other s (header s) λ n h.
    from_bind (rw h at q) λ ps hp q₁. from_bind q₁ λ ns hn q₂. from_bind q₂ λ us hu q₃. other (pair ns us) (sym (gives_inj q₃))))
