-- The bytes of a tree within the limits read as that tree.
use Prim.Native.Nat.{ℕ, zero, suc, ◌+◌, ◌/◌, ◌%◌, ◌^◌, ◌<◌, ◌≤◌}
use native.Mathlib.Omega.{arith}
use mathlib.Core.Path.{◌≡◌, refl, ap, ◌∙◌}
use mathlib.Core.Bool.{true, false}
use mathlib.Core.List.{List, [], ◌∷◌, ◌++◌, append-nil}
use lib.Dec.{T, le→leb, eqb_refl}
use lib.ListN.{length, take, drop, length-append}
use lib.Seq.{take_at, drop_at}
use borrow.Author.Tests.{le-ltb}
use Rattle.layout.specs.Bytes.{Bytes, be32}
use Rattle.layout.specs.Answer.{Answer, refused, gives}
use Rattle.layout.specs.Entry.{sort_of, count_of, code}
use Rattle.layout.specs.Text.{utf8}
use Rattle.layout.specs.Tree.{Tree, null, boolean, number, string, extension, array, object, Items, none, item, Members, empty, member, names, values, pair, kind}
use Rattle.layout.specs.Encode.{Part, entry_word, entries, payloads, name_parts, payload, item_parts, member_parts, part, scalar, encode}
use Rattle.layout.specs.Read.{header, entry, text, number_in, payload_in, items_in, names_in, array_in, object_in, nested, root_in, read}
use Rattle.layout.specs.Limits.{Valid, ValidItems, ValidMembers, depth, depth_items, depth_members}
use Rattle.layout.specs.declared.refusal.Refusal.TheVariants.{Layout}
use Rattle.layout.specs.declared.util.Header.{Header}
use Rattle.layout.specs.declared.util.Header.TheVariants.{Array, Object, Scalar}
use Rattle.layout.proofs.Words.{word_be32, drop_be32, length_be32}
use Rattle.layout.proofs.Answers.{to_bind, to_require}
use Rattle.layout.proofs.Level.{Fits, AllFit, kinds, Named, code_small, entry_complete, entries_length, parts_complete}
use Rattle.layout.proofs.Decoding.{read_is, payloads_append}
use Rattle.std.specs.Prelude.{Ok, Result}
use Rattle.layout.specs.declared.refusal.Refusal.{Refusal}

-- Headers.

head_long : (w : ℕ) (r : Bytes) → 4 ≤ length (be32 w ++ r)
head_long w r = omega (arith, length-append (be32 w) r, length_be32 w)

module _ (n : ℕ) (r : Bytes) (h : n < 2 ^ 29) where
  pub array_header : header (be32 (2 ^ 31 + n) ++ r) ≡ Ok (Array n)
  unfolding header sort_of count_of
  array_header =
      let q : (2 ^ 31 + n) / 2 ^ 29 ≡ 4 = omega arith in
      let m : (2 ^ 31 + n) % 2 ^ 29 ≡ n = omega arith in
      rw (le-ltb (length (be32 (2 ^ 31 + n) ++ r)) 4 (head_long (2 ^ 31 + n) r), word_be32 (2 ^ 31 + n) r (omega arith), q, m)

  pub object_header : header (be32 (2 ^ 30 + n) ++ r) ≡ Ok (Object n)
  unfolding header sort_of count_of
  object_header =
      let q : (2 ^ 30 + n) / 2 ^ 29 ≡ 2 = omega arith in
      let m : (2 ^ 30 + n) % 2 ^ 29 ≡ n = omega arith in
      rw (le-ltb (length (be32 (2 ^ 30 + n) ++ r)) 4 (head_long (2 ^ 30 + n) r), word_be32 (2 ^ 30 + n) r (omega arith), q, m)

pub scalar_header : (r : Bytes) → header (be32 (2 ^ 29) ++ r) ≡ Ok (Scalar 0)
unfolding header sort_of count_of
scalar_header r = rw (le-ltb (length (be32 (2 ^ 29) ++ r)) 4 (head_long (2 ^ 29) r), word_be32 (2 ^ 29) r (omega arith))

-- Parts that fit their entries.

pub fits_of : (t : Tree) → length (payload t) < 2 ^ 28 → Fits (part t)
fits_of null h = (tt, h)
fits_of (boolean true) h = (tt, h)
fits_of (boolean false) h = (tt, h)
fits_of (number b) h = (tt, h)
fits_of (string b) h = (tt, h)
fits_of (extension b) h = (tt, h)
fits_of (array ts) h = (tt, h)
fits_of (object ms) h = (tt, h)

pub items_fit : (ts : Items) → length (payloads (item_parts ts)) < 2 ^ 28 → AllFit (item_parts ts)
items_fit none h = tt
items_fit (item t ts) h =
    let l = length-append (payload t) (payloads (item_parts ts)) in
    (fits_of t (omega arith), items_fit ts (omega arith))

members_fit : (ms : Members) → length (payloads (member_parts ms)) < 2 ^ 28 → AllFit (member_parts ms)
members_fit empty h = tt
members_fit (member n t ms) h =
    let l = length-append (payload t) (payloads (member_parts ms)) in
    (fits_of t (omega arith), members_fit ms (omega arith))

names_fit : (ns : List Bytes) → length (payloads (name_parts ns)) < 2 ^ 28 → AllFit (name_parts ns)
names_fit [] h = tt
names_fit (n ∷ ns) h =
    let l = length-append n (payloads (name_parts ns)) in
    ((tt, omega arith), names_fit ns (omega arith))

fits_append : (ps qs : List Part) → AllFit ps → AllFit qs → AllFit (ps ++ qs)
fits_append [] qs f g = g
fits_append (p ∷ ps) qs f g = (f.0, fits_append ps qs f.1 g)

pub names_named : (ns : List Bytes) (qs : List Part) → Named (length (name_parts ns)) (kinds (name_parts ns ++ qs))
names_named [] qs = tt
names_named (n ∷ ns) qs = (tt, names_named ns qs)

pub names_count : (ms : Members) → length (name_parts (names ms)) ≡ length (member_parts ms)
names_count empty = refl
names_count (member n t ms) = ap suc (names_count ms)

-- The parts of an array, and of an object, whose payload is short enough.
pub record ArrayFits (ts : Items) : Type 0 where
  pub fits : AllFit (item_parts ts)
  pub count : length (item_parts ts) < 2 ^ 29
  pub small : length (payloads (item_parts ts)) < 2 ^ 28

pub array_fits : (ts : Items) → length (payload (array ts)) < 2 ^ 28 → ArrayFits ts
array_fits ts h =
    let ps : List Part = item_parts ts in
    let l₁ = length-append (be32 (2 ^ 31 + length ps)) (entries ps ++ payloads ps) in
    let l₂ = length-append (entries ps) (payloads ps) in
    let l₃ = entries_length ps in
    let f : length (payloads ps) < 2 ^ 28 = omega arith in
    let n : length ps < 2 ^ 29 = omega arith in
    record { fits = items_fit ts f; count = n; small = f }

pub record ObjectFits (ms : Members) : Type 0 where
  pub fits : AllFit (name_parts (names ms) ++ member_parts ms)
  pub named : Named (length (member_parts ms)) (kinds (name_parts (names ms) ++ member_parts ms))
  pub count : length (member_parts ms) < 2 ^ 29
  pub whole : length (member_parts ms) + length (member_parts ms) ≡ length (name_parts (names ms) ++ member_parts ms)
  pub small : length (payloads (member_parts ms)) < 2 ^ 28

pub object_fits : (ms : Members) → length (payload (object ms)) < 2 ^ 28 → ObjectFits ms
object_fits ms h =
    let np : List Part = name_parts (names ms) in
    let mp : List Part = member_parts ms in
    let body : Bytes = entries (np ++ mp) ++ payloads (np ++ mp) in
    let l₁ = length-append (be32 (2 ^ 30 + length mp)) body in
    let l₂ = length-append (entries (np ++ mp)) (payloads (np ++ mp)) in
    let l₃ = entries_length (np ++ mp) in
    let l₄ = length-append np mp in
    let l₅ = ap length (payloads_append np mp) in
    let l₆ = length-append (payloads np) (payloads mp) in
    let l₇ = names_count ms in
    let f₁ : length (payloads np) < 2 ^ 28 = omega arith in
    let f₂ : length (payloads mp) < 2 ^ 28 = omega arith in
    let n : length mp < 2 ^ 29 = omega arith in
    let w : length mp + length mp ≡ length (np ++ mp) = omega arith in
    record {
      fits = fits_append np mp (names_fit (names ms) f₁) (members_fit ms f₂);
      named = rw (← names_count ms) (names_named (names ms) mp);
      count = n;
      whole = w;
      small = f₂;
    }

-- Containers.

text_complete : (b : Bytes) → T (utf8 b) → text b ≡ gives b
unfolding text
text_complete b h = to_require _ _ _ _ h refl

names_complete : (ms : Members) → ValidMembers ms → names_in (name_parts (names ms)) ≡ gives (names ms)
names_complete empty v = refl
names_complete (member n t ms) v = to_bind _ (text_complete n v.0) (to_bind _ (names_complete ms v.2) refl)

pub pair_of : (ms : Members) → pair (names ms) (values ms) ≡ ms
pair_of empty = refl
pair_of (member n t ms) = ap (member n t) (pair_of ms)

array_complete : (inner : Bytes → Answer Tree) (ts : Items) → AllFit (item_parts ts) → items_in inner (item_parts ts) ≡ gives ts →
    array_in inner (length (item_parts ts)) (entries (item_parts ts) ++ payloads (item_parts ts)) ≡ gives (array ts)
array_complete inner ts f e =
    to_bind _ (parts_complete (length (item_parts ts)) 0 (item_parts ts) refl f tt) (to_bind _ e refl)

object_complete : (inner : Bytes → Answer Tree) (ms : Members) → ObjectFits ms → ValidMembers ms → items_in inner (member_parts ms) ≡ gives (values ms) →
    object_in inner (length (member_parts ms)) (entries (name_parts (names ms) ++ member_parts ms) ++ payloads (name_parts (names ms) ++ member_parts ms)) ≡ gives (object ms)
object_complete inner ms f v e =
    let n : ℕ = length (member_parts ms) in
    let np : List Part = name_parts (names ms) in
    let mp : List Part = member_parts ms in
    let a : take n (np ++ mp) ≡ np = take_at np mp n (names_count ms) in
    let d : drop n (np ++ mp) ≡ mp = drop_at np mp n (names_count ms) in
    to_bind _ (parts_complete (n + n) n (np ++ mp) f.whole f.fits f.named)
    (rw (a, d) (to_bind _ (names_complete ms v) (to_bind _ e (ap (λ x. gives (object x)) (pair_of ms)))))

nested_array : (k : ℕ) (ts : Items) → ArrayFits ts → items_in (nested k) (item_parts ts) ≡ gives ts →
    nested (suc k) (payload (array ts)) ≡ gives (array ts)
unfolding nested
nested_array k ts f e =
    let ps : List Part = item_parts ts in
    let body : Bytes = entries ps ++ payloads ps in
    rw (array_header (length ps) body f.count, drop_be32 (2 ^ 31 + length ps) body) (array_complete (nested k) ts f.fits e)

nested_object : (k : ℕ) (ms : Members) → ObjectFits ms → ValidMembers ms → items_in (nested k) (member_parts ms) ≡ gives (values ms) →
    nested (suc k) (payload (object ms)) ≡ gives (object ms)
unfolding nested
nested_object k ms f v e =
    let mp : List Part = member_parts ms in
    let ps : List Part = name_parts (names ms) ++ mp in
    let body : Bytes = entries ps ++ payloads ps in
    rw (object_header (length mp) body f.count, drop_be32 (2 ^ 30 + length mp) body) (object_complete (nested k) ms f v e)

mutual
  unfolding number_in

  pub payload_complete : (t : Tree) (k : ℕ) → Valid t → depth t ≤ k → length (payload t) < 2 ^ 28 →
      payload_in (nested k) (kind t) (payload t) ≡ gives t
  payload_complete null k v d h = refl
  payload_complete (boolean true) k v d h = refl
  payload_complete (boolean false) k v d h = refl
  payload_complete (number b) k v d h = to_require _ _ _ _ v refl
  payload_complete (string b) k v d h = to_bind _ (text_complete b v) refl
  payload_complete (extension b) k v d h = refl
  payload_complete (array ts) zero v d h = let z : ⊥ = omega arith in absurd z
  payload_complete (array ts) (suc k) v d h =
      nested_array k ts (array_fits ts h) (items_complete ts k v (omega arith) (array_fits ts h).small)
  payload_complete (object ms) zero v d h = let z : ⊥ = omega arith in absurd z
  payload_complete (object ms) (suc k) v d h =
      nested_object k ms (object_fits ms h) v (members_complete ms k v (omega arith) (object_fits ms h).small)

  items_complete : (ts : Items) (k : ℕ) → ValidItems ts → depth_items ts ≤ k → length (payloads (item_parts ts)) < 2 ^ 28 →
      items_in (nested k) (item_parts ts) ≡ gives ts
  items_complete none k v d h = refl
  items_complete (item t ts) k v d h =
      let l = length-append (payload t) (payloads (item_parts ts)) in
      to_bind _ (payload_complete t k v.0 (omega arith) (omega arith))
      (to_bind _ (items_complete ts k v.1 (omega arith) (omega arith)) refl)

  members_complete : (ms : Members) (k : ℕ) → ValidMembers ms → depth_members ms ≤ k → length (payloads (member_parts ms)) < 2 ^ 28 →
      items_in (nested k) (member_parts ms) ≡ gives (values ms)
  members_complete empty k v d h = refl
  members_complete (member n t ms) k v d h =
      let l = length-append (payload t) (payloads (member_parts ms)) in
      to_bind _ (payload_complete t k v.1 (omega arith) (omega arith))
      (to_bind _ (members_complete ms k v.2 (omega arith) (omega arith)) refl)

-- Records.

root_complete : (w : ℕ) (r : Bytes) (h : Result Header Refusal) (t : Tree) → length (be32 w ++ r) ≤ 65536 → header (be32 w ++ r) ≡ h → root_in h r ≡ gives t →
    read (be32 w ++ r) ≡ gives t
root_complete w r h t l e f =
    read_is (be32 w ++ r) ∙ to_require _ _ _ _ (le→leb (length (be32 w ++ r)) 65536 l) (rw (e, drop_be32 w r) f)

scalar_complete : (t : Tree) → Fits (part t) → payload_in (λ _. refused Layout) (kind t) (payload t) ≡ gives t →
    length (scalar t) ≤ 65536 → read (scalar t) ≡ gives t
scalar_complete t f e h =
    let p : Part = part t in
    let b : Bytes = be32 (entry_word p) ++ p.bytes in
    let c : code p.kind < 7 = code_small p.kind in
    let w : entry_word p < 2 ^ 32 = omega (arith, f.1) in
    let l : 4 ≤ length b = head_long (entry_word p) p.bytes in
    let s : scalar t ≡ be32 (2 ^ 29) ++ b = rw (append-nil (be32 (entry_word p)), append-nil p.bytes) in
    rw s
    (root_complete (2 ^ 29) b (Ok (Scalar 0)) t (rw (← s) h) (scalar_header b)
    (to_require _ _ _ _ tt
    (to_require _ _ _ _ (le→leb 4 (length b) l)
    (to_bind _ (ap (entry false) (word_be32 (entry_word p) p.bytes w) ∙ entry_complete false p f tt)
    (rw (drop_be32 (entry_word p) p.bytes) (to_require _ _ _ _ (eqb_refl (length p.bytes)) e))))))

pub small_scalar : (t : Tree) → length (scalar t) ≤ 65536 → length (payload t) < 2 ^ 28
small_scalar t h =
    let p : Part = part t in
    omega (
      arith,
      length-append (be32 (2 ^ 29)) (entries (p ∷ []) ++ payloads (p ∷ [])),
      length-append (entries (p ∷ [])) (payloads (p ∷ [])),
      length-append (payload t) [],
    )

-- The bytes of a tree within the limits read as that tree.
pub read_encode : (t : Tree) → Valid t → depth t ≤ 64 → length (encode t) ≤ 65536 → read (encode t) ≡ gives t
unfolding number_in
read_encode null v d h = scalar_complete null (tt, omega arith) refl h
read_encode (boolean true) v d h = scalar_complete (boolean true) (tt, omega arith) refl h
read_encode (boolean false) v d h = scalar_complete (boolean false) (tt, omega arith) refl h
read_encode (number b) v d h = scalar_complete (number b) (tt, small_scalar (number b) h) (to_require _ _ _ _ v refl) h
read_encode (string b) v d h = scalar_complete (string b) (tt, small_scalar (string b) h) (to_bind _ (text_complete b v) refl) h
read_encode (extension b) v d h = scalar_complete (extension b) (tt, small_scalar (extension b) h) refl h
read_encode (array ts) v d h =
    let ps : List Part = item_parts ts in
    let body : Bytes = entries ps ++ payloads ps in
    let f = array_fits ts (omega arith) in
    root_complete (2 ^ 31 + length ps) body (Ok (Array (length ps))) (array ts) h (array_header (length ps) body f.count)
    (array_complete (nested 63) ts f.fits (items_complete ts 63 v (omega arith) f.small))
read_encode (object ms) v d h =
    let mp : List Part = member_parts ms in
    let ps : List Part = name_parts (names ms) ++ mp in
    let body : Bytes = entries ps ++ payloads ps in
    let f = object_fits ms (omega arith) in
    root_complete (2 ^ 30 + length mp) body (Ok (Object (length mp))) (object ms) h (object_header (length mp) body f.count)
    (object_complete (nested 63) ms f v (members_complete ms 63 v (omega arith) f.small))
