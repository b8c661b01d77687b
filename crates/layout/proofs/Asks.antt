-- The laws of `every`, for any question: asked by places of a record's bytes it has the answer that it has of the tree;
-- and each way through code that asks it, a part, a loop over parts, a container, comes to that.
use Prim.Native.Nat.{ℕ, zero, suc, ◌+◌, ◌-◌, ◌^◌, ◌<◌, ◌≤◌}
use native.Mathlib.Omega.{arith}
use mathlib.Core.Path.{◌≡◌, refl, ap, ap₂, ◌∙◌}
use mathlib.Core.Bool.{Bool, true, false, ◌&&◌, and-true}
use mathlib.Core.List.{List, [], ◌∷◌, ◌++◌, map}
use lib.Dec.{T}
use lib.ListN.{length, take, drop, length-append}
use Rattle.layout.specs.Bytes.{Bytes, Octets}
use Rattle.layout.specs.Answer.{gives}
use Rattle.layout.specs.Entry.{code_of, length_of, entry_at, kind_of}
use Rattle.layout.specs.Tree.{Tree, null, boolean, number, string, extension, array, object, Items, none, item, Members, empty, member, names, kind}
use Rattle.layout.specs.Encode.{Part, part, name_parts, payload, item_parts, member_parts, scalar, encode, entries, payloads}
use Rattle.layout.specs.Read.{header, read}
use Rattle.layout.specs.Limits.{depth, depth_items, depth_members}
use Rattle.layout.specs.Left.{Placed, part_shown}
use Rattle.layout.specs.Place.{parts_at}
use Rattle.layout.specs.Parts.{start_of, texts}
use Rattle.layout.specs.Every.{Ask, every, every_items, every_members}
use Rattle.layout.specs.EveryAt.{every_part, every_parts, every_by, every_at}
use Rattle.layout.specs.declared.refusal.Refusal.{Refusal}
use Rattle.layout.specs.declared.util.Header.{Header}
use Rattle.layout.specs.declared.util.Header.TheVariants.{Array, Object, Scalar}
use Rattle.layout.proofs.Decoding.{read_sound}
use Rattle.layout.proofs.Encoding.{array_header, object_header, scalar_header, fits_of, small_scalar, array_fits, object_fits, names_count}
use Rattle.layout.proofs.Places.{parts_at_record, names_at}
use Rattle.std.specs.Prelude.{Ok, Err, Result}

-- ---- the bytes of a tree

pub texts_names : (ns : List Bytes) → texts (name_parts ns) ≡ ns
texts_names [] = refl
texts_names (n ∷ ns) = ap (λ ms. n ∷ ms) (texts_names ns)

-- Of a name, as of any string, nothing is asked by itself.
skip_names : (a : Ask) (f : Bytes → Bool) (ns : List Bytes) (qs : List Part) → every_parts a f (name_parts ns ++ qs) ≡ every_parts a f qs
unfolding every_part every_parts
skip_names a f [] qs = refl
skip_names a f (n ∷ ns) qs = skip_names a f ns qs

mutual
  unfolding every_part every_parts every_at

  -- A tree's payload, where it nests no deeper than is looked.
  pub every_payload : (a : Ask) (t : Tree) (k : ℕ) → depth t ≤ k → length (payload t) < 2 ^ 28 →
      every_part a (every_at a k) (kind t) (payload t) ≡ every a t
  every_payload a null k d h = refl
  every_payload a (boolean true) k d h = refl
  every_payload a (boolean false) k d h = refl
  every_payload a (number b) k d h = refl
  every_payload a (string b) k d h = refl
  every_payload a (extension b) k d h = refl
  every_payload a (array ts) zero d h = let z : ⊥ = omega arith in absurd z
  every_payload a (array ts) (suc k) d h =
      let f = array_fits ts h in
      let ps : List Part = item_parts ts in
      rw (array_header (length ps) (entries ps ++ payloads ps) f.count, parts_at_record (2 ^ 31 + length ps) 0 ps f.fits tt)
      (every_item_parts a ts k (omega arith) f.small)
  every_payload a (object ms) zero d h = let z : ⊥ = omega arith in absurd z
  every_payload a (object ms) (suc k) d h =
      let f = object_fits ms h in
      let np : List Part = name_parts (names ms) in
      let mp : List Part = member_parts ms in
      let w = names_at (2 ^ 30 + length mp) (length mp) np mp (names_count ms) f.whole f.fits f.named in
      let values = every_member_parts a ms k (omega arith) f.small in
      rw (object_header (length mp) (entries (np ++ mp) ++ payloads (np ++ mp)) f.count, w.0, w.1)
      (ap₂ ◌&&◌ (ap a.names (texts_names (names ms))) (skip_names a (every_at a k) (names ms) mp ∙ values))

  every_item_parts : (a : Ask) (ts : Items) (k : ℕ) → depth_items ts ≤ k → length (payloads (item_parts ts)) < 2 ^ 28 →
      every_parts a (every_at a k) (item_parts ts) ≡ every_items a ts
  every_item_parts a none k d h = refl
  every_item_parts a (item t ts) k d h =
      let l = length-append (payload t) (payloads (item_parts ts)) in
      ap₂ ◌&&◌ (every_payload a t k (omega arith) (omega arith)) (every_item_parts a ts k (omega arith) (omega arith))

  every_member_parts : (a : Ask) (ms : Members) (k : ℕ) → depth_members ms ≤ k → length (payloads (member_parts ms)) < 2 ^ 28 →
      every_parts a (every_at a k) (member_parts ms) ≡ every_members a ms
  every_member_parts a empty k d h = refl
  every_member_parts a (member n t ms) k d h =
      let l = length-append (payload t) (payloads (member_parts ms)) in
      ap₂ ◌&&◌ (every_payload a t k (omega arith) (omega arith)) (every_member_parts a ms k (omega arith) (omega arith))

-- A scalar's record is its one part.
scalar_part : (a : Ask) (k : ℕ) (t : Tree) → length (scalar t) ≤ 65536 →
    every_at a (suc k) (scalar t) ≡ every_part a (λ b. true) (kind t) (payload t)
unfolding every_parts every_at
scalar_part a k t h =
    let p : Part = part t in
    let fits = fits_of t (small_scalar t h) in
    rw (scalar_header (entries (p ∷ []) ++ payloads (p ∷ [])), parts_at_record (2 ^ 29) 0 (p ∷ []) (fits, tt) tt)
    (and-true (every_part a (λ b. true) (kind t) (payload t)))

-- A tree's record, where it nests no deeper than is looked, which is one level at least.
pub every_record_to : (a : Ask) (k : ℕ) (t : Tree) → depth t ≤ suc k → length (encode t) ≤ 65536 → every_at a (suc k) (encode t) ≡ every a t
unfolding every_part
every_record_to a k null d h = scalar_part a k null h
every_record_to a k (boolean true) d h = scalar_part a k (boolean true) h
every_record_to a k (boolean false) d h = scalar_part a k (boolean false) h
every_record_to a k (number b) d h = scalar_part a k (number b) h
every_record_to a k (string b) d h = scalar_part a k (string b) h
every_record_to a k (extension b) d h = scalar_part a k (extension b) h
every_record_to a k (array ts) d h = every_payload a (array ts) (suc k) d (omega arith)
every_record_to a k (object ms) d h = every_payload a (object ms) (suc k) d (omega arith)

-- A record within the limits, and bytes that read as a tree.
pub every_record : (a : Ask) (t : Tree) → depth t ≤ 64 → length (encode t) ≤ 65536 → every_at a 64 (encode t) ≡ every a t
every_record a t d h = every_record_to a 63 t d h

pub every_read : (a : Ask) (s : Bytes) (t : Tree) → Octets s → read s ≡ gives t → every_at a 64 s ≡ every a t
every_read a s t o e =
    let d = read_sound s t o e in
    let l : length (encode t) ≤ 65536 = rw d.0.bytes d.1 in
    rw d.0.bytes at (every_record a t d.0.deep l)

-- ---- questions that ask less

-- What passes `a` passes `b`.
pub record AsksLess (a b : Ask) : Type 0 where
  pub number : (p : Bytes) → T (a.number p) → T (b.number p)
  pub extension : (p : Bytes) → T (a.extension p) → T (b.extension p)
  pub names : (ns : List Bytes) → T (a.names ns) → T (b.names ns)

and_less : (p q r s : Bool) → (T p → T r) → (T q → T s) → T (p && q) → T (r && s)
and_less true q true s f g h = g h
and_less true q false s f g h = absurd (f tt)
and_less false q r s f g h = absurd h

mutual
  pub every_less : (a b : Ask) → AsksLess a b → (t : Tree) → T (every a t) → T (every b t)
  every_less a b l null h = h
  every_less a b l (boolean x) h = h
  every_less a b l (number p) h = l.number p h
  every_less a b l (string p) h = h
  every_less a b l (extension p) h = l.extension p h
  every_less a b l (array ts) h = items_less a b l ts h
  every_less a b l (object ms) h =
      and_less (a.names (names ms)) (every_members a ms) (b.names (names ms)) (every_members b ms)
      (l.names (names ms)) (λ x. members_less a b l ms x) h

  items_less : (a b : Ask) → AsksLess a b → (ts : Items) → T (every_items a ts) → T (every_items b ts)
  items_less a b l none h = h
  items_less a b l (item t ts) h =
      and_less (every a t) (every_items a ts) (every b t) (every_items b ts) (λ x. every_less a b l t x) (λ x. items_less a b l ts x) h

  members_less : (a b : Ask) → AsksLess a b → (ms : Members) → T (every_members a ms) → T (every_members b ms)
  members_less a b l empty h = h
  members_less a b l (member n t ms) h =
      and_less (every a t) (every_members a ms) (every b t) (every_members b ms) (λ x. every_less a b l t x) (λ x. members_less a b l ms x) h

-- ---- in the terms of the code

-- One part of code `c`. A container has the answer of its own bytes: the promise of the call on the nested payload.
module _ (a : Ask) (f : Bytes → Bool) (c : ℕ) (b : Bytes) where
  pub every_container : (g : Bool) → c ≡ 5 → g ≡ f b → g ≡ every_part a f (kind_of c) b
  unfolding every_part kind_of
  every_container g q h = rw q h

  pub every_number : (g : Bool) → c ≡ 2 → g ≡ a.number b → g ≡ every_part a f (kind_of c) b
  unfolding every_part kind_of
  every_number g q h = rw q h

  pub every_extension : (g : Bool) → c ≡ 6 → g ≡ a.extension b → g ≡ every_part a f (kind_of c) b
  unfolding every_part kind_of
  every_extension g q h = rw q h

-- Any other passes, and so does a number or an extension that is free.
pub every_other : (a : Ask) (f : Bytes → Bool) (c : ℕ) (b : Bytes) → (c ≡ 5 → ⊥) → (c ≡ 2 → true ≡ a.number b) → (c ≡ 6 → true ≡ a.extension b) →
    true ≡ every_part a f (kind_of c) b
unfolding every_part kind_of
every_other a f zero b h n e = refl
every_other a f (suc zero) b h n e = refl
every_other a f (suc (suc zero)) b h n e = n refl
every_other a f (suc (suc (suc zero))) b h n e = refl
every_other a f (suc (suc (suc (suc zero)))) b h n e = refl
every_other a f (suc (suc (suc (suc (suc zero))))) b h n e = absurd (h refl)
every_other a f (suc (suc (suc (suc (suc (suc zero)))))) b h n e = e refl
every_other a f (suc (suc (suc (suc (suc (suc (suc c))))))) b h n e = refl

-- Parts in turn: the answer for all of them is that for those that are left.
module _ (a : Ask) (f : Bytes → Bool) (all : Bool) (ps : List Placed) (inv : all ≡ every_parts a f (map part_shown ps)) where
  module _ (q : Placed) (qs : List Placed) (e : ps ≡ q ∷ qs) (c : ℕ) (hc : c ≡ code_of q.jentry) (g : Bool)
      (hg : g ≡ every_part a f (kind_of c) q.bytes) where
    every_turn : all ≡ (g && every_parts a f (map part_shown qs))
    unfolding every_parts
    every_turn = inv ∙ rw (e, ← hc, ← hg)

    pub every_stop : g ≡ false → false ≡ all
    every_stop q = rw (every_turn, q)

    pub every_more : g ≡ true → all ≡ every_parts a f (map part_shown qs)
    every_more q = rw (every_turn, q)

  pub every_end : ps ≡ [] → true ≡ all
  unfolding every_parts
  every_end e = rw (inv, e)

-- A record, down to `k` levels.
pub every_none : (a : Ask) (k : ℕ) (s : Bytes) → k ≡ 0 → true ≡ every_at a k s
unfolding every_at
every_none a k s z = rw z

every_some : (a : Ask) (k : ℕ) (s : Bytes) (h : Result Header Refusal) → (k ≡ 0 → ⊥) → h ≡ header s → every_at a k s ≡ every_by a (every_at a (k - 1)) h s
unfolding every_at
every_some a zero s h z hh = absurd (z refl)
every_some a (suc k) s h z hh = let e : suc k - 1 ≡ k = omega arith in rw (e, hh)

module _ (a : Ask) (k : ℕ) (s : Bytes) (h : Result Header Refusal) (z : k ≡ 0 → ⊥) (hh : h ≡ header s) where
  pub every_refused : (r : Refusal) → h ≡ Err r → true ≡ every_at a k s
  every_refused r q = rw (every_some a k s h z hh, q)

  module _ (n : ℕ) where
    -- The one part of a scalar record is asked as a part below which no level is left.
    pub every_scalar : (e c l : ℕ) (b : Bytes) (g : Bool) → h ≡ Ok (Scalar n) → e ≡ entry_at s 0 → l ≡ length_of e → c ≡ code_of e →
        b ≡ take l (drop 8 s) → g ≡ every_part a (every_at a 0) (kind_of c) b → g ≡ every_at a k s
    unfolding every_parts every_at parts_at
    every_scalar e c l b g q he hl hc hb hg =
        let le : length_of (entry_at s 0) ≡ l = cc in
        let ce : code_of (entry_at s 0) ≡ c = cc in
        rw (every_some a k s h z hh, q, le, ce, ← hb, and-true (every_part a (every_at a 0) (kind_of c) b)) hg

    pub every_array : (g : Bool) → h ≡ Ok (Array n) → g ≡ every_parts a (every_at a (k - 1)) (parts_at s 0 (start_of n) n) → g ≡ every_at a k s
    every_array g q hg = rw (every_some a k s h z hh, q) hg

    module _ (r : Bool) (q : h ≡ Ok (Object n)) (hr : r ≡ a.names (texts (parts_at s 0 (start_of (n + n)) n))) where
      pub every_object : (g : Bool) → r ≡ true → g ≡ every_parts a (every_at a (k - 1)) (parts_at s 0 (start_of (n + n)) (n + n)) →
          g ≡ every_at a k s
      every_object g t hg = rw (every_some a k s h z hh, q, ← hr, t) hg

      pub every_misnamed : r ≡ false → false ≡ every_at a k s
      every_misnamed t = rw (every_some a k s h z hh, q, ← hr, t)
