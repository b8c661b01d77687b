-- Laws of the check, in the terms of its code: each says what one way through a function comes to.
use Prim.Native.Nat.{ℕ, zero, suc, ◌+◌, ◌*◌, ◌-◌, ◌/◌, ◌%◌, ◌^◌, ◌<◌, ◌≤◌}
use native.Mathlib.Omega.{arith}
use native.Mathlib.Nat.{add-zero}
use mathlib.Core.Path.{◌≡◌, refl, sym, ap, ◌∙◌}
use mathlib.Core.Bool.{Bool, true, false, not, cond, ◌&&◌, ◌||◌, and-true}
use mathlib.Core.List.{List, [], ◌∷◌}
use lib.Dec.{T, leb, ltb, eqb, nltb→le}
use lib.ListN.{length, take, drop, length-drop}
use lib.Seq.{take_all, drop-drop}
use borrow.Author.Tests.{lt-ltb, le-ltb, le-leb, lt-leb, eq-eqb, ne_eqb}
use Rattle.layout.specs.Bytes.{Bytes, word}
use Rattle.layout.specs.Answer.{Answer, gives, refused, ◌>>=◌, require}
use Rattle.layout.specs.Entry.{top_of, code_of, length_of, entry_good, sort_of, count_of, entry_at, kind_of, lengths}
use Rattle.layout.specs.Text.{utf8}
use Rattle.layout.specs.Number.{listed}
use Rattle.layout.specs.Tree.{Tree, array, object, Items, pair}
use Rattle.layout.specs.Encode.{Part}
use Rattle.layout.specs.Read.{header, entry_ok, text, number_in, payload_in, items_in, names_in, parts, array_in, object_in, scalar_in, container_in, nested, root_in, read}
use Rattle.layout.specs.Place.{table_ok, part_at, parts_at, body}
use Rattle.layout.specs.Check.{checked, nesting}
use Rattle.layout.specs.Pass.{and_then, item_checked, items_checked}
use Rattle.layout.specs.declared.refusal.Refusal.{Refusal}
use Rattle.layout.specs.declared.refusal.Refusal.TheVariants.{Short, Layout, Limit, Text, Number as NotListed}
use Rattle.layout.specs.declared.util.Header.{Header}
use Rattle.layout.specs.declared.util.Header.TheVariants.{Array, Object, Scalar}
use Rattle.layout.proofs.Level.{kinds, Named, string_kind, parts_named}
use Rattle.layout.proofs.Fields.{code_lt, word_at_drop}
use Rattle.layout.proofs.Decoding.{read_is}
use Rattle.layout.proofs.Places.{entry_of_word, entry_is, parts_is}
use Rattle.std.specs.Prelude.{Ok, Err, Result}
use native.Mathlib.Decide.{dec_le}

pub one_less : (n i : ℕ) → i < n → n - i ≡ suc (n - (i + 1))
one_less n i h = omega arith

-- The table.

pub table_step : (s : Bytes) (m i n : ℕ) → i < n →
    table_ok s m i (n - i) ≡ (entry_ok (ltb i m) (entry_at s i) && table_ok s m (i + 1) (n - (i + 1)))
unfolding table_ok
table_step s m i n h = rw (one_less n i h)

pub lengths_step : (s : Bytes) (i n : ℕ) → i < n → lengths s i (n - i) ≡ length_of (entry_at s i) + lengths s (i + 1) (n - (i + 1))
unfolding lengths
lengths_step s i n h = rw (one_less n i h)

module _ (s : Bytes) (m i n e : ℕ) (g : Bool) (lt : i < n) (inv : table_ok s m 0 n ≡ table_ok s m i (n - i))
    (he : e ≡ entry_at s i) (hg : g ≡ entry_ok (ltb i m) e) where
  -- An entry that is not good spoils the table.
  pub table_bad : (x : Bool) → g ≡ false → false ≡ (table_ok s m 0 n && x)
  table_bad x hf = cc (table_step s m i n lt)

  -- A good one leaves the rest to be asked.
  pub table_more : g ≡ true → table_ok s m 0 n ≡ table_ok s m (i + 1) (n - (i + 1))
  table_more hf = cc (table_step s m i n lt)

pub lengths_more : (s : Bytes) (i n sum e l : ℕ) → i < n → lengths s 0 n ≡ sum + lengths s i (n - i) → e ≡ entry_at s i → l ≡ length_of e →
    lengths s 0 n ≡ sum + l + lengths s (i + 1) (n - (i + 1))
lengths_more s i n sum e l lt inv he hl =
    let le : l ≡ length_of (entry_at s i) = cc in
    omega (arith, lengths_step s i n lt)

pub table_end : (s : Bytes) (m i n sum x : ℕ) → n ≤ i → table_ok s m 0 n ≡ table_ok s m i (n - i) → lengths s 0 n ≡ sum + lengths s i (n - i) →
    eqb sum x ≡ (table_ok s m 0 n && eqb (lengths s 0 n) x)
unfolding table_ok lengths
table_end s m i n sum x le inv hl =
    let z : n - i ≡ 0 = omega arith in
    let ht : table_ok s m 0 n ≡ true = inv ∙ ap (table_ok s m i) z in
    let hs : lengths s 0 n ≡ sum = hl ∙ ap (λ (k : ℕ). sum + lengths s i k) z ∙ add-zero sum in
    rw (ht, hs)

-- Answers without their values.

pub checked_bind : {A B : Type 0} (m : Answer A) (f : A → Answer B) (c : Result (Unit {0}) Refusal) → ((a : A) → checked (f a) ≡ c) →
    checked (m >>= f) ≡ and_then (checked m) c
unfolding ◌>>=◌
checked_bind (gives a) f c h = h a
checked_bind (refused r) f c h = refl

pub checked_last : {A B : Type 0} (m : Answer A) (f : A → B) → checked (m >>= λ a. gives (f a)) ≡ checked m
unfolding ◌>>=◌
checked_last (gives a) f = refl
checked_last (refused r) f = refl

-- One item.

-- What is asked of an entry whose top bit is clear, by its code.
abbrev code_test : ℕ → ℕ → Bool
code_test c n = not (eqb c 7) && (not (eqb c 0 || (eqb c 3 || eqb c 4)) || eqb n 0)

-- The kinds that have no payload.
no_payload : (f : Bytes → Answer Tree) (b : Bytes) (n c : ℕ) → c < 8 →
    (c ≡ 1 → ⊥) → (c ≡ 2 → ⊥) → (c ≡ 5 → ⊥) → (c ≡ 6 → ⊥) → (c ≡ 7 → ⊥) →
    cond (code_test c n) (checked (payload_in f (kind_of c) b)) (Err Layout) ≡ cond (eqb n 0) (Ok tt) (Err Layout)
unfolding kind_of
no_payload f b n zero l p q r s t = refl
no_payload f b n (suc zero) l p q r s t = absurd (p refl)
no_payload f b n (suc (suc zero)) l p q r s t = absurd (q refl)
no_payload f b n (suc (suc (suc zero))) l p q r s t = refl
no_payload f b n (suc (suc (suc (suc zero)))) l p q r s t = refl
no_payload f b n (suc (suc (suc (suc (suc zero))))) l p q r s t = absurd (r refl)
no_payload f b n (suc (suc (suc (suc (suc (suc zero)))))) l p q r s t = absurd (s refl)
no_payload f b n (suc (suc (suc (suc (suc (suc (suc zero))))))) l p q r s t = absurd (t refl)
no_payload f b n (suc (suc (suc (suc (suc (suc (suc (suc c)))))))) l p q r s t = let z : ⊥ = omega arith in absurd z

module _ (f : Bytes → Answer Tree) (e : ℕ) (b : Bytes) where
  pub item_top : (e / 2 ^ 31 ≡ 0 → ⊥) → Err Layout ≡ item_checked f e b
  unfolding item_checked entry_ok entry_good top_of
  item_top h = rw (ne_eqb (e / 2 ^ 31) 0 h)

  module _ (z : e / 2 ^ 31 ≡ 0) (c : ℕ) (hc : c ≡ code_of e) where
    by_code : item_checked f e b ≡ cond (code_test c (length_of e)) (checked (payload_in f (kind_of c) b)) (Err Layout)
    unfolding item_checked entry_ok entry_good top_of
    by_code = rw (z, ← hc, and-true (not (eqb c 7)))

    module _ (g : Bool) where
      pub item_text : c ≡ 1 → g ≡ utf8 b → g ≡ true → Ok tt ≡ item_checked f e b
      unfolding kind_of text ◌>>=◌ require
      item_text k h q = rw (by_code, k, ← h, q)

      pub item_no_text : c ≡ 1 → g ≡ utf8 b → g ≡ false → Err Text ≡ item_checked f e b
      unfolding kind_of text ◌>>=◌ require
      item_no_text k h q = rw (by_code, k, ← h, q)

      pub item_number : c ≡ 2 → g ≡ listed b → g ≡ true → Ok tt ≡ item_checked f e b
      unfolding kind_of number_in ◌>>=◌ require
      item_number k h q = rw (by_code, k, ← h, q)

      pub item_no_number : c ≡ 2 → g ≡ listed b → g ≡ false → Err NotListed ≡ item_checked f e b
      unfolding kind_of number_in ◌>>=◌ require
      item_no_number k h q = rw (by_code, k, ← h, q)

    pub item_container : c ≡ 5 → (res : Result (Unit {0}) Refusal) → res ≡ checked (f b) → res ≡ item_checked f e b
    unfolding kind_of
    item_container k res h = rw (by_code, k) h

    pub item_extension : c ≡ 6 → Ok tt ≡ item_checked f e b
    unfolding kind_of
    item_extension k = rw (by_code, k)

    pub item_unused : c ≡ 7 → Err Layout ≡ item_checked f e b
    item_unused k = rw (by_code, k)

    module _ (p : c ≡ 1 → ⊥) (q : c ≡ 2 → ⊥) (r : c ≡ 5 → ⊥) (s : c ≡ 6 → ⊥) (t : c ≡ 7 → ⊥) (l : ℕ) (hl : l ≡ length_of e) where
      empty : item_checked f e b ≡ cond (eqb l 0) (Ok tt) (Err Layout)
      empty = let small : c < 8 = rw hc (code_lt e) in by_code ∙ rw (no_payload f b (length_of e) c small p q r s t, hl)

      pub item_empty : l ≡ 0 → Ok tt ≡ item_checked f e b
      item_empty k = rw (empty, k)

      pub item_not_empty : (l ≡ 0 → ⊥) → Err Layout ≡ item_checked f e b
      item_not_empty k = rw (empty, ne_eqb l 0 k)

-- The payloads in turn.

pub items_cons : (f : Bytes → Answer Tree) (p : Part) (ps : List Part) →
    checked (items_in f (p ∷ ps)) ≡ and_then (checked (payload_in f p.kind p.bytes)) (checked (items_in f ps))
items_cons f p ps = checked_bind (payload_in f p.kind p.bytes) _ (checked (items_in f ps)) (λ t. checked_last (items_in f ps) _)

pub parts_step : (s : Bytes) (i p n : ℕ) → i < n →
    parts_at s i p (n - i) ≡ part_at s i p ∷ parts_at s (i + 1) (p + length_of (entry_at s i)) (n - (i + 1))
unfolding parts_at
parts_step s i p n h = rw (one_less n i h)

-- A container behind its header.

module _ (f : Bytes → Answer Tree) (s : Bytes) (n names : ℕ) (four : 4 ≤ length s) where
  body_is : checked (body f n names (drop 4 s))
      ≡ cond (ltb (length s) (4 + 4 * n)) (Err Short)
      (cond (table_ok s names 0 n && eqb (lengths s 0 n) (length s - (4 + 4 * n))) (checked (items_in f (parts_at s 0 (4 + 4 * n) n))) (Err Layout))
  unfolding body ◌>>=◌
  body_is =
      rw (parts_is n names s four)
      (go (ltb (length s) (4 + 4 * n)) (table_ok s names 0 n && eqb (lengths s 0 n) (length s - (4 + 4 * n))))
    where
      go : (a b : Bool) →
          checked (cond a (refused Short) (cond b (gives (parts_at s 0 (4 + 4 * n) n)) (refused Layout)) >>= items_in f)
          ≡ cond a (Err Short) (cond b (checked (items_in f (parts_at s 0 (4 + 4 * n) n))) (Err Layout))
      go true b = refl
      go false true = refl
      go false false = refl

  pub body_short : length s < 4 + 4 * n → Err Short ≡ checked (body f n names (drop 4 s))
  body_short h = rw (body_is, lt-ltb (length s) (4 + 4 * n) h)

  module _ (h : 4 + 4 * n ≤ length s) (g : Bool) (hg : g ≡ (table_ok s names 0 n && eqb (lengths s 0 n) (length s - (4 + 4 * n)))) where
    pub body_layout : g ≡ false → Err Layout ≡ checked (body f n names (drop 4 s))
    body_layout q = rw (body_is, le-ltb (length s) (4 + 4 * n) h, ← hg, q)

    pub body_items : g ≡ true → (res : Result (Unit {0}) Refusal) → res ≡ checked (items_in f (parts_at s 0 (4 + 4 * n) n)) → res ≡ checked (body f n names (drop 4 s))
    body_items q res hr = rw (body_is, le-ltb (length s) (4 + 4 * n) h, ← hg, q) hr

array_checked : (f : Bytes → Answer Tree) (n : ℕ) (b : Bytes) → checked (array_in f n b) ≡ checked (body f n 0 b)
unfolding body ◌>>=◌
array_checked f n b = go (parts n 0 b)
  where
    go : (m : Answer (List Part)) → checked (m >>= λ ps. items_in f ps >>= λ ts. gives (array ts)) ≡ checked (m >>= items_in f)
    go (gives ps) = checked_last (items_in f ps) array
    go (refused r) = refl

-- Names are checked as strings are.
names_checked : (f : Bytes → Answer Tree) (n : ℕ) (ps : List Part) → Named n (kinds ps) → {C : Type 0} (g : List Bytes → Items → C) →
    checked (names_in (take n ps) >>= λ ns. items_in f (drop n ps) >>= λ ts. gives (g ns ts)) ≡ checked (items_in f ps)
unfolding ◌>>=◌
names_checked f zero ps h g = checked_last (items_in f ps) (g [])
names_checked f (suc n) [] h g = refl
names_checked f (suc n) (p ∷ ps) h g =
    rw (items_cons f p ps, string_kind p.kind h.0) (go (text p.bytes) (names_in (take n ps)) (λ m. names_checked f n ps h.1 (λ ns ts. g (m ∷ ns) ts)))
  where
    go : (t : Answer Bytes) (m : Answer (List Bytes)) →
        ((x : Bytes) → checked (m >>= λ ns. items_in f (drop n ps) >>= λ ts. gives (g (x ∷ ns) ts)) ≡ checked (items_in f ps)) →
        checked ((t >>= λ x. m >>= λ ns. gives (x ∷ ns)) >>= λ ns. items_in f (drop n ps) >>= λ ts. gives (g ns ts))
        ≡ and_then (checked (t >>= λ x. gives (Tree.string x))) (checked (items_in f ps))
    go (refused r) m q = refl
    go (gives x) (refused r) q = q x
    go (gives x) (gives ns) q = q x

object_checked : (f : Bytes → Answer Tree) (n : ℕ) (b : Bytes) → checked (object_in f n b) ≡ checked (body f (n + n) n b)
unfolding body ◌>>=◌
object_checked f n b = go (parts (n + n) n b) (λ ps. parts_named (n + n) n b ps)
  where
    go : (m : Answer (List Part)) → ((ps : List Part) → m ≡ gives ps → Named n (kinds ps)) →
        checked (m >>= λ ps. names_in (take n ps) >>= λ ns. items_in f (drop n ps) >>= λ ts. gives (object (pair ns ts))) ≡ checked (m >>= items_in f)
    go (gives ps) h = names_checked f n ps (h ps refl) (λ ns ts. object (pair ns ts))
    go (refused r) h = refl

-- Headers.

-- What a header tells of its record.
abbrev Told : Bytes → Result Header Refusal → Type 0
Told s (Err r) = Unit {0}
Told s (Ok (Array n)) = (4 ≤ length s) × (n < 2 ^ 29)
Told s (Ok (Object n)) = (4 ≤ length s) × (n < 2 ^ 29)
Told s (Ok (Scalar n)) = (4 ≤ length s) × (n < 2 ^ 29)

told : (s : Bytes) → Told s (header s)
unfolding header count_of
told s = go (ltb (length s) 4) (eqb (sort_of (word s)) 4) (eqb (sort_of (word s)) 2) (eqb (sort_of (word s)) 1) (nltb→le (length s) 4)
  where
    n : ℕ
    n = word s % 2 ^ 29

    small : n < 2 ^ 29
    small = omega arith

    go : (a x y z : Bool) → (T (not a) → 4 ≤ length s) →
        Told s (cond a (Err Short) (cond x (Ok (Array n)) (cond y (Ok (Object n)) (cond z (Ok (Scalar n)) (Err Layout)))))
    go true x y z h = tt
    go false true y z h = (h tt, small)
    go false false true z h = (h tt, small)
    go false false false true h = (h tt, small)
    go false false false false h = tt

module _ (s : Bytes) (h : Result Header Refusal) (hh : h ≡ header s) (n : ℕ) where
  pub told_array : h ≡ Ok (Array n) → (4 ≤ length s) × (n < 2 ^ 29)
  told_array q = rw (sym hh ∙ q) at (told s)

  pub told_object : h ≡ Ok (Object n) → (4 ≤ length s) × (n < 2 ^ 29)
  told_object q = rw (sym hh ∙ q) at (told s)

  pub told_scalar : h ≡ Ok (Scalar n) → (4 ≤ length s) × (n < 2 ^ 29)
  told_scalar q = rw (sym hh ∙ q) at (told s)

-- A nested container by its header.
pub nested_refused : (a : ℕ) (s : Bytes) (h : Result Header Refusal) → h ≡ header s → (r : Refusal) → h ≡ Err r → Err r ≡ checked (nested a s)
unfolding nested
nested_refused zero s h hh r q = rw (sym hh ∙ q)
nested_refused (suc a) s h hh r q = rw (sym hh ∙ q)

pub nested_scalar : (a : ℕ) (s : Bytes) (h : Result Header Refusal) → h ≡ header s → (n : ℕ) → h ≡ Ok (Scalar n) → Err Layout ≡ checked (nested a s)
unfolding nested
nested_scalar zero s h hh n q = rw (sym hh ∙ q)
nested_scalar (suc a) s h hh n q = rw (sym hh ∙ q)

module _ (a : ℕ) (s : Bytes) (h : Result Header Refusal) (hh : h ≡ header s) (n : ℕ) where
  pub deep_array : h ≡ Ok (Array n) → a ≡ 0 → Err Limit ≡ checked (nested a s)
  unfolding nested
  deep_array q z = rw (z, sym hh ∙ q)

  pub deep_object : h ≡ Ok (Object n) → a ≡ 0 → Err Limit ≡ checked (nested a s)
  unfolding nested
  deep_object q z = rw (z, sym hh ∙ q)

nested_some : (a : ℕ) (s : Bytes) (h : Result Header Refusal) → h ≡ header s → (a ≡ 0 → ⊥) → nested a s ≡ container_in (nested (a - 1)) h (drop 4 s)
unfolding nested
nested_some zero s h hh z = absurd (z refl)
nested_some (suc a) s h hh z = let e : suc a - 1 ≡ a = omega arith in rw (e, hh)

module _ (a : ℕ) (s : Bytes) (h : Result Header Refusal) (hh : h ≡ header s) (n : ℕ) (z : a ≡ 0 → ⊥) (res : Result (Unit {0}) Refusal) (b : Bytes) (hb : b ≡ s) where
  pub nested_array : h ≡ Ok (Array n) → res ≡ checked (body (nested (a - 1)) n 0 (drop 4 b)) → res ≡ checked (nested a s)
  nested_array q hr = rw (nested_some a s h hh z, q, array_checked (nested (a - 1)) n (drop 4 s)) (rw hb at hr)

  pub nested_object : h ≡ Ok (Object n) → res ≡ checked (body (nested (a - 1)) (n + n) n (drop 4 b)) → res ≡ checked (nested a s)
  nested_object q hr = rw (nested_some a s h hh z, q, object_checked (nested (a - 1)) n (drop 4 s)) (rw hb at hr)

-- A scalar record.

container : (c : ℕ) (b : Bytes) → c ≡ 5 → checked (payload_in (λ _. refused Layout) (kind_of c) b) ≡ Err Layout
unfolding kind_of
container c b h = rw h

-- Its item is checked as any other, but for a container.
bare_item : (f g : Bytes → Answer Tree) (c : ℕ) (b : Bytes) → (c ≡ 5 → ⊥) → payload_in f (kind_of c) b ≡ payload_in g (kind_of c) b
unfolding kind_of
bare_item f g zero b h = refl
bare_item f g (suc zero) b h = refl
bare_item f g (suc (suc zero)) b h = refl
bare_item f g (suc (suc (suc zero))) b h = refl
bare_item f g (suc (suc (suc (suc zero)))) b h = refl
bare_item f g (suc (suc (suc (suc (suc zero))))) b h = absurd (h refl)
bare_item f g (suc (suc (suc (suc (suc (suc zero)))))) b h = refl
bare_item f g (suc (suc (suc (suc (suc (suc (suc c))))))) b h = refl

abbrev no_container : Bytes → Answer Tree
no_container b = refused Layout

scalar_is : (n : ℕ) (s : Bytes) → checked (scalar_in n (drop 4 s))
    ≡ cond (eqb n 0)
    (cond (leb 4 (length s - 4))
    (cond (entry_ok false (entry_at s 0))
    (cond (eqb (length_of (entry_at s 0)) (length s - 8)) (checked (payload_in no_container (kind_of (code_of (entry_at s 0))) (drop 8 s))) (Err Layout))
    (Err Layout)) (Err Short)) (Err Layout)
unfolding entry_at ◌>>=◌ require
scalar_is n s =
    let d : drop 4 (drop 4 s) ≡ drop 8 s = drop-drop 4 4 s in
    let l : length (drop 4 s) ≡ length s - 4 = length-drop 4 s in
    let l₂ : length (drop 8 s) ≡ length s - 8 = length-drop 8 s in
    rw (d, l, l₂, word_at_drop s 4, entry_is false (word (drop 4 s)))
    (go (eqb n 0) (leb 4 (length s - 4)) (entry_ok false (word (drop 4 s))) (eqb (length_of (word (drop 4 s))) (length s - 8)) refl)
  where
    w : ℕ
    w = word (drop 4 s)

    go : (z a p q : Bool) → eqb (length_of w) (length s - 8) ≡ q →
        checked (require z Layout >>= λ _. require a Short >>= λ _. cond p (gives (entry_of_word w)) (refused Layout) >>= λ e.
        require (eqb e.len (length s - 8)) Layout >>= λ _. payload_in no_container e.kind (drop 8 s))
        ≡ cond z (cond a (cond p (cond q (checked (payload_in no_container (kind_of (code_of w)) (drop 8 s))) (Err Layout)) (Err Layout)) (Err Short)) (Err Layout)
    go false a p q e = refl
    go true false p q e = refl
    go true true false q e = refl
    go true true true true e = rw e
    go true true true false e = rw e

module _ (n : ℕ) (s : Bytes) where
  pub scalar_count : (n ≡ 0 → ⊥) → Err Layout ≡ checked (scalar_in n (drop 4 s))
  scalar_count h = rw (scalar_is n s, ne_eqb n 0 h)

  module _ (z : n ≡ 0) where
    pub scalar_short : length s < 8 → Err Short ≡ checked (scalar_in n (drop 4 s))
    scalar_short h =
        let l : leb 4 (length s - 4) ≡ false = lt-leb 4 (length s - 4) (omega arith) in
        rw (scalar_is n s, z, l)

    module _ (le : 8 ≤ length s) (e c l : ℕ) (he : e ≡ entry_at s 0) (hc : c ≡ code_of e) (hl : l ≡ length_of e) where
      inner : checked (scalar_in n (drop 4 s))
          ≡ cond (entry_ok false e) (cond (eqb l (length s - 8)) (checked (payload_in no_container (kind_of c) (drop 8 s))) (Err Layout)) (Err Layout)
      inner =
          let q : leb 4 (length s - 4) ≡ true = le-leb 4 (length s - 4) (omega arith) in
          let hl₁ : length_of (entry_at s 0) ≡ l = cc in
          let hc₁ : code_of (entry_at s 0) ≡ c = cc in
          let hg₁ : entry_ok false (entry_at s 0) ≡ entry_ok false e = cc in
          rw (scalar_is n s, z, q, hl₁, hc₁, hg₁)

      pub scalar_container : c ≡ 5 → Err Layout ≡ checked (scalar_in n (drop 4 s))
      scalar_container k = rw (inner, container c (drop 8 s) k) (sym (both (entry_ok false e) (eqb l (length s - 8))))
        where
          both : (x y : Bool) → cond {A = Result (Unit {0}) Refusal} x (cond y (Err Layout) (Err Layout)) (Err Layout) ≡ Err Layout
          both true true = refl
          both true false = refl
          both false y = refl

      pub scalar_length : (l ≡ length s - 8 → ⊥) → Err Layout ≡ checked (scalar_in n (drop 4 s))
      scalar_length k = rw (inner, ne_eqb l (length s - 8) k) (sym (same (entry_ok false e)))
        where
          same : (x : Bool) → cond {A = Result (Unit {0}) Refusal} x (Err Layout) (Err Layout) ≡ Err Layout
          same true = refl
          same false = refl

      -- The one item, whose payload is the rest.
      pub scalar_item : (c ≡ 5 → ⊥) → l ≡ length s - 8 → (res : Result (Unit {0}) Refusal) → res ≡ items_checked (nested 0) s 0 8 (1 - 0) →
          res ≡ checked (scalar_in n (drop 4 s))
      unfolding items_checked item_checked
      scalar_item k ke res hr =
          let whole : take l (drop 8 s) ≡ drop 8 s = take_all l (drop 8 s) (rw length-drop (omega arith)) in
          let fits : ltb (length s) (8 + l) ≡ false = le-ltb (length s) (8 + l) (omega arith) in
          let ends : eqb (8 + l) (length s) ≡ true = eq-eqb (8 + l) (length s) (omega arith) in
          let bare : payload_in (nested 0) (kind_of c) (drop 8 s) ≡ payload_in no_container (kind_of c) (drop 8 s) =
          bare_item (nested 0) no_container c (drop 8 s) k in
          hr ∙ rw (← he, ← hl, ← hc, fits, ends, whole, inner, eq-eqb l (length s - 8) ke, bare)
          (last (cond (entry_ok false e) (checked (payload_in no_container (kind_of c) (drop 8 s))) (Err Layout)))
        where
          last : (a : Result (Unit {0}) Refusal) → and_then a (Ok tt) ≡ a
          last (Ok a) = refl
          last (Err r) = refl

-- A whole record.

pub read_long : (s : Bytes) → 65536 < length s → Err Limit ≡ checked (read s)
unfolding ◌>>=◌ require
read_long s h = rw (read_is s, lt-leb (length s) 65536 h)

root_is : (s : Bytes) → length s ≤ 65536 → read s ≡ root_in (header s) (drop 4 s)
unfolding ◌>>=◌ require
root_is s h = rw (read_is s, le-leb (length s) 65536 h)

module _ (s : Bytes) (le : length s ≤ 65536) (h : Result Header Refusal) (hh : h ≡ header s) where
  pub root_scalar : (n : ℕ) (res : Result (Unit {0}) Refusal) → h ≡ Ok (Scalar n) → res ≡ checked (scalar_in n (drop 4 s)) → res ≡ checked (read s)
  root_scalar n res q hr = rw (root_is s le, sym hh ∙ q) hr

  pub root_refused : {r : Refusal} → h ≡ Err r → Err r ≡ checked (read s)
  root_refused q = rw (root_is s le, sym hh ∙ q)

  -- Any other is a nested container that may have all levels.
  pub root_nested : ((n : ℕ) → h ≡ Ok (Scalar n) → ⊥) → (res : Result (Unit {0}) Refusal) → res ≡ checked (nested 64 s) → res ≡ checked (read s)
  unfolding nested
  root_nested q res hr = hr ∙ ap checked (go (header s) (λ n e. q n (hh ∙ e)) (drop 4 s) ∙ sym (root_is s le))
    where
      go : (h : Result Header Refusal) → ((n : ℕ) → h ≡ Ok (Scalar n) → ⊥) → (b : Bytes) → container_in (nested 63) h b ≡ root_in h b
      go (Err r) q b = refl
      go (Ok (Array n)) q b = refl
      go (Ok (Object n)) q b = refl
      go (Ok (Scalar n)) q b = absurd (q n refl)

-- A readable record has a header.
pub readable_headed : {C : Type 0} (s : Bytes) {c : Result (Unit {0}) Refusal} → c ≡ checked (read s) → c ≡ Ok tt
    → {h : Result Header Refusal} → h ≡ header s → {r : Refusal} → h ≡ Err r → C
readable_headed {C} s {c} hc q {h} hh {r} e = by (dec_le (length s) 65536)
  where
    never : {x : Refusal} → Err x ≡ checked (read s) → C
    never {x} z = let y : Err x ≡ Ok tt = z ∙ sym hc ∙ q in cc

    by : Dec (length s ≤ 65536) → C
    by (yes le) = never (root_refused s le h hh e)
    by (no k) = never (read_long s (omega arith))

-- The same of the check that tells how deep a record nests.
pub nested_headed : {C : Type 0} (s : Bytes) {c : Result Bool Refusal} → c ≡ nesting (read s) → {fits : Bool} → c ≡ Ok fits
    → {h : Result Header Refusal} → h ≡ header s → {r : Refusal} → h ≡ Err r → C
nested_headed {C} s {c} hc {fits} q hh e = by (read s) refl (sym hc ∙ q)
  where
    by : (m : Answer Tree) → read s ≡ m → nesting m ≡ Ok fits → C
    by (gives t) k z = readable_headed s refl (ap checked k) hh e
    by (refused r) k z = cc
