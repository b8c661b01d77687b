-- Laws of the check in one pass: its loops, and that it comes to rules 5 and 6.
use Prim.Native.Nat.{ℕ, zero, suc, ◌+◌, ◌*◌, ◌-◌, ◌/◌, ◌^◌, ◌<◌, ◌≤◌}
use native.Mathlib.Omega.{arith}
use native.Mathlib.Nat.{add-zero, zero-add, sub-zero}
use mathlib.Core.Path.{◌≡◌, refl, sym, ap, ◌∙◌}
use mathlib.Core.Bool.{Bool, true, false, not, cond, ◌&&◌, ◌||◌}
use lib.Dec.{ltb, eqb}
use lib.ListN.{length, take, drop}
use lib.Seq.{drop-drop}
use borrow.Author.Tests.{eqb-true, ltb-false, lt-ltb, le-ltb, eq-eqb, ne_eqb}
use Rattle.layout.specs.Bytes.{Bytes}
use Rattle.layout.specs.Answer.{Answer, ◌>>=◌, require}
use Rattle.layout.specs.Entry.{top_of, code_of, length_of, entry_at, kind_of, lengths, entry_good}
use Rattle.layout.specs.Text.{ascii}
use Rattle.layout.specs.Tree.{Tree}
use Rattle.layout.specs.Read.{entry_ok, text, items_in}
use Rattle.layout.specs.Place.{table_ok, part_at, parts_at, body}
use Rattle.layout.specs.Check.{checked}
use Rattle.layout.specs.Pass.{and_then, item_checked, items_checked, names_end, payload_refusal}
use Rattle.layout.specs.declared.refusal.Refusal.{Refusal}
use Rattle.layout.specs.declared.refusal.Refusal.TheVariants.{Layout}
use Rattle.layout.proofs.Places.{and_both, table_head, table_split, lengths_split}
use Rattle.layout.proofs.Texts.{ascii_text, ascii_split}
use Rattle.layout.proofs.Checks.{one_less, items_cons, body_layout, body_items}
use Rattle.std.specs.Prelude.{Ok, Err, Some, None, Result, Option}

-- The items in turn.

module _ (f : Bytes → Answer Tree) (s : Bytes) (all : Result (Unit {0}) Refusal) (i p n : ℕ) (inv : all ≡ items_checked f s i p (n - i)) where
  module _ (lt : i < n) (e l : ℕ) (he : e ≡ entry_at s i) (hl : l ≡ length_of e) where
    turn : all ≡ cond (ltb (length s) (p + l)) (Err Layout)
        (and_then (item_checked f e (take l (drop p s))) (items_checked f s (i + 1) (p + l) (n - (i + 1))))
    unfolding items_checked
    turn = inv ∙ rw (one_less n i lt, hl, he)

    -- A payload that goes past the bytes.
    pub pass_long : length s < p + l → Err Layout ≡ all
    pass_long h = rw (turn, lt-ltb (length s) (p + l) h)

    -- After the payload s[p .. p + l] was checked with the answer `res`.
    module _ (le : p + l ≤ length s) (res : Result (Unit {0}) Refusal) (hr : res ≡ item_checked f e (take (p + l - p) (drop p s))) where
      checked_turn : all ≡ and_then res (items_checked f s (i + 1) (p + l) (n - (i + 1)))
      checked_turn = let w : p + l - p ≡ l = omega arith in turn ∙ rw (le-ltb (length s) (p + l) le, hr, w)

      pub pass_stop : (r : Refusal) → res ≡ Err r → Err r ≡ all
      pass_stop r q = rw (checked_turn, q)

      pub pass_more : res ≡ Ok tt → all ≡ items_checked f s (i + 1) (p + l) (n - (i + 1))
      pass_more q = rw (checked_turn, q)

  module _ (le : n ≤ i) where
    last : all ≡ cond (eqb p (length s)) (Ok tt) (Err Layout)
    unfolding items_checked
    last = let z : n - i ≡ 0 = omega arith in inv ∙ rw z

    pub pass_end : p ≡ length s → Ok tt ≡ all
    pass_end q = rw (last, eq-eqb p (length s) q)

    pub pass_short : (p ≡ length s → ⊥) → Err Layout ≡ all
    pass_short q = rw (last, ne_eqb p (length s) q)

-- The names in turn.

module _ (s : Bytes) (all : Option ℕ) (i p n : ℕ) (inv : all ≡ names_end s i p (n - i)) where
  module _ (lt : i < n) (e : ℕ) (he : e ≡ entry_at s i) where
    name_turn : all ≡ cond (eqb (e / 2 ^ 28) 1) (names_end s (i + 1) (p + length_of e) (n - (i + 1))) None
    unfolding names_end
    name_turn = inv ∙ rw (one_less n i lt, he)

    pub names_bad : (e / 2 ^ 28 ≡ 1 → ⊥) → None ≡ all
    names_bad h = rw (name_turn, ne_eqb (e / 2 ^ 28) 1 h)

    pub names_more : e / 2 ^ 28 ≡ 1 → (l : ℕ) → l ≡ length_of e → all ≡ names_end s (i + 1) (p + l) (n - (i + 1))
    names_more h l hl = rw (name_turn, eq-eqb (e / 2 ^ 28) 1 h, hl)

  module _ (le : n ≤ i) where
    name_last : all ≡ cond (ltb (length s) p) None (Some p)
    unfolding names_end
    name_last = let z : n - i ≡ 0 = omega arith in inv ∙ rw z

    pub names_long : length s < p → None ≡ all
    names_long h = rw (name_last, lt-ltb (length s) p h)

    pub names_at : p ≤ length s → Some p ≡ all
    names_at h = rw (name_last, le-ltb (length s) p h)

-- The entry of a name, in one test.

name_top : (w : ℕ) → w / 2 ^ 28 ≡ 1 → (top_of w ≡ 0) × (code_of w ≡ 1)
unfolding top_of code_of
name_top w h = (omega arith, omega arith)

name_whole : (w : ℕ) → top_of w ≡ 0 → code_of w ≡ 1 → w / 2 ^ 28 ≡ 1
unfolding top_of code_of
name_whole w h k = omega arith

name_entry : (w : ℕ) → w / 2 ^ 28 ≡ 1 → entry_ok true w ≡ true
unfolding entry_ok entry_good
name_entry w h = rw ((name_top w h).0, (name_top w h).1)

-- An entry's code has a meaning, and its length is right.
abbrev known : ℕ → Bool
known w = not (eqb (code_of w) 7)

abbrev sized : ℕ → Bool
sized w = not (eqb (code_of w) 0 || (eqb (code_of w) 3 || eqb (code_of w) 4)) || eqb (length_of w) 0

entry_name : (w : ℕ) → entry_ok true w ≡ true → w / 2 ^ 28 ≡ 1
unfolding entry_ok entry_good
entry_name w q =
    let good = and_both (eqb (top_of w) 0 && (known w && eqb (code_of w) 1)) (sized w) q in
    let a = and_both (eqb (top_of w) 0) (known w && eqb (code_of w) 1) good.0 in
    let b = and_both (known w) (eqb (code_of w) 1) a.1 in
    name_whole w (eqb-true (top_of w) 0 a.0) (eqb-true (code_of w) 1 b.1)

-- An entry that is good, of a name too, is good as an item's.
entry_item : (name : Bool) (w : ℕ) → entry_ok name w ≡ true → entry_ok false w ≡ true
unfolding entry_ok entry_good
entry_item name w q = go (eqb (top_of w) 0) (known w) (not name || eqb (code_of w) 1) (sized w) q
  where
    go : (t u v x : Bool) → (t && (u && v) && x) ≡ true → (t && (u && true) && x) ≡ true
    go true true true x q = q
    go true true false x q = cc
    go true false v x q = cc
    go false u v x q = cc

-- The table in two parts.

table_join : (s : Bytes) (m i k l : ℕ) → table_ok s m i k ≡ true → table_ok s m (i + k) l ≡ true → table_ok s m i (k + l) ≡ true
unfolding table_ok
table_join s m i zero l p q = let e : i + 0 ≡ i = omega arith in let e' : 0 + l ≡ l = omega arith in rw e' (rw e at q)
table_join s m i (suc k) l p q =
    let e : suc k + l ≡ suc (k + l) = omega arith in
    let e' : i + suc k ≡ i + 1 + k = omega arith in
    let h = table_head s m i k p in
    rw (e, h.0) (table_join s m (i + 1) k l h.1 (rw e' at q))

-- Behind the names it does not matter how many they are.
table_behind : (s : Bytes) (m i k : ℕ) → m ≤ i → table_ok s m i k ≡ table_ok s 0 i k
unfolding table_ok
table_behind s m i zero h = refl
table_behind s m i (suc k) h = rw (le-ltb i m h, le-ltb i 0 (omega arith), table_behind s m (i + 1) k (omega arith))

-- Where the names end.

names_good : (s : Bytes) (m i p k : ℕ) → i + k ≤ m → table_ok s m i k ≡ true → p + lengths s i k ≤ length s →
    names_end s i p k ≡ Some (p + lengths s i k)
unfolding names_end lengths
names_good s m i p zero h t l = let e : p + 0 ≡ p = omega arith in rw (e, le-ltb (length s) p (omega arith))
names_good s m i p (suc k) h t l =
    let w = table_head s m i k t in
    let lt : i < m = omega arith in
    let ok : entry_ok true (entry_at s i) ≡ true = rw (lt-ltb i m lt) at w.0 in
    let x : ℕ = length_of (entry_at s i) in
    let e : p + x + lengths s (i + 1) k ≡ p + (x + lengths s (i + 1) k) = omega arith in
    rw (eq-eqb (entry_at s i / 2 ^ 28) 1 (entry_name (entry_at s i) ok), ← e)
    (names_good s m (i + 1) (p + x) k (omega arith) w.1 (omega arith))

at_last : (b : Bool) (p e : ℕ) → cond b None (Some p) ≡ Some e → (b ≡ false) × (e ≡ p)
at_last true p e q = (cc, cc)
at_last false p e q = (refl, cc)

at_more : (b : Bool) (r : Option ℕ) (e : ℕ) → cond b r None ≡ Some e → (b ≡ true) × (r ≡ Some e)
at_more true r e q = (refl, q)
at_more false r e q = (cc, cc)

-- What the end of the names says of them.
pub record NamesTo (s : Bytes) (m i p k e : ℕ) : Type 0 where
  pub table : table_ok s m i k ≡ true
  pub place : e ≡ p + lengths s i k
  pub inside : e ≤ length s

pub names_to : (s : Bytes) (m i p k e : ℕ) → i + k ≤ m → names_end s i p k ≡ Some e → NamesTo s m i p k e
unfolding names_end lengths table_ok
names_to s m i p zero e h q =
    let w = at_last (ltb (length s) p) p e q in
    record { table = refl; place = rw w.1 (omega arith); inside = rw w.1 (ltb-false (length s) p w.0) }
names_to s m i p (suc k) e h q =
    let w = at_more (eqb (entry_at s i / 2 ^ 28) 1) _ e q in
    let lt : i < m = omega arith in
    let r = names_to s m (i + 1) (p + length_of (entry_at s i)) k e (omega arith) w.1 in
    record {
      table = rw (lt-ltb i m lt, name_entry (entry_at s i) (eqb-true (entry_at s i / 2 ^ 28) 1 w.0)) r.table;
      place = omega (arith, r.place);
      inside = r.inside;
    }

pub names_within : (s : Bytes) (names start e : ℕ) → names_end s 0 start names ≡ Some e → (start ≤ e) × (e ≤ length s)
names_within s names start e q =
    let w = names_to s names 0 start names e (omega arith) q in
    (omega (arith, w.place), w.inside)

-- Names of ASCII alone are passed over.

name_checked : (f : Bytes → Answer Tree) (w : ℕ) (b : Bytes) → entry_ok true w ≡ true → ascii b ≡ true →
    item_checked f w b ≡ Ok tt
unfolding item_checked kind_of text ◌>>=◌ require
name_checked f w b h a =
    rw (entry_item true w h, (name_top w (entry_name w h)).1, ← ascii_text b true (sym a) refl)

names_passed : (f : Bytes → Answer Tree) (s : Bytes) (m i p k l : ℕ) → i + k ≤ m → table_ok s m i k ≡ true →
    p + lengths s i k ≤ length s →
    ascii (take (lengths s i k) (drop p s)) ≡ true → items_checked f s i p (k + l) ≡ items_checked f s (i + k) (p + lengths s i k) l
unfolding items_checked lengths
names_passed f s m i p zero l h t le a = rw (zero-add l, add-zero i, add-zero p)
names_passed f s m i p (suc k) l h t le a =
    let w = table_head s m i k t in
    let lt : i < m = omega arith in
    let ok : entry_ok true (entry_at s i) ≡ true = rw (lt-ltb i m lt) at w.0 in
    let x : ℕ = length_of (entry_at s i) in
    let y = ascii_split x (lengths s (i + 1) k) (drop p s) a in
    let e : suc k + l ≡ suc (k + l) = omega arith in
    let e₁ : i + suc k ≡ i + 1 + k = omega arith in
    let e₂ : p + x + lengths s (i + 1) k ≡ p + (x + lengths s (i + 1) k) = omega arith in
    let r : item_checked f (entry_at s i) (take x (drop p s)) ≡ Ok tt = name_checked f (entry_at s i) _ ok y.0 in
    rw (e, le-ltb (length s) (p + x) (omega arith), r, e₁, ← e₂)
    (names_passed f s m (i + 1) (p + x) k l (omega arith) w.1 (omega arith) (rw (drop-drop x p s) at y.1))

module _ (f : Bytes → Answer Tree) (s : Bytes) (n start : ℕ) (res : Result (Unit {0}) Refusal) (b : Bytes) (hb : b ≡ s) where
  pub parts_all : res ≡ items_checked f b 0 start (n - 0) → res ≡ items_checked f s 0 start n
  parts_all hr = rw (hb, sub-zero n) at hr

  pub parts_behind : (names end : ℕ) → names ≤ n → names_end s 0 start names ≡ Some end →
      (g : Bool) → g ≡ ascii (take (end - start) (drop start s)) → g ≡ true →
      res ≡ items_checked f b names end (n - names) → res ≡ items_checked f s 0 start n
  parts_behind names end le q g hg t hr =
      let w = names_to s names 0 start names end (omega arith) q in
      let d : end - start ≡ lengths s 0 names = omega (arith, w.place) in
      let a : ascii (take (lengths s 0 names) (drop start s)) ≡ true = rw d at (sym hg ∙ t) in
      let k : n ≡ names + (n - names) = omega arith in
      let e : start + lengths s 0 names ≡ end = sym w.place in
      let o : 0 + names ≡ names = omega arith in
      let x = names_passed f s names 0 start names (n - names) (omega arith) w.table (omega (arith, w.place, w.inside)) a in
      let y : items_checked f s 0 start (names + (n - names)) ≡ items_checked f s names end (n - names) = rw (o, e) at x in
      hr ∙ rw (hb, ← y, ← k)

-- Rules 5 and 6 by one pass: where the table is good, it is rule 6; where it finds nothing, the table is good.

pass_good : (f : Bytes → Answer Tree) (s : Bytes) (m i p k : ℕ) → table_ok s m i k ≡ true → p + lengths s i k ≡ length s →
    items_checked f s i p k ≡ checked (items_in f (parts_at s i p k))
unfolding items_checked item_checked parts_at lengths
pass_good f s m i p zero t l = rw (eq-eqb p (length s) (omega arith))
pass_good f s m i p (suc k) t l =
    let w = table_head s m i k t in
    rw (
      le-ltb (length s) (p + length_of (entry_at s i)) (omega arith),
      entry_item (ltb i m) (entry_at s i) w.0,
      items_cons f (part_at s i p) (parts_at s (i + 1) (p + length_of (entry_at s i)) k),
      pass_good f s m (i + 1) (p + length_of (entry_at s i)) k w.1 (omega arith),
    )

readable_if : (a : Bool) (c : Result (Unit {0}) Refusal) → cond a c (Err Layout) ≡ Ok tt → a ≡ true
readable_if true c q = refl
readable_if false c q = cc

readable_both : (a : Bool) (c d : Result (Unit {0}) Refusal) → cond a (Err Layout) (and_then c d) ≡ Ok tt → (c ≡ Ok tt) × (d ≡ Ok tt)
readable_both true c d q = (cc, cc)
readable_both false (Ok a) d q = (refl, q)
readable_both false (Err r) d q = (q, cc)

pass_readable : (f : Bytes → Answer Tree) (s : Bytes) (i p k : ℕ) → items_checked f s i p k ≡ Ok tt →
    (table_ok s 0 i k ≡ true) × (p + lengths s i k ≡ length s)
unfolding items_checked item_checked table_ok lengths
pass_readable f s i p zero q = (refl, omega (arith, eqb-true p (length s) (readable_if (eqb p (length s)) (Ok tt) q)))
pass_readable f s i p (suc k) q =
    let w = readable_both (ltb (length s) (p + length_of (entry_at s i))) _ _ q in
    let g : entry_ok false (entry_at s i) ≡ true = readable_if (entry_ok false (entry_at s i)) _ w.0 in
    let r = pass_readable f s (i + 1) (p + length_of (entry_at s i)) k w.1 in
    (rw (le-ltb i 0 (omega arith), g) r.0, omega (arith, r.1))

-- The test of the table, and a payload's refusal by it.

abbrev good : Bytes → ℕ → ℕ → Bool
good s n names = table_ok s names 0 n && eqb (lengths s 0 n) (length s - (4 + 4 * n))

module _ (s : Bytes) (n names : ℕ) (r : Refusal) (g : Bool) (hg : g ≡ good s n names) where
  pub refusal_kept : g ≡ true → ◌≡◌ {A = Result (Unit {0}) Refusal} (Err r) (Err (payload_refusal s n names r))
  unfolding payload_refusal
  refusal_kept q = rw (← hg, q)

  pub refusal_layout : g ≡ false → ◌≡◌ {A = Result (Unit {0}) Refusal} (Err Layout) (Err (payload_refusal s n names r))
  unfolding payload_refusal
  refusal_layout q = rw (← hg, q)

-- A container of `n` entries behind its header.

module _ (f : Bytes → Answer Tree) (s : Bytes) (n names : ℕ) (four : 4 ≤ length s) (h : 4 + 4 * n ≤ length s) (le : names ≤ n) where
  good_says : good s n names ≡ true → (table_ok s names 0 n ≡ true) × (4 + 4 * n + lengths s 0 n ≡ length s)
  good_says q =
      let w = and_both (table_ok s names 0 n) (eqb (lengths s 0 n) (length s - (4 + 4 * n))) q in
      (w.0, omega (arith, eqb-true (lengths s 0 n) (length s - (4 + 4 * n)) w.1))

  split : names + (n - names) ≡ n
  split = omega arith

  pub body_no_names : (r : Option ℕ) → r ≡ names_end s 0 (4 + 4 * n) names → r ≡ None →
      Err Layout ≡ checked (body f n names (drop 4 s))
  body_no_names r hr q = body_layout f s n names four h _ refl (go (good s n names) refl)
    where
      go : (b : Bool) → good s n names ≡ b → b ≡ false
      go false e = refl
      go true e =
          let w = good_says e in
          let t = table_split s names 0 names (n - names) (rw split w.0) in
          let l : lengths s 0 n ≡ lengths s 0 names + lengths s (0 + names) (n - names) =
          ap (lengths s 0) (sym split) ∙ lengths_split s 0 names (n - names) in
          let k = names_good s names 0 (4 + 4 * n) names (omega arith) t.0 (omega (arith, w.1)) in
          let z : Some (4 + 4 * n + lengths s 0 names) ≡ None = sym k ∙ sym hr ∙ q in
          cc

  module _ (res : Result (Unit {0}) Refusal) (hr : res ≡ items_checked f s 0 (4 + 4 * n) n) where
    pub body_passed : (end : ℕ) → names_end s 0 (4 + 4 * n) names ≡ Some end → res ≡ Ok tt →
        (Ok tt) ≡ checked (body f n names (drop 4 s))
    body_passed end q k =
        let w = names_to s names 0 (4 + 4 * n) names end (omega arith) q in
        let r = pass_readable f s 0 (4 + 4 * n) n (sym hr ∙ k) in
        let b = table_split s 0 0 names (n - names) (rw split r.0) in
        let o : names ≤ 0 + names = omega arith in
        let c : table_ok s names (0 + names) (n - names) ≡ true = table_behind s names (0 + names) (n - names) o ∙ b.1 in
        let t : table_ok s names 0 n ≡ true = rw split at (table_join s names 0 names (n - names) w.table c) in
        let l : eqb (lengths s 0 n) (length s - (4 + 4 * n)) ≡ true =
        eq-eqb (lengths s 0 n) (length s - (4 + 4 * n)) (omega (arith, r.1)) in
        let g : good s n names ≡ true = rw (t, l) in
        body_items f s n names four h true (sym g) refl (Ok tt) (sym k ∙ hr ∙ pass_good f s names 0 (4 + 4 * n) n t r.1)

    -- A refusal, behind the table.
    pub body_refused : (r : Refusal) → res ≡ Err r → (b : Bytes) → b ≡ s → (a : Result (Unit {0}) Refusal) →
        a ≡ Err (payload_refusal b n names r) → a ≡ checked (body f n names (drop 4 s))
    unfolding payload_refusal
    body_refused r k b hb a ha = go (good s n names) refl (rw hb at ha)
      where
        go : (g : Bool) → g ≡ good s n names → a ≡ Err (payload_refusal s n names r) → a ≡ checked (body f n names (drop 4 s))
        go true e q =
            let w = good_says (sym e) in
            let p = pass_good f s names 0 (4 + 4 * n) n w.0 w.1 in
            body_items f s n names four h true e refl a (rw (← e) at q ∙ sym k ∙ hr ∙ p)
        go false e q = rw (← e) at q ∙ body_layout f s n names four h false e refl
