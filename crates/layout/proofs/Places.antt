-- The reading by places is the reading: one level of a record, as the code goes through it.
use Prim.Native.Nat.{ℕ, zero, suc, ◌+◌, ◌*◌, ◌-◌, ◌<◌, ◌≤◌}
use native.Mathlib.Omega.{arith}
use native.Mathlib.Nat.{sub-zero}
use mathlib.Core.Path.{◌≡◌, refl, ap, sym, ◌∙◌}
use mathlib.Core.Bool.{Bool, true, false, cond, ◌&&◌}
use mathlib.Core.List.{List, [], ◌∷◌, ◌++◌}
use lib.Dec.{T, leb, ltb, eqb, leb→le, le→leb, ltb→lt, lt→ltb}
use lib.ListN.{length, take, drop, length-drop}
use lib.Seq.{drop-drop, take_at}
use borrow.Author.Tests.{lt-ltb, le-ltb, ltb-false, eqb-true}
use Rattle.layout.specs.Bytes.{Bytes}
use Rattle.layout.specs.Answer.{refused, gives, ◌>>=◌, require}
use Rattle.layout.specs.Entry.{code_of, length_of, entry_at, kind_of, lengths}
use Rattle.layout.specs.Encode.{Part, entries, payloads, record_of}
use Rattle.layout.specs.Read.{Entry, entry_ok, entry, table, total, cut, parts}
use Rattle.layout.specs.Place.{table_ok, parts_at}
use Rattle.layout.specs.declared.refusal.Refusal.TheVariants.{Short, Layout}
use Rattle.layout.proofs.Answers.{gives_inj, refused_gives}
use Rattle.layout.proofs.Words.{drop_be32}
use Rattle.layout.proofs.Fields.{word_at_drop}
use Rattle.layout.proofs.Level.{AllFit, kinds, Named, parts_complete}
use Rattle.layout.proofs.Readables.{record_of_length}

-- One entry.

abbrev pub entry_of_word : ℕ → Entry
entry_of_word w = record { kind = kind_of (code_of w); len = length_of w }

pub entry_is : (name : Bool) (w : ℕ) → entry name w ≡ cond (entry_ok name w) (gives (entry_of_word w)) (refused Layout)
unfolding entry
entry_is name w = refl

-- The table.

abbrev entries_at : Bytes → ℕ → ℕ → List Entry
entries_at s i zero = []
entries_at s i (suc k) = entry_of_word (entry_at s i) ∷ entries_at s (i + 1) k

table_turn : (p q : Bool) (e : Entry) (es : List Entry) →
    (cond p (gives e) (refused Layout) >>= λ e. cond q (gives es) (refused Layout) >>= λ es. gives (e ∷ es))
    ≡ cond (p && q) (gives (e ∷ es)) (refused Layout)
unfolding ◌>>=◌
table_turn false q e es = refl
table_turn true false e es = refl
table_turn true true e es = refl

-- One entry of the table, by its place.
next_entry : (i : ℕ) (s : Bytes) → drop 4 (drop (4 + 4 * i) s) ≡ drop (4 + 4 * (i + 1)) s
next_entry i s = let a : 4 + 4 * i + 4 ≡ 4 + 4 * (i + 1) = omega arith in drop-drop 4 (4 + 4 * i) s ∙ ap (λ p. drop p s) a

value_step : (k i : ℕ) (s : Bytes) → table (suc k) zero (drop (4 + 4 * i) s)
    ≡ (entry false (entry_at s i) >>= λ e. table k zero (drop (4 + 4 * (i + 1)) s) >>= λ es. gives (e ∷ es))
unfolding entry_at
value_step k i s = rw (next_entry i s, word_at_drop s (4 + 4 * i))

name_step : (k m i : ℕ) (s : Bytes) → table (suc k) (suc m) (drop (4 + 4 * i) s)
    ≡ (entry true (entry_at s i) >>= λ e. table k m (drop (4 + 4 * (i + 1)) s) >>= λ es. gives (e ∷ es))
unfolding entry_at
name_step k m i s = rw (next_entry i s, word_at_drop s (4 + 4 * i))

table_is : (k m i names : ℕ) (s : Bytes) → m ≡ names - i →
    table k m (drop (4 + 4 * i) s) ≡ cond (table_ok s names i k) (gives (entries_at s i k)) (refused Layout)
unfolding table_ok
table_is zero m i names s e = refl
table_is (suc k) zero i names s e =
    let l : names ≤ i = omega arith in
    rw (value_step k i s, entry_is false (entry_at s i), le-ltb i names l, table_is k zero (i + 1) names s (omega arith))
    (table_turn (entry_ok false (entry_at s i)) (table_ok s names (i + 1) k) _ _)
table_is (suc k) (suc m) i names s e =
    let l : i < names = omega arith in
    rw (name_step k m i s, entry_is true (entry_at s i), lt-ltb i names l, table_is k m (i + 1) names s (omega arith))
    (table_turn (entry_ok true (entry_at s i)) (table_ok s names (i + 1) k) _ _)

total_is : (k i : ℕ) (s : Bytes) → total (entries_at s i k) ≡ lengths s i k
unfolding lengths
total_is zero i s = refl
total_is (suc k) i s = rw (total_is k (i + 1) s)

cut_is : (k i p : ℕ) (s : Bytes) → cut (entries_at s i k) (drop p s) ≡ parts_at s i p k
unfolding parts_at
cut_is zero i p s = refl
cut_is (suc k) i p s = rw (drop-drop (length_of (entry_at s i)) p s, cut_is k (i + 1) (p + length_of (entry_at s i)) s)

-- One level: rules 4 and 5 by places.
pub parts_is : (n names : ℕ) (s : Bytes) → 4 ≤ length s →
    parts n names (drop 4 s)
    ≡ cond (ltb (length s) (4 + 4 * n)) (refused Short)
    (cond (table_ok s names 0 n && eqb (lengths s 0 n) (length s - (4 + 4 * n))) (gives (parts_at s 0 (4 + 4 * n) n)) (refused Layout))
unfolding parts ◌>>=◌ require
parts_is n names s h =
    let d : drop (4 * n) (drop 4 s) ≡ drop (4 + 4 * n) s = drop-drop (4 * n) 4 s in
    let l : length (drop 4 s) ≡ length s - 4 = length-drop 4 s in
    let l₂ : length (drop (4 + 4 * n) s) ≡ length s - (4 + 4 * n) = length-drop (4 + 4 * n) s in
    rw (d, table_is n names 0 names s (sym (sub-zero names)), l, l₂)
    (go (leb (4 * n) (length s - 4)) (ltb (length s) (4 + 4 * n)) (table_ok s names 0 n) (eqb (lengths s 0 n) (length s - (4 + 4 * n)))
    (leb→le (4 * n) (length s - 4)) (ltb→lt (length s) (4 + 4 * n)) (le→leb (4 * n) (length s - 4)) (lt→ltb (length s) (4 + 4 * n)) refl)
  where
    go : (a b t e : Bool) → (T a → 4 * n ≤ length s - 4) → (T b → length s < 4 + 4 * n) →
        (4 * n ≤ length s - 4 → T a) → (length s < 4 + 4 * n → T b) →
        eqb (lengths s 0 n) (length s - (4 + 4 * n)) ≡ e →
        (require a Short >>= λ _. cond t (gives (entries_at s 0 n)) (refused Layout) >>= λ es.
        require (eqb (total es) (length s - (4 + 4 * n))) Layout >>= λ _. gives (cut es (drop (4 + 4 * n) s)))
        ≡ cond b (refused Short) (cond (t && e) (gives (parts_at s 0 (4 + 4 * n) n)) (refused Layout))
    go true true t e h₁ h₂ h₃ h₄ q = let z : ⊥ = omega (arith, h₁ tt, h₂ tt) in absurd z
    go true false false e h₁ h₂ h₃ h₄ q = refl
    go true false true true h₁ h₂ h₃ h₄ q = rw (total_is n 0 s, q, cut_is n 0 (4 + 4 * n) s)
    go true false true false h₁ h₂ h₃ h₄ q = rw (total_is n 0 s, q)
    go false true t e h₁ h₂ h₃ h₄ q = refl
    go false false t e h₁ h₂ h₃ h₄ q = let z : ⊥ = omega arith in absurd z

by_tests : (a b : Bool) (x y : List Part) → cond a (refused Short) (cond b (gives x) (refused Layout)) ≡ gives y → x ≡ y
by_tests true b x y e = refused_gives e
by_tests false true x y e = gives_inj e
by_tests false false x y e = refused_gives e

-- The parts of a record, by their places, are the parts that it was made of.
pub parts_at_record : (w names : ℕ) (ps : List Part) → AllFit ps → Named names (kinds ps) →
    parts_at (record_of w ps) 0 (4 + 4 * length ps) (length ps) ≡ ps
parts_at_record w names ps f k =
    let s : Bytes = record_of w ps in
    let l : 4 ≤ length (record_of w ps) = omega (arith, record_of_length w ps) in
    let e : parts (length ps) names (drop 4 (record_of w ps)) ≡ gives ps =
    ap (parts (length ps) names) (drop_be32 w (entries ps ++ payloads ps)) ∙ parts_complete (length ps) names ps refl f k in
    by_tests
    (ltb (length (record_of w ps)) (4 + 4 * length ps))
    (table_ok (record_of w ps) names 0 (length ps) && eqb (lengths (record_of w ps) 0 (length ps)) (length (record_of w ps) - (4 + 4 * length ps)))
    _ ps (sym (parts_is (length ps) names (record_of w ps) l) ∙ e)

-- What a table that passes says of its entries.

pub and_both : (a b : Bool) → (a && b) ≡ true → (a ≡ true) × (b ≡ true)
and_both true b q = (refl, q)
and_both false b q = (cc, cc)

pub table_head : (s : Bytes) (m i k : ℕ) → table_ok s m i (suc k) ≡ true
    → (entry_ok (ltb i m) (entry_at s i) ≡ true) × (table_ok s m (i + 1) k ≡ true)
unfolding table_ok
table_head s m i k q = and_both (entry_ok (ltb i m) (entry_at s i)) (table_ok s m (i + 1) k) q

-- A table in two parts.
pub table_split : (s : Bytes) (m i k l : ℕ) → table_ok s m i (k + l) ≡ true
    → (table_ok s m i k ≡ true) × (table_ok s m (i + k) l ≡ true)
unfolding table_ok
table_split s m i zero l q = let e : i + 0 ≡ i = omega arith in let e' : 0 + l ≡ l = omega arith in (refl, rw e (rw e' at q))
table_split s m i (suc k) l q =
    let e : suc k + l ≡ suc (k + l) = omega arith in
    let e' : i + suc k ≡ i + 1 + k = omega arith in
    let h = table_head s m i (k + l) (rw e at q) in
    let t = table_split s m (i + 1) k l h.1 in
    (rw h.0 t.0, rw e' t.1)

pub lengths_split : (s : Bytes) (i k l : ℕ) → lengths s i (k + l) ≡ lengths s i k + lengths s (i + k) l
unfolding lengths
lengths_split s i zero l = let e : i + 0 ≡ i = omega arith in let e' : 0 + l ≡ l = omega arith in rw (e, e') (omega arith)
lengths_split s i (suc k) l =
    let e : suc k + l ≡ suc (k + l) = omega arith in
    let e' : i + suc k ≡ i + 1 + k = omega arith in
    rw (e, e') (omega (arith, lengths_split s (i + 1) k l))

-- Rules 4 and 5 passed: the table is good, and table and payloads lie in the bytes.
pub record Laid (s : Bytes) (n names : ℕ) (ps : List Part) : Type 0 where
  pub table : table_ok s names 0 n ≡ true
  pub fits : 4 + 4 * n + lengths s 0 n ≤ length s
  pub same : ps ≡ parts_at s 0 (4 + 4 * n) n

laid_by : (s : Bytes) (n names : ℕ) (ps : List Part) (a t e : Bool) → ltb (length s) (4 + 4 * n) ≡ a → table_ok s names 0 n ≡ t
    → eqb (lengths s 0 n) (length s - (4 + 4 * n)) ≡ e
    → cond a (refused Short) (cond (t && e) (gives (parts_at s 0 (4 + 4 * n) n)) (refused Layout)) ≡ gives ps → Laid s n names ps
laid_by s n names ps true t e ha ht he q = refused_gives q
laid_by s n names ps false false e ha ht he q = refused_gives q
laid_by s n names ps false true false ha ht he q = refused_gives q
laid_by s n names ps false true true ha ht he q =
    record {
      table = ht;
      fits = omega (arith, ltb-false (length s) (4 + 4 * n) ha, eqb-true (lengths s 0 n) (length s - (4 + 4 * n)) he);
      same = sym (gives_inj q);
    }

pub laid : (s : Bytes) (n names : ℕ) (ps : List Part) → 4 ≤ length s → parts n names (drop 4 s) ≡ gives ps → Laid s n names ps
laid s n names ps four e =
    laid_by s n names ps _ _ _ refl refl refl (sym (parts_is n names s four) ∙ e)

pub length_parts : (s : Bytes) (i p k : ℕ) → length (parts_at s i p k) ≡ k
unfolding parts_at
length_parts s i p zero = refl
length_parts s i p (suc k) = rw (length_parts s (i + 1) (p + length_of (entry_at s i)) k)

-- The parts of a table in two parts.
pub take_parts : (s : Bytes) (i p k l : ℕ) → take k (parts_at s i p (k + l)) ≡ parts_at s i p k
unfolding parts_at
take_parts s i p zero l = refl
take_parts s i p (suc k) l =
    let e : suc k + l ≡ suc (k + l) = omega arith in
    rw (e, take_parts s (i + 1) (p + length_of (entry_at s i)) k l)

pub drop_parts : (s : Bytes) (i p k l : ℕ) → drop k (parts_at s i p (k + l)) ≡ parts_at s (i + k) (p + lengths s i k) l
unfolding parts_at lengths
drop_parts s i p zero l =
    let e : 0 + l ≡ l = omega arith in
    let e' : i + 0 ≡ i = omega arith in
    let e'' : p + 0 ≡ p = omega arith in
    rw (e, e', e'')
drop_parts s i p (suc k) l =
    let e : suc k + l ≡ suc (k + l) = omega arith in
    let e' : i + 1 + k ≡ i + suc k = omega arith in
    let e'' : p + length_of (entry_at s i) + lengths s (i + 1) k ≡ p + (length_of (entry_at s i) + lengths s (i + 1) k) = omega arith in
    rw (e, drop_parts s (i + 1) (p + length_of (entry_at s i)) k l, e', e'')

-- The parts of an object's record: all of them, and the names.
pub names_at : (w n : ℕ) (ps qs : List Part) → length ps ≡ n → n + n ≡ length (ps ++ qs) → AllFit (ps ++ qs) → Named n (kinds (ps ++ qs)) →
    (parts_at (record_of w (ps ++ qs)) 0 (4 + 4 * (n + n)) (n + n) ≡ ps ++ qs) × (parts_at (record_of w (ps ++ qs)) 0 (4 + 4 * (n + n)) n ≡ ps)
names_at w n ps qs l h f k =
    let whole : parts_at (record_of w (ps ++ qs)) 0 (4 + 4 * (n + n)) (n + n) ≡ ps ++ qs = rw h (parts_at_record w n (ps ++ qs) f k) in
    (whole, sym (take_parts (record_of w (ps ++ qs)) 0 (4 + 4 * (n + n)) n n) ∙ ap (take n) whole ∙ take_at ps qs n l)
