-- Laws of UTF-8: what a first byte asks for, and one byte of a text after another.
use Prim.Native.Nat.{ℕ, zero, suc, ◌+◌, ◌<◌, ◌≤◌, max}
use native.Mathlib.Decide.{dec_lt}
use native.Mathlib.Omega.{arith}
use native.Mathlib.Nat.{add-zero, zero-add}
use mathlib.Core.Path.{◌≡◌, refl, sym, ap, ◌∙◌, subst}
use mathlib.Core.Bool.{Bool, true, false, cond, ◌&&◌}
use mathlib.Core.List.{[], ◌∷◌}
use lib.Dec.{T, ltb}
use lib.ListN.{length, take, drop}
use lib.Seq.{take-nil}
use borrow.Author.Tests.{le-leb, ltb-true, lt-ltb, le-ltb}
use Rattle.std.specs.List.{fold}
use Rattle.layout.specs.Bytes.{Bytes}
use Rattle.layout.specs.Text.{between, lead, points_rest, code_points, is_some, utf8, ascii}
use Rattle.layout.specs.Behind.{behind_tails, behind_character}
use Rattle.layout.specs.Check.{text_checked}
use Rattle.layout.specs.declared.refusal.Refusal.{Refusal}
use Rattle.layout.specs.declared.refusal.Refusal.TheVariants.{Text}
use Rattle.layout.proofs.Places.{and_both}
use Rattle.std.specs.Prelude.{Ok, Err, Some, None, Result, Option, is_ok, ok_or, is_some as is_some_number, option_copied}
use denote.Ref.{Bor}

-- What is behind the tail bytes that are due decides.
abbrev points_behind : ℕ → Option Bytes → Option ℕ
points_behind n None = None
points_behind n (Some b) = points_rest b n (Some (0, 0x80, 0xBF))

tails_decide : (b : Bytes) (n : ℕ) (l : Option (ℕ × ℕ × ℕ)) → points_rest b n l ≡ points_behind n (behind_tails b l)
tails_decide [] n None = refl
tails_decide [] n (Some (zero, low, high)) = refl
tails_decide [] n (Some ((suc k), low, high)) = refl
tails_decide (x ∷ b) n None = refl
tails_decide (x ∷ b) n (Some (zero, low, high)) = refl
tails_decide (x ∷ b) n (Some ((suc k), low, high)) = go (tails_decide b n (Some (k, 0x80, 0xBF))) (between low high x)
  where
    go : points_rest b n (Some (k, 0x80, 0xBF)) ≡ points_behind n (behind_tails b (Some (k, 0x80, 0xBF))) → (t : Bool)
        → cond t (points_rest b n (Some (k, 0x80, 0xBF))) None ≡ points_behind n (cond t (behind_tails b (Some (k, 0x80, 0xBF))) None)
    go h true = h
    go h false = refl

-- It is no longer than the bytes themselves.
tails_le : (b : Bytes) (l : Option (ℕ × ℕ × ℕ)) (r : Bytes) → behind_tails b l ≡ Some r → length r ≤ length b
tails_le b None r e = let z : ◌≡◌ {A = ℕ} 0 1 = cc in omega arith
tails_le b (Some (zero, low, high)) r e = let z : b ≡ r = cc in rw z (omega arith)
tails_le [] (Some ((suc k), low, high)) r e = let z : ◌≡◌ {A = ℕ} 0 1 = cc in omega arith
tails_le (x ∷ b) (Some ((suc k), low, high)) r e = go (tails_le b (Some (k, 0x80, 0xBF)) r) (between low high x) e
  where
    go : (behind_tails b (Some (k, 0x80, 0xBF)) ≡ Some r → length r ≤ length b) → (t : Bool)
        → cond t (behind_tails b (Some (k, 0x80, 0xBF))) None ≡ Some r → length r ≤ length (x ∷ b)
    go h true e = omega (arith, h e)
    go h false e = let z : ◌≡◌ {A = ℕ} 0 1 = cc in omega arith

-- The first character: there is none in no bytes, and what its first byte asks for decides.
pub at_end : (s : Bytes) → length s ≡ 0 → None ≡ behind_character s
unfolding behind_character
at_end [] h = refl
at_end (x ∷ b) h = let z : ⊥ = omega arith in absurd z

module _ (s : Bytes) {x : ℕ} {b : Bytes} (e : s ≡ x ∷ b) {l : Option (ℕ × ℕ × ℕ)} (h : l ≡ lead x) where
  pub no_first : l ≡ None → None ≡ behind_character s
  unfolding behind_character
  no_first q = rw (e, ← h, q)

  pub first_decides : (d : ℕ × ℕ × ℕ) → l ≡ Some d → behind_tails b (Some d) ≡ behind_character s
  unfolding behind_character
  first_decides d q = rw (e, ← h, q)

-- It asks for three tail bytes at most.
few_due : Option (ℕ × ℕ × ℕ) → Type 0
few_due None = Unit {0}
few_due (Some d) = d.0 ≤ 3

first_due : (x : ℕ) → few_due (lead x)
unfolding lead few_due
first_due x =
    or (between 0x00 0x7F x) (0, 0x80, 0xBF) _ (omega arith) (or (between 0xC2 0xDF x) (1, 0x80, 0xBF) _ (omega arith)
    (or (between 0xE0 0xE0 x) (2, 0xA0, 0xBF) _ (omega arith) (or (between 0xE1 0xEC x) (2, 0x80, 0xBF) _ (omega arith)
    (or (between 0xED 0xED x) (2, 0x80, 0x9F) _ (omega arith) (or (between 0xEE 0xEF x) (2, 0x80, 0xBF) _ (omega arith)
    (or (between 0xF0 0xF0 x) (3, 0x90, 0xBF) _ (omega arith) (or (between 0xF1 0xF3 x) (3, 0x80, 0xBF) _ (omega arith)
    (or (between 0xF4 0xF4 x) (3, 0x80, 0x8F) None (omega arith) none))))))))
  where
    none : few_due None
    none = tt

    or : (t : Bool) (d : ℕ × ℕ × ℕ) (r : Option (ℕ × ℕ × ℕ)) → d.0 ≤ 3 → few_due r → few_due (cond t (Some d) r)
    or true d r h k = h
    or false d r h k = k

pub due_few : (x : ℕ) (l : Option (ℕ × ℕ × ℕ)) (d : ℕ × ℕ × ℕ) → l ≡ lead x → l ≡ Some d → d.0 ≤ 3
unfolding few_due
due_few x l d h q = subst few_due (sym h ∙ q) (first_due x)

-- The text check where `left` is what it has not read: `n` characters so far, which are no more than the bytes before.
pub record Counting (s : Bytes) (n : ℕ) (left : Bytes) : Type 0 where
  pub bytes : n + length left ≤ length s
  pub rest : code_points s ≡ points_rest left n (Some (0, 0x80, 0xBF))

pub counting : (s : Bytes) → Counting s 0 s
unfolding code_points
counting s = record { bytes = omega arith; rest = refl }

character_decides : (b : Bytes) (n : ℕ) → 0 < length b → points_rest b n (Some (0, 0x80, 0xBF)) ≡ points_behind (suc n) (behind_character b)
unfolding behind_character
character_decides [] n h = let z : ⊥ = omega arith in absurd z
character_decides (x ∷ b) n h = tails_decide b (suc n) (lead x)

character_less : (b r : Bytes) → behind_character b ≡ Some r → length r < length b
unfolding behind_character
character_less [] r e = let z : ◌≡◌ {A = ℕ} 0 1 = cc in omega arith
character_less (x ∷ b) r e = omega (arith, tails_le b (lead x) r e)

module _ {s left : Bytes} {n : ℕ} (at : Counting s n left) where
  pub all_counted : length left ≡ 0 → Some n ≡ code_points s
  all_counted e = rw at.rest (go left e)
    where
      go : (left : Bytes) → length left ≡ 0 → Some n ≡ points_rest left n (Some (0, 0x80, 0xBF))
      go [] e = refl
      go (x ∷ b) e = let z : ⊥ = omega arith in absurd z

  -- The first character of what is left.
  module _ (h : 0 < length left) (o : Option (Bor Bytes)) (e : option_copied o ≡ behind_character left) where
    pub bad_character : o ≡ None → None ≡ code_points s
    bad_character q = rw (at.rest, character_decides left n h, ← e, q)

    taken : (l : Bor Bytes) → o ≡ Some l → behind_character left ≡ Some (l.now)
    taken l q = sym e ∙ ap option_copied q

    pub left_less : (l : Bor Bytes) → o ≡ Some l → length l.now < length left
    left_less l q = character_less left l.now (taken l q)

    pub character_counted : (l : Bor Bytes) → o ≡ Some l → Counting s (n + 1) l.now
    character_counted l q =
        let one : n + 1 ≡ suc n = omega arith in
        let rest : code_points s ≡ points_rest l.now (suc n) (Some (0, 0x80, 0xBF)) =
        at.rest ∙ character_decides left n h ∙ ap (points_behind (suc n)) (taken l q) in
        record { bytes = omega (arith, at.bytes, left_less l q); rest = rw one rest }

-- What the text check and the test of a text answer of the number.
pub number_checked : (o : Option ℕ) → ok_or o Text ≡ text_checked o
unfolding text_checked
number_checked None = refl
number_checked (Some n) = refl

pub number_told : (b : Bytes) (o : Option ℕ) → o ≡ code_points b → is_some_number o ≡ utf8 b
unfolding utf8
number_told b o e = rw e (go (code_points b))
  where
    go : (o : Option ℕ) → is_some_number o ≡ is_some o
    go None = refl
    go (Some n) = refl

-- What an answer of the text check tells of the number.
pub passed_some : (o : Option ℕ) (r : Result ℕ Refusal) (n : ℕ) → r ≡ text_checked o → r ≡ Ok n → o ≡ Some n
unfolding text_checked
passed_some None r n e q = cc
passed_some (Some m) r n e q = cc

pub refused_none : (o : Option ℕ) (r : Result ℕ Refusal) (x : Refusal) → r ≡ text_checked o → r ≡ Err x → (o ≡ None) × (x ≡ Text)
unfolding text_checked
refused_none None r x e q = (refl, cc)
refused_none (Some m) r x e q = (cc, cc)

-- The check passes what is UTF-8.
pub told_text : (s : Bytes) (r : Result ℕ Refusal) (g : Bool) → g ≡ is_ok r → r ≡ text_checked (code_points s) → g ≡ utf8 s
unfolding utf8 text_checked
told_text s r g hg hr = hg ∙ go (code_points s) r hr
  where
    go : (o : Option ℕ) (r : Result ℕ Refusal) → r ≡ text_checked o → is_ok r ≡ is_some o
    go None r e = rw e
    go (Some n) r e = rw e

module _ (s : Bytes) (r : Result ℕ Refusal) (hr : r ≡ text_checked (code_points s)) where
  pub passed_text : (n : ℕ) → r ≡ Ok n → true ≡ utf8 s
  passed_text n q = told_text s r true (rw q) hr

  pub refused_text : (x : Refusal) → r ≡ Err x → false ≡ utf8 s
  refused_text x q = told_text s r false (rw q) hr

-- What is UTF-8 has a number of code points.
pub utf8_some : (b : Bytes) → T (utf8 b) → (n : ℕ) × (code_points b ≡ Some n)
unfolding utf8
utf8_some b h = go (code_points b) refl h
  where
    go : (o : Option ℕ) → code_points b ≡ o → T (is_some o) → (n : ℕ) × (code_points b ≡ Some n)
    go None e h = absurd h
    go (Some n) e h = (n, e)

-- There are no more of them than bytes.
rest_le : (b : Bytes) (n : ℕ) (l : Option (ℕ × ℕ × ℕ)) (m : ℕ) → points_rest b n l ≡ Some m → m ≤ n + length b
rest_le [] n None m e = let z : ◌≡◌ {A = ℕ} 0 1 = cc in omega arith
rest_le [] n (Some (zero, low, high)) m e = let z : n ≡ m = cc in omega arith
rest_le [] n (Some ((suc k), low, high)) m e = let z : ◌≡◌ {A = ℕ} 0 1 = cc in omega arith
rest_le (x ∷ b) n None m e = let z : ◌≡◌ {A = ℕ} 0 1 = cc in omega arith
rest_le (x ∷ b) n (Some (zero, low, high)) m e = omega (arith, rest_le b (suc n) (lead x) m e)
rest_le (x ∷ b) n (Some ((suc k), low, high)) m e = go (rest_le b n (Some (k, 0x80, 0xBF)) m) (between low high x) e
  where
    go : (points_rest b n (Some (k, 0x80, 0xBF)) ≡ Some m → m ≤ n + length b) → (t : Bool)
        → cond t (points_rest b n (Some (k, 0x80, 0xBF))) None ≡ Some m → m ≤ n + length (x ∷ b)
    go h true e = omega (arith, h e)
    go h false e = let z : ◌≡◌ {A = ℕ} 0 1 = cc in omega arith

pub points_le : (b : Bytes) (n : ℕ) → code_points b ≡ Some n → n ≤ length b
unfolding code_points
points_le b n e = omega (arith, rest_le b 0 (Some (0, 0x80, 0xBF)) n e)

-- Whether the rest of a text is whole characters does not hang on how many there were before.
abbrev pub text_rest : Bytes → Option (ℕ × ℕ × ℕ) → Bool
text_rest b l = is_some (points_rest b 0 l)

any_count : (b : Bytes) (n m : ℕ) (l : Option (ℕ × ℕ × ℕ)) → is_some (points_rest b n l) ≡ is_some (points_rest b m l)
any_count [] n m None = refl
any_count [] n m (Some (zero, low, high)) = refl
any_count [] n m (Some ((suc k), low, high)) = refl
any_count (x ∷ b) n m None = refl
any_count (x ∷ b) n m (Some (zero, low, high)) = any_count b (suc n) (suc m) (lead x)
any_count (x ∷ b) n m (Some ((suc k), low, high)) = go (any_count b n m (Some (k, 0x80, 0xBF))) (between low high x)
  where
    go : is_some (points_rest b n (Some (k, 0x80, 0xBF))) ≡ is_some (points_rest b m (Some (k, 0x80, 0xBF))) → (t : Bool)
        → is_some (cond t (points_rest b n (Some (k, 0x80, 0xBF))) None) ≡ is_some (cond t (points_rest b m (Some (k, 0x80, 0xBF))) None)
    go h true = h
    go h false = refl

pub rest_first : (x low high : ℕ) (b : Bytes) → text_rest (x ∷ b) (Some (0, low, high)) ≡ text_rest b (lead x)
rest_first x low high b = any_count b 1 0 (lead x)

pub rest_tail : (x k low high : ℕ) (b : Bytes)
    → text_rest (x ∷ b) (Some ((suc k), low, high)) ≡ (between low high x && text_rest b (Some (k, 0x80, 0xBF)))
rest_tail x k low high b = go (between low high x)
  where
    go : (t : Bool) → is_some (cond t (points_rest b 0 (Some (k, 0x80, 0xBF))) None) ≡ (t && text_rest b (Some (k, 0x80, 0xBF)))
    go true = refl
    go false = refl

-- The greatest byte tells whether all are below 128.

both_below : (g x : ℕ) → ltb (max g x) 0x80 ≡ (ltb g 0x80 && ltb x 0x80)
both_below g x = go (dec_lt g 0x80) (dec_lt x 0x80)
  where
    go : Dec (g < 0x80) → Dec (x < 0x80) → ltb (max g x) 0x80 ≡ (ltb g 0x80 && ltb x 0x80)
    go (yes h) (yes k) = rw (lt-ltb g 0x80 h, lt-ltb x 0x80 k, lt-ltb (max g x) 0x80 (omega arith))
    go (yes h) (no k) = rw (lt-ltb g 0x80 h, le-ltb x 0x80 (omega arith), le-ltb (max g x) 0x80 (omega arith))
    go (no h) d = rw (le-ltb g 0x80 (omega arith), le-ltb (max g x) 0x80 (omega arith))

-- The greatest of some bytes and of `g` is below 128 where all are.
pub greatest_test : (g : ℕ) (s : Bytes) → ltb (fold max g s) 0x80 ≡ (ltb g 0x80 && ascii s)
unfolding ascii
greatest_test g [] = go (ltb g 0x80)
  where
    go : (a : Bool) → a ≡ (a && true)
    go true = refl
    go false = refl
greatest_test g (x ∷ s) = greatest_test (max g x) s ∙ ap (λ p. p && ascii s) (both_below g x) ∙ go (ltb g 0x80)
  where
    go : (a : Bool) → ((a && ltb x 0x80) && ascii s) ≡ (a && (ltb x 0x80 && ascii s))
    go true = refl
    go false = refl

-- Such bytes are text, each of them a code point, and so is every part of them.
ascii_counts : (b : Bytes) (n : ℕ) → ascii b ≡ true → points_rest b n (Some (0, 0x80, 0xBF)) ≡ Some (n + length b)
unfolding lead ascii
ascii_counts [] n h = ap Some (sym (add-zero n))
ascii_counts (x ∷ b) n h =
    let w = and_both (ltb x 0x80) (ascii b) h in
    let l : x < 0x80 = ltb-true x 0x80 w.0 in
    let e : n + length (x ∷ b) ≡ suc n + length b = omega arith in
    rw (le-leb 0 x (omega arith), le-leb x 0x7F (omega arith), e) (ascii_counts b (suc n) w.1)

ascii_points : (s : Bytes) → ascii s ≡ true → code_points s ≡ Some (length s)
unfolding code_points
ascii_points s h = rw (zero-add (length s)) at (ascii_counts s 0 h)

pub ascii_passed : (s : Bytes) (g : Bool) → g ≡ ascii s → g ≡ true → Ok (length s) ≡ text_checked (code_points s)
unfolding text_checked
ascii_passed s g e q = rw (ascii_points s (sym e ∙ q))

pub ascii_text : (s : Bytes) (g : Bool) → g ≡ ascii s → g ≡ true → true ≡ utf8 s
unfolding utf8
ascii_text s g e q = rw (ascii_points s (sym e ∙ q))

pub ascii_split : (l m : ℕ) (b : Bytes) → ascii (take (l + m) b) ≡ true →
    (ascii (take l b) ≡ true) × (ascii (take m (drop l b)) ≡ true)
unfolding ascii
ascii_split zero m b h = (refl, rw (zero-add m) at h)
ascii_split (suc l) m [] h = (refl, rw (take-nil m))
ascii_split (suc l) m (x ∷ b) h =
    let e : suc l + m ≡ suc (l + m) = omega arith in
    let w = and_both (ltb x 0x80) (ascii (take (l + m) b)) (rw e at h) in
    let r = ascii_split l m b w.1 in
    (rw w.0 r.0, r.1)
