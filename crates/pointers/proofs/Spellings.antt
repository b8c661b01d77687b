-- How names and places are written as a pointer, and that it finds them: RFC 6901, sections 3 and 4, the other way round.
use Prim.Native.Nat.{ℕ, zero, suc, ◌+◌, ◌*◌, ◌-◌, ◌/◌, ◌%◌, ◌^◌, ◌<◌}
use native.Mathlib.Omega.{arith}
use native.Mathlib.Decide.{dec_lt}
use mathlib.Core.Path.{◌≡◌, refl, ap, sym, ◌∙◌}
use mathlib.Core.Bool.{Bool, true, false, cond}
use mathlib.Core.List.{List, [], ◌∷◌, ◌++◌}
use lib.Dec.{eqb, leb}
use lib.ListN.{length, get_or, length-append}
use borrow.Author.Tests.{leb-true, le-leb, eqb-true, eqb-false, ne_eqb}
use Rattle.layout.specs.Bytes.{Bytes}
use Rattle.layout.specs.Decimal.{decimal}
use Rattle.layout.specs.Text.{between, lead, utf8}
use Rattle.layout.proofs.Decimals.{decimal_one, decimal_more}
use Rattle.layout.proofs.Places.{and_both}
use Rattle.layout.proofs.Texts.{text_rest, rest_first, rest_tail}
use Rattle.edits.proofs.Deletes.{false_true}
use Rattle.pointers.specs.Pointer.{has_slash, escape_good, escaped, is_pointer, split, undo, undo_all, tokens}
use Rattle.pointers.specs.Pointer.{digits, digits_value, index_of}
use Rattle.pointers.specs.Token.{unescape}
use Rattle.pointers.proofs.Tokens.{undo_once, front_plain}
use Rattle.pointers.proofs.Indexes.{between_one}
use Rattle.pointers.proofs.TokenTexts.{AllText, High, ready, lead_high, tail_high, one_byte}
use Rattle.std.specs.Prelude.{Some, None, Option}

-- A ~ is written ~0, a slash ~1, and a slash stands before each name.
abbrev pub escape : Bytes → Bytes
escape [] = []
escape (x ∷ b) = cond (eqb x 0x7E) (0x7E ∷ 0x30 ∷ escape b) (cond (eqb x 0x2F) (0x7E ∷ 0x31 ∷ escape b) (x ∷ escape b))

abbrev pub spelled : List Bytes → Bytes
spelled [] = []
spelled (k ∷ ks) = 0x2F ∷ (escape k ++ spelled ks)

-- ---- undone, it is the name

unescape_escape : (k : Bytes) → unescape (escape k) ≡ k
unfolding unescape
unescape_escape [] = refl
unescape_escape (x ∷ b) = go (unescape_escape b) (eqb x 0x7E) refl (eqb x 0x2F) refl
  where
    go : unescape (escape b) ≡ b → (t : Bool) → eqb x 0x7E ≡ t → (s : Bool) → eqb x 0x2F ≡ s
        → unescape (cond t (0x7E ∷ 0x30 ∷ escape b) (cond s (0x7E ∷ 0x31 ∷ escape b) (x ∷ escape b))) ≡ x ∷ b
    go h true e s f = let z : x ≡ 0x7E = eqb-true x 0x7E e in rw (h, z)
    go h false e true f = let z : x ≡ 0x2F = eqb-true x 0x2F f in rw (h, z)
    go h false e false f = front_plain x (escape b) (eqb-false x 0x7E e) ∙ ap (λ (c : Bytes). x ∷ c) h

undo_escape : (k : Bytes) → undo (escape k) ≡ k
undo_escape k = undo_once (escape k) ∙ unescape_escape k

-- ---- it has no slash

split_escape : (k rest : Bytes) (c : List Bytes) → split rest ≡ [] ∷ c → split (escape k ++ rest) ≡ escape k ∷ c
split_escape [] rest c e = e
split_escape (x ∷ b) rest c e = go (split_escape b rest c e) (eqb x 0x7E) (eqb x 0x2F) refl
  where
    go : split (escape b ++ rest) ≡ escape b ∷ c → (t s : Bool) → eqb x 0x2F ≡ s
        → split (cond t (0x7E ∷ 0x30 ∷ escape b) (cond s (0x7E ∷ 0x31 ∷ escape b) (x ∷ escape b)) ++ rest)
        ≡ cond t (0x7E ∷ 0x30 ∷ escape b) (cond s (0x7E ∷ 0x31 ∷ escape b) (x ∷ escape b)) ∷ c
    go h true s f = rw h
    go h false true f = rw h
    go h false false f = rw (f, h)

abbrev escape_all : List Bytes → List Bytes
escape_all [] = []
escape_all (k ∷ ks) = escape k ∷ escape_all ks

split_spelled : (ks : List Bytes) → split (spelled ks) ≡ [] ∷ escape_all ks
split_spelled [] = refl
split_spelled (k ∷ ks) = ap (λ (c : List Bytes). [] ∷ c) (split_escape k (spelled ks) (escape_all ks) (split_spelled ks))

undo_spelled : (ks : List Bytes) → undo_all (escape_all ks) ≡ ks
unfolding undo_all
undo_spelled [] = refl
undo_spelled (k ∷ ks) = rw (undo_escape k, undo_spelled ks)

tokens_spelled : (ks : List Bytes) → tokens (spelled ks) ≡ ks
unfolding tokens undo_all
tokens_spelled [] = refl
tokens_spelled (k ∷ ks) =
    ap undo_all (split_escape k (spelled ks) (escape_all ks) (split_spelled ks)) ∙ undo_spelled (k ∷ ks)

-- ---- it is a pointer, where the names are text

escape_escaped : (k rest : Bytes) → escaped rest ≡ true → escaped (escape k ++ rest) ≡ true
unfolding escaped escape_good
escape_escaped [] rest e = e
escape_escaped (x ∷ b) rest e = go (escape_escaped b rest e) (eqb x 0x7E) refl (eqb x 0x2F)
  where
    go : escaped (escape b ++ rest) ≡ true → (t : Bool) → eqb x 0x7E ≡ t → (s : Bool)
        → escaped (cond t (0x7E ∷ 0x30 ∷ escape b) (cond s (0x7E ∷ 0x31 ∷ escape b) (x ∷ escape b)) ++ rest) ≡ true
    go h true f s = h
    go h false f true = h
    go h false f false = rw f h

spelled_escaped : (ks : List Bytes) → escaped (spelled ks) ≡ true
unfolding escaped escape_good
spelled_escaped [] = refl
spelled_escaped (k ∷ ks) = escape_escaped k (spelled ks) (spelled_escaped ks)

spelled_slash : (ks : List Bytes) → has_slash (spelled ks) ≡ true
unfolding has_slash
spelled_slash [] = refl
spelled_slash (k ∷ ks) = refl

-- Where no tail byte is due, a text goes on as it starts.
due_none : (b : Bytes) (low high : ℕ) → text_rest b ready ≡ text_rest b (Some (0, low, high))
unfolding lead
due_none [] low high = refl
due_none (x ∷ b) low high = refl

escape_text : (k : Bytes) (l : Option (ℕ × ℕ × ℕ)) → High l → text_rest k l ≡ true → (rest : Bytes) → text_rest rest ready ≡ true
    → text_rest (escape k ++ rest) l ≡ true
unfolding lead
escape_text [] None h e rest r = false_true e
escape_text [] (Some (zero, low, high)) h e rest r = sym (due_none rest low high) ∙ r
escape_text [] (Some ((suc n), low, high)) h e rest r = false_true e
escape_text (x ∷ b) None h e rest r = false_true e
escape_text (x ∷ b) (Some (zero, low, high)) h e rest r =
    go (sym (rest_first x low high b) ∙ e) (λ q. escape_text b ready tt q rest r) (λ q. escape_text b (lead x) (lead_high x) q rest r)
    (eqb x 0x7E) refl (eqb x 0x2F) refl
  where
    go : text_rest b (lead x) ≡ true → (text_rest b ready ≡ true → text_rest (escape b ++ rest) ready ≡ true)
        → (text_rest b (lead x) ≡ true → text_rest (escape b ++ rest) (lead x) ≡ true)
        → (t : Bool) → eqb x 0x7E ≡ t → (s : Bool) → eqb x 0x2F ≡ s
        → text_rest (cond t (0x7E ∷ 0x30 ∷ escape b) (cond s (0x7E ∷ 0x31 ∷ escape b) (x ∷ escape b)) ++ rest) (Some (zero, low, high)) ≡ true
    go k f g true i s j =
        let z : x ≡ 0x7E = eqb-true x 0x7E i in
        one_byte 0x7E low high (0x30 ∷ escape b ++ rest) refl ∙ (one_byte 0x30 0x80 0xBF (escape b ++ rest) refl ∙ f (rw z at k))
    go k f g false i true j =
        let z : x ≡ 0x2F = eqb-true x 0x2F j in
        one_byte 0x7E low high (0x31 ∷ escape b ++ rest) refl ∙ (one_byte 0x31 0x80 0xBF (escape b ++ rest) refl ∙ f (rw z at k))
    go k f g false i false j = rest_first x low high (escape b ++ rest) ∙ g k
escape_text (x ∷ b) (Some ((suc n), low, high)) h e rest r =
    let w = and_both (between low high x) (text_rest b (Some (n, 0x80, 0xBF))) (sym (rest_tail x n low high b) ∙ e) in
    let m = leb-true low x (and_both (leb low x) (leb x high) w.0).0 in
    rw (ne_eqb x 0x7E (λ q. omega (arith, h, m, q)), ne_eqb x 0x2F (λ q. omega (arith, h, m, q)), w.0)
    (escape_text b (Some (n, 0x80, 0xBF)) (tail_high n) w.1 rest r)

spelled_text : (ks : List Bytes) → AllText ks → text_rest (spelled ks) ready ≡ true
unfolding utf8 lead
spelled_text [] a = refl
spelled_text (k ∷ ks) a =
    one_byte 0x2F 0x80 0xBF (escape k ++ spelled ks) refl ∙ escape_text k ready tt a.0 (spelled ks) (spelled_text ks a.1)

-- Every list of names that are text is the tokens of a pointer, the one that spells it.
pub pointer_spells : (ks : List Bytes) → AllText ks → (is_pointer (spelled ks) ≡ true) × (tokens (spelled ks) ≡ ks)
pointer_spells ks a = (go (spelled_text ks a), tokens_spelled ks)
  where
    go : text_rest (spelled ks) ready ≡ true → is_pointer (spelled ks) ≡ true
    go e = unfold is_pointer in unfold utf8 in rw (e, spelled_slash ks, spelled_escaped ks)

-- ---- the places of an array

digits_end : (a : Bytes) (x : ℕ) → digits a ≡ true → between 0x30 0x39 x ≡ true → digits (a ++ (x ∷ [])) ≡ true
digits_end [] x d e = rw e
digits_end (y ∷ a) x d e =
    let w = and_both (between 0x30 0x39 y) (digits a) d in
    rw w.0 (digits_end a x w.1 e)

value_end : (v : ℕ) (a : Bytes) (x : ℕ) → digits_value v (a ++ (x ∷ [])) ≡ digits_value v a * 10 + (x - 0x30)
value_end v [] x = refl
value_end v (y ∷ a) x = value_end (v * 10 + (y - 0x30)) a x

-- Digits that write `v`, the first of them no 0 but for 0 itself.
record Writes (v : ℕ) (b : Bytes) : Type 0 where
  all : digits b ≡ true
  value : digits_value 0 b ≡ v
  some_digit : length b ≡ 0 → ⊥
  leads : 0 < v → get_or b 0 0 ≡ 0x30 → ⊥
  alone : v ≡ 0 → length b ≡ 1

first_end : (a : Bytes) (x : ℕ) → (length a ≡ 0 → ⊥) → get_or (a ++ (x ∷ [])) 0 0 ≡ get_or a 0 0
first_end [] x h = absurd (h refl)
first_end (y ∷ a) x h = refl

digit_is : (d : ℕ) → d < 10 → between 0x30 0x39 (48 + d) ≡ true
digit_is d l = rw (le-leb 0x30 (48 + d) (omega arith), le-leb (48 + d) 0x39 (omega arith))

decimal_writes : (most v : ℕ) → (most ≡ 0 → ⊥) → v < 10 ^ most → Writes v (decimal most v)
decimal_writes zero v z l = absurd (z refl)
decimal_writes (suc most) v z l = go (decimal_writes most (v / 10)) (dec_lt v 10)
  where
    go : ((most ≡ 0 → ⊥) → v / 10 < 10 ^ most → Writes (v / 10) (decimal most (v / 10))) → Dec (v < 10) → Writes v (decimal (suc most) v)
    go ih (yes few) =
        rw (decimal_one (suc most) v z few)
        (record {
          all = rw (digit_is v few);
          value = omega arith;
          some_digit = λ e. omega (arith, e);
          leads = λ p e. omega (arith, p, e);
          alone = λ e. refl;
        })
    go ih (no many) =
        let some_most : most ≡ 0 → ⊥ = λ e. let l₀ : v < 10 ^ 0 * 10 = rw e at l in omega (arith, l₀, many) in
        let w = ih some_most (omega (arith, l)) in
        let one_less : suc most - 1 ≡ most = omega arith in
        rw (decimal_more (suc most) v z (omega (arith, many)), one_less)
        (record {
          all = digits_end (decimal most (v / 10)) (48 + v % 10) w.all (digit_is (v % 10) (omega arith));
          value = omega (arith, value_end 0 (decimal most (v / 10)) (48 + v % 10), w.value);
          some_digit = λ e. omega (arith, e, length-append (decimal most (v / 10)) ((48 + v % 10) ∷ []));
          leads = λ p e. w.leads (omega (arith, many)) (sym (first_end (decimal most (v / 10)) (48 + v % 10) w.some_digit) ∙ e);
          alone = λ e. absurd (many (omega (arith, e)));
        })

index_writes : (v : ℕ) (b : Bytes) → Writes v b → index_of b ≡ Some v
unfolding index_of
index_writes v [] w = absurd (w.some_digit refl)
index_writes v (x ∷ []) w = rw (and_both (between 0x30 0x39 x) true w.all).0 (ap Some (omega (arith, w.value)))
index_writes v (x ∷ y ∷ b) w =
    let d = and_both (between 0x30 0x39 x) (digits (y ∷ b)) w.all in
    let first : x ≡ 0x30 → ⊥ = λ e. go e (dec_lt 0 v) in
    rw (between_one x first, d.0, d.1) (ap Some w.value)
  where
    go : x ≡ 0x30 → Dec (0 < v) → ⊥
    go e (yes more) = w.leads more e
    go e (no none) = omega (arith, w.alone (omega (arith, none)))

-- Every place of an array has its token: its decimal text, as `put_decimal` of layout writes it.
pub index_spelled : (most i : ℕ) → (most ≡ 0 → ⊥) → i < 10 ^ most → index_of (decimal most i) ≡ Some i
index_spelled most i z l = index_writes i (decimal most i) (decimal_writes most i z l)
