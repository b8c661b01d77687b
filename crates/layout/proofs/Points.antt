-- Bytes are a text of `n` code points exactly where they are the octet sequences of `n` code points, one behind the other.
use Prim.Native.Nat.{ℕ, zero, suc, ◌+◌, ◌*◌, ◌-◌, ◌/◌, ◌%◌, ◌^◌, ◌<◌, ◌≤◌}
use native.Mathlib.Omega.{arith}
use native.Mathlib.Decide.{dec_le}
use mathlib.Core.Path.{◌≡◌, refl, ap, ◌∙◌}
use mathlib.Core.Logic.{◌⊎◌, inl, inr, ⊎_elim}
use mathlib.Core.Bool.{Bool, true, false, cond, ◌&&◌}
use mathlib.Core.List.{List, [], ◌∷◌, ◌++◌}
use borrow.Author.Tests.{le-leb, lt-leb, lt-ltb, le-ltb}
use lib.Dec.{leb}
use lib.ListN.{length}
use Rattle.layout.specs.Bytes.{Bytes}
use Rattle.layout.specs.Text.{between, lead, points_rest, code_points}
use Rattle.layout.specs.CodePoints.{octet_sequence, encoded, CodePoints, Counted}
use Rattle.std.specs.Prelude.{Some, None, Option}

-- ---- what each range of first bytes asks for

within : (low high x : ℕ) → low ≤ x → x ≤ high → between low high x ≡ true
within low high x a b = rw (le-leb low x a, le-leb x high b)

below : (low high x : ℕ) → x < low → between low high x ≡ false
below low high x h = rw (lt-leb low x h)

above : (low high x : ℕ) → high < x → between low high x ≡ false
above low high x h = rw (lt-leb x high h) (and_no (leb low x))
  where
    and_no : (a : Bool) → (a && false) ≡ false
    and_no true = refl
    and_no false = refl

lead_ascii : (x : ℕ) → x ≤ 0x7F → lead x ≡ Some (0, 0x80, 0xBF)
unfolding lead
lead_ascii x b = rw (within 0x00 0x7F x (omega arith) b)

lead_tail : (x : ℕ) → 0x80 ≤ x → x ≤ 0xC1 → lead x ≡ None
unfolding lead
lead_tail x a b =
    rw (
      above 0x00 0x7F x (omega arith),
      below 0xC2 0xDF x (omega arith),
      below 0xE0 0xE0 x (omega arith),
      below 0xE1 0xEC x (omega arith),
      below 0xED 0xED x (omega arith),
      below 0xEE 0xEF x (omega arith),
      below 0xF0 0xF0 x (omega arith),
      below 0xF1 0xF3 x (omega arith),
      below 0xF4 0xF4 x (omega arith),
    )

-- The table from the row of E1 on, and from that of EE on.
abbrev from_EE : ℕ → Option (ℕ × ℕ × ℕ)
from_EE x =
    cond (between 0xEE 0xEF x) (Some (2, 0x80, 0xBF))
    (cond (between 0xF0 0xF0 x) (Some (3, 0x90, 0xBF))
    (cond (between 0xF1 0xF3 x) (Some (3, 0x80, 0xBF))
    (cond (between 0xF4 0xF4 x) (Some (3, 0x80, 0x8F))
    None)))

abbrev from_E1 : ℕ → Option (ℕ × ℕ × ℕ)
from_E1 x = cond (between 0xE1 0xEC x) (Some (2, 0x80, 0xBF)) (cond (between 0xED 0xED x) (Some (2, 0x80, 0x9F)) (from_EE x))

past_E0 : (x : ℕ) → 0xE1 ≤ x → lead x ≡ from_E1 x
unfolding lead
past_E0 x a = rw (above 0x00 0x7F x (omega arith), above 0xC2 0xDF x (omega arith), above 0xE0 0xE0 x (omega arith))

past_ED : (x : ℕ) → 0xEE ≤ x → lead x ≡ from_EE x
past_ED x a = past_E0 x (omega arith) ∙ rw (above 0xE1 0xEC x (omega arith), above 0xED 0xED x (omega arith))

lead_two : (x : ℕ) → 0xC2 ≤ x → x ≤ 0xDF → lead x ≡ Some (1, 0x80, 0xBF)
unfolding lead
lead_two x a b = rw (above 0x00 0x7F x (omega arith), within 0xC2 0xDF x a b)

lead_E0 : (x : ℕ) → x ≡ 0xE0 → lead x ≡ Some (2, 0xA0, 0xBF)
unfolding lead
lead_E0 x e = rw e

lead_E1_EC : (x : ℕ) → 0xE1 ≤ x → x ≤ 0xEC → lead x ≡ Some (2, 0x80, 0xBF)
lead_E1_EC x a b = past_E0 x a ∙ rw (within 0xE1 0xEC x a b)

lead_ED : (x : ℕ) → x ≡ 0xED → lead x ≡ Some (2, 0x80, 0x9F)
unfolding lead
lead_ED x e = rw e

lead_EE_EF : (x : ℕ) → 0xEE ≤ x → x ≤ 0xEF → lead x ≡ Some (2, 0x80, 0xBF)
lead_EE_EF x a b = past_ED x a ∙ rw (within 0xEE 0xEF x a b)

lead_F0 : (x : ℕ) → x ≡ 0xF0 → lead x ≡ Some (3, 0x90, 0xBF)
unfolding lead
lead_F0 x e = rw e

lead_F1_F3 : (x : ℕ) → 0xF1 ≤ x → x ≤ 0xF3 → lead x ≡ Some (3, 0x80, 0xBF)
lead_F1_F3 x a b =
    past_ED x (omega arith) ∙ rw (above 0xEE 0xEF x (omega arith), above 0xF0 0xF0 x (omega arith), within 0xF1 0xF3 x a b)

lead_F4 : (x : ℕ) → x ≡ 0xF4 → lead x ≡ Some (3, 0x80, 0x8F)
unfolding lead
lead_F4 x e = rw e

lead_high : (x : ℕ) → 0xF5 ≤ x → lead x ≡ None
lead_high x a =
    past_ED x (omega arith)
    ∙ rw (
      above 0xEE 0xEF x (omega arith),
      above 0xF0 0xF0 x (omega arith),
      above 0xF1 0xF3 x (omega arith),
      above 0xF4 0xF4 x (omega arith),
    )

-- ---- a code point counts once

-- The number behind `n` characters, where the next byte is a first one.
abbrev rest : Bytes → ℕ → Option ℕ
rest b n = points_rest b n (Some (0, 0x80, 0xBF))

-- A first byte, and a tail byte that is due.
first_byte : (x n : ℕ) (b : Bytes) {l : Option (ℕ × ℕ × ℕ)} → lead x ≡ l → rest (x ∷ b) n ≡ points_rest b (suc n) l
first_byte x n b e = ap (points_rest b (suc n)) e

tail_byte : (y k low high n : ℕ) (b : Bytes) → (low ≤ y) × (y ≤ high)
    → points_rest (y ∷ b) n (Some ((suc k), low, high)) ≡ points_rest b n (Some (k, 0x80, 0xBF))
tail_byte y k low high n b h = rw (within low high y h.0 h.1)

abbrev Tail : ℕ → Type 0
Tail y = (0x80 ≤ y) × (y ≤ 0xBF)

two_bytes : (x y low high n : ℕ) (b : Bytes) → lead x ≡ Some (1, low, high) → (low ≤ y) × (y ≤ high)
    → rest (x ∷ y ∷ b) n ≡ rest b (suc n)
two_bytes x y low high n b e h = first_byte x n (y ∷ b) e ∙ tail_byte y 0 low high (suc n) b h

three_bytes : (x y z low high n : ℕ) (b : Bytes) → lead x ≡ Some (2, low, high) → (low ≤ y) × (y ≤ high) → Tail z
    → rest (x ∷ y ∷ z ∷ b) n ≡ rest b (suc n)
three_bytes x y z low high n b e h t =
    first_byte x n (y ∷ z ∷ b) e ∙ (tail_byte y 1 low high (suc n) (z ∷ b) h ∙ tail_byte z 0 0x80 0xBF (suc n) b t)

four_bytes : (x y z w low high n : ℕ) (b : Bytes) → lead x ≡ Some (3, low, high) → (low ≤ y) × (y ≤ high) → Tail z → Tail w
    → rest (x ∷ y ∷ z ∷ w ∷ b) n ≡ rest b (suc n)
four_bytes x y z w low high n b e h t u =
    first_byte x n (y ∷ z ∷ w ∷ b) e
    ∙ (tail_byte y 2 low high (suc n) (z ∷ w ∷ b) h
    ∙ (tail_byte z 1 0x80 0xBF (suc n) (w ∷ b) t
    ∙ tail_byte w 0 0x80 0xBF (suc n) b u))

-- The octets of a code point by its range.
in_one : (c : ℕ) → c < 0x80 → octet_sequence c ≡ c ∷ []
unfolding octet_sequence
in_one c h = rw (lt-ltb c 0x80 h)

in_two : (c : ℕ) → 0x80 ≤ c → c < 0x800 → octet_sequence c ≡ (0xC0 + c / 2 ^ 6) ∷ (0x80 + c % 2 ^ 6) ∷ []
unfolding octet_sequence
in_two c l h = rw (le-ltb c 0x80 l, lt-ltb c 0x800 h)

in_three : (c : ℕ) → 0x800 ≤ c → c < 0x10000
    → octet_sequence c ≡ (0xE0 + c / 2 ^ 12) ∷ (0x80 + c / 2 ^ 6 % 2 ^ 6) ∷ (0x80 + c % 2 ^ 6) ∷ []
unfolding octet_sequence
in_three c l h = rw (le-ltb c 0x80 (omega arith), le-ltb c 0x800 l, lt-ltb c 0x10000 h)

in_four : (c : ℕ) → 0x10000 ≤ c
    → octet_sequence c ≡ (0xF0 + c / 2 ^ 18) ∷ (0x80 + c / 2 ^ 12 % 2 ^ 6) ∷ (0x80 + c / 2 ^ 6 % 2 ^ 6) ∷ (0x80 + c % 2 ^ 6) ∷ []
unfolding octet_sequence
in_four c l = rw (le-ltb c 0x80 (omega arith), le-ltb c 0x800 (omega arith), le-ltb c 0x10000 l)

module _ (c n : ℕ) (b : Bytes) where
  abbrev Once : Type 0
  Once = rest (octet_sequence c ++ b) n ≡ rest b (suc n)

  once_two : 0x80 ≤ c → c < 0x800 → Once
  once_two l h = rw (in_two c l h) (two_bytes _ _ 0x80 0xBF n b (lead_two _ (omega arith) (omega arith)) (omega arith))

  -- Of three octets, by the rows of E0, E1 to EC, ED, and EE and EF.
  once_three : 0x800 ≤ c → c < 0x10000 → (c < 0xD800) ⊎ (0xDFFF < c) → Dec (0x1000 ≤ c) → Dec (0xD000 ≤ c) → Once
  once_three l h s (no d) e = rw (in_three c l h) (three_bytes _ _ _ 0xA0 0xBF n b (lead_E0 _ (omega arith)) (omega arith) (omega arith))
  once_three l h s (yes d) (no e) =
      rw (in_three c l h) (three_bytes _ _ _ 0x80 0xBF n b (lead_E1_EC _ (omega arith) (omega arith)) (omega arith) (omega arith))
  once_three l h s (yes d) (yes e) =
      ⊎_elim
      (λ q. rw (in_three c l h) (three_bytes _ _ _ 0x80 0x9F n b (lead_ED _ (omega arith)) (omega arith) (omega arith)))
      (λ q. rw (in_three c l h) (three_bytes _ _ _ 0x80 0xBF n b (lead_EE_EF _ (omega arith) (omega arith)) (omega arith) (omega arith)))
      s

  -- Of four, by the rows of F0, F1 to F3, and F4.
  once_four : 0x10000 ≤ c → c < 0x110000 → Dec (0x40000 ≤ c) → Dec (0x100000 ≤ c) → Once
  once_four l h (no d) e =
      rw (in_four c l) (four_bytes _ _ _ _ 0x90 0xBF n b (lead_F0 _ (omega arith)) (omega arith) (omega arith) (omega arith))
  once_four l h (yes d) (no e) =
      rw (in_four c l)
      (four_bytes _ _ _ _ 0x80 0xBF n b (lead_F1_F3 _ (omega arith) (omega arith)) (omega arith) (omega arith) (omega arith))
  once_four l h (yes d) (yes e) =
      rw (in_four c l) (four_bytes _ _ _ _ 0x80 0x8F n b (lead_F4 _ (omega arith)) (omega arith) (omega arith) (omega arith))

  counts_once : c < 0x110000 → (c < 0xD800) ⊎ (0xDFFF < c) → Dec (0x80 ≤ c) → Dec (0x800 ≤ c) → Dec (0x10000 ≤ c) → Once
  counts_once top s (no i) j k = rw (in_one c (omega arith)) (first_byte c n b (lead_ascii c (omega arith)))
  counts_once top s (yes i) (no j) k = once_two i (omega arith)
  counts_once top s (yes i) (yes j) (no k) = once_three j (omega arith) s (dec_le 0x1000 c) (dec_le 0xD000 c)
  counts_once top s (yes i) (yes j) (yes k) = once_four k top (dec_le 0x40000 c) (dec_le 0x100000 c)

all_count : (cs : List ℕ) (n : ℕ) → CodePoints cs → rest (encoded cs) n ≡ Some (n + length cs)
all_count [] n h = let e : n + 0 ≡ n = omega arith in rw e
all_count (c ∷ cs) n h =
    let e : n + length (c ∷ cs) ≡ suc n + length cs = omega arith in
    counts_once c n (encoded cs) h.0 h.1 (dec_le 0x80 c) (dec_le 0x800 c) (dec_le 0x10000 c) ∙ rw e (all_count cs (suc n) h.2)

-- ---- the code points of a text

never : {C : Type 0} {n : ℕ} → None ≡ Some n → C
never e = let z : ◌≡◌ {A = ℕ} 0 1 = cc in let w : ⊥ = omega arith in absurd w

bad_rest : {C : Type 0} (b : Bytes) (n m : ℕ) → points_rest b n None ≡ Some m → C
bad_rest [] n m e = never e
bad_rest (x ∷ b) n m e = never e

-- A tail byte that was due, and what is behind it.
abbrev Next : Bytes → ℕ → ℕ → ℕ → ℕ → ℕ → Type 0
Next b n k low high m =
    (y : ℕ) × (r : Bytes) × (b ≡ y ∷ r) × (low ≤ y) × (y ≤ high) × (points_rest r n (Some (k, 0x80, 0xBF)) ≡ Some m)

next : (b : Bytes) (n k low high m : ℕ) → points_rest b n (Some ((suc k), low, high)) ≡ Some m → Next b n k low high m
next [] n k low high m e = never e
next (y ∷ r) n k low high m e = go (dec_le low y) (dec_le y high) e
  where
    go : Dec (low ≤ y) → Dec (y ≤ high) → cond (between low high y) (points_rest r n (Some (k, 0x80, 0xBF))) None ≡ Some m
        → Next (y ∷ r) n k low high m
    go (no a) h q = never (rw (below low high y (omega arith)) at q)
    go (yes a) (no h) q = never (rw (above low high y (omega arith)) at q)
    go (yes a) (yes h) q = (y, r, refl, a, h, rw (within low high y a h) at q)

-- Behind `n` code points so many more that there are `m`.
abbrev Written : Bytes → ℕ → ℕ → Type 0
Written b n m = (cs : List ℕ) × CodePoints cs × (encoded cs ≡ b) × (n + length cs ≡ m)

write : (c : ℕ) (a r : Bytes) (n m : ℕ) → c < 0x110000 → (c < 0xD800) ⊎ (0xDFFF < c) → octet_sequence c ≡ a → Written r (suc n) m
    → Written (a ++ r) n m
write c a r n m top s e w =
    let count : n + length (c ∷ w.0) ≡ m = omega (arith, w.3) in
    (c ∷ w.0, (top, s, w.1), rw (e, w.2), count)

-- The code points of two, three and four octets.
abbrev two_of : ℕ → ℕ → ℕ
two_of x y = (x - 0xC0) * 64 + (y - 0x80)

abbrev three_of : ℕ → ℕ → ℕ → ℕ
three_of x y z = (x - 0xE0) * 4096 + (y - 0x80) * 64 + (z - 0x80)

abbrev four_of : ℕ → ℕ → ℕ → ℕ → ℕ
four_of x y z w = (x - 0xF0) * 262144 + (y - 0x80) * 4096 + (z - 0x80) * 64 + (w - 0x80)

-- One code point, where the rest of the text is known to be some.
module _ (most n m : ℕ) (again : (r : Bytes) → length r ≤ most → rest r (suc n) ≡ Some m → Written r (suc n) m) where
  from_one : (x : ℕ) (b : Bytes) → length b ≤ most → x ≤ 0x7F → rest b (suc n) ≡ Some m → Written (x ∷ b) n m
  from_one x b l h e = write x (x ∷ []) b n m (omega arith) (inl (omega arith)) (in_one x (omega arith)) (again b l e)

  from_two : (x : ℕ) (b : Bytes) → length b ≤ most → 0xC2 ≤ x → x ≤ 0xDF → points_rest b (suc n) (Some (1, 0x80, 0xBF)) ≡ Some m
      → Written (x ∷ b) n m
  from_two x b l lx hx e =
      let (y, r, eb, ly, hy, er) = next b (suc n) 0 0x80 0xBF m e in
      let p : 0xC0 + two_of x y / 2 ^ 6 ≡ x = omega arith in
      let q : 0x80 + two_of x y % 2 ^ 6 ≡ y = omega arith in
      rw eb
      (write (two_of x y) (x ∷ y ∷ []) r n m (omega arith) (inl (omega arith))
      (in_two (two_of x y) (omega arith) (omega arith) ∙ rw (p, q)) (again r (omega (arith, ap length eb)) er))

  -- Of three and of four octets the range of the second says that the code point is none of fewer octets, no surrogate, and not too
  -- high.
  from_three : (x low high : ℕ) (b : Bytes) → length b ≤ most → (0xE0 ≤ x) × (x ≤ 0xEF) × (0x80 ≤ low) × (high ≤ 0xBF)
      → ((y : ℕ) → low ≤ y → y ≤ high → (0x800 ≤ three_of x y 0x80) × ((three_of x y 0x80 < 0xD800) ⊎ (0xDFFF < three_of x y 0x80)))
      → points_rest b (suc n) (Some (2, low, high)) ≡ Some m → Written (x ∷ b) n m
  from_three x low high b l within ok e =
      let (y, r, eb, ly, hy, er) = next b (suc n) 1 low high m e in
      let (z, s, es, lz, hz, ez) = next r (suc n) 0 0x80 0xBF m er in
      let k = ok y ly hy in
      let p : 0xE0 + three_of x y z / 2 ^ 12 ≡ x = omega (arith, within) in
      let q : 0x80 + three_of x y z / 2 ^ 6 % 2 ^ 6 ≡ y = omega (arith, within) in
      let t : 0x80 + three_of x y z % 2 ^ 6 ≡ z = omega (arith, within) in
      rw (eb, es)
      (write (three_of x y z) (x ∷ y ∷ z ∷ []) s n m (omega (arith, within))
      (⊎_elim (λ h. inl (omega (arith, within))) (λ h. inr (omega arith)) k.1)
      (in_three (three_of x y z) (omega (arith, k.0)) (omega (arith, within)) ∙ rw (p, q, t))
      (again s (omega (arith, ap length eb, ap length es)) ez))

  from_four : (x low high : ℕ) (b : Bytes) → length b ≤ most → (0xF0 ≤ x) × (x ≤ 0xF4) × (0x80 ≤ low) × (high ≤ 0xBF)
      → ((y : ℕ) → low ≤ y → y ≤ high → (0x10000 ≤ four_of x y 0x80 0x80) × (four_of x y 0x80 0x80 + 4096 ≤ 0x110000))
      → points_rest b (suc n) (Some (3, low, high)) ≡ Some m → Written (x ∷ b) n m
  from_four x low high b l within ok e =
      let (y, r, eb, ly, hy, er) = next b (suc n) 2 low high m e in
      let (z, s, es, lz, hz, ez) = next r (suc n) 1 0x80 0xBF m er in
      let (v, u, eu, lv, hv, ev) = next s (suc n) 0 0x80 0xBF m ez in
      let k = ok y ly hy in
      let top : four_of x y z v < 0x110000 = omega (arith, k.1) in
      let p : 0xF0 + four_of x y z v / 2 ^ 18 ≡ x = omega (arith, within) in
      let q : 0x80 + four_of x y z v / 2 ^ 12 % 2 ^ 6 ≡ y = omega (arith, within) in
      let d : four_of x y z v / 2 ^ 6 ≡ (x - 0xF0) * 4096 + (y - 0x80) * 64 + (z - 0x80) = omega (arith, within) in
      let t : 0x80 + four_of x y z v / 2 ^ 6 % 2 ^ 6 ≡ z = rw d (omega arith) in
      let w : 0x80 + four_of x y z v % 2 ^ 6 ≡ v = omega (arith, within) in
      rw (eb, es, eu)
      (write (four_of x y z v) (x ∷ y ∷ z ∷ v ∷ []) u n m top (inr (omega (arith, k.0)))
      (in_four (four_of x y z v) (omega (arith, k.0)) ∙ rw (p, q, t, w))
      (again u (omega (arith, ap length eb, ap length es, ap length eu)) ev))

  -- By the range of the first byte.
  module _ (x : ℕ) (b : Bytes) (l : length b ≤ most) (e : points_rest b (suc n) (lead x) ≡ Some m) where
    from_F : 0xF0 ≤ x → Dec (x ≤ 0xF0) → Dec (x ≤ 0xF3) → Dec (x ≤ 0xF4) → Written (x ∷ b) n m
    from_F a (yes h) i j = from_four x 0x90 0xBF b l (omega arith) (λ y p q. omega arith) (rw (lead_F0 x (omega arith)) at e)
    from_F a (no h) (yes i) j = from_four x 0x80 0xBF b l (omega arith) (λ y p q. omega arith) (rw (lead_F1_F3 x (omega arith) i) at e)
    from_F a (no h) (no i) (yes j) = from_four x 0x80 0x8F b l (omega arith) (λ y p q. omega arith) (rw (lead_F4 x (omega arith)) at e)
    from_F a (no h) (no i) (no j) = bad_rest b (suc n) m (rw (lead_high x (omega arith)) at e)

    from_E : 0xE0 ≤ x → x ≤ 0xEF → Dec (x ≤ 0xE0) → Dec (x ≤ 0xEC) → Dec (x ≤ 0xED) → Written (x ∷ b) n m
    from_E a z (yes h) i j =
        from_three x 0xA0 0xBF b l (omega arith) (λ y p q. (omega arith, inl (omega arith))) (rw (lead_E0 x (omega arith)) at e)
    from_E a z (no h) (yes i) j =
        from_three x 0x80 0xBF b l (omega arith) (λ y p q. (omega arith, inl (omega arith))) (rw (lead_E1_EC x (omega arith) i) at e)
    from_E a z (no h) (no i) (yes j) =
        from_three x 0x80 0x9F b l (omega arith) (λ y p q. (omega arith, inl (omega arith))) (rw (lead_ED x (omega arith)) at e)
    from_E a z (no h) (no i) (no j) =
        from_three x 0x80 0xBF b l (omega arith) (λ y p q. (omega arith, inr (omega arith))) (rw (lead_EE_EF x (omega arith) z) at e)

    from_any : Dec (x ≤ 0x7F) → Dec (x ≤ 0xC1) → Dec (x ≤ 0xDF) → Dec (x ≤ 0xEF) → Written (x ∷ b) n m
    from_any (yes h) i j k = from_one x b l h (rw (lead_ascii x h) at e)
    from_any (no h) (yes i) j k = bad_rest b (suc n) m (rw (lead_tail x (omega arith) i) at e)
    from_any (no h) (no i) (yes j) k = from_two x b l (omega arith) j (rw (lead_two x (omega arith) j) at e)
    from_any (no h) (no i) (no j) (yes k) = from_E (omega arith) k (dec_le x 0xE0) (dec_le x 0xEC) (dec_le x 0xED)
    from_any (no h) (no i) (no j) (no k) = from_F (omega arith) (dec_le x 0xF0) (dec_le x 0xF3) (dec_le x 0xF4)

none_written : (n m : ℕ) → Some n ≡ Some m → Written [] n m
none_written n m e = let z : n ≡ m = cc in ([], tt, refl, omega arith)

-- By a bound of the length, since a code point takes away up to four bytes.
all_written : (most : ℕ) (b : Bytes) (n m : ℕ) → length b ≤ most → rest b n ≡ Some m → Written b n m
all_written zero [] n m l e = none_written n m e
all_written zero (x ∷ b) n m l e = let z : ⊥ = omega arith in absurd z
all_written (suc most) [] n m l e = none_written n m e
all_written (suc most) (x ∷ b) n m l e =
    from_any most n m (λ r h q. all_written most r (suc n) m h q) x b (omega arith) e
    (dec_le x 0x7F) (dec_le x 0xC1) (dec_le x 0xDF) (dec_le x 0xEF)

pub code_points_counted : Counted
unfolding code_points
code_points_counted b n = (
  (λ e. let (cs, points, same, count) = all_written (length b) b 0 n (omega arith) e in (cs, points, same, omega (arith, count))),
  (λ w. let e : 0 + length w.0 ≡ n = omega (arith, w.3) in rw (← w.2, ← e) (all_count w.0 0 w.1)),
)
