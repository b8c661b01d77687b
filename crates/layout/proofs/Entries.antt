-- Rule 5 for one entry, test by test: `entry` says what it says in these lines.
use Prim.Native.Nat.{ℕ, zero, suc, ◌<◌}
use native.Mathlib.Omega.{arith}
use mathlib.Core.Path.{◌≡◌, refl, sym, ap, ◌∙◌}
use mathlib.Core.Bool.{Bool, true, false, not, cond, ◌&&◌, ◌||◌, and_assoc}
use lib.Dec.{ltb, eqb}
use Rattle.layout.specs.Answer.{Answer, gives, refused, ◌>>=◌, require}
use Rattle.layout.specs.Entry.{top_of, code_of, length_of, kind_of, entry_good}
use Rattle.layout.specs.Read.{Entry, entry_ok, entry}
use Rattle.layout.specs.declared.item.Kind.{Kind}
use Rattle.layout.specs.declared.item.Kind.TheVariants.{Null, String, Number, False, True, Container, Extension}
use Rattle.layout.specs.declared.refusal.Refusal.TheVariants.{Layout}
use Rattle.layout.proofs.Fields.{code_lt}

-- The kind of a code that has a meaning.
abbrev pub known_kind : ℕ → Answer Kind
known_kind c = cond (ltb c 7) (gives (kind_of c)) (refused Layout)

abbrev pub is_string : Kind → Bool
is_string Null = false
is_string String = true
is_string Number = false
is_string False = false
is_string True = false
is_string Container = false
is_string Extension = false

abbrev pub length_ok : Kind → ℕ → Bool
length_ok Null n = eqb n 0
length_ok String n = true
length_ok Number n = true
length_ok False n = eqb n 0
length_ok True n = eqb n 0
length_ok Container n = true
length_ok Extension n = true

abbrev pub entry_in_lines : Bool → ℕ → Answer Entry
entry_in_lines name w = do
  _ ← require (eqb (top_of w) 0) Layout
  k ← known_kind (code_of w)
  _ ← require (not name || is_string k) Layout
  _ ← require (length_ok k (length_of w)) Layout
  gives (record { kind = k; len = length_of w })

-- The test of an entry, in one row.
abbrev entry_test : Bool → Bool → ℕ → ℕ → Bool
entry_test t name c n =
    t && (not (eqb c 7) && ((not name || eqb c 1) && (not (eqb c 0 || (eqb c 3 || eqb c 4)) || eqb n 0)))

pub entry_ok_is : (name : Bool) (w : ℕ) → entry_ok name w ≡ entry_test (eqb (top_of w) 0) name (code_of w) (length_of w)
unfolding entry_ok entry_good
entry_ok_is name w =
    let known = not (eqb (code_of w) 7) in
    let named = not name || eqb (code_of w) 1 in
    let sized = not (eqb (code_of w) 0 || (eqb (code_of w) 3 || eqb (code_of w) 4)) || eqb (length_of w) 0 in
    and_assoc (eqb (top_of w) 0) (known && named) sized ∙ ap (λ b. eqb (top_of w) 0 && b) (and_assoc known named sized)

all_three : (t x y : Bool) (e : Entry) →
    (require t Layout >>= λ _. require x Layout >>= λ _. require y Layout >>= λ _. gives e) ≡ cond (t && (x && y)) (gives e) (refused Layout)
unfolding ◌>>=◌ require
all_three true true true e = refl
all_three true true false e = refl
all_three true false y e = refl
all_three false x y e = refl

abbrev lines : Bool → Bool → ℕ → ℕ → Answer Entry
lines t name c n = do
  _ ← require t Layout
  k ← known_kind c
  _ ← require (not name || is_string k) Layout
  _ ← require (length_ok k n) Layout
  gives (record { kind = k; len = n })

by_code : (t name : Bool) (c n : ℕ) → c < 8 →
    lines t name c n ≡ cond (entry_test t name c n) (gives (record { kind = kind_of c; len = n })) (refused Layout)
unfolding ◌>>=◌ require kind_of
by_code t name zero n h = all_three t (not name || false) (eqb n 0) _
by_code t name (suc zero) n h = all_three t (not name || true) true _
by_code t name (suc (suc zero)) n h = all_three t (not name || false) true _
by_code t name (suc (suc (suc zero))) n h = all_three t (not name || false) (eqb n 0) _
by_code t name (suc (suc (suc (suc zero)))) n h = all_three t (not name || false) (eqb n 0) _
by_code t name (suc (suc (suc (suc (suc zero))))) n h = all_three t (not name || false) true _
by_code t name (suc (suc (suc (suc (suc (suc zero)))))) n h = all_three t (not name || false) true _
by_code true name (suc (suc (suc (suc (suc (suc (suc zero))))))) n h = refl
by_code false name (suc (suc (suc (suc (suc (suc (suc zero))))))) n h = refl
by_code t name (suc (suc (suc (suc (suc (suc (suc (suc c)))))))) n h = let z : ⊥ = omega arith in absurd z

pub entry_lines : (name : Bool) (w : ℕ) → entry name w ≡ entry_in_lines name w
unfolding entry
entry_lines name w =
    let test = by_code (eqb (top_of w) 0) name (code_of w) (length_of w) (code_lt w) in
    ap (λ b. cond b (gives (record { kind = kind_of (code_of w); len = length_of w })) (refused Layout)) (entry_ok_is name w) ∙ sym test
