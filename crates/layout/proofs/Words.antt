-- Fields of four bytes, and lists of bytes.
use Prim.Native.Nat.{ℕ, zero, suc, ◌+◌, ◌*◌, ◌/◌, ◌%◌, ◌^◌, ◌<◌, ◌≤◌}
use native.Mathlib.Omega.{arith}
use mathlib.Core.Path.{◌≡◌, refl, sym, ap}
use mathlib.Core.List.{[], ◌∷◌, ◌++◌}
use lib.ListN.{length, take, drop, get_or}
use Rattle.std.specs.Int.{w32, to_be_bytes}
use Rattle.std.proofs.Common.{Fits, w8}
use Rattle.layout.specs.Bytes.{Bytes, be32, word, Octets}

-- The four bytes of a field, and the field of four bytes, written out.
pub be32_is : (w : ℕ) → be32 w ≡ w / 2 ^ 24 % 256 ∷ w / 2 ^ 16 % 256 ∷ w / 2 ^ 8 % 256 ∷ w % 256 ∷ []
unfolding be32
be32_is w = let whole : w / 1 ≡ w = omega arith in rw whole

pub word_is : (b : Bytes) → word b ≡ ((get_or b 0 0 * 256 + get_or b 1 0) * 256 + get_or b 2 0) * 256 + get_or b 3 0
unfolding word
word_is b = omega arith

pub word_be32 : (w : ℕ) (r : Bytes) → w < 2 ^ 32 → word (be32 w ++ r) ≡ w
word_be32 w r h =
    let s₃ : w / 2 ^ 24 % 256 ≡ w / 2 ^ 24 = omega arith in
    let s₂ : w / 2 ^ 24 * 256 + w / 2 ^ 16 % 256 ≡ w / 2 ^ 16 = omega arith in
    let s₁ : w / 2 ^ 16 * 256 + w / 2 ^ 8 % 256 ≡ w / 2 ^ 8 = omega arith in
    let s₀ : w / 2 ^ 8 * 256 + w % 256 ≡ w = omega arith in
    rw (be32_is w, word_is, s₃, s₂, s₁, s₀)

four : (a b c d : ℕ) → a < 256 → b < 256 → c < 256 → d < 256 →
    be32 (((a * 256 + b) * 256 + c) * 256 + d) ≡ a ∷ b ∷ c ∷ d ∷ []
four a b c d ha hb hc hd =
    let e₀ : (((a * 256 + b) * 256 + c) * 256 + d) / 2 ^ 24 % 256 ≡ a = omega arith in
    let e₁ : (((a * 256 + b) * 256 + c) * 256 + d) / 2 ^ 16 % 256 ≡ b = omega arith in
    let e₂ : (((a * 256 + b) * 256 + c) * 256 + d) / 2 ^ 8 % 256 ≡ c = omega arith in
    let e₃ : (((a * 256 + b) * 256 + c) * 256 + d) % 256 ≡ d = omega arith in
    rw (be32_is (((a * 256 + b) * 256 + c) * 256 + d), e₀, e₁, e₂, e₃)

pub be32_word : (b : Bytes) → Octets b → 4 ≤ length b → be32 (word b) ++ drop 4 b ≡ b
be32_word [] o h = let z : ⊥ = omega arith in absurd z
be32_word (x ∷ []) o h = let z : ⊥ = omega arith in absurd z
be32_word (x ∷ y ∷ []) o h = let z : ⊥ = omega arith in absurd z
be32_word (x ∷ y ∷ z ∷ []) o h = let z : ⊥ = omega arith in absurd z
be32_word (x ∷ y ∷ z ∷ w ∷ r) (hx, (hy, (hz, (hw, o)))) h =
    rw (word_is (x ∷ y ∷ z ∷ w ∷ r)) (ap (λ l. l ++ r) (four x y z w hx hy hz hw))

pub drop_be32 : (w : ℕ) (r : Bytes) → drop 4 (be32 w ++ r) ≡ r
unfolding be32
drop_be32 w r = refl

pub length_be32 : (w : ℕ) → length (be32 w) ≡ 4
unfolding be32
length_be32 w = refl

pub octets_drop : (n : ℕ) (b : Bytes) → Octets b → Octets (drop n b)
octets_drop zero b o = o
octets_drop (suc n) [] o = o
octets_drop (suc n) (x ∷ b) o = octets_drop n b o.1

pub octets_take : (n : ℕ) (b : Bytes) → Octets b → Octets (take n b)
octets_take zero b o = tt
octets_take (suc n) [] o = o
octets_take (suc n) (x ∷ b) o = (o.0, octets_take n b o.1)

pub octets_left : (a b : Bytes) → Octets (a ++ b) → Octets a
octets_left [] b o = tt
octets_left (x ∷ a) b o = (o.0, octets_left a b o.1)

pub octets_right : (a b : Bytes) → Octets (a ++ b) → Octets b
octets_right [] b o = o
octets_right (x ∷ a) b o = octets_right a b o.1

pub octets_append : (a b : Bytes) → Octets a → Octets b → Octets (a ++ b)
octets_append [] b o p = p
octets_append (x ∷ a) b o p = (o.0, octets_append a b o.1 p)

-- From numbers below 256, and from what a slice of `u8` is known to hold.
pub octets_of : (b : Bytes) → ((i : ℕ) → get_or b i 0 < 256) → Octets b
octets_of [] h = tt
octets_of (x ∷ b) h = (h 0, octets_of b (λ i. h (suc i)))

pub slice_octets : (b : Bytes) → ((i : ℕ) → Fits w8 (get_or b i 0)) → Octets b
slice_octets b h = octets_of b (λ i. omega (arith, h i))

-- The library's bytes of a field.
pub field_bytes : (w : ℕ) → to_be_bytes w32 w ≡ be32 w
field_bytes w = sym (be32_is w)
