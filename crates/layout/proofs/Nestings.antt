-- How deep a record nests: what the check with fewer levels says of it. And the header of a tree's record.
use Prim.Native.Nat.{ℕ, ◌≤◌, ◌<◌}
use native.Mathlib.Omega.{arith}
use mathlib.Core.Path.{◌≡◌, refl, ap, sym, ◌∙◌}
use lib.ListN.{length}
use native.Mathlib.Decide.{dec_le}
use borrow.Author.Tests.{le-leb, lt-leb}
use Rattle.layout.specs.Bytes.{Bytes, Octets}
use Rattle.layout.specs.Answer.{Answer, gives, refused}
use Rattle.layout.specs.Tree.{Tree, null, boolean, number, string, extension, array, object}
use Rattle.layout.specs.Encode.{item_parts, member_parts, part, encode}
use Rattle.layout.specs.Read.{header, nested, read}
use Rattle.layout.specs.Limits.{Valid, depth}
use Rattle.layout.specs.Check.{checked, nesting_to}
use Rattle.layout.specs.declared.item.Kind.TheVariants.{Container}
use Rattle.layout.specs.declared.refusal.Refusal.{Refusal}
use Rattle.layout.specs.declared.util.Header.{Header}
use Rattle.layout.specs.declared.util.Header.TheVariants.{Array, Object, Scalar}
use Rattle.layout.proofs.Answers.{refused_gives}
use Rattle.layout.proofs.Decoding.{read_sound, container_encode}
use Rattle.layout.proofs.Encoding.{array_header, object_header, scalar_header, array_fits, object_fits}
use Rattle.layout.proofs.Readables.{reads, nested_reads, length_encode}
use Rattle.std.specs.Prelude.{Ok, Err, Result, true, false}

-- The header of a tree's record says what the tree is.
abbrev pub head_of : Tree → Result Header Refusal
head_of null = Ok (Scalar 0)
head_of (boolean x) = Ok (Scalar 0)
head_of (number b) = Ok (Scalar 0)
head_of (string b) = Ok (Scalar 0)
head_of (extension b) = Ok (Scalar 0)
head_of (array ts) = Ok (Array (length (item_parts ts)))
head_of (object ms) = Ok (Object (length (member_parts ms)))

pub header_encode : (t : Tree) → length (encode t) ≤ 65536 → header (encode t) ≡ head_of t
header_encode null l = scalar_header _
header_encode (boolean x) l = scalar_header _
header_encode (number b) l = scalar_header _
header_encode (string b) l = scalar_header _
header_encode (extension b) l = scalar_header _
header_encode (array ts) l = array_header (length (item_parts ts)) _ (array_fits ts (omega arith)).count
header_encode (object ms) l = object_header (length (member_parts ms)) _ (object_fits ms (omega arith)).count

pub header_read : (s : Bytes) (t : Tree) → Octets s → read s ≡ gives t → header s ≡ head_of t
header_read s t o e =
    let d = read_sound s t o e in
    let b : encode t ≡ s = d.0.bytes in
    let l : length (encode t) ≤ 65536 = rw b d.1 in
    ap header (sym b) ∙ header_encode t l

-- What a check that passed has found.
pub readable_gives : {A : Type 0} (m : Answer A) (c : Result (Unit {0}) Refusal) → c ≡ checked m → c ≡ Ok tt → (a : A) × (m ≡ gives a)
readable_gives (gives a) c e q = (a, refl)
readable_gives (refused r) c e q = let z : Err r ≡ Ok tt = sym e ∙ q in let w : ◌≡◌ {A = ℕ} 0 1 = cc in let v : ⊥ = omega arith in absurd v

pub refused_as : {A : Type 0} (m : Answer A) (c : Result (Unit {0}) Refusal) (r : Refusal) → c ≡ checked m → c ≡ Err r → m ≡ refused r
refused_as (gives a) c r e q = let z : Ok tt ≡ Err r = sym e ∙ q in cc
refused_as (refused x) c r e q = cc

-- A record that the check refuses is refused with the same number.
pub nesting_refused : (levels : ℕ) (m : Answer Tree) (c : Result (Unit {0}) Refusal) (r : Refusal) → c ≡ checked m → c ≡ Err r → Err r ≡ nesting_to levels m
nesting_refused levels m c r e q = rw (refused_as m c r e q)

container_part : (t : Tree) → ((n : ℕ) → head_of t ≡ Ok (Scalar n) → ⊥) → part t ≡ record { kind = Container; bytes = encode t }
container_part null h = absurd (h 0 refl)
container_part (boolean x) h = absurd (h 0 refl)
container_part (number b) h = absurd (h 0 refl)
container_part (string b) h = absurd (h 0 refl)
container_part (extension b) h = absurd (h 0 refl)
container_part (array ts) h = refl
container_part (object ms) h = refl

scalar_depth : (t : Tree) (n : ℕ) → head_of t ≡ Ok (Scalar n) → depth t ≡ 0
scalar_depth null n h = refl
scalar_depth (boolean x) n h = refl
scalar_depth (number b) n h = refl
scalar_depth (string b) n h = refl
scalar_depth (extension b) n h = refl
scalar_depth (array ts) n h = cc
scalar_depth (object ms) n h = cc

module _ (levels : ℕ) (few : levels ≤ 64) (s : Bytes) (o : Octets s) (l : length s ≤ 65536) (c : Result (Unit {0}) Refusal)
    (hc : c ≡ checked (nested levels s)) where
  -- A container that reads with these levels.
  pub nesting_fits : c ≡ Ok tt → Ok true ≡ nesting_to levels (read s)
  nesting_fits q =
      let w = readable_gives (nested levels s) c hc q in
      let t = w.0 in
      let h = (nested_reads levels s t o l).0 w.1 in
      let b : encode t ≡ s = container_encode t s h.0 in
      let e : read s ≡ gives t = (reads s t o).1 (b, (h.1, omega (arith, h.2), omega (arith, length_encode t, ap length b))) in
      rw (e, le-leb (depth t) levels h.2)

  module _ (c₂ : Result (Unit {0}) Refusal) (h : Result Header Refusal) (r : Refusal) (bad : c ≡ Err r) (hc₂ : c₂ ≡ checked (read s)) (good : c₂ ≡ Ok tt) (hh : h ≡ header s) where
    pub nesting_scalar : (n : ℕ) → h ≡ Ok (Scalar n) → Ok true ≡ nesting_to levels (read s)
    nesting_scalar n q =
        let w = readable_gives (read s) c₂ hc₂ good in
        let t = w.0 in
        let d : depth t ≡ 0 = scalar_depth t n (sym (header_read s t o w.1) ∙ sym hh ∙ q) in
        rw (w.1, le-leb (depth t) levels (omega arith))

    -- A container that reads only with all levels has more than these.
    pub nesting_deep : ((n : ℕ) → h ≡ Ok (Scalar n) → ⊥) → Ok false ≡ nesting_to levels (read s)
    nesting_deep q =
        let w = readable_gives (read s) c₂ hc₂ good in
        let t = w.0 in
        let b = (reads s t o).0 w.1 in
        let p : part t ≡ record { kind = Container; bytes = encode t } = container_part t (λ n k. q n (hh ∙ header_read s t o w.1 ∙ k)) in
        let p' : part t ≡ record { kind = Container; bytes = s } = p ∙ ap (λ x. record { kind = Container; bytes = x }) b.0 in
        let deep : levels < depth t = by_depth t b.1.0 p' (dec_le (depth t) levels) in
        rw (w.1, lt-leb (depth t) levels deep)
      where
        by_depth : (t : Tree) → Valid t → part t ≡ record { kind = Container; bytes = s } → Dec (depth t ≤ levels) → levels < depth t
        by_depth t v p (yes k) = refused_gives (sym (refused_as (nested levels s) c r hc bad) ∙ (nested_reads levels s t o l).1 (p, v, k))
        by_depth t v p (no k) = omega arith
