-- What the checks and the headers say of a record.
use Prim.Native.Nat.{ℕ, ◌<◌, ◌≤◌}
use native.Mathlib.Omega.{arith}
use native.Mathlib.Decide.{dec_le}
use mathlib.Core.Path.{◌≡◌, refl, ap, sym, ◌∙◌}
use mathlib.Core.Bool.{Bool, true, false}
use lib.Dec.{leb}
use lib.ListN.{length, get_or}
use Rattle.std.proofs.Common.{Fits as FitsWord, w8}
use borrow.Author.Tests.{le-leb, lt-leb}
use Rattle.layout.specs.Bytes.{Bytes, Octets}
use Rattle.layout.specs.Answer.{Answer, gives, refused}
use Rattle.layout.specs.Tree.{Tree, null, boolean, number, string, extension, array, object, Items}
use Rattle.layout.specs.Encode.{item_parts, encode}
use Rattle.layout.specs.Read.{header, read}
use Rattle.layout.specs.Limits.{Valid, depth}
use Rattle.layout.specs.Check.{nesting}
use Rattle.layout.specs.declared.refusal.Refusal.{Refusal}
use Rattle.layout.specs.declared.refusal.Refusal.TheVariants.{Kind}
use Rattle.layout.specs.declared.util.Header.TheVariants.{Array}
use Rattle.layout.proofs.Decoding.{read_sound}
use Rattle.layout.proofs.Nestings.{head_of, header_read}
use Rattle.layout.proofs.Words.{slice_octets}
use Rattle.builders.specs.Build.{items_of}
use Rattle.std.specs.Prelude.{Ok, Err, Result}

-- A record that reads as `t`.
pub record Known (s : Bytes) (t : Tree) : Type 0 where
  pub reads : read s ≡ gives t
  pub bytes : encode t ≡ s
  pub short : length s ≤ 65536
  pub head : header s ≡ head_of t
  pub valid : Valid t
  pub deep : depth t ≤ 64

pub known : (s : Bytes) (t : Tree) → Octets s → read s ≡ gives t → Known s t
known s t o e =
    let d = read_sound s t o e in
    record {
      reads = e;
      bytes = d.0.bytes;
      short = d.1;
      head = header_read s t o e;
      valid = d.0.valid;
      deep = d.0.deep;
    }

-- What the caller of an edit of two records hands in: bytes.
pub record BothOctets (l r : Bytes) : Type 0 where
  pub left : Octets l
  pub right : Octets r

pub both_octets : (l r : Bytes) → ((i : ℕ) → FitsWord w8 (get_or l i 0)) → ((i : ℕ) → FitsWord w8 (get_or r i 0)) → BothOctets l r
both_octets l r h k = record { left = slice_octets l h; right = slice_octets r k }

-- A record by its header.
pub no_array : (t : Tree) → ((n : ℕ) → head_of t ≡ Ok (Array n) → ⊥) → items_of t ≡ refused Kind
no_array null h = refl
no_array (boolean x) h = refl
no_array (number b) h = refl
no_array (string b) h = refl
no_array (extension b) h = refl
no_array (array ts) h = absurd (h _ refl)
no_array (object ms) h = refl

pub an_array : (t : Tree) (n : ℕ) → head_of t ≡ Ok (Array n) → (ts : Items) × (t ≡ array ts) × (n ≡ length (item_parts ts))
an_array null n e = let z : ◌≡◌ {A = ℕ} 0 1 = cc in let w : ⊥ = omega arith in absurd w
an_array (boolean x) n e = let z : ◌≡◌ {A = ℕ} 0 1 = cc in let w : ⊥ = omega arith in absurd w
an_array (number b) n e = let z : ◌≡◌ {A = ℕ} 0 1 = cc in let w : ⊥ = omega arith in absurd w
an_array (string b) n e = let z : ◌≡◌ {A = ℕ} 0 1 = cc in let w : ⊥ = omega arith in absurd w
an_array (extension b) n e = let z : ◌≡◌ {A = ℕ} 0 1 = cc in let w : ⊥ = omega arith in absurd w
an_array (array ts) n e = (ts, refl, cc)
an_array (object ms) n e = let z : ◌≡◌ {A = ℕ} 0 1 = cc in let w : ⊥ = omega arith in absurd w

-- A record as an item.
pub nested_gives : (m : Answer Tree) (n : Result Bool Refusal) → n ≡ nesting m → ((r : Refusal) → n ≡ Err r → ⊥)
    → (u : Tree) × (m ≡ gives u)
nested_gives (gives u) n e h = (u, refl)
nested_gives (refused r) n e h = absurd (h r e)

pub nested_refused : (m : Answer Tree) (n : Result Bool Refusal) (x : Refusal) → n ≡ nesting m → n ≡ Err x → m ≡ refused x
nested_refused (gives u) n x e q = absurd (no_refusal (leb (depth u) 63) (sym e ∙ q))
  where
    no_refusal : (b : Bool) → Ok b ≡ Err x → ⊥
    no_refusal true z = let w : ◌≡◌ {A = ℕ} 0 1 = cc in omega arith
    no_refusal false z = let w : ◌≡◌ {A = ℕ} 0 1 = cc in omega arith
nested_refused (refused r) n x e q = cc

pub deep_nesting : (u : Tree) → Ok false ≡ nesting (gives u) → 63 < depth u
deep_nesting u e = go (dec_le (depth u) 63)
  where
    go : Dec (depth u ≤ 63) → 63 < depth u
    go (yes k) = let z : Ok false ≡ Ok true = e ∙ ap Ok (le-leb (depth u) 63 k) in let w : ◌≡◌ {A = ℕ} 0 1 = cc in let v : ⊥ = omega arith in absurd v
    go (no k) = omega arith

pub fits_nesting : (u : Tree) (n : Result Bool Refusal) → n ≡ nesting (gives u) → (n ≡ Ok false → ⊥) → depth u ≤ 63
fits_nesting u n e h = go (dec_le (depth u) 63)
  where
    go : Dec (depth u ≤ 63) → depth u ≤ 63
    go (yes k) = k
    go (no k) = absurd (h (e ∙ ap Ok (lt-leb (depth u) 63 (omega arith))))
