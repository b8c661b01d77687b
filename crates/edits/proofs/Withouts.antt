-- An array and an object without one of their items, as the code stores them.
use Rattle.layout.specs.Parts.{start_of, first_part, nth_part, parts_end, next_part, PartOf, parts_of}
use Prim.Native.Nat.{ℕ, ◌+◌, ◌*◌, ◌-◌, ◌^◌, ◌≤◌, ◌<◌}
use native.Mathlib.Omega.{arith}
use mathlib.Core.Path.{◌≡◌, refl, ap, sym, ◌∙◌}
use mathlib.Core.List.{◌∷◌, ◌++◌}
use lib.Bits.{bit_or, or_shifted}
use lib.ListN.{length}
use Rattle.layout.specs.Bytes.{Bytes, be32}
use Rattle.layout.specs.Entry.{length_of, entry_at, lengths}
use Rattle.layout.specs.Encode.{record_of}
use Rattle.layout.specs.Patch.{patch}
use Rattle.layout.proofs.Level.{AllFit}
use Rattle.edits.specs.Cut.{Stores}
use Rattle.edits.specs.Runs.{without, without_member, Copied}
use Rattle.layout.specs.declared.parts.PartAt.{PartAt}
use Rattle.layout.specs.declared.parts.Cursor.{Cursor}
use Rattle.edits.proofs.Tables.{Parted}
use Rattle.edits.proofs.Cuts.{IsPartAt, without_stored, IsMemberAt, at_member, two_stored, key_size, key_place, val_place, val_size, two_end}

-- A header with a smaller count.
pub array_word : (n : ℕ) → n ≤ 65536 → bit_or (2 ^ 31) n ≡ 2 ^ 31 + n
array_word n h = or_shifted 1 31 n (omega arith)

pub object_word : (n : ℕ) → n ≤ 65536 → bit_or (2 ^ 30) n ≡ 2 ^ 30 + n
object_word n h = or_shifted 1 30 n (omega arith)

module _ (s : Bytes) (n : ℕ) (a : PartAt) (d : IsPartAt s n a) (o o₁ o₂ o₃ : Bytes) (at w : ℕ) (start middle end : Cursor) (next : PartAt) where
  pub array_gone : (first last : PartAt) → first ≡ first_part n → last ≡ parts_end s n
      → w ≡ bit_or (2 ^ 31) (n - 1) → o₁ ≡ patch o at (be32 w) → start.jentry ≡ at + 4 → start.place ≡ at + 4 * n
      → Copied s first a start middle o₁ o₂ → next ≡ next_part s a → Copied s next last middle end o₂ o₃
      → Stores (end.place - at) o o₃ at (record_of (2 ^ 31 + (n - 1)) (without a.index (parts_of s n)))
  array_gone first last hf hl ew e₁ sj sp h₁ en h₂ =
      let q : w ≡ 2 ^ 31 + (n - 1) = ew ∙ array_word (n - 1) (omega (arith, d.table, d.short)) in
      rw (← q) (without_stored s n a d o o₁ o₂ o₃ at w start middle end next e₁ sj sp (rw hf at h₁) en (rw hl at h₂))

-- An object at one of its values, the name of which is its part `k`.
module _ (s : Bytes) (n : ℕ) (p : Parted s (n + n)) (val : PartAt) (h : PartOf s (n + n) val) (lo : n ≤ val.index) where
  abbrev k : ℕ
  k = val.index - n

  abbrev key : PartAt
  key = nth_part s (n + n) (val.index - n)

  mem : IsMemberAt (parts_of s (n + n)) n (val.index - n)
  mem = at_member (parts_of s (n + n)) n (val.index - n) p.count (omega (arith, h.inside, lo))

  bytes : record_of p.word (mem.left ++ (mem.key ∷ (mem.middle ++ (mem.val ∷ mem.right)))) ≡ s
  bytes = rw (← mem.whole) p.bytes

  fits : AllFit (mem.left ++ (mem.key ∷ (mem.middle ++ (mem.val ∷ mem.right))))
  fits = rw (← mem.whole) p.fits

  total : length (mem.left ++ (mem.key ∷ (mem.middle ++ (mem.val ∷ mem.right)))) ≡ n + n
  total = rw (← mem.whole) p.count

  val_at : val.index ≡ length mem.left + 1 + length mem.middle
  val_at = omega (arith, mem.before, mem.between, lo)

  val_stands : val.place ≡ start_of (n + n) + lengths s 0 val.index
  val_stands = ap (λ (x : PartAt). x.place) h.is

  pub record Bounds : Type 0 where
    pub table : start_of (n + n) ≤ length s
    pub short : length s ≤ 65536
    pub inside : val.index < n + n
    pub key_below : start_of (n + n) + lengths s 0 (val.index - n) + length_of (entry_at s (val.index - n)) ≤ val.place
    pub val_below : val.place + length_of (entry_at s val.index) ≤ length s

  pub bounds : Bounds
  bounds =
      let kz = key_size s (n + n) p.word mem.left mem.key mem.middle mem.val mem.right bytes fits total
      key val (sym mem.before) val_at refl val_stands in
      let kp = key_place s (n + n) p.word mem.left mem.key mem.middle mem.val mem.right bytes fits total
      key val (sym mem.before) val_at refl val_stands in
      let vp = val_place s (n + n) p.word mem.left mem.key mem.middle mem.val mem.right bytes fits total
      key val (sym mem.before) val_at refl val_stands in
      let vz = val_size s (n + n) p.word mem.left mem.key mem.middle mem.val mem.right bytes fits total
      key val (sym mem.before) val_at refl val_stands in
      let ve = two_end s (n + n) p.word mem.left mem.key mem.middle mem.val mem.right bytes fits total
      key val (sym mem.before) val_at refl val_stands in
      record {
        table = p.table;
        short = p.short;
        inside = h.inside;
        key_below = omega (arith, kz, kp, vp);
        val_below = omega (arith, vz, ve);
      }

  module _ (o o₁ o₂ o₃ o₄ : Bytes) (at w : ℕ) (start keys vals end : Cursor) (name next after : PartAt) where
    pub object_gone : (first last : PartAt) → first ≡ first_part (n + n) → last ≡ parts_end s (n + n)
        → w ≡ bit_or (2 ^ 30) (n - 1) → name ≡ nth_part s (n + n) (val.index - n)
        → o₁ ≡ patch o at (be32 w) → start.jentry ≡ at + 4 → start.place ≡ at + 4 + 4 * (n - 1 + (n - 1))
        → Copied s first name start keys o₁ o₂ → next ≡ next_part s name → Copied s next val keys vals o₂ o₃
        → after ≡ next_part s val → Copied s after last vals end o₃ o₄
        → Stores (end.place - at) o o₄ at (record_of (2 ^ 30 + (n - 1)) (without_member n (val.index - n) (parts_of s (n + n))))
    object_gone first last hf hl ew hk e₁ sj sp h₁ en h₂ ea h₃ =
        let q : w ≡ 2 ^ 30 + (n - 1) = ew ∙ object_word (n - 1) (omega (arith, p.table, p.short)) in
        rw (mem.gone, ← q)
        (two_stored s (n + n) p.word mem.left mem.key mem.middle mem.val mem.right bytes fits total key val
        (sym mem.before) val_at refl val_stands o o₁ o₂ o₃ o₄ at w start keys vals end next after e₁ sj
        (omega (arith, sp, lo, h.inside)) (rw (hf, hk) at h₁) (rw hk at en) h₂ ea (rw hl at h₃))
