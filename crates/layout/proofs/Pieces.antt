-- The parts of a container by their places: sums of lengths, step by step.
use Prim.Native.Nat.{ℕ, ◌+◌, ◌-◌, ◌^◌, ◌<◌, ◌≤◌}
use native.Mathlib.Omega.{arith}
use mathlib.Core.Path.{◌≡◌, refl, ap, ◌∙◌}
use lib.ListN.{take, drop}
use Rattle.layout.specs.Bytes.{Bytes}
use Rattle.layout.specs.Entry.{length_of, entry_at, lengths}
use Rattle.layout.specs.Parts.{first_part, nth_part, bytes_at, past, behind_member}
use Rattle.layout.specs.declared.parts.ItemAt.{ItemAt}
use Rattle.layout.specs.declared.parts.MemberAt.{MemberAt}
use Rattle.layout.specs.declared.parts.PartAt.{PartAt}
use Rattle.layout.specs.declared.parts.Places.{Places}
use Rattle.layout.proofs.Fields.{length_lt}
use Rattle.layout.proofs.Checks.{lengths_step}

pub payload_is : (r s : Bytes) (x : ItemAt) (n : ℕ) → n ≡ length_of x.jentry → r ≡ take n (drop x.place s)
    → r ≡ bytes_at s x
payload_is r s x n e h = rw (h, e)

-- Equal parts have equal numbers, as sums want them.
pub same_part : {p q : PartAt} → p ≡ q → (p.index ≡ q.index) × (p.place ≡ q.place)
same_part e = (ap (λ (x : PartAt). x.index) e, ap (λ (x : PartAt). x.place) e)

-- Part `k`, behind the first ones.
pub nth_is : (s : Bytes) (n k p : ℕ) (first : PartAt) → first ≡ first_part n → p ≡ first.place + lengths s first.index (k - first.index)
    → record { index = k; place = p } ≡ nth_part s n k
nth_is s n k p first f e = let z : k - 0 ≡ k = omega arith in rw (e, f, z)

-- Places one after another: `total` is where the last one stands.
pub place_more : (s : Bytes) (i n p total e l : ℕ) → i < n → total ≡ p + lengths s i (n - i) → e ≡ entry_at s i → l ≡ length_of e
    → total ≡ p + l + lengths s (i + 1) (n - (i + 1))
place_more s i n p total e l lt inv he hl =
    let le : l ≡ length_of (entry_at s i) = cc in
    omega (arith, lengths_step s i n lt)

pub place_end : (s : Bytes) (i n p total : ℕ) → n ≤ i → total ≡ p + lengths s i (n - i) → p ≡ total
unfolding lengths
place_end s i n p total h inv = let k : n - i ≡ 0 = omega arith in rw inv (rw k (omega arith))

-- The places behind a member, by the lengths of its name and value.
pub behind_is : (r at : Places) (m : MemberAt) (k v : ℕ) → k ≡ length_of m.key.jentry → v ≡ length_of m.val.jentry
    → r ≡ past at k v → r ≡ behind_member at m
behind_is r at m k v hk hv h = h ∙ rw (hk, hv)

-- They are near: what a loop over members keeps of its bounds.
pub record Further (at next : Places) : Type 0 where
  pub key_jentry : next.key_jentry ≡ at.key_jentry + 4
  pub val_jentry : next.val_jentry ≡ at.val_jentry + 4
  pub key : next.key < at.key + 2 ^ 28
  pub val : next.val < at.val + 2 ^ 28

pub behind_further : (at next : Places) (m : MemberAt) → next ≡ behind_member at m → Further at next
behind_further at next m e =
    rw e (record {
      key_jentry = refl;
      val_jentry = refl;
      key = omega (arith, length_lt m.key.jentry);
      val = omega (arith, length_lt m.val.jentry);
    })
