-- A member stored with its value written anew where it has a name, and the loop that stores all of them in byte order.
use Prim.Native.Nat.{ℕ, ◌+◌, ◌*◌, ◌-◌, ◌%◌, ◌^◌, ◌≤◌}
use native.Mathlib.Omega.{arith}
use mathlib.Core.Path.{◌≡◌, ap, sym, ◌∙◌}
use mathlib.Core.Bool.{Bool, true, false}
use mathlib.Core.List.{List}
use lib.ListN.{length, drop}
use Rattle.layout.specs.Bytes.{Bytes, Octets, be32}
use Rattle.layout.specs.Entry.{entry_of, length_of}
use Rattle.layout.specs.Patch.{patch}
use Rattle.layout.proofs.Words.{length_be32, octets_take, octets_drop}
use Rattle.layout.proofs.Patches.{length_patch, patch_comm}
use Rattle.layout.specs.Order.{same_bytes}
use Rattle.layout.specs.Parts.{bytes_at, name_in, value_in, past}
use Rattle.builders.specs.Weave.{behind, own_entry, stored}
use Rattle.layout.specs.declared.parts.MemberAt.{MemberAt}
use Rattle.layout.specs.declared.parts.Places.{Places}
use Rattle.edits.specs.Keypath.{Step}
use Rattle.edits.specs.Cut.{Stores, anew_value, anew_entry}
use Rattle.edits.specs.Way.{Cuts, steps_from}
use Rattle.edits.specs.Remains.{remains_of}
use Rattle.edits.specs.declared.delete.Way.{Way}
use Rattle.edits.proofs.Onwards.{cuts_shorter}

-- Stored in this order or in that.
reordered : (o : Bytes) (a b c d : ℕ) (x v y z : Bytes) → b + length v ≤ c → b + length v ≤ d
    → patch (patch (patch (patch o a x) c y) d z) b v ≡ patch (patch (patch (patch o a x) b v) c y) d z
reordered o a b c d x v y z h k =
    patch_comm (patch (patch o a x) c y) b d v z k ∙ ap (λ (l : Bytes). patch l d z) (patch_comm (patch o a x) b c v y h)

-- Whether the member has the name, as the code compares them.
pub is_named : {b g : Bool} {key : Bytes} (s name : Bytes) (m : MemberAt) → key ≡ bytes_at s m.key → g ≡ same_bytes name key → g ≡ b
    → same_bytes name (name_in s m) ≡ b
is_named s name m hk hg q = sym (ap (same_bytes name) hk) ∙ sym hg ∙ q

-- Where it has the name: what is known before its value is written anew.
pub record Named (s path name : Bytes) (m : MemberAt) (w : Way) (at : Places) (allowance : ℕ) (key value : Bytes) : Type 0 where
  pub octets : Octets s
  pub key_is : key ≡ bytes_at s m.key
  pub value_is : value ≡ bytes_at s m.val
  pub same : same_bytes name (name_in s m) ≡ true
  pub cuts : Cuts (value_in s m) path w allowance
  pub near : at.val ≤ 65536 * (64 - allowance)
  pub key_behind : at.val_jentry + 4 ≤ at.key
  pub val_behind : at.val_jentry + 4 ≤ at.val

module _ {s path name : Bytes} {m : MemberAt} {w : Way} {at : Places} {allowance : ℕ} {key value : Bytes}
    (named : Named s path name m w at allowance key value) where
  pub value_cuts : Cuts value path w allowance
  value_cuts = rw named.value_is named.cuts

  module _ {len : ℕ} {o₂ o₃ : Bytes} (stores : Stores len o₂ o₃ at.val (remains_of value (steps_from path w))) where
    pub value_short : len ≤ 65536
    value_short =
        let ov : Octets value =
        rw named.value_is (octets_take (length_of m.val.jentry) (drop m.val.place s) (octets_drop m.val.place s named.octets)) in
        omega (arith, stores.length_is, cuts_shorter value path w allowance ov value_cuts, value_cuts.short)

    abbrev steps : List Step
    steps = steps_from path w

    abbrev remains : Bytes
    remains = remains_of (value_in s m) (steps_from path w)

    pub named_stored : (o₀ : Bytes) {o₁ o₄ : Bytes} {e : ℕ} {next : Places}
        → o₁ ≡ patch o₀ at.key_jentry (be32 m.key.jentry) → o₂ ≡ patch o₁ at.key key
        → e ≡ entry_of (5 % 2 ^ 3) (len % 2 ^ 28) → o₄ ≡ patch o₃ at.val_jentry (be32 e)
        → next ≡ past at (length key) len
        → (next ≡ behind (name_in s m) (anew_value s name steps m) at)
        × (o₄ ≡ stored (name_in s) (anew_value s name steps) (anew_entry s name steps) o₀ at.key_jentry at.val_jentry at.key at.val m)
    named_stored o₀ {o₁} {o₄} {e} e₁ e₂ ee e₄ en =
        let ln : len ≡ length remains = stores.length_is ∙ ap (λ (v : Bytes). length (remains_of v steps)) named.value_is in
        let ez : e ≡ entry_of 5 (length remains) = ee ∙ omega (arith, ln, value_short) in
        let st : o₃ ≡ patch o₂ at.val remains = stores.stored ∙ ap (λ (v : Bytes). patch o₂ at.val (remains_of v steps)) named.value_is in
        let lb = length_be32 e in (
          en ∙ rw (named.same, named.key_is, ln),
          rw named.same
              (e₄ ∙ ap (λ (x : Bytes). patch x at.val_jentry (be32 e)) (st ∙ rw (e₂, e₁, named.key_is))
              ∙ reordered o₀ at.key_jentry at.val_jentry at.key at.val (be32 m.key.jentry) (be32 e) (bytes_at s m.key)
              remains (omega (arith, named.key_behind)) (omega (arith, named.val_behind))
              ∙ rw ez),
        )

-- Where it has another.
pub other_stored : (s name : Bytes) (m : MemberAt) (at : Places) (p : List Step) (o₀ : Bytes) {o₁ : Bytes} {at' : Places}
    → same_bytes name (name_in s m) ≡ false
    → (at' ≡ behind (name_in s m) (value_in s m) at)
    × (o₁ ≡ stored (name_in s) (value_in s) own_entry o₀ at.key_jentry at.val_jentry at.key at.val m)
    → (at' ≡ behind (name_in s m) (anew_value s name p m) at)
    × (o₁ ≡ stored (name_in s) (anew_value s name p) (anew_entry s name p) o₀ at.key_jentry at.val_jentry at.key at.val m)
other_stored s name m at p o₀ n h = rw n h

-- Four stores leave the buffer's length.
pub stored_length : (o o₁ x y z v : Bytes) (a b c d : ℕ) → o₁ ≡ patch (patch (patch (patch o a x) b y) c z) d v → length o₁ ≡ length o
stored_length o o₁ x y z v a b c d h = ap length h ∙ length_patch _ _ _ ∙ length_patch _ _ _ ∙ length_patch _ _ _ ∙ length_patch _ _ _
