-- An object whose names rise, stripped: its members are taken as they stand.
use Prim.Native.Nat.{ℕ, ◌+◌, ◌*◌, ◌-◌, ◌^◌, ◌≤◌, ◌<◌}
use native.Mathlib.Omega.{arith}
use mathlib.Core.Path.{◌≡◌, refl, ap, sym, ◌∙◌}
use mathlib.Core.Bool.{Bool, true, false}
use mathlib.Core.List.{◌∷◌}
use lib.Bits.{bit_or}
use lib.ListN.{length}
use Rattle.layout.specs.Bytes.{Bytes, be32}
use Rattle.layout.specs.Entry.{code_of}
use Rattle.layout.specs.Patch.{patch}
use Rattle.layout.specs.Parts.{name_in, value_in, member_at, past}
use Rattle.builders.specs.Search.{is_kept, Bound, least}
use Rattle.builders.specs.Weave.{stored}
use Rattle.builders.specs.declared.search.Kept.TheVariants.{NonNull}
use Rattle.layout.specs.declared.parts.MemberAt.{MemberAt}
use Rattle.layout.specs.declared.parts.Places.{Places}
use Rattle.builders.proofs.Searches.{least_over}
use Rattle.edits.specs.Stripping.{stripped_of, unrepeated_of, Strippable, strip_item, strip_value, value_entry, unrepeated_item, Strips}
use Rattle.edits.specs.Members.{places_for, sizes_of, behind_ahead, kept_ahead, all_ahead, Near, CarriedAhead, Next}
use Rattle.edits.specs.declared.members.Ahead.{Ahead}
use Rattle.edits.specs.declared.members.Sizes.{Sizes}
use Rattle.edits.proofs.Standings.{near_on, carried_ahead, one_kept, one_passed, none_left, next_stands}
use Rattle.edits.proofs.Aheads.{searched, all_is, AheadOf, ahead_starts, ahead_taken, ahead_aside, next_is}
use Rattle.edits.proofs.StripMembers.{Setting, StoringMembers, members_starts, members_asks, members_on, members_ends}
use Rattle.std.specs.Prelude.{Some, None, Option}

-- The loop: of the members passed `count` are kept, and are stored. No name is repeated, so these and what is kept of those ahead
-- are all that are kept.
pub record StoringRising (s : Bytes) (n a at : ℕ) (to₀ : Places) (o out : Bytes) (to : Places) (here : Ahead) : Type 0 where
  pub last : Bound
  pub count : ℕ
  pub storing : StoringMembers s n a at (sizes_of s (searched s n NonNull)) to₀ o out last to count
  pub rest : AheadOf s n NonNull last here
  pub up : here.is_rising ≡ true
  pub left : count + length (kept_ahead s NonNull here) ≡ length (searched s n NonNull)

pub rising_starts : {s : Bytes} {n a at : ℕ} {z : Sizes} {to₀ : Places} {o : Bytes} {ahead : Ahead} → Setting s n a at z to₀
    → ahead ≡ all_ahead s n → ahead.is_rising ≡ true → StoringRising s n a at to₀ o o to₀ ahead
rising_starts {s} {n} {a} {at} {z} {to₀} {o} h e up =
    let own : Setting s n a at (sizes_of s (searched s n NonNull)) to₀ =
    record { object_is = h.object_is; near = h.near; sizes = refl; places = h.places ∙ ap (λ (x : Sizes). places_for x at) h.sizes } in
    record {
      last = None;
      count = 0;
      storing = members_starts own o;
      rest = rw e (ahead_starts s n NonNull h.object_is.object_is);
      up = up;
      left = omega (arith, ap (λ (x : Ahead). length (kept_ahead s NonNull x)) e, ap length (all_is s n NonNull));
    }

-- The member that stands first of those ahead, what is ahead behind it, and whether it is kept.
pub record RisingNext (s : Bytes) (here : Ahead) (m : MemberAt) (next : Ahead) (g : Bool) : Type 0 where
  pub more : here.index < here.count
  pub member_is : m ≡ member_at s s here.at.key_jentry here.at.val_jentry here.at.key here.at.val
  pub behind : next ≡ behind_ahead here m
  pub kept_is : g ≡ is_kept NonNull here.index m

module _ {s : Bytes} {n a at : ℕ} {to₀ : Places} {o out : Bytes} {to : Places} {here : Ahead} (now : StoringRising s n a at to₀ o out to here) where
  pub rising_ends : {z : Sizes} {v : ℕ} (o₀ : Bytes) → here.count ≤ here.index → z ≡ sizes_of s (searched s n NonNull)
      → v ≡ bit_or (2 ^ 30) z.count → o ≡ patch o₀ at (be32 v)
      → Strips (Some (to.val - at)) (unrepeated_of s) (stripped_of s) out (patch o₀ at (stripped_of s))
  rising_ends o₀ h ez ev eo =
      members_ends now.storing o₀ (omega (arith, now.left, ap length (none_left s NonNull here h)))
      (ev ∙ ap (λ (x : Sizes). bit_or (2 ^ 30) x.count) ez) eo

  module _ {m : MemberAt} {next : Ahead} {g : Bool} (read : RisingNext s here m next g) where
    next_near : Near next
    next_near = near_on here m next now.rest.near read.more read.behind

    next_up : next.is_rising ≡ true
    next_up = ap (λ (x : Ahead). x.is_rising) read.behind ∙ now.up

    next_carried : CarriedAhead s here next
    next_carried = carried_ahead s here here m next (λ n e. e) read.member_is read.behind

    -- A member that is left out.
    pub rising_passed : g ≡ false → StoringRising s n a at to₀ o out to next
    rising_passed f =
        let p = one_passed s NonNull here read.more m read.member_is next read.behind g read.kept_is f in
        record {
          last = now.last;
          count = now.count;
          storing = now.storing;
          rest = ahead_aside s n NonNull now.last here now.rest next now.up next_up next_near next_carried p;
          up = next_up;
          left = omega (arith, now.left, ap length p);
        }

    -- One that is kept is the next in byte order.
    module _ (t : g ≡ true) where
      split : kept_ahead s NonNull here ≡ m ∷ kept_ahead s NonNull next
      split = one_kept s NonNull here read.more m read.member_is next read.behind g read.kept_is t

      taken : Next s NonNull now.last here (Some (m, next))
      taken =
          next_stands s NonNull now.last here (Some (m, next)) now.up
          (split, ap (λ (x : Ahead). x.is_rising) read.behind, next_near, next_carried)

      pub rising_found : Some m ≡ least (name_in s) now.last None (searched s n NonNull)
      rising_found = next_is s n NonNull now.last here now.rest (Some (m, next)) taken

      pub rising_asks : (code_of m.val.jentry ≡ 5 → Strippable (value_in s m) (a - 1))
          × (to.key_jentry < 2 ^ 60) × (to.key < 2 ^ 60) × (to.val_jentry + 4 ≤ to.key) × (to.val_jentry + 4 ≤ to.val)
          × (to.val ≤ 65536 * (64 - (a - 1)))
      rising_asks = members_asks now.storing rising_found (omega (arith, now.left, ap length split))

      pub rising_on : (e : Option ℕ) (out₁ : Bytes) → Strips e (unrepeated_item s m.val) (strip_item s m.val) out₁
          (stored (name_in s) (strip_value s) (value_entry s) out to.key_jentry to.val_jentry to.key to.val m)
          → {len : ℕ} → e ≡ Some len → {key : Bytes} → key ≡ name_in s m → {to' : Places} → to' ≡ past to (length key) len
          → StoringRising s n a at to₀ o out₁ to' next
      rising_on e out₁ st qe {key} hk et =
          record {
            last = Some key;
            count = now.count + 1;
            storing = members_on now.storing rising_found e out₁ st qe hk et;
            rest =
                rw hk
                (ahead_taken s n NonNull now.last here now.rest m next taken
                (least_over (name_in s) now.last (searched s n NonNull) m (sym rising_found)));
            up = next_up;
            left = omega (arith, now.left, ap length split);
          }
