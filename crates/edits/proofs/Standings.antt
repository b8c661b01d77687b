-- Members as they stand: the loops over them, one member at a time.
use Prim.Native.Nat.{ℕ, suc, ◌+◌, ◌*◌, ◌-◌, ◌^◌, ◌≤◌, ◌<◌}
use native.Mathlib.Omega.{arith}
use mathlib.Core.Path.{◌≡◌, refl, ap, sym, ◌∙◌}
use mathlib.Core.Bool.{Bool, true, false, cond}
use mathlib.Core.List.{List, [], ◌∷◌}
use lib.ListN.{length}
use Rattle.layout.specs.Bytes.{Bytes}
use Rattle.layout.proofs.Fields.{length_lt}
use Rattle.layout.specs.Parts.{name_in, value_in, member_at, members_from, members_at, behind_member}
use Rattle.layout.proofs.Carries.{object_on}
use Rattle.builders.specs.Search.{is_kept, kept_of, Bound}
use Rattle.builders.specs.Weave.{column}
use Rattle.builders.specs.declared.search.Kept.{Kept}
use Rattle.layout.specs.declared.parts.MemberAt.{MemberAt}
use Rattle.layout.specs.declared.parts.Places.{Places}
use Rattle.builders.proofs.Searches.{length_kept, length_members, bytes_short}
use Rattle.builders.proofs.Storing.{column_cons, column_none}
use Rattle.edits.specs.Members.{behind_ahead, kept_ahead, sizes_of, Near, CarriedAhead, Standing, Next}
use Rattle.edits.specs.declared.members.Ahead.{Ahead}
use Rattle.edits.specs.declared.members.Sizes.{Sizes}
use Rattle.std.specs.Prelude.{Option}

-- What is ahead in a loop that goes by an index, from the places that it has come to.
abbrev pub ahead_at : Ahead → Places → ℕ → Ahead
ahead_at a at i = record { at = at; index = i; count = a.count; is_rising = a.is_rising }

pub behind_at : (a : Ahead) (at at' : Places) (i : ℕ) (m : MemberAt) → at' ≡ behind_member at m
    → ahead_at a at' (i + 1) ≡ behind_ahead (ahead_at a at i) m
behind_at a at at' i m e = ap (λ (x : Places). ahead_at a x (i + 1)) e

-- What is ahead stays near, and becomes less.
pub near_on : (a : Ahead) (m : MemberAt) (next : Ahead) → Near a → a.index < a.count → next ≡ behind_ahead a m → Near next
near_on a m next h more en =
    rw en
    record {
      few = h.few;
      inside = omega arith;
      key_jentry = omega (arith, h.key_jentry);
      val_jentry = omega (arith, h.val_jentry);
      key = omega (arith, h.key, length_lt m.key.jentry);
      val = omega (arith, h.val, length_lt m.val.jentry);
    }

pub fewer_on : (a : Ahead) (m : MemberAt) (next : Ahead) → a.index < a.count → next ≡ behind_ahead a m
    → next.count - next.index < a.count - a.index
fewer_on a m next more en = rw en (omega arith)

-- And it stands where the table gives it.
pub carried_ahead : (s : Bytes) (from a : Ahead) (m : MemberAt) (next : Ahead) → CarriedAhead s from a
    → m ≡ member_at s s a.at.key_jentry a.at.val_jentry a.at.key a.at.val → next ≡ behind_ahead a m
    → CarriedAhead s from next
carried_ahead s from a m next c em en n e =
    rw en (object_on s n a.index a.at (behind_member a.at m) m (c n e) em refl)

-- The first of the members ahead, and the rest.
module _ (s : Bytes) (kept : Kept) (a : Ahead) (more : a.index < a.count) (m : MemberAt)
    (em : m ≡ member_at s s a.at.key_jentry a.at.val_jentry a.at.key a.at.val) (next : Ahead)
    (en : next ≡ behind_ahead a m) (g : Bool) (hg : g ≡ is_kept kept a.index m) where
  one_on : kept_ahead s kept a ≡ cond g (m ∷ kept_ahead s kept next) (kept_ahead s kept next)
  unfolding members_at members_from kept_of
  one_on = let q : a.count - a.index ≡ suc (a.count - (a.index + 1)) = omega arith in rw (q, hg, en, em)

  pub one_kept : g ≡ true → kept_ahead s kept a ≡ m ∷ kept_ahead s kept next
  one_kept t = one_on ∙ ap (λ (b : Bool). cond b (m ∷ kept_ahead s kept next) (kept_ahead s kept next)) t

  pub one_passed : g ≡ false → kept_ahead s kept a ≡ kept_ahead s kept next
  one_passed f = one_on ∙ ap (λ (b : Bool). cond b (m ∷ kept_ahead s kept next) (kept_ahead s kept next)) f

pub none_left : (s : Bytes) (kept : Kept) (a : Ahead) → a.count ≤ a.index → kept_ahead s kept a ≡ []
unfolding members_at members_from kept_of
none_left s kept a h = let z : a.count - a.index ≡ 0 = omega arith in rw z

-- Sizes so far, and those of what is still ahead.
pub record Sized (s : Bytes) (kept : Kept) (all : Ahead) (sizes : Sizes) (here : Ahead) : Type 0 where
  pub near : Near here
  pub count : sizes.count + length (kept_ahead s kept here) ≡ length (kept_ahead s kept all)
  pub keys : sizes.keys + length (column (name_in s) (kept_ahead s kept here)) ≡ length (column (name_in s) (kept_ahead s kept all))
  pub vals : sizes.vals + length (column (value_in s) (kept_ahead s kept here)) ≡ length (column (value_in s) (kept_ahead s kept all))
  pub few : length (kept_ahead s kept all) < 2 ^ 29
  pub carried : CarriedAhead s all here

-- As many members, names and values of at most so many bytes.
pub column_short : (f : MemberAt → Bytes) (ms : List MemberAt) → ((m : MemberAt) → length (f m) < 2 ^ 28) → length (column f ms) ≤ 2 ^ 28 * length ms
column_short f [] h = omega (arith, column_none f)
column_short f (m ∷ ms) h = omega (arith, column_cons f m ms, h m, column_short f ms h)

few_ahead : (s : Bytes) (kept : Kept) (a : Ahead) → Near a → length (kept_ahead s kept a) < 2 ^ 29
unfolding members_at
few_ahead s kept a h =
    omega (
      arith,
      h.few,
      length_kept kept a.index (members_at s s a.at (a.count - a.index)),
      length_members s s a.at.key_jentry a.at.val_jentry a.at.key a.at.val (a.count - a.index),
    )

module _ (s : Bytes) (kept : Kept) (all : Ahead) where
  pub sized_starts : Near all → Sized s kept all (record { count = 0; keys = 0; vals = 0 }) all
  sized_starts h = record { near = h; count = omega arith; keys = omega arith; vals = omega arith; few = few_ahead s kept all h; carried = λ n e. e }

  module _ (sizes : Sizes) (here : Ahead) (now : Sized s kept all sizes here) where
    pub sized_ends : kept_ahead s kept here ≡ [] → sizes ≡ sizes_of s (kept_ahead s kept all)
    sized_ends e =
        let c : sizes.count ≡ length (kept_ahead s kept all) = omega (arith, now.count, ap length e) in
        let k : sizes.keys ≡ length (column (name_in s) (kept_ahead s kept all)) =
        omega (arith, now.keys, ap (λ (l : List MemberAt). length (column (name_in s) l)) e, column_none (name_in s)) in
        let v : sizes.vals ≡ length (column (value_in s) (kept_ahead s kept all)) =
        omega (arith, now.vals, ap (λ (l : List MemberAt). length (column (value_in s) l)) e, column_none (value_in s)) in
        rw (← c, ← k, ← v)

    -- The sums are right.
    pub sized_room : (sizes.count < 2 ^ 29) × (sizes.keys < 2 ^ 58) × (sizes.vals < 2 ^ 58)
    sized_room =
        let k = column_short (name_in s) (kept_ahead s kept all) (λ m. bytes_short s m.key) in
        let v = column_short (value_in s) (kept_ahead s kept all) (λ m. bytes_short s m.val) in
        (omega (arith, now.count, now.few), omega (arith, now.keys, now.few), omega (arith, now.vals, now.few))

    module _ (m : MemberAt) (next : Ahead) (e : kept_ahead s kept here ≡ m ∷ kept_ahead s kept next) (near : Near next)
        (carried : CarriedAhead s all next) (n v : Bytes) (hn : n ≡ name_in s m) (hv : v ≡ value_in s m) where
      pub sized_on : Sized s kept all (record { count = sizes.count + 1; keys = sizes.keys + length n; vals = sizes.vals + length v }) next
      sized_on =
          record {
            near = near;
            count = omega (arith, now.count, ap length e);
            keys =
                omega (arith, now.keys, ap (λ (l : List MemberAt). length (column (name_in s) l)) e, column_cons (name_in s) m (kept_ahead s kept next), ap length hn);
            vals =
                omega (arith, now.vals, ap (λ (l : List MemberAt). length (column (value_in s) l)) e, column_cons (value_in s) m (kept_ahead s kept next), ap length hv);
            few = now.few;
            carried = carried;
          }

    -- A member that is left out.
    pub sized_passed : (next : Ahead) → kept_ahead s kept here ≡ kept_ahead s kept next → Near next → CarriedAhead s all next
        → Sized s kept all sizes next
    sized_passed next e near carried =
        record {
          near = near;
          count = rw e at now.count;
          keys = rw e at now.keys;
          vals = rw e at now.vals;
          few = now.few;
          carried = carried;
        }

-- The next in byte order, by how it was taken.
module _ (s : Bytes) (kept : Kept) (last : Bound) (a : Ahead) where
  pub next_stands : (r : Option (MemberAt × Ahead)) → a.is_rising ≡ true → Standing s kept a r → Next s kept last a r
  next_stands r t st = record { stands = λ _. st; searched = λ f. let z : true ≡ false = sym t ∙ f in let y : ◌≡◌ {A = ℕ} 0 1 = cc in let w : ⊥ = omega arith in absurd w }
