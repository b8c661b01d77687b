-- The sizes of members that are put in order, summed as the search finds them.
use Prim.Native.Nat.{ℕ, suc, ◌+◌, ◌*◌, ◌^◌, ◌≤◌}
use native.Mathlib.Omega.{arith}
use native.Mathlib.Numerals.{add-one}
use mathlib.Core.Path.{◌≡◌, refl, ap}
use mathlib.Core.List.{List, ◌∷◌}
use lib.ListN.{length, drop, drop_of_length-le}
use Rattle.layout.specs.Bytes.{Bytes}
use Rattle.layout.specs.Parts.{name_in, value_in, bytes_at}
use Rattle.builders.specs.Search.{Bound, least}
use Rattle.builders.specs.Sorted.{sorted}
use Rattle.builders.specs.Weave.{column}
use Rattle.layout.specs.declared.parts.MemberAt.{MemberAt}
use Rattle.builders.proofs.Searches.{bytes_short}
use Rattle.builders.proofs.Storing.{column_cons, column_none, Sought, sought_none, sought_all, sought_end, sought_cut, sought_more}
use Rattle.edits.specs.Members.{sizes_in}
use Rattle.edits.specs.declared.members.Sizes.{Sizes}
use Rattle.std.specs.Prelude.{Some, None, Option}

sizes_are : (z : Sizes) (a b c : ℕ) → z.count ≡ a → z.keys ≡ b → z.vals ≡ c → z ≡ record { count = a; keys = b; vals = c }
sizes_are z a b c ea eb ec = rw (← ea, ← eb, ← ec)

module _ (ks vs : Bytes) (searched : List MemberAt) where
  abbrev all : List MemberAt
  all = sorted (name_in ks) searched

  pub record Measured (last : Bound) (z : Sizes) (i : ℕ) : Type 0 where
    pub sought : Sought (name_in ks) searched last i
    pub count : z.count ≡ i
    pub keys : length (column (name_in ks) all) ≡ z.keys + length (column (name_in ks) (drop i all))
    pub vals : length (column (value_in vs) all) ≡ z.vals + length (column (value_in vs) (drop i all))
    pub near_keys : z.keys ≤ 2 ^ 28 * i
    pub near_vals : z.vals ≤ 2 ^ 28 * i

  pub measured_none : Measured None (record { count = 0; keys = 0; vals = 0 }) 0
  measured_none =
      record {
        sought = sought_none (name_in ks) searched;
        count = refl;
        keys = omega arith;
        vals = omega arith;
        near_keys = omega arith;
        near_vals = omega arith;
      }

  module _ (last : Bound) (z : Sizes) (i : ℕ) (now : Measured last z i) where
    measured_end : length all ≤ i → z ≡ sizes_in ks vs all
    measured_end h =
        let nk : length (column (name_in ks) (drop i all)) ≡ 0 = rw (drop_of_length-le all h) (column_none (name_in ks)) in
        let nv : length (column (value_in vs) (drop i all)) ≡ 0 = rw (drop_of_length-le all h) (column_none (value_in vs)) in
        sizes_are z _ _ _ (omega (arith, now.count, now.sought.count, h)) (omega (arith, now.keys, nk)) (omega (arith, now.vals, nv))

    pub measured_full : (n : ℕ) → length searched ≤ n → n ≤ i → z ≡ sizes_in ks vs all
    measured_full n l h = measured_end (sought_all (name_in ks) searched n i l h)

    module _ (found : Option MemberAt) (hf : found ≡ least (name_in ks) last None searched) where
      pub measured_early : found ≡ None → z ≡ sizes_in ks vs all
      measured_early q = measured_end (sought_end (name_in ks) searched last i now.sought found hf q)

      pub measured_more : (m : MemberAt) (name value : Bytes) → found ≡ Some m → name ≡ bytes_at ks m.key → value ≡ bytes_at vs m.val
          → Measured (Some name) (record { count = z.count + 1; keys = z.keys + length name; vals = z.vals + length value }) (i + 1)
      measured_more m name value q hn hv =
          let cut : drop i all ≡ m ∷ drop (suc i) all = sought_cut (name_in ks) searched last i now.sought found hf m q in
          let one : i + 1 ≡ suc i = add-one i in
          let ck : length (column (name_in ks) (drop i all)) ≡ length (name_in ks m) + length (column (name_in ks) (drop (suc i) all)) =
          rw cut (column_cons (name_in ks) m (drop (suc i) all)) in
          let cv : length (column (value_in vs) (drop i all)) ≡ length (value_in vs m) + length (column (value_in vs) (drop (suc i) all)) =
          rw cut (column_cons (value_in vs) m (drop (suc i) all)) in
          let ek : length name ≡ length (name_in ks m) = ap length hn in
          let ev : length value ≡ length (value_in vs m) = ap length hv in
          record {
            sought = sought_more (name_in ks) searched last i now.sought found hf m q name hn;
            count = omega (arith, now.count);
            keys = rw one (omega (arith, now.keys, ck, ek));
            vals = rw one (omega (arith, now.vals, cv, ev));
            near_keys = omega (arith, now.near_keys, bytes_short ks m.key, ek);
            near_vals = omega (arith, now.near_vals, bytes_short vs m.val, ev);
          }
