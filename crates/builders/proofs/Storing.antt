-- Members stored one after another, as the code goes.
use Prim.Native.Nat.{ℕ, suc, ◌+◌, ◌*◌, ◌^◌, ◌<◌, ◌≤◌, zero-le}
use native.Mathlib.Omega.{arith}
use native.Mathlib.Numerals.{add-one}
use mathlib.Core.Path.{◌≡◌, refl, ap, sym, ◌∙◌}
use mathlib.Core.List.{List, [], ◌∷◌}
use lib.ListN.{length, drop, length-append, drop_of_length-le}
use Rattle.layout.specs.Bytes.{Bytes, be32}
use Rattle.layout.specs.Order.{order}
use Rattle.layout.specs.Patch.{patch}
use Rattle.std.specs.declared.cmp.Ordering.{Ordering}
use Rattle.std.specs.declared.cmp.Ordering.TheVariants.{Less, Equal, Greater}
use Rattle.layout.proofs.Patches.{length_patch}
use Rattle.builders.specs.Order.{by}
use Rattle.layout.specs.Parts.{bytes_at, name_in, value_in, members_at, past}
use Rattle.builders.specs.Search.{kept_of, Bound, least, nth}
use Rattle.builders.specs.Sorted.{put_in, put_all, sorted}
use Rattle.builders.specs.Weave.{behind, own_entry, stored, woven, column}
use Rattle.layout.specs.declared.parts.ItemAt.{ItemAt}
use Rattle.layout.specs.declared.parts.MemberAt.{MemberAt}
use Rattle.layout.specs.declared.parts.Places.{Places}
use Rattle.builders.specs.declared.search.Kept.{Kept}
use Rattle.builders.proofs.Searches.{bound_at, bound_next, search_nth, length_sorted, length_members, length_kept, bytes_short, nth_none, nth_inside, nth_drop}
use Rattle.std.specs.Prelude.{Some, None, Option}

pub payload_short : (s r : Bytes) (x : ItemAt) → r ≡ bytes_at s x → length r < 2 ^ 28
payload_short s r x e = rw e (bytes_short s x)

module _ (ks vs : Bytes) (m : MemberAt) (n v : Bytes) (hn : n ≡ bytes_at ks m.key) (hv : v ≡ bytes_at vs m.val) (at : Places) where
  pub places_behind : (r : Places) → r ≡ past at (length n) (length v) → r ≡ behind (name_in ks m) (value_in vs m) at
  places_behind r e = e ∙ rw (hn, hv)

  pub member_stored : (o o₁ o₂ o₃ o₄ : Bytes) → o₁ ≡ patch o at.key_jentry (be32 m.key.jentry)
      → o₂ ≡ patch o₁ at.val_jentry (be32 m.val.jentry) → o₃ ≡ patch o₂ at.key n → o₄ ≡ patch o₃ at.val v
      → o₄ ≡ stored (name_in ks) (value_in vs) own_entry o at.key_jentry at.val_jentry at.key at.val m
  member_stored o o₁ o₂ o₃ o₄ e₁ e₂ e₃ e₄ = rw (e₄, e₃, e₂, e₁, hn, hv)

-- A column's length, from its first on.
pub column_cons : (f : MemberAt → Bytes) (m : MemberAt) (ms : List MemberAt) → length (column f (m ∷ ms)) ≡ length (f m) + length (column f ms)
unfolding column
column_cons f m ms = length-append (f m) (column f ms)

pub column_none : (f : MemberAt → Bytes) → length (column f []) ≡ 0
unfolding column
column_none f = refl

-- Put in order, of equal names the first, members take no more room; and neither do they with shorter columns.
module _ (name f : MemberAt → Bytes) where
  column_by : (o : Ordering) (m b : MemberAt) (bs r : List MemberAt) → length (column f r) ≤ length (f m) + length (column f bs)
      → length (column f (by o (m ∷ b ∷ bs) (b ∷ bs) (b ∷ r))) ≤ length (f m) + length (column f (b ∷ bs))
  column_by Less m b bs r h = omega (arith, column_cons f m (b ∷ bs))
  column_by Equal m b bs r h = omega arith
  column_by Greater m b bs r h = omega (arith, column_cons f b r, column_cons f b bs)

  column_put : (m : MemberAt) (bs : List MemberAt) → length (column f (put_in name m bs)) ≤ length (f m) + length (column f bs)
  unfolding put_in
  column_put m [] = omega (arith, column_cons f m [])
  column_put m (b ∷ bs) = column_by (order (name m) (name b)) m b bs (put_in name m bs) (column_put m bs)

  column_all : (done ms : List MemberAt) → length (column f (put_all name done ms)) ≤ length (column f done) + length (column f ms)
  unfolding put_all
  column_all done [] = omega arith
  column_all done (m ∷ ms) = omega (arith, column_all (put_in name m done) ms, column_put m done, column_cons f m ms)

  pub column_sorted : (ms : List MemberAt) → length (column f (sorted name ms)) ≤ length (column f ms)
  unfolding sorted
  column_sorted ms = omega (arith, column_all [] ms, column_none f)

pub column_less : (f g : MemberAt → Bytes) (ms : List MemberAt) → ((m : MemberAt) → length (f m) ≤ length (g m)) → length (column f ms) ≤ length (column g ms)
column_less f g [] h = omega (arith, column_none f, column_none g)
column_less f g (m ∷ ms) h = omega (arith, column_cons f m ms, column_cons g m ms, h m, column_less f g ms h)

-- The search, repeated: `i` members of those in byte order were found, the last of them with the name `last`.
module _ (name : MemberAt → Bytes) (searched : List MemberAt) where
  abbrev in_turn : List MemberAt
  in_turn = sorted name searched

  pub record Sought (last : Bound) (i : ℕ) : Type 0 where
    pub count : i ≤ length in_turn
    pub known : last ≡ bound_at name in_turn i

  pub sought_none : Sought None 0
  unfolding bound_at
  sought_none = record { count = zero-le; known = refl }

  pub sought_all : (n i : ℕ) → length searched ≤ n → n ≤ i → length in_turn ≤ i
  sought_all n i l h = omega (arith, length_sorted name searched)

  module _ (last : Bound) (i : ℕ) (now : Sought last i) (found : Option MemberAt) (hf : found ≡ least name last None searched) where
    next_is : found ≡ nth in_turn i
    next_is = hf ∙ ap (λ b. least name b None searched) now.known ∙ search_nth name searched i now.count

    pub sought_end : found ≡ None → length in_turn ≤ i
    sought_end q = nth_none in_turn i (sym next_is ∙ q)

    module _ (m : MemberAt) (q : found ≡ Some m) where
      pub sought_nth : nth in_turn i ≡ Some m
      sought_nth = sym next_is ∙ q

      pub sought_cut : drop i in_turn ≡ m ∷ drop (suc i) in_turn
      sought_cut = nth_drop in_turn i m sought_nth

      pub sought_more : (next : Bytes) → next ≡ name m → Sought (Some next) (i + 1)
      sought_more next e =
          record {
            count = omega (arith, nth_inside in_turn i m sought_nth);
            known = rw (add-one i, e) (sym (bound_next name in_turn i m sought_nth));
          }

-- The loop: `i` members of those in byte order are stored, and the rest is to come.
module _ (name value : MemberAt → Bytes) (entry : MemberAt → ℕ) (searched : List MemberAt) (o : Bytes) (to : Places) where
  abbrev all : List MemberAt
  all = in_turn name searched

  abbrev weave : Bytes → Places → List MemberAt → Bytes
  weave out at = woven name value entry out at.key_jentry at.val_jentry at.key at.val

  pub record Stored (out : Bytes) (last : Bound) (at : Places) (i : ℕ) : Type 0 where
    pub sought : Sought name searched last i
    pub key_jentry : at.key_jentry ≡ to.key_jentry + 4 * i
    pub val_jentry : at.val_jentry ≡ to.val_jentry + 4 * i
    pub near_key : at.key ≤ to.key + 2 ^ 28 * i
    pub near_val : at.val ≤ to.val + 2 ^ 28 * i
    pub key_on : to.key ≤ at.key
    pub val_on : to.val ≤ at.val
    pub key_rest : at.key + length (column name (drop i all)) ≡ to.key + length (column name all)
    pub val_rest : at.val + length (column value (drop i all)) ≡ to.val + length (column value all)
    pub run : weave o to all ≡ weave out at (drop i all)
    pub as_long : length out ≡ length o

  pub begins : Stored o None to 0
  begins =
      record {
        sought = sought_none name searched;
        key_jentry = omega arith;
        val_jentry = omega arith;
        near_key = omega arith;
        near_val = omega arith;
        key_on = omega arith;
        val_on = omega arith;
        key_rest = refl;
        val_rest = refl;
        run = refl;
        as_long = refl;
      }

  module _ (out : Bytes) (last : Bound) (at : Places) (i : ℕ) (now : Stored out last at i) where
    ended : length all ≤ i → out ≡ weave o to all
    unfolding woven
    ended h = sym (rw (drop_of_length-le all h) at now.run)

    pub ends_val : length all ≤ i → at.val ≡ to.val + length (column value all)
    ends_val h =
        let z : length (column value (drop i all)) ≡ 0 = rw (drop_of_length-le all h) (column_none value) in
        omega (arith, now.val_rest)

    pub ends_key : length all ≤ i → at.key ≡ to.key + length (column name all)
    ends_key h =
        let z : length (column name (drop i all)) ≡ 0 = rw (drop_of_length-le all h) (column_none name) in
        omega (arith, now.key_rest)

    pub ends_count : length all ≤ i → at.key_jentry ≡ to.key_jentry + 4 * length all
    ends_count h = omega (arith, now.key_jentry, now.sought.count)

    pub ends_full : (n : ℕ) → length searched ≤ n → n ≤ i → out ≡ weave o to all
    ends_full n l h = ended (sought_all name searched n i l h)

    module _ (found : Option MemberAt) (hf : found ≡ least name last None searched) where
      pub ends_early : found ≡ None → out ≡ weave o to all
      ends_early q = ended (sought_end name searched last i now.sought found hf q)

      pub goes : (m : MemberAt) (next out' : Bytes) (at' : Places) → found ≡ Some m
          → (at' ≡ behind (name m) (value m) at)
          × (out' ≡ stored name value entry out at.key_jentry at.val_jentry at.key at.val m)
          → next ≡ name m → length (name m) < 2 ^ 28 → length (value m) < 2 ^ 28 → Stored out' (Some next) at' (i + 1)
      unfolding woven
      goes m next out' at' q h hn ln lv =
          let cut : drop i all ≡ m ∷ drop (suc i) all = sought_cut name searched last i now.sought found hf m q in
          record {
            sought = sought_more name searched last i now.sought found hf m q next hn;
            key_jentry = rw h.0 (omega (arith, now.key_jentry));
            val_jentry = rw h.0 (omega (arith, now.val_jentry));
            near_key = rw h.0 (omega (arith, now.near_key, ln));
            near_val = rw h.0 (omega (arith, now.near_val, lv));
            key_on = rw h.0 (omega (arith, now.key_on));
            val_on = rw h.0 (omega (arith, now.val_on));
            key_rest = rw (h.0, add-one i) (omega (arith, now.key_rest, ap (λ (l : List MemberAt). length (column name l)) cut, column_cons name m (drop (suc i) all)));
            val_rest = rw (h.0, add-one i) (omega (arith, now.val_rest, ap (λ (l : List MemberAt). length (column value l)) cut, column_cons value m (drop (suc i) all)));
            run = now.run ∙ rw (cut, add-one i, h.0, h.1);
            as_long = ap length h.1 ∙ length_stored ∙ now.as_long;
          }
        where
          length_stored : length (stored name value entry out at.key_jentry at.val_jentry at.key at.val m) ≡ length out
          length_stored = length_patch _ _ _ ∙ length_patch _ _ _ ∙ length_patch _ _ _ ∙ length_patch _ _ _

-- Of `n` members no more are searched.
pub few_searched : (ks vs : Bytes) (from : Places) (n : ℕ) (kept : Kept) → length (kept_of kept 0 (members_at ks vs from n)) ≤ n
unfolding members_at
few_searched ks vs from n kept =
    omega (
      arith,
      length_kept kept 0 (members_at ks vs from n),
      length_members ks vs from.key_jentry from.val_jentry from.key from.val n,
    )
