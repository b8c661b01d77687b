-- The members of an object by their places: without one of them, in byte order, they stand for those of the tree that is left.
use Rattle.layout.specs.Parts.{start_of}
use Prim.Native.Nat.{ℕ, suc, ◌+◌, ◌*◌, ◌-◌, ◌^◌, ◌≤◌, ◌<◌}
use native.Mathlib.Omega.{arith}
use mathlib.Core.Path.{◌≡◌, refl, ap, subst, ap₂, sym, ◌∙◌}
use mathlib.Core.Bool.{false, cond}
use mathlib.Core.List.{List, [], ◌∷◌, ◌++◌, append_assoc, append-nil}
use lib.Bits.{bit_or}
use lib.Dec.{eqb}
use lib.ListN.{length, drop, length-append}
use borrow.Author.Tests.{eq-eqb, ne_eqb}
use Rattle.layout.specs.Bytes.{Bytes, Octets, be32}
use Rattle.layout.specs.Entry.{lengths}
use Rattle.layout.specs.Tree.{Tree, object, Members, empty, member, names, values}
use Rattle.layout.specs.Encode.{Part, payload, payloads, entries, record_of, name_parts, item_parts, member_parts, part}
use Rattle.layout.specs.Answer.{gives}
use Rattle.layout.specs.Limits.{size}
use Rattle.layout.specs.Read.{header, nested}
use Rattle.layout.specs.Check.{checked}
use Rattle.layout.specs.Patch.{patch}
use Rattle.std.specs.Ordering.{is_eq}
use Rattle.layout.specs.Order.{order, same_bytes}
use Rattle.layout.specs.declared.util.Header.TheVariants.{Object}
use Rattle.std.specs.declared.cmp.Ordering.{Ordering}
use Rattle.std.specs.declared.cmp.Ordering.TheVariants.{Less, Equal, Greater}
use Rattle.layout.proofs.Encoding.{object_fits, names_count, pair_of}
use Rattle.layout.proofs.Decoding.{payloads_append}
use Rattle.layout.proofs.Readables.{record_of_length, size_payload}
use Rattle.builders.specs.Order.{by, find, in_order}
use Rattle.layout.specs.Parts.{name_in, value_in, members_at}
use Rattle.builders.specs.Search.{is_kept, kept_of}
use Rattle.builders.specs.Weave.{own_entry, woven, column}
use Rattle.builders.specs.declared.search.Kept.TheVariants.{But}
use Rattle.layout.specs.declared.parts.MemberAt.{MemberAt}
use Rattle.layout.specs.declared.parts.Places.{Places}
use Rattle.builders.proofs.Stands.{Stand, stand_from, stand_names, stand_values, stand_sorted}
use Rattle.builders.proofs.Weaves.{entries_append, woven_record}
use Rattle.edits.specs.Keypath.{Step}
use Rattle.edits.specs.Find.{step_name, ◌then◌}
use Rattle.edits.specs.Delete.{change_member, anew, remains, delete}
use Rattle.layout.specs.Parts.{nth_part}
use Rattle.edits.specs.Spot.{first, one_more, spot}
use Rattle.edits.specs.Cut.{Stores}
use Rattle.edits.specs.Remains.{remains_in, remains_of}
use Rattle.layout.specs.Parts.{members_of}
use Rattle.edits.specs.Members.{places_for, in_turn, sizes_of}
use Rattle.layout.specs.declared.parts.PartAt.{PartAt}
use Rattle.edits.specs.declared.members.Sizes.{Sizes}
use Rattle.edits.proofs.Tables.{Contains, contains, an_object}
use Rattle.edits.proofs.Splits.{member_split}
use Rattle.edits.proofs.Spots.{object_spot}
use Rattle.edits.proofs.Withouts.{object_word}
use Rattle.edits.proofs.Kept.{delete_kept}
use Rattle.edits.proofs.Deletes.{some_inj, nothing_some}
use Rattle.edits.proofs.Rows.{fits_left, fits_right, table_behind, payloads_behind, row_lengths}
use Rattle.std.specs.Prelude.{Ok, Some, None, Option}

-- Values and names by their parts.
values_parts : (ms : Members) → item_parts (values ms) ≡ member_parts ms
values_parts empty = refl
values_parts (member n t ms) = ap (λ (l : List Part). part t ∷ l) (values_parts ms)

names_length : (ms : Members) → length (names ms) ≡ length (member_parts ms)
names_length empty = refl
names_length (member n t ms) = ap suc (names_length ms)

start_behind : (w : ℕ) (xs ys : List Part) → drop (4 + 4 * length (xs ++ ys)) (record_of w (xs ++ ys)) ≡ payloads xs ++ payloads ys
start_behind w xs ys =
    let z : 4 + 4 * length (xs ++ ys) ≡ 4 + 4 * length (xs ++ ys) + 0 = omega arith in
    rw z (payloads_behind w [] (xs ++ ys)) ∙ payloads_append xs ys

-- The lengths of an object's names.
names_lengths : (ms : Members) (s : Bytes) (n : ℕ) → payload (object ms) ≡ s → length s ≤ 65536 → n ≡ length (member_parts ms)
    → lengths s 0 n ≡ length (payloads (name_parts (names ms)))
names_lengths ms s n e l en =
    let f = object_fits ms (omega (arith, ap length e)) in
    let nk : length (name_parts (names ms)) ≡ n = names_count ms ∙ sym en in
    rw (← nk, ← e) (row_lengths (2 ^ 30 + length (member_parts ms)) (name_parts (names ms)) (member_parts ms) f.fits)

object_length : (ms : Members) → length (payload (object ms))
    ≡ 4 + 4 * (length (member_parts ms) + length (member_parts ms)) + length (payloads (name_parts (names ms))) + length (payloads (member_parts ms))
object_length ms =
    omega (
      arith,
      record_of_length (2 ^ 30 + length (member_parts ms)) (name_parts (names ms) ++ member_parts ms),
      length-append (name_parts (names ms)) (member_parts ms),
      names_count ms,
      ap length (payloads_append (name_parts (names ms)) (member_parts ms)),
      length-append (payloads (name_parts (names ms))) (payloads (member_parts ms)),
    )

-- The members of an object's record stand for those of its tree.
pub object_stand : (ms : Members) (s : Bytes) (n : ℕ) → payload (object ms) ≡ s → length s ≤ 65536 → n ≡ length (member_parts ms)
    → Stand (name_in s) (value_in s) own_entry (members_at s s (members_of s n) n) ms
unfolding members_at
object_stand ms s n e l en =
    let f = object_fits ms (omega (arith, ap length e)) in
    let w : ℕ = 2 ^ 30 + length (member_parts ms) in
    let nk : length (name_parts (names ms)) ≡ n = names_count ms ∙ sym en in
    let two : length (name_parts (names ms) ++ member_parts ms) ≡ n + n = omega (arith, f.whole, en) in
    let vs : item_parts (values ms) ≡ member_parts ms = values_parts ms in
    let nn : length (names ms) ≡ n = names_length ms ∙ sym en in
    let ln = names_lengths ms s n e l en in
    let ha : drop 4 s ≡ entries (name_parts (names ms)) ++ (entries (member_parts ms) ++ payloads (name_parts (names ms) ++ member_parts ms)) =
    rw (← e) (table_behind (2 ^ 30 + length (member_parts ms)) [] (name_parts (names ms) ++ member_parts ms)
    ∙ rw (entries_append (name_parts (names ms)) (member_parts ms), append_assoc)) in
    let hb : drop (4 + 4 * n) s ≡ entries (item_parts (values ms)) ++ payloads (name_parts (names ms) ++ member_parts ms) =
    rw (vs, ← nk, ← e) (table_behind (2 ^ 30 + length (member_parts ms)) (name_parts (names ms)) (member_parts ms)) in
    let hp : drop (start_of (n + n)) s ≡ payloads (name_parts (names ms)) ++ payloads (member_parts ms) =
    rw (← two, ← e) (start_behind (2 ^ 30 + length (member_parts ms)) (name_parts (names ms)) (member_parts ms)) in
    let hq : drop (start_of (n + n) + lengths s 0 n) s ≡ payloads (item_parts (values ms)) ++ [] =
    rw (vs, ln, append-nil (payloads (member_parts ms)), ← two, ← e) (payloads_behind (2 ^ 30 + length (member_parts ms)) (name_parts (names ms)) (member_parts ms)) in
    let st = stand_from s s 4 (4 + 4 * n) (start_of (n + n)) (start_of (n + n) + lengths s 0 n) (names ms) (values ms) _ _ _ _
    (names_length ms ∙ sym (ap length vs))
    (fits_left (name_parts (names ms)) (member_parts ms) f.fits)
    (rw vs (fits_right (name_parts (names ms)) (member_parts ms) f.fits))
    ha hp hb hq in
    rw (pair_of ms, nn) at st

-- Behind the place of the one that is left out, none is.
kept_past : (k i : ℕ) (xs : List MemberAt) → k < i → kept_of (But k) i xs ≡ xs
unfolding kept_of is_kept
kept_past k i [] h = refl
kept_past k i (x ∷ xs) h =
    let d : eqb i k ≡ false = ne_eqb i k (λ q. omega arith) in
    rw (d, kept_past k (i + 1) xs (omega arith))

one_fewer : (o : Option ℕ) (k : ℕ) → one_more o ≡ Some k → (j : ℕ) × (k ≡ suc j) × (o ≡ Some j)
one_fewer None k e = nothing_some e
one_fewer (Some j) k e = (j, sym (some_inj e), refl)

module _ (name value : MemberAt → Bytes) (entry : MemberAt → ℕ) (n : Bytes) where
  -- Without the first that has the name: it comes later, or it is this one.
  stand_later : (m : Bytes) (t : Tree) (ms : Members) (x : MemberAt) (xs : List MemberAt) (k i : ℕ)
      → one_more (first n (names ms)) ≡ Some k → Stand name value entry (x ∷ xs) (member m t ms)
      → ((j : ℕ) → first n (names ms) ≡ Some j → Stand name value entry (kept_of (But (i + 1 + j)) (i + 1) xs) (change_member None n ms))
      → Stand name value entry (kept_of (But (i + k)) i (x ∷ xs)) (member m t (change_member None n ms))
  unfolding kept_of is_kept
  stand_later m t ms x xs k i e h rest =
      let j = one_fewer (first n (names ms)) k e in
      let d : eqb i (i + k) ≡ false = ne_eqb i (i + k) (λ z. omega (arith, j.1)) in
      let y : i + k ≡ i + 1 + j.0 = omega (arith, j.1) in
      rw d (h.0, subst (λ (z : ℕ). Stand name value entry (kept_of (But z) (i + 1) xs) (change_member None n ms)) (sym y) (rest j.0 j.2))

  stand_by : (o : Ordering) (m : Bytes) (t : Tree) (ms : Members) (x : MemberAt) (xs : List MemberAt) (k i : ℕ) → order n m ≡ o
      → by o (one_more (first n (names ms))) (Some 0) (one_more (first n (names ms))) ≡ Some k
      → Stand name value entry (x ∷ xs) (member m t ms)
      → ((j : ℕ) → first n (names ms) ≡ Some j → Stand name value entry (kept_of (But (i + 1 + j)) (i + 1) xs) (change_member None n ms))
      → Stand name value entry (kept_of (But (i + k)) i (x ∷ xs)) (change_member None n (member m t ms))
  unfolding kept_of is_kept
  stand_by Equal m t ms x xs k i q e h rest =
      let z : k ≡ 0 = sym (some_inj e) in
      let y : i + k ≡ i = omega arith in
      subst (λ (w : ℕ). Stand name value entry (kept_of (But w) i (x ∷ xs)) (change_member None n (member m t ms))) (sym y)
      (rw (q, eq-eqb i i refl, kept_past i (i + 1) xs (omega arith)) h.1)
  stand_by Less m t ms x xs k i q e h rest = rw q (stand_later m t ms x xs k i e h rest)
  stand_by Greater m t ms x xs k i q e h rest = rw q (stand_later m t ms x xs k i e h rest)

  pub stand_gone : (xs : List MemberAt) (ms : Members) (k i : ℕ) → first n (names ms) ≡ Some k → Stand name value entry xs ms
      → Stand name value entry (kept_of (But (i + k)) i xs) (change_member None n ms)
  unfolding first same_bytes
  stand_gone [] empty k i e h = nothing_some e
  stand_gone [] (member m t ms) k i e h = absurd h
  stand_gone (x ∷ xs) empty k i e h = absurd h
  stand_gone (x ∷ xs) (member m t ms) k i e h =
      stand_by (order n m) m t ms x xs k i refl (as_by (order n m) (first n (names ms)) e) h (λ j q. stand_gone xs ms j (i + 1) q h.1)
    where
      as_by : (o : Ordering) (r : Option ℕ) → cond (is_eq o) (Some 0) (one_more r) ≡ Some k → by o (one_more r) (Some 0) (one_more r) ≡ Some k
      as_by Less r q = q
      as_by Equal r q = q
      as_by Greater r q = q

pub stand_count : (name value : MemberAt → Bytes) (entry : MemberAt → ℕ) (xs : List MemberAt) (ms : Members) → Stand name value entry xs ms
    → length xs ≡ length (member_parts ms)
stand_count name value entry [] empty h = refl
stand_count name value entry [] (member n t ms) h = absurd h
stand_count name value entry (x ∷ xs) empty h = absurd h
stand_count name value entry (x ∷ xs) (member n t ms) h = ap suc (stand_count name value entry xs ms h.1)

-- The sizes of members that stand for those of a tree.
module _ (name value : MemberAt → Bytes) (entry : MemberAt → ℕ) (xs : List MemberAt) (ms : Members) (h : Stand name value entry xs ms) where
  pub stand_sizes : 4 + 8 * length xs + length (column name xs) + length (column value xs) ≡ length (payload (object ms))
  stand_sizes =
      let c = stand_count name value entry xs ms h in
      omega (
        arith,
        c,
        ap length (stand_names name value entry xs ms h),
        ap length (stand_values name value entry xs ms h),
        object_length ms,
      )

  -- Woven behind their header they are the object.
  pub stand_woven : (o o₁ o₂ : Bytes) (at : ℕ) (z : Sizes) → z.count ≡ length xs → z.keys ≡ length (column name xs)
      → o₁ ≡ patch o at (be32 (2 ^ 30 + z.count))
      → o₂ ≡ woven name value entry o₁ (at + 4) (at + 4 + 4 * z.count) (at + 4 + 4 * z.count + 4 * z.count) (at + 4 + 4 * z.count + 4 * z.count + z.keys) xs
      → o₂ ≡ patch o at (payload (object ms))
  stand_woven o o₁ o₂ at z ec ek e₁ e₂ =
      woven_record name value entry xs ms o o₁ o₂ at z.count _ _ _ _ h (ec ∙ stand_count name value entry xs ms h) refl refl refl
      (ap (λ (i : ℕ). at + 4 + 4 * z.count + 4 * z.count + i) (ek ∙ ap length (stand_names name value entry xs ms h))) e₁ e₂

-- An object by its bytes.
pub record ObjectAt (s : Bytes) (n : ℕ) : Type 0 where
  pub members : Members
  pub contained : Contains 64 s (object members)
  pub bytes : payload (object members) ≡ s
  pub short : length s ≤ 65536
  pub count : n ≡ length (member_parts members)
  pub table : start_of (n + n) ≤ length s
  pub values : start_of (n + n) + lengths s 0 n ≤ length s
  pub stand : Stand (name_in s) (value_in s) own_entry (members_at s s (members_of s n) n) members

pub object_at : (s : Bytes) (n : ℕ) → Octets s → checked (nested 64 s) ≡ Ok tt → length s ≤ 65536 → header s ≡ Ok (Object n) → ObjectAt s n
object_at s n o c l h =
    let k = contains 64 s o l c in
    let w = an_object k.0 n (sym k.1.head ∙ h) in
    let k' : Contains 64 s (object w.0) = rw w.1 at k.1 in
    let le : length (payload (object w.0)) ≡ length s = ap length k'.bytes in
    record {
      members = w.0;
      contained = k';
      bytes = k'.bytes;
      short = l;
      count = w.2;
      table = omega (arith, le, object_length w.0, w.2);
      values = omega (arith, le, object_length w.0, w.2, names_lengths w.0 s n k'.bytes l w.2);
      stand = object_stand w.0 s n k'.bytes l w.2;
    }

-- An object in which a step leads to a value, by its bytes.
pub record ValueAt (s : Bytes) (n : ℕ) (val : PartAt) (p : Step) : Type 0 where
  pub members : Members
  pub value : Tree
  pub contained : Contains 64 s (object members)
  pub reads : nested 64 s ≡ gives (object members)
  pub bytes : payload (object members) ≡ s
  pub short : length s ≤ 65536
  pub count : n ≡ length (member_parts members)
  pub found : find (step_name p) members ≡ Some value
  pub index : val.index ≡ n + (member_split (step_name p) members value found).count
  pub stands : val ≡ nth_part s (n + n) val.index
  pub below : (member_split (step_name p) members value found).count < n
  pub table : start_of (n + n) ≤ length s
  pub values : start_of (n + n) + lengths s 0 n ≤ length s
  pub stand : Stand (name_in s) (value_in s) own_entry (members_at s s (members_of s n) n) members

pub value_at : (s : Bytes) (n : ℕ) (val : PartAt) (p : Step) → Octets s → checked (nested 64 s) ≡ Ok tt → length s ≤ 65536
    → header s ≡ Ok (Object n) → spot (header s) s p ≡ Some val → ValueAt s n val p
value_at s n val p o c l h q =
    let w = object_at s n o c l h in
    let sp = object_spot w.members s p val w.bytes l q in
    let ix : val.index ≡ length (member_parts w.members) + (member_split (step_name p) w.members sp.0 sp.1).count = ap (λ (x : PartAt). x.index) sp.2 in
    let ms = member_split (step_name p) w.members sp.0 sp.1 in
    record {
      members = w.members;
      value = sp.0;
      contained = w.contained;
      reads = w.contained.reads;
      bytes = w.bytes;
      short = l;
      count = w.count;
      found = sp.1;
      index = omega (arith, ix, w.count);
      stands = sp.2 ∙ ap₂ (nth_part s) (rw (← w.count)) (sym ix);
      below = omega (arith, w.count, ap length ms.vals, length-append ms.vals_left (part sp.0 ∷ ms.vals_right), ms.vals_before);
      table = w.table;
      values = w.values;
      stand = w.stand;
    }

-- What is left of it without that member: its members stand in byte order, and it is no longer than it was.
pub record Gone (s : Bytes) (n : ℕ) (val : PartAt) (p : Step) : Type 0 where
  pub rest : Members
  pub stand : Stand (name_in s) (value_in s) own_entry (in_turn s (members_of s n) n (But (val.index - n))) rest
  pub left : remains_of s (p ∷ []) ≡ payload (object rest)
  pub shorter : length (payload (object rest)) ≤ length s

pub gone : (s : Bytes) (n : ℕ) (val : PartAt) (p : Step) → ValueAt s n val p → Gone s n val p
unfolding remains_of
gone s n val p v =
    let ms : Members = v.members in
    let sp = member_split (step_name p) v.members v.value v.found in
    let z : val.index - n ≡ 0 + (member_split (step_name p) v.members v.value v.found).count = omega (arith, v.index) in
    let st = stand_sorted (name_in s) (value_in s) own_entry _ _
    (stand_gone (name_in s) (value_in s) own_entry (step_name p) (members_at s s (members_of s n) n) v.members sp.count 0 sp.is_first v.stand) in
    let d : delete (p ∷ []) (object v.members) ≡ object (in_order (change_member None (step_name p) v.members)) = rw v.found in
    record {
      rest = in_order (change_member None (step_name p) v.members);
      stand = rw z st;
      left = ap (λ r. remains_in r (p ∷ [])) v.reads ∙ ap (λ o. payload (anew (o then remains []) p (object ms))) v.found;
      shorter =
          omega (
            arith,
            (delete_kept (p ∷ []) (object v.members)).payload,
            ap size d,
            size_payload (object v.members),
            size_payload (object (in_order (change_member None (step_name p) v.members))),
            ap length v.bytes,
          );
    }

-- Equal places, number by number.
pub same_places : {a b : Places} → a ≡ b
    → (a.key_jentry ≡ b.key_jentry) × (a.val_jentry ≡ b.val_jentry) × (a.key ≡ b.key) × (a.val ≡ b.val)
same_places e = (
  ap (λ (x : Places). x.key_jentry) e,
  ap (λ (x : Places). x.val_jentry) e,
  ap (λ (x : Places). x.key) e,
  ap (λ (x : Places). x.val) e,
)

-- The same in the code's terms.
module _ (s : Bytes) (n : ℕ) (val : PartAt) (p : Step) (v : ValueAt s n val p) (from : Places) (z : Sizes)
    (ef : from ≡ members_of s n) (ez : z ≡ sizes_of s (in_turn s from n (But (val.index - n)))) where
  abbrev xs : List MemberAt
  xs = in_turn s (members_of s n) n (But (val.index - n))

  sizes : z ≡ sizes_of s xs
  sizes = rw ef at ez

  counted : z.count ≡ length xs
  counted = ap (λ (x : Sizes). x.count) sizes

  named : z.keys ≡ length (column (name_in s) xs)
  named = ap (λ (x : Sizes). x.keys) sizes

  summed : 4 + 8 * z.count + z.keys + z.vals ≡ length (payload (object (gone s n val p v).rest))
  summed =
      omega (
        arith,
        counted,
        named,
        ap (λ (x : Sizes). x.vals) sizes,
        stand_sizes (name_in s) (value_in s) own_entry xs (gone s n val p v).rest (gone s n val p v).stand,
      )

  pub gone_room : 4 + 8 * z.count + z.keys + z.vals ≤ 65536
  gone_room = omega (arith, summed, (gone s n val p v).shorter, v.short)

  pub gone_stored : (to : Places) (o o₁ o₂ : Bytes) (at w : ℕ) → to ≡ places_for z at → w ≡ bit_or (2 ^ 30) z.count
      → o₁ ≡ patch o at (be32 w)
      → o₂ ≡ woven (name_in s) (value_in s) own_entry o₁ to.key_jentry to.val_jentry to.key to.val
      (in_turn s from n (But (val.index - n)))
      → Stores (to.val + z.vals - at) o o₂ at (remains_of s (p ∷ []))
  gone_stored to o o₁ o₂ at w et ew e₁ e₂ =
      let q : w ≡ 2 ^ 30 + z.count = ew ∙ object_word z.count (omega (arith, gone_room)) in
      rw (gone s n val p v).left (record {
        length_is = rw et (omega (arith, summed));
        stored =
            stand_woven (name_in s) (value_in s) own_entry xs (gone s n val p v).rest (gone s n val p v).stand o o₁ o₂ at z counted named (rw q at e₁) (rw (et, ef) at e₂);
      })
