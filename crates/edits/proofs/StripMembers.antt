-- An object stripped: the members that are kept are stored in byte order of their names, each with its value stripped.
use Prim.Native.Nat.{ℕ, zero, suc, ◌+◌, ◌*◌, ◌-◌, ◌^◌, ◌≤◌, ◌<◌}
use native.Mathlib.Omega.{arith}
use native.Mathlib.Decide.{dec_le}
use mathlib.Core.Path.{◌≡◌, refl, ap, sym, ◌∙◌}
use mathlib.Core.Bool.{Bool, true, false, not, cond, ◌&&◌}
use mathlib.Core.List.{List, [], ◌∷◌}
use lib.Bits.{bit_or}
use lib.Dec.{eqb}
use lib.ListN.{length, take, drop, length-take, length-drop}
use Rattle.layout.specs.Bytes.{Bytes, Octets, be32}
use Rattle.layout.specs.Entry.{code, code_of, length_of}
use Rattle.layout.specs.Tree.{Tree, null, boolean, number, string, extension, array, object, Members, empty, member, names, kind}
use Rattle.layout.specs.Encode.{payload, member_parts}
use Rattle.layout.specs.Order.{order}
use Rattle.layout.specs.Sound.{Rising}
use Rattle.layout.specs.Read.{header}
use Rattle.layout.specs.Check.{checked}
use Rattle.layout.specs.Limits.{Valid, ValidMembers, depth, depth_members, size_members}
use Rattle.layout.specs.Patch.{patch}
use Rattle.std.specs.declared.cmp.Ordering.{Ordering}
use Rattle.std.specs.declared.cmp.Ordering.TheVariants.{Less, Equal, Greater}
use Rattle.layout.specs.declared.util.Header.TheVariants.{Object}
use Rattle.layout.proofs.Words.{octets_take, octets_drop}
use Rattle.layout.proofs.Readables.{size_payload}
use Rattle.layout.proofs.Answers.{gives_inj}
use Rattle.layout.proofs.Values.{rising_tail, rising_all, ≺-irrefl}
use Rattle.builders.specs.Order.{by, insert, insert_all, in_order, find, distinct}
use Rattle.layout.specs.Parts.{name_in, value_in, members_at, past}
use Rattle.builders.specs.Search.{is_kept, kept_of, Bound, least, nth}
use Rattle.builders.specs.Sorted.{sorted}
use Rattle.builders.specs.Weave.{own_entry, stored, woven, column}
use Rattle.builders.specs.declared.search.Kept.TheVariants.{NonNull}
use Rattle.layout.specs.declared.parts.MemberAt.{MemberAt}
use Rattle.layout.specs.declared.parts.Places.{Places}
use Rattle.builders.proofs.Orderings.{order_equal, order_refl}
use Rattle.builders.proofs.InOrders.{in_order_rising, find_in_order, in_order_count, in_order_names, count_distinct}
use Rattle.builders.proofs.Searches.{length_sorted, nth_inside, bytes_short}
use Rattle.builders.proofs.Storing.{payload_short, column_sorted, column_less, Stored, begins, goes, ends_full, ends_val, sought_nth, sought_end}
use Rattle.builders.proofs.Twos.{and_false}
use Rattle.builders.proofs.Stands.{Stands, Stand, stand_sorted, stand_names}
use Rattle.edits.specs.Strip.{is_null, kept, stripped, stripped_members, unrepeated, unrepeated_members}
use Rattle.edits.specs.Stripping.{stripped_of, unrepeated_of, Strippable, Prepared, strip_item, strip_value, value_entry, unrepeated_item, Strips}
use Rattle.layout.specs.Parts.{members_of}
use Rattle.edits.specs.Members.{places_for, sizes_of, kept_ahead, all_ahead, Near}
use Rattle.edits.specs.declared.members.Ahead.{Ahead}
use Rattle.edits.specs.declared.members.Sizes.{Sizes}
use Rattle.edits.proofs.Deletes.{some_inj, nothing_some}
use Rattle.edits.proofs.Strips.{in_order_unrepeated, kept_unrepeated, find_unrepeated}
use Rattle.edits.proofs.Helds.{entry_code}
use Rattle.edits.proofs.Tables.{Contains}
use Rattle.edits.proofs.Withouts.{object_word}
use Rattle.edits.proofs.Sorteds.{ObjectAt, object_at, stand_count, stand_sizes, stand_woven}
use Rattle.edits.proofs.SortedAnews.{nth_in, column_part}
use Rattle.edits.proofs.Aheads.{searched, all_is, ahead_starts}
use Rattle.edits.proofs.Stripped.{handed, stripped_tree, no_longer, TreeAt, strippable_at, stripped_at, ends_len}
use Rattle.std.specs.Prelude.{Ok, Some, None, Option}

-- Only null has code 0.
null_code : (t : Tree) → eqb (code (kind t)) 0 ≡ is_null t
null_code null = refl
null_code (boolean true) = refl
null_code (boolean false) = refl
null_code (number b) = refl
null_code (string b) = refl
null_code (extension b) = refl
null_code (array ts) = refl
null_code (object ms) = refl

-- A value of an object that can be stripped: its tree, as far as stripping asks.
pub record Fine (t : Tree) (s : Bytes) (a : ℕ) : Type 0 where
  pub short : length (payload t) ≤ length s
  pub valid : Valid t
  pub deep : depth t ≤ a

abbrev AllFine : Members → Bytes → ℕ → Type 0
AllFine empty s a = Unit {0}
AllFine (member n t ms) s a = Fine t s a × AllFine ms s a

all_fine : (ms : Members) (s : Bytes) (a : ℕ) → ValidMembers ms → depth_members ms ≤ a → size_members ms ≤ length s → AllFine ms s a
all_fine empty s a v d l = tt
all_fine (member n t ms) s a v d l = (
  record { short = omega (arith, size_payload t); valid = v.1; deep = omega arith },
  all_fine ms s a v.2 (omega arith) (omega arith),
)

module _ (s : Bytes) (a : ℕ) (o : Octets s) (l : length s ≤ 65536) (al : a ≤ 64) where
  -- Members of the record stand for members of the tree; then those that are kept stand for those that are kept, and stripped for
  -- those stripped.
  tree_at : (x : MemberAt) (n : Bytes) (t : Tree) → Stands (name_in s) (value_in s) own_entry x n t → Fine t s a → TreeAt s x.val t a
  tree_at x n t h f =
      record {
        entry = h.1;
        bytes = h.3;
        short = omega (arith, f.short);
        octets = rw (← h.3) (octets_take (length_of x.val.jentry) (drop x.val.place s) (octets_drop x.val.place s o));
        valid = f.valid;
        deep = f.deep;
        allowed = al;
      }

  kept_as : (x : MemberAt) (i : ℕ) (n : Bytes) (t : Tree) → Stands (name_in s) (value_in s) own_entry x n t → Fine t s a
      → is_kept NonNull i x ≡ not (is_null t)
  unfolding is_kept
  kept_as x i n t h f =
      let c : code_of x.val.jentry ≡ code (kind t) = entry_code x.val.jentry t h.1 (omega (arith, f.short)) in
      ap not (ap (λ (k : ℕ). eqb k 0) c ∙ null_code t)

  stand_kept : (i : ℕ) (xs : List MemberAt) (ms : Members) → Stand (name_in s) (value_in s) own_entry xs ms → AllFine ms s a
      → Stand (name_in s) (value_in s) own_entry (kept_of NonNull i xs) (kept ms)
  unfolding kept_of
  stand_kept i [] empty h f = tt
  stand_kept i [] (member n t ms) h f = absurd h
  stand_kept i (x ∷ xs) empty h f = absurd h
  stand_kept i (x ∷ xs) (member n t ms) h f =
      rw (kept_as x i n t h.0 f.0) (go (is_null t) (stand_kept (i + 1) xs ms h.1 f.1))
    where
      go : (g : Bool) → Stand (name_in s) (value_in s) own_entry (kept_of NonNull (i + 1) xs) (kept ms)
          → Stand (name_in s) (value_in s) own_entry (cond (not g) (x ∷ kept_of NonNull (i + 1) xs) (kept_of NonNull (i + 1) xs)) (cond g (kept ms) (member n t (kept ms)))
      go true r = r
      go false r = (h.0, r)

  stand_stripped : (i : ℕ) (xs : List MemberAt) (ms : Members) → Stand (name_in s) (value_in s) own_entry xs ms → AllFine ms s a
      → Stand (name_in s) (strip_value s) (value_entry s) (kept_of NonNull i xs) (stripped_members ms)
  unfolding kept_of
  stand_stripped i [] empty h f = tt
  stand_stripped i [] (member n t ms) h f = absurd h
  stand_stripped i (x ∷ xs) empty h f = absurd h
  stand_stripped i (x ∷ xs) (member n t ms) h f =
      rw (kept_as x i n t h.0 f.0) (go (is_null t) (stand_stripped (i + 1) xs ms h.1 f.1))
    where
      here : Stands (name_in s) (strip_value s) (value_entry s) x n (stripped t)
      here = let r = stripped_at s x.val t a (tree_at x n t h.0 f.0) in (h.0.0, r.1, h.0.2, r.0)

      go : (g : Bool) → Stand (name_in s) (strip_value s) (value_entry s) (kept_of NonNull (i + 1) xs) (stripped_members ms)
          → Stand (name_in s) (strip_value s) (value_entry s) (cond (not g) (x ∷ kept_of NonNull (i + 1) xs) (kept_of NonNull (i + 1) xs))
          (cond g (stripped_members ms) (member n (stripped t) (stripped_members ms)))
      go true r = r
      go false r = (here, r)

  fine_kept : (ms : Members) → AllFine ms s a → AllFine (kept ms) s a
  fine_kept empty f = tt
  fine_kept (member n t ms) f = go (is_null t) (fine_kept ms f.1)
    where
      go : (g : Bool) → AllFine (kept ms) s a → AllFine (cond g (kept ms) (member n t (kept ms))) s a
      go true r = r
      go false r = (f.0, r)

  fine_insert : (n : Bytes) (t : Tree) (ms : Members) → Fine t s a → AllFine ms s a → AllFine (insert n t ms) s a
  fine_insert n t empty h f = (h, tt)
  fine_insert n t (member m u ms) h f = go (order n m) (fine_insert n t ms h f.1)
    where
      go : (c : Ordering) → AllFine (insert n t ms) s a → AllFine (by c (member n t (member m u ms)) (member m u ms) (member m u (insert n t ms))) s a
      go Less r = (h, f)
      go Equal r = f
      go Greater r = (f.0, r)

  fine_all : (ms done : Members) → AllFine ms s a → AllFine done s a → AllFine (insert_all ms done) s a
  fine_all empty done f g = g
  fine_all (member n t ms) done f g = fine_all ms (insert n t done) f.1 (fine_insert n t done f.0 g)

  -- Where each value is found unrepeated, all are.
  each_one : (xs : List MemberAt) (ms : Members) → Stand (name_in s) (value_in s) own_entry xs ms → AllFine ms s a
      → ((k : ℕ) (m : MemberAt) → nth xs k ≡ Some m → unrepeated_item s m.val ≡ true) → unrepeated_members ms ≡ true
  unfolding nth
  each_one [] empty h f e = refl
  each_one [] (member n t ms) h f e = absurd h
  each_one (x ∷ xs) empty h f e = absurd h
  each_one (x ∷ xs) (member n t ms) h f e =
      let u : unrepeated t ≡ true = sym (stripped_at s x.val t a (tree_at x n t h.0 f.0)).2 ∙ e 0 x refl in
      rw u (each_one xs ms h.1 f.1 (λ k m q. e (suc k) m q))

  fine_find : (ms : Members) (n : Bytes) (t : Tree) → AllFine ms s a → find n ms ≡ Some t → Fine t s a
  fine_find empty n t f e = nothing_some e
  fine_find (member m u ms) n t f e = go (order n m) e (fine_find ms n t f.1)
    where
      go : (c : Ordering) → by c (find n ms) (Some u) (find n ms) ≡ Some t → (find n ms ≡ Some t → Fine t s a) → Fine t s a
      go Less q r = r q
      go Equal q r = rw (← some_inj q) f.0
      go Greater q r = r q

-- The member that stands at a place of members in order, by its name.
stand_nth : (name value : MemberAt → Bytes) (entry : MemberAt → ℕ) (xs : List MemberAt) (ms : Members) → Rising (names ms) → Stand name value entry xs ms
    → (i : ℕ) (m : MemberAt) → nth xs i ≡ Some m → (t : Tree) × (find (name m) ms ≡ Some t) × Stands name value entry m (name m) t
unfolding nth
stand_nth name value entry [] ms r h i m e = let z : ◌≡◌ {A = ℕ} 0 1 = cc in let w : ⊥ = omega arith in absurd w
stand_nth name value entry (x ∷ xs) empty r h i m e = absurd h
stand_nth name value entry (x ∷ xs) (member k t ms) r h zero m e =
    let q : x ≡ m = cc in
    let n : name m ≡ k = ap name (sym q) ∙ h.0.2 in
    (t, rw (n, order_refl k), rw (← q, h.0.2) (h.0.0, h.0.1, refl, h.0.3))
stand_nth name value entry (x ∷ xs) (member k t ms) r h (suc i) m e =
    let w = stand_nth name value entry xs ms (rising_tail k (names ms) r) h.1 i m e in
    let d : name m ≡ k → ⊥ = λ q. ≺-irrefl k (rw q at (rising_all k (names ms) r (name m) (nth_in name value entry xs ms h.1 i m e))) in
    (w.0, later (order (name m) k) refl d ∙ w.1, w.2)
  where
    later : (c : Ordering) → order (name m) k ≡ c → (name m ≡ k → ⊥) → by c (find (name m) ms) (Some t) (find (name m) ms) ≡ find (name m) ms
    later Less q d = refl
    later Equal q d = absurd (d (order_equal (name m) k q))
    later Greater q d = refl

-- An object that is stripped, by its bytes.
pub record ObjectStripped (s : Bytes) (n a : ℕ) : Type 0 where
  pub object_is : ObjectAt s n
  pub fine : AllFine object_is.members s (a - 1)
  pub allowed : a ≤ 64
  pub levels : 1 ≤ a
  pub octets : Octets s
  pub stripped_is : stripped_of s ≡ payload (object (in_order (stripped_members object_is.members)))
  pub unrepeated_is : unrepeated_of s ≡ (distinct (names (kept object_is.members)) && unrepeated_members object_is.members)

pub object_stripped : {s : Bytes} {n a : ℕ} → Octets s → Strippable s a → header s ≡ Ok (Object n) → ObjectStripped s n a
object_stripped {s} {n} {a} o st h =
    let b = stripped_tree s a o st in
    let w = object_at s n o (ap checked b.contained.reads) st.short h in
    let e : b.tree ≡ object w.members = gives_inj (sym b.contained.reads ∙ w.contained.reads) in
    let k : Contains a s (object w.members) = rw e at b.inside in
    record {
      object_is = w;
      fine = all_fine w.members s (a - 1) k.valid (omega (arith, k.deep)) (omega (arith, ap length w.bytes, size_payload (object w.members)));
      allowed = st.allowed;
      levels = omega (arith, k.deep);
      octets = o;
      stripped_is = b.stripped_is ∙ ap (λ (t : Tree). payload (stripped t)) e;
      unrepeated_is = b.unrepeated_is ∙ ap unrepeated e;
    }

-- The loop: the kept members in byte order.
module _ (s : Bytes) (n a : ℕ) (w : ObjectStripped s n a) where
  abbrev ms : Members
  ms = w.object_is.members

  abbrev all : List MemberAt
  all = sorted (name_in s) (searched s n NonNull)

  short : length s ≤ 65536
  short = w.object_is.short

  lower : a - 1 ≤ 64
  lower = omega (arith, w.allowed)

  found_kept : Stand (name_in s) (value_in s) own_entry (searched s n NonNull) (kept ms)
  found_kept = stand_kept s (a - 1) w.octets short lower 0 (members_at s s (members_of s n) n) ms w.object_is.stand w.fine

  own : Stand (name_in s) (value_in s) own_entry all (in_order (kept ms))
  own = stand_sorted (name_in s) (value_in s) own_entry (searched s n NonNull) (kept ms) found_kept

  stripped_stand : Stand (name_in s) (strip_value s) (value_entry s) all (in_order (stripped_members ms))
  stripped_stand =
      stand_sorted (name_in s) (strip_value s) (value_entry s) (searched s n NonNull) (stripped_members ms)
      (stand_stripped s (a - 1) w.octets short lower 0 (members_at s s (members_of s n) n) ms w.object_is.stand w.fine)

  -- A member of them.
  module _ (i : ℕ) (m : MemberAt) (e : nth all i ≡ Some m) where
    pub value_tree : (t : Tree) × (find (name_in s m) (kept ms) ≡ Some t) × TreeAt s m.val t (a - 1)
    value_tree =
        let x = stand_nth (name_in s) (value_in s) own_entry all (in_order (kept ms)) (in_order_rising (kept ms)) own i m e in
        let f : find (name_in s m) (kept ms) ≡ Some x.0 = sym (find_in_order (name_in s m) (kept ms)) ∙ x.1 in (
          x.0,
          f,
          tree_at s (a - 1) w.octets short lower m (name_in s m) x.0 x.2
              (fine_find s (a - 1) w.octets short lower (kept ms) (name_in s m) x.0 (fine_kept s (a - 1) w.octets short lower ms w.fine) f),
        )

    pub member_asks : code_of m.val.jentry ≡ 5 → Strippable (value_in s m) (a - 1)
    member_asks = strippable_at s m.val value_tree.0 (a - 1) value_tree.2

    pub member_repeats : unrepeated_item s m.val ≡ false → unrepeated_of s ≡ false
    member_repeats q =
        let f : unrepeated value_tree.0 ≡ false = sym (stripped_at s m.val value_tree.0 (a - 1) value_tree.2).2 ∙ q in
        let g : unrepeated_members ms ≡ false = sym (kept_unrepeated ms) ∙ find_unrepeated (kept ms) (name_in s m) value_tree.0 value_tree.1 f in
        w.unrepeated_is ∙ rw g (and_false (distinct (names (kept ms))))

  -- Fewer names than members.
  counted_kept : length (searched s n NonNull) ≡ length (member_parts (kept ms))
  counted_kept = stand_count (name_in s) (value_in s) own_entry (searched s n NonNull) (kept ms) found_kept

  counted_all : length all ≡ length (member_parts (in_order (kept ms)))
  counted_all = stand_count (name_in s) (value_in s) own_entry all (in_order (kept ms)) own

  pub too_few : length all < length (searched s n NonNull) → unrepeated_of s ≡ false
  too_few h = w.unrepeated_is ∙ go (distinct (names (kept ms))) refl
    where
      go : (b : Bool) → distinct (names (kept ms)) ≡ b → (b && unrepeated_members ms) ≡ false
      go false q = refl
      go true q = let z : ⊥ = omega (arith, counted_kept, counted_all, in_order_count (kept ms) q) in absurd z

  -- How long what is stored can be.
  pub stripped_room : 4 + 8 * length (searched s n NonNull) + length (column (name_in s) (searched s n NonNull)) + length (column (strip_value s) all) ≤ length s
  stripped_room =
      let k = stand_sizes (name_in s) (value_in s) own_entry (searched s n NonNull) (kept ms) found_kept in
      let c = column_sorted (name_in s) (strip_value s) (searched s n NonNull) in
      let d = column_less (strip_value s) (value_in s) (searched s n NonNull) (λ m. shorter m) in
      omega (arith, k, c, d, size_payload (object (kept ms)), kept_size ms, size_payload (object ms), ap length w.object_is.bytes)
    where
      shorter : (m : MemberAt) → length (strip_value s m) ≤ length (value_in s m)
      shorter m = go (eqb (code_of m.val.jentry) 5)
        where
          go : (b : Bool) → length (cond b (stripped_of (value_in s m)) (value_in s m)) ≤ length (value_in s m)
          go true =
              no_longer (value_in s m) (octets_take (length_of m.val.jentry) (drop m.val.place s) (octets_drop m.val.place s w.octets))
              (rw length-take (omega (arith, length-drop m.val.place s, short)))
          go false = omega arith

      kept_size : (ms : Members) → size_members (kept ms) ≤ size_members ms
      kept_size empty = omega arith
      kept_size (member k t ms) = go (is_null t) (kept_size ms)
        where
          go : (g : Bool) → size_members (kept ms) ≤ size_members ms → size_members (cond g (kept ms) (member k t (kept ms))) ≤ size_members (member k t ms)
          go true h = omega arith
          go false h = omega arith

  -- All are stored, and no name was repeated.
  module _ (full : length (searched s n NonNull) ≤ length all) (each : (k : ℕ) (m : MemberAt) → nth all k ≡ Some m → unrepeated_item s m.val ≡ true) where
    apart : distinct (names (kept ms)) ≡ true
    apart = count_distinct (kept ms) (omega (arith, counted_kept, counted_all, full, length_sorted (name_in s) (searched s n NonNull)))

    pub none_repeats : unrepeated_of s ≡ true
    none_repeats =
        let k : unrepeated_members (in_order (kept ms)) ≡ true =
        each_one s (a - 1) w.octets short lower all (in_order (kept ms)) own
        (fine_all s (a - 1) w.octets short lower (kept ms) empty (fine_kept s (a - 1) w.octets short lower ms w.fine) tt) each in
        w.unrepeated_is ∙ rw (apart, ← kept_unrepeated ms, ← in_order_unrepeated (kept ms) apart) k

    -- Their names are as long as before they were put in order.
    keys_same : length (column (name_in s) (searched s n NonNull)) ≡ length (column (name_in s) all)
    keys_same =
        ap length (stand_names (name_in s) (value_in s) own_entry (searched s n NonNull) (kept ms) found_kept)
        ∙ sym (in_order_names (kept ms) apart)
        ∙ sym (ap length (stand_names (name_in s) (value_in s) own_entry all (in_order (kept ms)) own))

    pub object_stored : (z : Sizes) (to : Places) (at v end : ℕ) (b b₁ b₂ : Bytes) → z ≡ sizes_of s (searched s n NonNull) → to ≡ places_for z at
        → v ≡ bit_or (2 ^ 30) z.count → b₁ ≡ patch b at (be32 v)
        → b₂ ≡ woven (name_in s) (strip_value s) (value_entry s) b₁ to.key_jentry to.val_jentry to.key to.val all
        → end ≡ to.val + length (column (strip_value s) all)
        → Strips (Some (end - at)) (unrepeated_of s) (stripped_of s) b₂ (patch b at (stripped_of s))
    object_stored z to at v end b b₁ b₂ ez et ev e₁ e₂ ee =
        let c : z.count ≡ length all = ap (λ (x : Sizes). x.count) ez ∙ omega (arith, full, length_sorted (name_in s) (searched s n NonNull)) in
        let k : z.keys ≡ length (column (name_in s) all) = ap (λ (x : Sizes). x.keys) ez ∙ keys_same in
        let q : v ≡ 2 ^ 30 + z.count = ev ∙ object_word z.count (omega (arith, ap (λ (x : Sizes). x.count) ez, stripped_room, short)) in
        let tv : to.val ≡ at + 4 + 4 * z.count + 4 * z.count + z.keys = ap (λ (x : Places). x.val) et in
        let sum = stand_sizes (name_in s) (strip_value s) (value_entry s) all (in_order (stripped_members ms)) stripped_stand in
        rw w.stripped_is (
          none_repeats,
          omega (arith, ee, tv, c, k, sum),
          stand_woven (name_in s) (strip_value s) (value_entry s) all (in_order (stripped_members ms)) stripped_stand b b₁ b₂ at z c k (rw q at e₁) (rw et at e₂),
        )

-- All its members are ahead, and are measured, where it is handed on.
pub handed_near : {s : Bytes} {n a : ℕ} {ahead : Ahead} → ObjectStripped s n a → ahead ≡ all_ahead (take (length s - 0) s) n → Near ahead
handed_near {s} {n} w e = rw (e, handed s) (ahead_starts s n NonNull w.object_is).near

pub handed_members : {s : Bytes} {n a : ℕ} {ahead : Ahead} {z : Sizes} → Strippable s a → header s ≡ Ok (Object n)
    → ahead ≡ all_ahead (take (length s - 0) s) n → z ≡ sizes_of (take (length s - 0) s) (kept_ahead (take (length s - 0) s) NonNull ahead)
    → Prepared (take (length s - 0) s) ahead z a
handed_members {s} {n} {a} {ahead} {z} st h e hz =
    let c : n ≡ ahead.count = sym (ap (λ (x : Ahead). x.count) e) in
    let k : ahead ≡ all_ahead s n = rw (handed s) at e in
    let m : z ≡ sizes_of s (kept_ahead s NonNull ahead) = rw (handed s) at hz in
    rw (handed s) (record { strippable = st; object = h ∙ ap (λ (j : ℕ). (Ok (Object j))) c; all = k ∙ ap (all_ahead s) c; measured = m })

-- An object that is stored at `at`: the sizes of what is kept of it, and the places of its members.
pub record Setting (s : Bytes) (n a at : ℕ) (z : Sizes) (to₀ : Places) : Type 0 where
  pub object_is : ObjectStripped s n a
  pub near : at ≤ 65536 * (64 - a)
  pub sizes : z ≡ sizes_of s (searched s n NonNull)
  pub places : to₀ ≡ places_for z at

stripped_sizes : (s : Bytes) (n a : ℕ) (w : ObjectStripped s n a) (z : Sizes) → z ≡ sizes_of s (searched s n NonNull)
    → 4 + 8 * z.count + z.keys + length (column (strip_value s) (sorted (name_in s) (searched s n NonNull))) ≤ 65536
stripped_sizes s n a w z ez =
    omega (arith, stripped_room s n a w, ap (λ (x : Sizes). x.count) ez, ap (λ (x : Sizes). x.keys) ez, w.object_is.short)

-- Before the loop.
module _ {s : Bytes} {ahead : Ahead} {z : Sizes} {a : ℕ} (o : Octets s) (p : Prepared s ahead z a) where
  whole : ObjectStripped s ahead.count a
  whole = object_stripped o p.strippable p.object

  pub sizes_measured : z ≡ sizes_of s (searched s ahead.count NonNull)
  sizes_measured = p.measured ∙ ap (λ (x : Ahead). sizes_of s (kept_ahead s NonNull x)) p.all ∙ ap (sizes_of s) (all_is s ahead.count NonNull)

  pub sizes_fit : 4 + 8 * z.count + z.keys ≤ 65536
  sizes_fit = omega (arith, stripped_sizes s ahead.count a whole z sizes_measured)

  pub setting_of : {at : ℕ} {to₀ : Places} → at ≤ 65536 * (64 - a) → to₀ ≡ places_for z at → Setting s ahead.count a at z to₀
  setting_of near et = record { object_is = whole; near = near; sizes = sizes_measured; places = et }

  -- As `next_member` asks and finds.
  pub all_places : (ahead.count < 2 ^ 29)
      × (ahead.at.key_jentry < 2 ^ 32) × (ahead.at.val_jentry < 2 ^ 32) × (ahead.at.key < 2 ^ 32) × (ahead.at.val < 2 ^ 32)
  all_places =
      let h : Near ahead = rw p.all (ahead_starts s ahead.count NonNull whole.object_is).near in
      let z : ahead.index ≡ 0 = ap (λ (x : Ahead). x.index) p.all in
      (h.few, omega (arith, h.key_jentry), omega (arith, h.val_jentry), omega (arith, h.key), omega (arith, h.val))

  pub found_among : (last : Bound) {found : Option MemberAt} → found ≡ least (name_in s) last None (kept_of NonNull 0 (members_at s s ahead.at ahead.count))
      → found ≡ least (name_in s) last None (searched s ahead.count NonNull)
  found_among last hf = hf ∙ ap (λ (x : Ahead). least (name_in s) last None (kept_of NonNull 0 (members_at s s x.at ahead.count))) p.all

-- The loop, as the code goes: `i` members are stored, and no value so far has a name twice.
pub record StoringMembers (s : Bytes) (n a at : ℕ) (z : Sizes) (to₀ : Places) (o out : Bytes) (last : Bound) (to : Places) (i : ℕ) : Type 0 where
  pub setting : Setting s n a at z to₀
  pub stored : Stored (name_in s) (strip_value s) (value_entry s) (searched s n NonNull) o to₀ out last to i
  pub each : (k : ℕ) (m : MemberAt) → k < i → nth (sorted (name_in s) (searched s n NonNull)) k ≡ Some m → unrepeated_item s m.val ≡ true

pub members_starts : {s : Bytes} {n a at : ℕ} {z : Sizes} {to₀ : Places} → Setting s n a at z to₀ → (o : Bytes)
    → StoringMembers s n a at z to₀ o o None to₀ 0
members_starts h o =
    record { setting = h; stored = begins _ _ _ _ _ _; each = λ k m h. let z : ⊥ = omega arith in absurd z }

module _ {s : Bytes} {n a at : ℕ} {z : Sizes} {to₀ : Places} {o out : Bytes} {last : Bound} {to : Places} {i : ℕ}
    (now : StoringMembers s n a at z to₀ o out last to i) where
  sizes_all : 4 + 8 * z.count + z.keys + length (column (strip_value s) (sorted (name_in s) (searched s n NonNull))) ≤ 65536
  sizes_all = stripped_sizes s n a now.setting.object_is z now.setting.sizes

  count_is : z.count ≡ length (searched s n NonNull)
  count_is = ap (λ (x : Sizes). x.count) now.setting.sizes

  -- Where the next member is stored.
  pub members_room : (to.key_jentry ≤ at + 65536) × (to.val_jentry ≡ at + 4 + 4 * z.count + 4 * i) × (at + 4 + 8 * z.count ≤ to.key) × (to.key ≤ 2 ^ 23 + 2 ^ 28 * i)
      × (at + 4 + 8 * z.count ≤ to.val) × (to.val ≤ at + 65536) × (i ≤ z.count) × (at ≤ 65536 * (64 - a)) × (z.count ≤ 65536) × (1 ≤ a) × (a ≤ 64)
  members_room =
      let f0 = ap (λ (x : Places). x.key_jentry) now.setting.places in
      let f1 = ap (λ (x : Places). x.val_jentry) now.setting.places in
      let f2 = ap (λ (x : Places). x.key) now.setting.places in
      let f3 = ap (λ (x : Places). x.val) now.setting.places in
      let st = now.stored in
      let hat = now.setting.near in
      let c : i ≤ z.count = omega (arith, st.sought.count, length_sorted (name_in s) (searched s n NonNull), count_is) in (
        omega (arith, st.key_jentry, f0, sizes_all, c),
        omega (arith, st.val_jentry, f1),
        omega (arith, st.key_on, f2),
        omega (arith, st.near_key, f2, sizes_all, hat),
        omega (arith, st.val_on, f3),
        omega (arith, st.val_rest, f3, sizes_all),
        c,
        hat,
        omega (arith, sizes_all),
        now.setting.object_is.levels,
        now.setting.object_is.allowed,
      )

  -- No member is found, though some are left.
  pub members_few : {found : Option MemberAt} → i < z.count → found ≡ least (name_in s) last None (searched s n NonNull) → found ≡ None
      → unrepeated_of s ≡ false
  members_few {found} h hf q =
      too_few s n a now.setting.object_is (omega (arith, h, count_is, sought_end (name_in s) (searched s n NonNull) last i now.stored.sought found hf q))

  -- A member is found.
  module _ {m : MemberAt} (found : Some m ≡ least (name_in s) last None (searched s n NonNull)) where
    is_nth : nth (sorted (name_in s) (searched s n NonNull)) i ≡ Some m
    is_nth = sought_nth (name_in s) (searched s n NonNull) last i now.stored.sought (Some m) found m refl

    -- What storing it asks.
    pub members_asks : i < z.count → (code_of m.val.jentry ≡ 5 → Strippable (value_in s m) (a - 1))
        × (to.key_jentry < 2 ^ 60) × (to.key < 2 ^ 60) × (to.val_jentry + 4 ≤ to.key) × (to.val_jentry + 4 ≤ to.val)
        × (to.val ≤ 65536 * (64 - (a - 1)))
    members_asks h =
        let r = members_room in (
          member_asks s n a now.setting.object_is i m is_nth,
          omega (arith, r),
          omega (arith, r),
          omega (arith, r),
          omega (arith, r),
          omega (arith, r),
        )

    module _ (e : Option ℕ) (out₁ : Bytes) (st : Strips e (unrepeated_item s m.val) (strip_item s m.val) out₁
        (stored (name_in s) (strip_value s) (value_entry s) out to.key_jentry to.val_jentry to.key to.val m)) where
      pub members_repeats : e ≡ None → unrepeated_of s ≡ false
      members_repeats qe =
          let z : unrepeated_item s m.val ≡ false = rw qe at st in
          member_repeats s n a now.setting.object_is i m is_nth z

      module _ {len : ℕ} (qe : e ≡ Some len) where
        told : (unrepeated_item s m.val ≡ true) × (len ≡ length (strip_item s m.val))
            × (out₁ ≡ stored (name_in s) (strip_value s) (value_entry s) out to.key_jentry to.val_jentry to.key to.val m)
        told = ends_len _ _ _ _ st qe

        pub len_short : len ≤ 65536
        len_short = omega (arith, told.1, sizes_all, column_part (strip_value s) (sorted (name_in s) (searched s n NonNull)) i m is_nth)

        module _ {key : Bytes} (hk : key ≡ name_in s m) where
          -- What is asked where the places go on behind it.
          pub past_room : (to.key_jentry < 2 ^ 60) × (to.val_jentry < 2 ^ 60) × (to.key + length key < 2 ^ 64) × (to.val + len < 2 ^ 64)
          past_room =
              let r = members_room in
              let k = payload_short s key m.key hk in (
                omega (arith, r),
                omega (arith, r),
                omega (arith, r, k),
                omega (arith, r, len_short),
              )

          pub members_on : {to' : Places} → to' ≡ past to (length key) len → StoringMembers s n a at z to₀ o out₁ (Some key) to' (i + 1)
          members_on {to'} et =
              record {
                setting = now.setting;
                stored =
                    goes (name_in s) (strip_value s) (value_entry s) (searched s n NonNull) o to₀ out last to i now.stored (Some m) found m key out₁ to' refl
                    (et ∙ rw (hk, told.1), told.2) hk (bytes_short s m.key) (omega (arith, told.1, len_short));
                each = λ k y h e. more k y (dec_le (suc k) i) h e;
              }
            where
              more : (k : ℕ) (y : MemberAt) → Dec (suc k ≤ i) → k < i + 1 → nth (sorted (name_in s) (searched s n NonNull)) k ≡ Some y
                  → unrepeated_item s y.val ≡ true
              more k y (yes d) h e = now.each k y d e
              more k y (no d) h e =
                  let same : k ≡ i = omega arith in
                  let f : Some y ≡ Some m = sym e ∙ ap (nth (sorted (name_in s) (searched s n NonNull))) same ∙ is_nth in
                  let g : y ≡ m = cc in
                  rw g told.0

  -- All are stored, and each of them is stripped.
  full : z.count ≤ i → length (searched s n NonNull) ≤ length (sorted (name_in s) (searched s n NonNull))
  full h = omega (arith, h, count_is, now.stored.sought.count)

  done : z.count ≤ i → length (sorted (name_in s) (searched s n NonNull)) ≤ i
  done h = omega (arith, h, count_is, length_sorted (name_in s) (searched s n NonNull))

  each_done : z.count ≤ i → (k : ℕ) (m : MemberAt) → nth (sorted (name_in s) (searched s n NonNull)) k ≡ Some m
      → unrepeated_item s m.val ≡ true
  each_done h k m e = now.each k m (omega (arith, done h, nth_inside (sorted (name_in s) (searched s n NonNull)) k m e)) e

  pub members_ends : {v : ℕ} (o₀ : Bytes) → z.count ≤ i → v ≡ bit_or (2 ^ 30) z.count → o ≡ patch o₀ at (be32 v)
      → Strips (Some (to.val - at)) (unrepeated_of s) (stripped_of s) out (patch o₀ at (stripped_of s))
  members_ends {v} o₀ h ev eo =
      object_stored s n a now.setting.object_is (full h) (each_done h) z to₀ at v to.val o₀ o out
      now.setting.sizes now.setting.places ev eo
      (ends_full (name_in s) (strip_value s) (value_entry s) (searched s n NonNull) o to₀ out last to i now.stored i
      (omega (arith, h, count_is)) (omega arith))
      (ends_val (name_in s) (strip_value s) (value_entry s) (searched s n NonNull) o to₀ out last to i now.stored (done h))
