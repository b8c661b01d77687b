-- Document 02 §4: "Show that each carried place is the one the table gives." Of the reading, of the check's pass, and of parts and
-- members, as the crates above take them; and the steps by which a loop keeps to it. Walks are in proofs/Walked.antt.
use Prim.Native.Nat.{ℕ, zero, suc, ◌+◌, ◌*◌, ◌≤◌}
use native.Mathlib.Omega.{arith}
use native.Mathlib.Nat.{zero-add, add-zero}
use mathlib.Core.Path.{◌≡◌, refl, sym, ap, ◌∙◌}
use mathlib.Core.List.{List}
use lib.ListN.{length, drop}
use Rattle.layout.specs.Bytes.{Bytes}
use Rattle.layout.specs.Answer.{Answer, gives}
use Rattle.layout.specs.Entry.{length_of, entry_at, lengths}
use Rattle.layout.specs.Tree.{Tree}
use Rattle.layout.specs.Encode.{Part}
use Rattle.layout.specs.Read.{parts}
use Rattle.layout.specs.Place.{parts_at}
use Rattle.layout.specs.Pass.{items_checked, items_by_table, names_end}
use Rattle.layout.specs.Table.{table_place, parts_by_table, table_places, nth_member, table_member, members_by_table, Carried, CarriedPair}
use Rattle.layout.specs.Parts.{start_of, member_at, members_from, members_at, members_of, pairs_of, behind_member, nth_part, first_part, next_part}
use Rattle.layout.specs.Left.{placed_from, placed_by_table}
use Rattle.layout.specs.declared.parts.MemberAt.{MemberAt}
use Rattle.layout.specs.declared.parts.Places.{Places}
use Rattle.layout.specs.declared.parts.PartAt.{PartAt}
use Rattle.layout.proofs.Places.{lengths_split, laid}
use Rattle.layout.proofs.Passes.{names_to}
use Rattle.std.specs.Prelude.{Some}

-- The first item stands behind the table, and each of the others behind the one before.
pub place_first : (s : Bytes) (n : ℕ) → start_of n ≡ table_place s n 0
unfolding lengths
place_first s n = sym (add-zero (start_of n))

lengths_snoc : (s : Bytes) (i : ℕ) → lengths s 0 (i + 1) ≡ lengths s 0 i + length_of (entry_at s i)
unfolding lengths
lengths_snoc s i = lengths_split s 0 i 1 ∙ rw (zero-add i, add-zero (length_of (entry_at s i)))

pub place_behind : (s : Bytes) (n i : ℕ) → table_place s n i + length_of (entry_at s i) ≡ table_place s n (i + 1)
place_behind s n i = omega (arith, lengths_snoc s i)

pub place_on : (s : Bytes) (n i p e l : ℕ) → p ≡ table_place s n i → e ≡ entry_at s i → l ≡ length_of e → p + l ≡ table_place s n (i + 1)
place_on s n i p e l h he hl = rw (h, hl, he) (place_behind s n i)

-- A loop carries its place from one item to the next.
pub carried_on : (s : Bytes) (from start i p e l : ℕ) → Carried s from start i p → e ≡ entry_at s i → l ≡ length_of e
    → Carried s from start (i + 1) (p + l)
carried_on s from start i p e l c he hl n h = place_on s n i p e l (c n h) he hl

-- The same for members.
module _ (ks vs : Bytes) where
  pub pair_start : (at : Places) → CarriedPair ks vs at 0 at
  pair_start at a i b j e = rw (add-zero i, add-zero j) e

  pub member_behind : (a i b j : ℕ)
      → behind_member (table_places ks a i vs b j) (table_member ks a i vs b j) ≡ table_places ks a (i + 1) vs b (j + 1)
  member_behind a i b j =
      let x : 4 + 4 * i + 4 ≡ 4 + 4 * (i + 1) = omega arith in
      let y : 4 + 4 * j + 4 ≡ 4 + 4 * (j + 1) = omega arith in
      rw (x, y, place_behind ks a i, place_behind vs b j)

  pub pair_on : (from at next : Places) (k : ℕ) (m : MemberAt) → CarriedPair ks vs from k at
      → m ≡ member_at ks vs at.key_jentry at.val_jentry at.key at.val → next ≡ behind_member at m
      → CarriedPair ks vs from (k + 1) next
  unfolding entry_at
  pair_on from at next k m c hm hn a i b j e =
      let x : i + k + 1 ≡ i + (k + 1) = omega arith in
      let y : j + k + 1 ≡ j + (k + 1) = omega arith in
      rw (hn, hm, c a i b j e) (member_behind a (i + k) b (j + k) ∙ rw (x, y))

  -- The members that are handed out one behind the other from a table's places on are the table's.
  pub members_carry : (a i b j k : ℕ)
      → members_at ks vs (table_places ks a i vs b j) k ≡ members_by_table ks a i vs b j k
  unfolding members_at members_from members_by_table entry_at
  members_carry a i b j zero = refl
  members_carry a i b j (suc k) =
      let x : 4 + 4 * i + 4 ≡ 4 + 4 * (i + 1) = omega arith in
      let y : 4 + 4 * j + 4 ≡ 4 + 4 * (j + 1) = omega arith in
      rw (x, y, place_behind ks a i, place_behind vs b j, members_carry a (i + 1) b (j + 1) k)

-- Those of an object of `n`: the first, the one behind another, and all of them.
module _ (s : Bytes) (n : ℕ) where
  pub object_start : members_of s n ≡ nth_member s n 0
  object_start =
      let z : start_of (n + 0) ≡ start_of n = ap start_of (add-zero n) in
      let v : table_place s (n + n) (n + 0) ≡ table_place s (n + n) n = ap (table_place s (n + n)) (add-zero n) in
      rw (z, v)
      (ap (λ (p : ℕ). record { key_jentry = 4; val_jentry = start_of n; key = p; val = table_place s (n + n) n }) (place_first s (n + n)))

  pub object_on : (i : ℕ) (at next : Places) (m : MemberAt) → at ≡ nth_member s n i
      → m ≡ member_at s s at.key_jentry at.val_jentry at.key at.val → next ≡ behind_member at m
      → next ≡ nth_member s n (i + 1)
  unfolding entry_at
  object_on i at next m e hm hn =
      let x : n + i + 1 ≡ n + (i + 1) = omega arith in
      rw (hn, hm, e) (member_behind s s (n + n) i (n + n) (n + i) ∙ rw x)

  pub object_members : members_at s s (members_of s n) n ≡ members_by_table s (n + n) 0 s (n + n) n n
  object_members =
      let z : n + 0 ≡ n = add-zero n in
      ap (λ (at : Places). members_at s s at n) object_start
      ∙ members_carry s s (n + n) 0 (n + n) (n + 0) n
      ∙ ap (λ (j : ℕ). members_by_table s (n + n) 0 s (n + n) j n) z

-- Those of `n` names and `n` values.
pub pairs_members : (ks vs : Bytes) (n : ℕ) → members_at ks vs (pairs_of n) n ≡ members_by_table ks n 0 vs n 0 n
pairs_members ks vs n =
    ap (λ (p : ℕ). members_at ks vs (record { key_jentry = 4; val_jentry = 4; key = p; val = start_of n }) n) (place_first ks n)
    ∙ ap (λ (p : ℕ). members_at ks vs (record { key_jentry = 4; val_jentry = 4; key = table_place ks n 0; val = p }) n) (place_first vs n)
    ∙ members_carry ks vs n 0 n 0 n

-- Parts one behind the other, from a place of the table on; those that a record of the layout is read by are these.
pub parts_carry : (s : Bytes) (n i k : ℕ) → parts_at s i (table_place s n i) k ≡ parts_by_table s n i k
unfolding parts_at parts_by_table
parts_carry s n i zero = refl
parts_carry s n i (suc k) = rw (place_behind s n i, parts_carry s n (i + 1) k)

-- What an iterator has left, wherever it starts: whichever table gives its first place gives every place behind it.
table_carry : (s : Bytes) (n i k : ℕ) → placed_from s (nth_part s n i) k ≡ placed_by_table s n i k
unfolding placed_from placed_by_table
table_carry s n i zero = refl
table_carry s n i (suc k) = rw (place_behind s n i, table_carry s n (i + 1) k)

pub placed_carry : (s : Bytes) (n from start k : ℕ) → start ≡ table_place s n from
    → placed_from s (record { index = from; place = start }) k ≡ placed_by_table s n from k
placed_carry s n from start k e = rw (e, table_carry s n from k)

pub parts_read : (s : Bytes) (n names : ℕ) (ps : List Part) → 4 ≤ length s → parts n names (drop 4 s) ≡ gives ps
    → ps ≡ parts_by_table s n 0 n
parts_read s n names ps four e =
    (laid s n names ps four e).same ∙ ap (λ (p : ℕ). parts_at s 0 p n) (place_first s n) ∙ parts_carry s n 0 n

-- A part by the number of its entry: the first of `n`, and the one behind another, of the `n` or from any place on.
pub part_start : (s : Bytes) (n : ℕ) (p : PartAt) → p ≡ first_part n → p ≡ nth_part s n p.index
part_start s n p e = rw e (ap (λ (q : ℕ). record { index = 0; place = q }) (place_first s n))

pub part_on : (s : Bytes) (n : ℕ) (p q : PartAt) → p ≡ nth_part s n p.index → q ≡ next_part s p → q ≡ nth_part s n q.index
part_on s n p q e h = rw (h, e) (rw (place_behind s n p.index))

-- The check: the items in one pass, and the place where the names end.
pub check_carries : (inner : Bytes → Answer Tree) (s : Bytes) (n i k : ℕ)
    → items_checked inner s i (table_place s n i) k ≡ items_by_table inner s n i k
unfolding items_checked items_by_table
check_carries inner s n i zero = refl
check_carries inner s n i (suc k) = rw (place_behind s n i, check_carries inner s n (i + 1) k)

pub names_carry : (s : Bytes) (n names e : ℕ) → names_end s 0 (start_of n) names ≡ Some e → e ≡ table_place s n names
names_carry s n names e q = (names_to s names 0 (start_of n) names e (omega arith) q).place
