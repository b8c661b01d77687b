-- Two records seen as one, the right one and the left one behind it: the members of the right one stand where they stood, those of
-- the left one are moved. So all of them, in a row, stand for those of both trees.
use Prim.Native.Nat.{ℕ, suc, ◌-◌, ◌≤◌}
use native.Mathlib.Omega.{arith}
use native.Mathlib.Decide.{dec_le}
use mathlib.Core.Path.{◌≡◌, refl, sym, ap, ◌∙◌}
use mathlib.Core.List.{List, [], ◌∷◌, ◌++◌}
use lib.ListN.{length, take, drop, length-take, length-drop}
use lib.Seq.{take-append-le, drop-append-le, drop-append-add}
use Rattle.layout.specs.Bytes.{Bytes}
use Rattle.layout.specs.Entry.{code, length_of}
use Rattle.layout.specs.Tree.{Tree, Members, empty, member}
use Rattle.layout.specs.Encode.{Part, entry_word, name_part, part}
use Rattle.layout.proofs.Fields.{length_entry}
use Rattle.builders.specs.Order.{follow}
use Rattle.layout.specs.Parts.{bytes_at, name_in, value_in}
use Rattle.builders.specs.Weave.{own_entry}
use Rattle.layout.specs.declared.parts.ItemAt.{ItemAt}
use Rattle.layout.specs.declared.parts.MemberAt.{MemberAt}
use Rattle.builders.proofs.Searches.{bytes_short}
use Rattle.builders.proofs.Stands.{Stands, Stand}
use Rattle.edits.specs.Merge.{moved, moved_member, moved_all}
use Rattle.layout.proofs.Lists.{Each}

module _ (r l : Bytes) where
  -- Moved behind the right record, an item has the payload that it had.
  moved_bytes : (x : ItemAt) → bytes_at (r ++ l) (moved (length r) x) ≡ bytes_at l x
  moved_bytes x = ap (take (length_of x.jentry)) (drop-append-add r l x.place)

  pub moved_name : (m : MemberAt) → name_in (r ++ l) (moved_member (length r) m) ≡ name_in l m
  moved_name m = moved_bytes m.key

  pub moved_value : (m : MemberAt) → value_in (r ++ l) (moved_member (length r) m) ≡ value_in l m
  moved_value m = moved_bytes m.val

  -- An item whose payload is as long as its entry says lies in the record, so it has the same payload in both together.
  whole_bytes : (k p : ℕ) → length (take k (drop p r)) ≡ k → take k (drop p (r ++ l)) ≡ take k (drop p r)
  whole_bytes k p e = go (dec_le p (length r)) (dec_le k 0)
    where
      few : k ≤ length r - p
      few = omega (arith, e, length-take k (drop p r), length-drop p r)

      go : Dec (p ≤ length r) → Dec (k ≤ 0) → take k (drop p (r ++ l)) ≡ take k (drop p r)
      go (yes h) d = rw (drop-append-le p r l h) (take-append-le k (drop p r) l (rw (length-drop p r) few))
      go (no h) (yes d) = let z : k ≡ 0 = omega arith in rw z
      go (no h) (no d) = let v : ⊥ = omega (arith, few) in absurd v

  item_inside : (x : ItemAt) (p : Part) → x.jentry ≡ entry_word p → bytes_at r x ≡ p.bytes → bytes_at (r ++ l) x ≡ bytes_at r x
  item_inside x p e b =
      let s = bytes_short r x in
      let n : length_of x.jentry ≡ length p.bytes = rw e (length_entry (code p.kind) (length p.bytes) (omega (arith, ap length b))) in
      whole_bytes (length_of x.jentry) x.place (ap length b ∙ sym n)

  -- A member of the right record, read in both together.
  abbrev pub SameName : MemberAt → Type 0
  SameName m = name_in (r ++ l) m ≡ name_in r m

  abbrev pub SameValue : MemberAt → Type 0
  SameValue m = value_in (r ++ l) m ≡ value_in r m

  module _ (m : MemberAt) (n : Bytes) (t : Tree) (h : Stands (name_in r) (value_in r) own_entry m n t) where
    same_name : SameName m
    same_name = item_inside m.key (name_part n) h.0 h.2

    same_value : SameValue m
    same_value = item_inside m.val (part t) h.1 h.3

  pub same_names : (xs : List MemberAt) (ms : Members) → Stand (name_in r) (value_in r) own_entry xs ms → Each SameName xs
  same_names [] ms h = tt
  same_names (x ∷ xs) empty h = absurd h
  same_names (x ∷ xs) (member n t ms) h = (same_name x n t h.0, same_names xs ms h.1)

  pub same_values : (xs : List MemberAt) (ms : Members) → Stand (name_in r) (value_in r) own_entry xs ms → Each SameValue xs
  same_values [] ms h = tt
  same_values (x ∷ xs) empty h = absurd h
  same_values (x ∷ xs) (member n t ms) h = (same_value x n t h.0, same_values xs ms h.1)

  -- The members of both, in a row.
  abbrev Both : List MemberAt → Members → Type 0
  Both = Stand (name_in (r ++ l)) (value_in (r ++ l)) own_entry

  both_left : (ys : List MemberAt) (ls : Members) → Stand (name_in l) (value_in l) own_entry ys ls → Both (moved_all (length r) ys) ls
  both_left [] empty h = tt
  both_left [] (member n t ls) h = absurd h
  both_left (y ∷ ys) empty h = absurd h
  both_left (y ∷ ys) (member n t ls) h =
      ((h.0.0, h.0.1, moved_name y ∙ h.0.2, moved_value y ∙ h.0.3), both_left ys ls h.1)

  pub both_stand : (xs ys : List MemberAt) (rs ls : Members) → Stand (name_in r) (value_in r) own_entry xs rs
      → Stand (name_in l) (value_in l) own_entry ys ls
      → Stand (name_in (r ++ l)) (value_in (r ++ l)) own_entry (xs ++ moved_all (length r) ys) (follow rs ls)
  both_stand [] ys empty ls h k = both_left ys ls k
  both_stand [] ys (member n t rs) ls h k = absurd h
  both_stand (x ∷ xs) ys empty ls h k = absurd h
  both_stand (x ∷ xs) ys (member n t rs) ls h k =
      ((h.0.0, h.0.1, same_name x n t h.0 ∙ h.0.2, same_value x n t h.0 ∙ h.0.3), both_stand xs ys rs ls h.1 k)

pub length_moved : (k : ℕ) (ms : List MemberAt) → length (moved_all k ms) ≡ length ms
length_moved k [] = refl
length_moved k (m ∷ ms) = ap suc (length_moved k ms)
