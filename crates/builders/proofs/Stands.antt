-- Members by their places that stand for members of a tree: in order they still do, and their columns are the object's parts.
use Prim.Native.Nat.{ℕ, ◌+◌, ◌^◌, ◌<◌}
use native.Mathlib.Omega.{arith}
use mathlib.Core.Path.{◌≡◌, refl, ap, ap₂, sym, ◌∙◌}
use mathlib.Core.List.{List, [], ◌∷◌, ◌++◌, append_assoc}
use lib.ListN.{length, take, drop}
use lib.Seq.{take-append_seam, drop-append_seam, drop-drop}
use Rattle.layout.specs.Bytes.{Bytes, be32, word_at}
use Rattle.layout.specs.Entry.{code, length_of}
use Rattle.layout.specs.Tree.{Tree, Items, none, item, Members, empty, member, names, pair}
use Rattle.layout.specs.Encode.{Part, entry_word, entries, payloads, name_part, name_parts, payload, item_parts, member_parts, part}
use Rattle.layout.specs.Order.{order}
use Rattle.std.specs.declared.cmp.Ordering.{Ordering}
use Rattle.std.specs.declared.cmp.Ordering.TheVariants.{Less, Equal, Greater}
use Rattle.layout.proofs.Words.{word_be32, drop_be32}
use Rattle.layout.proofs.Fields.{length_entry, word_at_drop}
use Rattle.layout.proofs.Level.{Fits, AllFit, code_small}
use Rattle.builders.specs.Order.{by, insert, insert_all, in_order}
use Rattle.layout.specs.Parts.{name_in, value_in, members_from}
use Rattle.builders.specs.Sorted.{put_in, put_all, sorted}
use Rattle.builders.specs.Weave.{own_entry, column}
use Rattle.layout.specs.declared.parts.MemberAt.{MemberAt}

module _ (name value : MemberAt → Bytes) (entry : MemberAt → ℕ) where
  -- A member by its places that has the entries, the name and the value of a member of a tree.
  abbrev pub Stands : MemberAt → Bytes → Tree → Type 0
  Stands m n t =
      (m.key.jentry ≡ entry_word (name_part n)) × (entry m ≡ entry_word (part t)) × (name m ≡ n) × (value m ≡ payload t)

  abbrev pub Stand : List MemberAt → Members → Type 0
  Stand [] empty = Unit {0}
  Stand [] (member n t ms) = ⊥
  Stand (x ∷ xs) empty = ⊥
  Stand (x ∷ xs) (member n t ms) = Stands x n t × Stand xs ms

  stand_by : (o : Ordering) (x : MemberAt) (n : Bytes) (t : Tree) (b : MemberAt) (m : Bytes) (u : Tree) (xs ys : List MemberAt) (ms ns : Members)
      → Stands x n t → Stands b m u → Stand xs ms → Stand ys ns
      → Stand (by o (x ∷ b ∷ xs) (b ∷ xs) (b ∷ ys)) (by o (member n t (member m u ms)) (member m u ms) (member m u ns))
  stand_by Less x n t b m u xs ys ms ns s r h k = (s, (r, h))
  stand_by Equal x n t b m u xs ys ms ns s r h k = (r, h)
  stand_by Greater x n t b m u xs ys ms ns s r h k = (r, k)

  stand_put : (x : MemberAt) (n : Bytes) (t : Tree) (xs : List MemberAt) (ms : Members) → Stands x n t → Stand xs ms
      → Stand (put_in name x xs) (insert n t ms)
  unfolding put_in
  stand_put x n t [] empty s h = (s, tt)
  stand_put x n t [] (member m u ms) s h = absurd h
  stand_put x n t (b ∷ xs) empty s h = absurd h
  stand_put x n t (b ∷ xs) (member m u ms) s h =
      let e : order (name x) (name b) ≡ order n m = ap₂ order s.2 h.0.2 in
      rw e (stand_by (order n m) x n t b m u xs (put_in name x xs) ms (insert n t ms) s h.0 h.1 (stand_put x n t xs ms s h.1))

  stand_all : (xs : List MemberAt) (ms : Members) (done : List MemberAt) (had : Members) → Stand xs ms → Stand done had
      → Stand (put_all name done xs) (insert_all ms had)
  unfolding put_all
  stand_all [] empty done had h k = k
  stand_all [] (member n t ms) done had h k = absurd h
  stand_all (x ∷ xs) empty done had h k = absurd h
  stand_all (x ∷ xs) (member n t ms) done had h k =
      stand_all xs ms (put_in name x done) (insert n t had) h.1 (stand_put x n t done had h.0 k)

  -- Put in order by their names, they stand for the members in order.
  pub stand_sorted : (xs : List MemberAt) (ms : Members) → Stand xs ms → Stand (sorted name xs) (in_order ms)
  unfolding sorted
  stand_sorted xs ms h = stand_all xs ms [] empty h tt

  pub stand_key_entries : (xs : List MemberAt) (ms : Members) → Stand xs ms
      → column (λ m. be32 m.key.jentry) xs ≡ entries (name_parts (names ms))
  unfolding column
  stand_key_entries [] empty h = refl
  stand_key_entries [] (member n t ms) h = absurd h
  stand_key_entries (x ∷ xs) empty h = absurd h
  stand_key_entries (x ∷ xs) (member n t ms) h = ap₂ ◌++◌ (ap be32 h.0.0) (stand_key_entries xs ms h.1)

  pub stand_val_entries : (xs : List MemberAt) (ms : Members) → Stand xs ms
      → column (λ m. be32 (entry m)) xs ≡ entries (member_parts ms)
  unfolding column
  stand_val_entries [] empty h = refl
  stand_val_entries [] (member n t ms) h = absurd h
  stand_val_entries (x ∷ xs) empty h = absurd h
  stand_val_entries (x ∷ xs) (member n t ms) h = ap₂ ◌++◌ (ap be32 h.0.1) (stand_val_entries xs ms h.1)

  pub stand_names : (xs : List MemberAt) (ms : Members) → Stand xs ms → column name xs ≡ payloads (name_parts (names ms))
  unfolding column
  stand_names [] empty h = refl
  stand_names [] (member n t ms) h = absurd h
  stand_names (x ∷ xs) empty h = absurd h
  stand_names (x ∷ xs) (member n t ms) h = ap₂ ◌++◌ h.0.2 (stand_names xs ms h.1)

  pub stand_values : (xs : List MemberAt) (ms : Members) → Stand xs ms → column value xs ≡ payloads (member_parts ms)
  unfolding column
  stand_values [] empty h = refl
  stand_values [] (member n t ms) h = absurd h
  stand_values (x ∷ xs) empty h = absurd h
  stand_values (x ∷ xs) (member n t ms) h = ap₂ ◌++◌ h.0.3 (stand_values xs ms h.1)

-- A table row: an entry, with those of other parts behind it; and its payload, with those of other parts behind it.
pub entry_row : (s : Bytes) (a : ℕ) (e : Part) (ps : List Part) (x : Bytes) → Fits e → drop a s ≡ entries (e ∷ ps) ++ x
    → (word_at s a ≡ entry_word e) × (length_of (word_at s a) ≡ length e.bytes) × (drop (a + 4) s ≡ entries ps ++ x)
entry_row s a e ps x f h =
    let small : entry_word e < 2 ^ 32 = omega (arith, code_small e.kind, f.1) in
    let head : drop a s ≡ be32 (entry_word e) ++ (entries ps ++ x) = h ∙ append_assoc (be32 (entry_word e)) (entries ps) x in
    let w : word_at s a ≡ entry_word e = word_at_drop s a ∙ rw head (word_be32 (entry_word e) (entries ps ++ x) small) in (
      w,
      rw w (length_entry (code e.kind) (length e.bytes) f.1),
      sym (drop-drop 4 a s) ∙ ap (drop 4) head ∙ drop_be32 (entry_word e) (entries ps ++ x),
    )

pub table_row : (s : Bytes) (a p : ℕ) (e : Part) (ps : List Part) (x y : Bytes) → Fits e
    → drop a s ≡ entries (e ∷ ps) ++ x → drop p s ≡ payloads (e ∷ ps) ++ y
    → (word_at s a ≡ entry_word e) × (take (length_of (word_at s a)) (drop p s) ≡ e.bytes)
    × (drop (a + 4) s ≡ entries ps ++ x) × (drop (p + length_of (word_at s a)) s ≡ payloads ps ++ y)
table_row s a p e ps x y f ha hp =
    let row = entry_row s a e ps x f ha in
    let body : drop p s ≡ e.bytes ++ (payloads ps ++ y) = hp ∙ append_assoc e.bytes (payloads ps) y in (
      row.0,
      rw (row.1, body) (take-append_seam e.bytes (payloads ps ++ y)),
      row.2,
      rw row.1 (sym (drop-drop (length e.bytes) p s) ∙ ap (drop (length e.bytes)) body ∙ drop-append_seam e.bytes (payloads ps ++ y)),
    )

-- Members whose names and values have their entries and their payloads in a row, in one record or in two.
pub stand_from : (ks vs : Bytes) (a b p q : ℕ) (ns : List Bytes) (us : Items) (w x y z : Bytes)
    → length ns ≡ length (item_parts us)
    → AllFit (name_parts ns) → AllFit (item_parts us)
    → drop a ks ≡ entries (name_parts ns) ++ w → drop p ks ≡ payloads (name_parts ns) ++ x
    → drop b vs ≡ entries (item_parts us) ++ y → drop q vs ≡ payloads (item_parts us) ++ z
    → Stand (name_in ks) (value_in vs) own_entry (members_from ks vs a b p q (length ns)) (pair ns us)
unfolding members_from
stand_from ks vs a b p q [] us w x y z l fn fu ha hp hb hq = tt
stand_from ks vs a b p q (n ∷ ns) none w x y z l fn fu ha hp hb hq = let v : ⊥ = omega arith in absurd v
stand_from ks vs a b p q (n ∷ ns) (item u us) w x y z l fn fu ha hp hb hq =
    let k = table_row ks a p (name_part n) (name_parts ns) w x fn.0 ha hp in
    let v = table_row vs b q (part u) (item_parts us) y z fu.0 hb hq in (
      (k.0, v.0, k.1, v.1),
      stand_from ks vs (a + 4) (b + 4) (p + length_of (word_at ks a)) (q + length_of (word_at vs b)) ns us w x y z
          (omega arith) fn.1 fu.1 k.2 k.3 v.2 v.3,
    )
