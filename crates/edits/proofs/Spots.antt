-- The part that a step finds in the bytes of a container, tied to the tree: the step finds a part where it finds a tree, and the
-- part is that tree's.
use Prim.Native.Nat.{ℕ, ◌+◌, ◌*◌, ◌^◌, ◌≤◌, ◌<◌}
use native.Mathlib.Omega.{arith}
use mathlib.Core.Path.{◌≡◌, refl, ap, sym, ◌∙◌}
use mathlib.Core.Logic.{⊎_elim}
use mathlib.Core.Bool.{true, false}
use mathlib.Core.List.{List, [], ◌∷◌, ◌++◌, append_assoc}
use lib.ListN.{length, take, drop, length-append}
use Rattle.layout.specs.Bytes.{Bytes}
use Rattle.layout.specs.Entry.{length_of, entry_at}
use Rattle.layout.specs.Tree.{Tree, null, boolean, number, string, extension, array, object, Items, Members, names, kind}
use Rattle.layout.specs.Encode.{Part, entry_word, record_of, name_parts, payload, item_parts, member_parts, part}
use Rattle.layout.specs.Read.{header}
use Rattle.layout.specs.Place.{parts_at}
use Rattle.layout.specs.declared.item.Kind.TheVariants.{Container}
use Rattle.layout.specs.declared.util.Header.TheVariants.{Array, Object}
use Rattle.layout.proofs.Level.{AllFit}
use Rattle.layout.proofs.Encoding.{names_count, array_fits, object_fits}
use Rattle.layout.proofs.Readables.{record_of_length}
use Rattle.layout.proofs.Nestings.{header_encode}
use Rattle.builders.specs.Order.{find}
use Rattle.builders.specs.Build.{count}
use Rattle.layout.specs.Parts.{texts}
use Rattle.builders.proofs.Builds.{count_item_parts}
use Rattle.edits.specs.Keypath.{Step}
use Rattle.edits.specs.Find.{step_place, step_name, item_at, step_into}
use Rattle.layout.specs.Parts.{nth_part}
use Rattle.edits.specs.Spot.{first, spot_at, spot_member, spot}
use Rattle.layout.specs.declared.parts.PartAt.{PartAt}
use Rattle.edits.proofs.Deletes.{nothing_some, found_or_not, step_below, item_there}
use Rattle.edits.proofs.Finds.{key_part, spot_array, spot_object}
use Rattle.edits.proofs.Rows.{row_entry, row_bytes, row_within}
use Rattle.edits.proofs.Splits.{item_split, member_split, no_first}
use Rattle.edits.proofs.Tables.{object_names}
use Rattle.std.specs.Prelude.{Ok, Some, None, Option}

-- What a spot says of the number that it was made from.

pub no_spot : {C : Type 0} (a : PartAt) → None ≡ Some a → C
no_spot a e = let z : ◌≡◌ {A = ℕ} 0 1 = cc in let w : ⊥ = omega arith in absurd w

spot_at_none : (s : Bytes) (n : ℕ) (o : Option ℕ) → spot_at s n o ≡ None → o ≡ None
unfolding spot_at
spot_at_none s n None e = refl
spot_at_none s n (Some k) e = no_spot _ (sym e)

spot_member_none : (s : Bytes) (n : ℕ) (o : Option ℕ) → spot_member s n o ≡ None → o ≡ None
unfolding spot_member
spot_member_none s n None e = refl
spot_member_none s n (Some k) e = no_spot _ (sym e)

spot_member_part : (s : Bytes) (n : ℕ) (o : Option ℕ) (a : PartAt) (k : ℕ) → spot_member s n o ≡ Some a → o ≡ Some k
    → a ≡ nth_part s (n + n) (n + k)
unfolding spot_member
spot_member_part s n o a k e q = let z : Some (nth_part s (n + n) (n + k)) ≡ Some a = rw q at e in cc

spot_member_some : (s : Bytes) (n : ℕ) (o : Option ℕ) (a : PartAt) → spot_member s n o ≡ Some a → o ≡ None → ⊥
unfolding spot_member
spot_member_some s n o a e q = no_spot a (rw q at e)

-- An array.

module _ (ts : Items) (s : Bytes) (p : Step) (e : payload (array ts) ≡ s) (l : length s ≤ 65536) where
  array_spot_is : spot (header s) s p ≡ spot_at s (length (item_parts ts)) (step_place p (length (item_parts ts)))
  array_spot_is =
      let h : header s ≡ Ok (Array (length (item_parts ts))) = ap header (sym e) ∙ header_encode (array ts) (rw e l) in
      rw h (spot_array (length (item_parts ts)) s p)

  array_none : spot (header s) s p ≡ None → step_into p (array ts) ≡ None
  array_none q =
      let c : step_place p (length (item_parts ts)) ≡ None = spot_at_none s _ _ (sym array_spot_is ∙ q) in
      rw (count_item_parts ts, c)

pub array_spot : (ts : Items) (s : Bytes) (p : Step) (a : PartAt) → payload (array ts) ≡ s → length s ≤ 65536
    → spot (header s) s p ≡ Some a
    → (k : ℕ) × (v : Tree) × (step_place p (count ts) ≡ Some k) × (item_at ts k ≡ Some v)
    × (a ≡ nth_part s (length (item_parts ts)) k)
array_spot ts s p a e l q =
    let w = key_part s (length (item_parts ts)) _ a (sym q ∙ array_spot_is ts s p e l) in
    let c : step_place p (count ts) ≡ Some w.0 = rw (count_item_parts ts) w.1 in
    let v = item_there ts w.0 (step_below p (count ts) w.0 c) in
    (w.0, v.0, c, v.1, w.2)

-- An object.

pub texts_names : (ns : List Bytes) → texts (name_parts ns) ≡ ns
texts_names [] = refl
texts_names (n ∷ ns) = ap (λ (l : List Bytes). n ∷ l) (texts_names ns)

module _ (ms : Members) (s : Bytes) (p : Step) (e : payload (object ms) ≡ s) (l : length s ≤ 65536) where
  abbrev size : ℕ
  size = length (member_parts ms)

  texts_are : texts (parts_at s 0 (4 + 4 * (size + size)) size) ≡ names ms
  texts_are = ap texts (object_names ms s size e l refl) ∙ texts_names (names ms)

  object_spot_is : spot (header s) s p ≡ spot_member s size (first (step_name p) (names ms))
  object_spot_is =
      let h : header s ≡ Ok (Object size) = ap header (sym e) ∙ header_encode (object ms) (rw e l) in
      rw (h, spot_object size s p, texts_are)

  object_none : spot (header s) s p ≡ None → step_into p (object ms) ≡ None
  object_none q =
      let c : first (step_name p) (names ms) ≡ None = spot_member_none s size _ (sym object_spot_is ∙ q) in
      ⊎_elim (λ n. n) (λ w. nothing_some (sym c ∙ (member_split (step_name p) ms w.0 w.1).is_first))
      (found_or_not (find (step_name p) ms))

pub object_spot : (ms : Members) (s : Bytes) (p : Step) (a : PartAt) → payload (object ms) ≡ s → length s ≤ 65536
    → spot (header s) s p ≡ Some a
    → (v : Tree) × (e : find (step_name p) ms ≡ Some v)
    × (a ≡ nth_part s (length (member_parts ms) + length (member_parts ms)) (length (member_parts ms) + (member_split (step_name p) ms v e).count))
object_spot ms s p a e l q =
    let r : spot_member s (length (member_parts ms)) (first (step_name p) (names ms)) ≡ Some a = sym (object_spot_is ms s p e l) ∙ q in
    ⊎_elim
    (λ n. absurd (spot_member_some s (length (member_parts ms)) _ a r (no_first (step_name p) ms n)))
    (λ w. (
      w.0,
      w.1,
      spot_member_part s (length (member_parts ms)) _ a _ r (member_split (step_name p) ms w.0 w.1).is_first,
    ))
    (found_or_not (find (step_name p) ms))

-- Where there is no part, there is no tree.
pub spot_none : (t : Tree) (s : Bytes) (p : Step) → payload t ≡ s → kind t ≡ Container → length s ≤ 65536
    → spot (header s) s p ≡ None → step_into p t ≡ None
spot_none null s p e k l q = refl
spot_none (boolean x) s p e k l q = refl
spot_none (number b) s p e k l q = refl
spot_none (string b) s p e k l q = refl
spot_none (extension b) s p e k l q = refl
spot_none (array ts) s p e k l q = array_none ts s p e l q
spot_none (object ms) s p e k l q = object_none ms s p e l q

-- The part that a step finds, and the tree that it is of.
pub record Spotted (t : Tree) (s : Bytes) (p : Step) (a : PartAt) : Type 0 where
  pub tree : Tree
  pub found : step_into p t ≡ Some tree
  pub entry : entry_at s a.index ≡ entry_word (part tree)
  pub len : length_of (entry_at s a.index) ≡ length (payload tree)
  pub bytes : take (length (payload tree)) (drop a.place s) ≡ payload tree
  pub within : a.place + length (payload tree) ≤ length s
  pub few : a.index < 32768

-- The part that stands behind `xs` in a record.
row_spotted : (t : Tree) (s : Bytes) (p : Step) (a : PartAt) (w : ℕ) (xs : List Part) (v : Tree) (ys all : List Part)
    → step_into p t ≡ Some v → AllFit all → all ≡ xs ++ (part v ∷ ys) → record_of w all ≡ s → length s ≤ 65536
    → a ≡ nth_part s (length all) (length xs) → Spotted t s p a
row_spotted t s p a w xs v ys all found f split e l ha =
    let fit : AllFit (xs ++ (part v ∷ ys)) = rw split at f in
    let row = row_entry w xs (part v) ys fit in
    rw (ha, ← e, split)
    (record {
      tree = v;
      found = found;
      entry = row.0;
      len = row.1;
      bytes = rw row.1 at (row_bytes w xs (part v) ys fit);
      within = row_within w xs (part v) ys fit;
      few = omega (
        arith,
        record_of_length w (xs ++ (part v ∷ ys)),
        length-append xs (part v ∷ ys),
        ap (λ (ps : List Part). length (record_of w ps)) split,
        ap length e,
      );
    })

array_spotted : (ts : Items) (s : Bytes) (p : Step) (a : PartAt) → payload (array ts) ≡ s → length s ≤ 65536
    → spot (header s) s p ≡ Some a → Spotted (array ts) s p a
array_spotted ts s p a e l q =
    let w = array_spot ts s p a e l q in
    let k = item_split ts w.0 w.1 w.3 in
    row_spotted (array ts) s p a (2 ^ 31 + length (item_parts ts)) k.left w.1 k.right (item_parts ts)
    (rw w.2 w.3) (array_fits ts (omega (arith, ap length e))).fits k.whole e l (rw k.before w.4)

object_spotted : (ms : Members) (s : Bytes) (p : Step) (a : PartAt) → payload (object ms) ≡ s → length s ≤ 65536
    → spot (header s) s p ≡ Some a → Spotted (object ms) s p a
object_spotted ms s p a e l q =
    let w = object_spot ms s p a e l q in
    let k = member_split (step_name p) ms w.0 w.1 in
    let f = object_fits ms (omega (arith, ap length e)) in
    let i : length (name_parts (names ms) ++ k.vals_left) ≡ length (member_parts ms) + k.count =
    omega (arith, length-append (name_parts (names ms)) k.vals_left, names_count ms, k.vals_before) in
    row_spotted (object ms) s p a (2 ^ 30 + length (member_parts ms)) (name_parts (names ms) ++ k.vals_left) w.0 k.vals_right
    (name_parts (names ms) ++ member_parts ms)
    w.1 f.fits
    (ap (λ (ps : List Part). name_parts (names ms) ++ ps) k.vals
    ∙ sym (append_assoc (name_parts (names ms)) k.vals_left (part w.0 ∷ k.vals_right)))
    e l (rw (i, ← f.whole) w.2)

-- Where there is a part, there is a tree, and the part is the tree's.
pub spot_part : (t : Tree) (s : Bytes) (p : Step) (a : PartAt) → payload t ≡ s → kind t ≡ Container → length s ≤ 65536
    → spot (header s) s p ≡ Some a → Spotted t s p a
spot_part null s p a e k l q = let z : ◌≡◌ {A = ℕ} 0 1 = cc in let w : ⊥ = omega arith in absurd w
spot_part (boolean true) s p a e k l q = let z : ◌≡◌ {A = ℕ} 0 1 = cc in let w : ⊥ = omega arith in absurd w
spot_part (boolean false) s p a e k l q = let z : ◌≡◌ {A = ℕ} 0 1 = cc in let w : ⊥ = omega arith in absurd w
spot_part (number b) s p a e k l q = let z : ◌≡◌ {A = ℕ} 0 1 = cc in let w : ⊥ = omega arith in absurd w
spot_part (string b) s p a e k l q = let z : ◌≡◌ {A = ℕ} 0 1 = cc in let w : ⊥ = omega arith in absurd w
spot_part (extension b) s p a e k l q = let z : ◌≡◌ {A = ℕ} 0 1 = cc in let w : ⊥ = omega arith in absurd w
spot_part (array ts) s p a e k l q = array_spotted ts s p a e l q
spot_part (object ms) s p a e k l q = object_spotted ms s p a e l q
