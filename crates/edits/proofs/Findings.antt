-- What look_up means, one step at a time: what a step takes in an object and in an array, where it finds nothing, and that a path that
-- finds nothing is an absence.
use Prim.Native.Nat.{ℕ, suc, ◌-◌, ◌<◌, ◌≤◌}
use mathlib.Core.Path.{◌≡◌, refl, ap, sym, ◌∙◌}
use mathlib.Core.Bool.{Bool, true, false, not, cond}
use mathlib.Core.List.{List, [], ◌∷◌}
use lib.Dec.{T, ltb, nltb→le}
use lib.IntN.{pos, negsuc}
use borrow.Author.Tests.{lt-ltb, le-ltb}
use Rattle.layout.specs.Bytes.{Bytes}
use Rattle.layout.specs.Answer.{gives, ◌>>=◌}
use Rattle.layout.specs.Tree.{Tree, null, boolean, number, string, extension, array, object, Items, Members, kind}
use Rattle.layout.specs.Read.{read}
use Rattle.layout.specs.Ended.{absence}
use Rattle.layout.specs.declared.item.Kind.TheVariants.{Container}
use Rattle.builders.specs.Order.{find}
use Rattle.builders.specs.Build.{count}
use Rattle.edits.specs.Keypath.{Step, name, index, path_of}
use Rattle.edits.specs.Find.{◌then◌, place, step_name, item_at, step_into, look_up}
use Rattle.edits.specs.Path.{get_by, on_path}
use Rattle.edits.proofs.Deletes.{item_past}
use Rattle.std.specs.Prelude.{Some, None, Option}

-- An index from the start means the item at that place, if there is one; one from the end, the item so far before it.
pub index_finds : (j : ℕ) (ts : Items) → step_into (index (pos j)) (array ts) ≡ item_at ts j
unfolding place
index_finds j ts = go (ltb j (count ts)) (nltb→le j (count ts))
  where
    go : (b : Bool) → (T (not b) → count ts ≤ j) → (cond b (Some j) None then item_at ts) ≡ item_at ts j
    go true h = refl
    go false h = sym (item_past ts j (h tt))

pub back_finds : (k : ℕ) (ts : Items) → k < count ts → step_into (index (negsuc k)) (array ts) ≡ item_at ts (count ts - suc k)
unfolding place
back_finds k ts h = rw (lt-ltb k (count ts) h)

-- "An empty path gives the record."
pub found_whole : (t : Tree) → look_up [] t ≡ Some t
found_whole t = refl

-- A step inward, and then the rest of the path: "the first member whose name has equal bytes", an index by its decimal text; the item
-- at a place; and the item counted back from the end.
module _ (p : List Step) where
  pub found_member : (s : Step) (ms : Members) → look_up (s ∷ p) (object ms) ≡ (find (step_name s) ms then look_up p)
  found_member s ms = refl

  pub found_item : (j : ℕ) (ts : Items) → look_up (index (pos j) ∷ p) (array ts) ≡ (item_at ts j then look_up p)
  found_item j ts = ap (λ (o : Option Tree). o then look_up p) (index_finds j ts)

  pub found_from_end : (k : ℕ) (ts : Items) → k < count ts
      → look_up (index (negsuc k) ∷ p) (array ts) ≡ (item_at ts (count ts - suc k) then look_up p)
  found_from_end k ts h = ap (λ (o : Option Tree). o then look_up p) (back_finds k ts h)

  -- What finds nothing: a name that no member has; "an index equal to the count", or beyond it; one that counts back before the first
  -- item; "a name on an array"; "a step into a scalar".
  pub no_member : (s : Step) (ms : Members) → find (step_name s) ms ≡ None → look_up (s ∷ p) (object ms) ≡ None
  no_member s ms e = ap (λ (o : Option Tree). o then look_up p) e

  pub no_item : (j : ℕ) (ts : Items) → count ts ≤ j → look_up (index (pos j) ∷ p) (array ts) ≡ None
  no_item j ts h = found_item j ts ∙ ap (λ (o : Option Tree). o then look_up p) (item_past ts j h)

  pub no_item_back : (k : ℕ) (ts : Items) → count ts ≤ k → look_up (index (negsuc k) ∷ p) (array ts) ≡ None
  unfolding place
  no_item_back k ts h = rw (le-ltb k (count ts) h)

  pub no_name_in_array : (n : Bytes) (ts : Items) → look_up (name n ∷ p) (array ts) ≡ None
  no_name_in_array n ts = refl

  pub no_step_in_scalar : (s : Step) (t : Tree) → (kind t ≡ Container → ⊥) → look_up (s ∷ p) t ≡ None
  no_step_in_scalar s null h = refl
  no_step_in_scalar s (boolean x) h = refl
  no_step_in_scalar s (number b) h = refl
  no_step_in_scalar s (string b) h = refl
  no_step_in_scalar s (extension b) h = refl
  no_step_in_scalar s (array ts) h = absurd (h refl)
  no_step_in_scalar s (object ms) h = absurd (h refl)

-- On bytes: a readable record and a path that finds nothing in it are an absence, whatever the buffer.
pub get_absent : (target path : Bytes) (room : ℕ) (t : Tree) (p : List Step) → read target ≡ gives t → path_of path ≡ gives p
    → look_up p t ≡ None → on_path get_by target path room ≡ absence
unfolding on_path ◌>>=◌
get_absent target path room t p ht hp e = rw (ht, hp, e)
