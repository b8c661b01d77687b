-- What delete means in an object that may have a name more than once, said of the members before and behind the first that has it.
-- That member goes; the name then finds the next that had it; of every other name the first member stays, and the later ones go.
-- Where no name is there twice, `deleted_name` and `deleted_member` of Meanings say more. Of an object above the item that goes,
-- `deleted_within`, `deleted_other_name` and `deleted_in_order` there hold with repeated names too.
use mathlib.Core.Path.{◌≡◌, refl, ap, subst, sym, ◌∙◌}
use mathlib.Core.Logic.{inl, inr, ⊎_elim}
use mathlib.Core.List.{List, [], ◌∷◌, ◌++◌}
use Rattle.layout.specs.Bytes.{Bytes}
use Rattle.layout.specs.Tree.{Tree, object, Members, empty, member, names}
use Rattle.layout.specs.Sound.{Rising}
use Rattle.layout.proofs.Values.{In}
use Rattle.builders.specs.Order.{in_order, follow, find}
use Rattle.builders.proofs.InOrders.{in_order_rising, or_else, find_in_order}
use Rattle.edits.specs.Keypath.{Step}
use Rattle.edits.specs.Find.{◌then◌, step_name, look_up}
use Rattle.edits.specs.Delete.{change_member, delete}
use Rattle.edits.proofs.Deletes.{some_inj, nothing_some, by_equal, find_first, find_later, not_in, find_other}
use Rattle.edits.proofs.Meanings.{deleted_found, deleted_within, look_up_behind}
use Rattle.edits.proofs.Concats.{find_follow}
use Rattle.std.specs.Prelude.{Some, None, Option}

-- The members before the first that has a name, and those behind it.
pub record First (n : Bytes) (v : Tree) (ms : Members) : Type 0 where
  pub front : Members
  pub back : Members
  pub whole : ms ≡ follow front (member n v back)
  pub new : In n (names front) → ⊥

-- Each name that finds something has such a member, and its value is what the name finds.
pub first_of : (n : Bytes) (v : Tree) (ms : Members) → find n ms ≡ Some v → First n v ms
first_of n v empty e = nothing_some e
first_of n v (member m t ms) e =
    by_equal {A = Unit {0}} n m (λ _. First n v (member m t ms)) tt tt
    (λ h.
    let f = first_of n v ms (sym (find_later n m t ms h) ∙ e) in
    record {
      front = member m t f.front;
      back = f.back;
      whole = ap (member m t) f.whole;
      new = λ i. ⊎_elim (λ q. h q) (λ j. f.new j) i;
    })
    (λ (q : n ≡ m).
    let w : t ≡ v = some_inj (sym (find_first m t ms) ∙ subst (λ (k : Bytes). find k (member m t ms) ≡ Some v) q e) in
    record { front = empty; back = ms; whole = rw (w, q); new = λ i. i })

find_behind : (n : Bytes) (front back : Members) → (In n (names front) → ⊥) → find n (follow front back) ≡ find n back
find_behind n front back h = find_follow n front back ∙ ap (λ (o : Option Tree). or_else o (find n back)) (not_in n front h)

change_behind : (o : Option Tree) (n : Bytes) (front back : Members) → (In n (names front) → ⊥)
    → change_member o n (follow front back) ≡ follow front (change_member o n back)
change_behind o n empty back h = refl
change_behind o n (member m t front) back h =
    by_equal n m (λ (a : Members). a ≡ member m t (follow front (change_member o n back))) _ _
    (λ _. ap (member m t) (change_behind o n front back (λ i. h (inr i))))
    (λ q. absurd (h (inl q)))

change_first : (n : Bytes) (v : Tree) (ms : Members) → change_member None n (member n v ms) ≡ ms
change_first n v ms =
    by_equal n n (λ (a : Members). a ≡ ms) _ _ (λ h. absurd (h refl)) (λ _. refl)

module _ (r : List Step) (t : Tree) (ms : Members) (e : look_up r t ≡ Some (object ms)) (s : Step) (v : Tree) (f : First (step_name s) v ms) where
  -- The members but that one, in byte order, of equal names the first.
  abbrev pub others : Members
  others = in_order (follow f.front f.back)

  found : find (step_name s) ms ≡ Some v
  found =
      ap (find (step_name s)) f.whole
      ∙ find_behind (step_name s) f.front (member (step_name s) v f.back) f.new
      ∙ find_first (step_name s) v f.back

  changed : change_member None (step_name s) ms ≡ follow f.front f.back
  changed =
      ap (change_member None (step_name s)) f.whole
      ∙ change_behind None (step_name s) f.front (member (step_name s) v f.back) f.new
      ∙ ap (follow f.front) (change_first (step_name s) v f.back)

  -- They are what stands there afterwards.
  pub deleted_first : look_up r (delete (r ++ (s ∷ [])) t) ≡ Some (object others)
  deleted_first =
      deleted_within r s [] t (object ms) e
      ∙ ap Some (deleted_found s [] (object ms) v v found refl ∙ ap (λ (a : Members). object (in_order a)) changed)

  -- The name finds the next member that had it, and all that is within it.
  pub deleted_next : (q : List Step) → look_up (r ++ (s ∷ q)) (delete (r ++ (s ∷ [])) t) ≡ (find (step_name s) f.back then look_up q)
  deleted_next q =
      look_up_behind r (s ∷ q) (delete (r ++ (s ∷ [])) t) (object others) deleted_first
      ∙ ap (λ (o : Option Tree). o then look_up q)
      (find_in_order (step_name s) (follow f.front f.back) ∙ find_behind (step_name s) f.front f.back f.new)

  -- Every other name finds what it found, its first member, and every name stands there once: the later ones are gone.
  pub deleted_others : (x : Bytes) → (x ≡ step_name s → ⊥) → find x others ≡ find x ms
  deleted_others x h =
      find_in_order x (follow f.front f.back)
      ∙ ap (find x) (sym changed)
      ∙ find_other None (step_name s) x ms h

  pub deleted_once : Rising (names others)
  deleted_once = in_order_rising (follow f.front f.back)
