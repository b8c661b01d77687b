-- What delete means, said by what each path finds before and after it.
use Prim.Native.Nat.{ℕ, suc, ◌+◌, ◌-◌, ◌<◌, ◌≤◌}
use native.Mathlib.Omega.{arith}
use mathlib.Core.Path.{◌≡◌, refl, ap, sym, ◌∙◌}
use mathlib.Core.Logic.{⊎_elim}
use mathlib.Core.Bool.{true}
use mathlib.Core.List.{List, [], ◌∷◌, ◌++◌}
use lib.IntN.{pos, negsuc}
use Rattle.layout.specs.Bytes.{Bytes}
use Rattle.layout.specs.Tree.{Tree, null, boolean, number, string, extension, array, object, Items, item, Members, names}
use Rattle.layout.specs.Sound.{Rising}
use Rattle.layout.specs.Value.{Taken, SameMembers}
use Rattle.builders.specs.Order.{in_order, find, distinct}
use Rattle.builders.specs.Build.{count, join}
use Rattle.builders.proofs.InOrders.{in_order_rising, in_order_same, find_in_order}
use Rattle.edits.specs.Keypath.{Step, index, name}
use Rattle.edits.specs.Find.{◌then◌, step_place, step_name, item_at, step_into, look_up}
use Rattle.edits.specs.Delete.{change_item, change_at, change_member, anew, remains, or_same, delete}
use Rattle.edits.proofs.Deletes.{some_inj, nothing_some, then_some, found_or_not, find_other, find_changed, find_gone}
use Rattle.edits.proofs.Deletes.{change_distinct, change_taken, change_split, step_below, count_changed, count_gone}
use Rattle.edits.proofs.Deletes.{item_there, item_changed, item_other, item_before, item_behind}
use Rattle.edits.proofs.Findings.{back_finds, found_item}
use Rattle.std.specs.Prelude.{Some, None, Option}

-- ---- paths in two parts

look_up_append : (r p : List Step) (t : Tree) → look_up (r ++ p) t ≡ (look_up r t then look_up p)
look_up_append [] p t = refl
look_up_append (s ∷ r) p t = inward (step_into s t) (λ c. look_up_append r p c)
  where
    inward : (o : Option Tree) → ((c : Tree) → look_up (r ++ p) c ≡ (look_up r c then look_up p))
        → (o then look_up (r ++ p)) ≡ ((o then look_up r) then look_up p)
    inward None h = refl
    inward (Some c) h = h c

pub look_up_behind : (r p : List Step) (t u : Tree) → look_up r t ≡ Some u → look_up (r ++ p) t ≡ look_up p u
look_up_behind r p t u e = look_up_append r p t ∙ ap (λ (o : Option Tree). o then look_up p) e

-- ---- what is found, and what is not

-- An empty path, and one that finds nothing.
pub deleted_whole : (t : Tree) → delete [] t ≡ t
deleted_whole t = refl

pub deleted_missing : (p : List Step) (t : Tree) → look_up p t ≡ None → delete p t ≡ t
deleted_missing p t e = ap (λ (o : Option Tree). or_same t (o then λ _. remains p t)) e

-- Any other path: the container is written anew.
pub deleted_found : (s : Step) (p : List Step) (t c v : Tree) → step_into s t ≡ Some c → look_up p c ≡ Some v
    → delete (s ∷ p) t ≡ anew (remains p c) s t
deleted_found s p t c v h e =
    ap (λ (o : Option Tree). or_same t ((o then look_up p) then λ _. Some (anew (o then remains p) s t))) h
    ∙ ap (λ (o : Option Tree). or_same t (o then λ _. Some (anew (remains p c) s t))) e

-- What is left of a container is the container without what the path finds.
remains_deleted : (r : List Step) (s : Step) (p : List Step) (t v : Tree) → look_up (r ++ (s ∷ p)) t ≡ Some v
    → remains (r ++ (s ∷ p)) t ≡ Some (delete (r ++ (s ∷ p)) t)
remains_deleted [] s p t v e = sym (ap (λ (o : Option Tree). Some (or_same t (o then λ _. remains (s ∷ p) t))) e)
remains_deleted (q ∷ r) s p t v e = sym (ap (λ (o : Option Tree). Some (or_same t (o then λ _. remains (q ∷ (r ++ (s ∷ p))) t))) e)

-- A container with another item in the place of one that a step finds: the step finds that item.
array_anew : (s : Step) (ts : Items) (i : ℕ) (u : Tree) → step_place s (count ts) ≡ Some i
    → step_into s (anew (Some u) s (array ts)) ≡ Some u
array_anew s ts i u h = rw (h, count_changed u i ts, h) (item_changed u i ts (step_below s (count ts) i h))

into_anew : (s : Step) (t c u : Tree) → step_into s t ≡ Some c → step_into s (anew (Some u) s t) ≡ Some u
into_anew s null c u e = nothing_some e
into_anew s (boolean x) c u e = nothing_some e
into_anew s (number b) c u e = nothing_some e
into_anew s (string b) c u e = nothing_some e
into_anew s (extension b) c u e = nothing_some e
into_anew s (array ts) c u e =
    let f = then_some (step_place s (count ts)) (item_at ts) c e in
    array_anew s ts f.0 u f.1
into_anew s (object ms) c u e = find_in_order (step_name s) (change_member (Some u) (step_name s) ms) ∙ find_changed (step_name s) u ms c e

within_found : (r : List Step) (s : Step) (p : List Step) (t u v : Tree) → look_up r t ≡ Some u → look_up (s ∷ p) u ≡ Some v
    → look_up r (delete (r ++ (s ∷ p)) t) ≡ Some (delete (s ∷ p) u)
within_found [] s p t u v e h = ap (λ (x : Tree). Some (delete (s ∷ p) x)) (some_inj e)
within_found (q ∷ r) s p t u v e h =
    let f = then_some (step_into q t) (look_up r) u e in
    let found : look_up (r ++ (s ∷ p)) f.0 ≡ Some v = look_up_behind r (s ∷ p) f.0 u f.2 ∙ h in
    let is : delete (q ∷ (r ++ (s ∷ p))) t ≡ anew (Some (delete (r ++ (s ∷ p)) f.0)) q t =
    deleted_found q (r ++ (s ∷ p)) t f.0 v f.1 found ∙ ap (λ (o : Option Tree). anew o q t) (remains_deleted r s p f.0 v found) in
    ap (look_up (q ∷ r)) is
    ∙ ap (λ (o : Option Tree). o then look_up r) (into_anew q t f.0 (delete (r ++ (s ∷ p)) f.0) f.1)
    ∙ within_found r s p f.0 u v f.2 h

-- A path that leads to a container still leads to it, without what the rest of the path finds there.
pub deleted_within : (r : List Step) (s : Step) (p : List Step) (t u : Tree) → look_up r t ≡ Some u
    → look_up r (delete (r ++ (s ∷ p)) t) ≡ Some (delete (s ∷ p) u)
deleted_within r s p t u e =
    ⊎_elim
    (λ h.
    ap (look_up r) (deleted_missing (r ++ (s ∷ p)) t (look_up_behind r (s ∷ p) t u e ∙ h))
    ∙ e ∙ ap Some (sym (deleted_missing (s ∷ p) u h)))
    (λ f. within_found r s p t u f.0 e f.1)
    (found_or_not (look_up (s ∷ p) u))

-- So it is enough to know what paths find in that container.
module _ (r : List Step) (t u : Tree) (e : look_up r t ≡ Some u) (s : Step) (p : List Step) where
  found_within : (q : List Step) → look_up (r ++ q) (delete (r ++ (s ∷ p)) t) ≡ look_up q (delete (s ∷ p) u)
  found_within q = look_up_behind r q (delete (r ++ (s ∷ p)) t) (delete (s ∷ p) u) (deleted_within r s p t u e)

  as_before : (q w : List Step) → look_up q (delete (s ∷ p) u) ≡ look_up w u
      → look_up (r ++ q) (delete (r ++ (s ∷ p)) t) ≡ look_up (r ++ w) t
  as_before q w h = found_within q ∙ h ∙ sym (look_up_behind r w t u e)

-- ---- objects

module _ (ms : Members) (s : Step) where
  -- The name of a member that went finds nothing more, where no name was there twice.
  name_gone : distinct (names ms) ≡ true → look_up (s ∷ []) (delete (s ∷ []) (object ms)) ≡ None
  name_gone h =
      ⊎_elim
      (λ e. ap (look_up (s ∷ [])) (deleted_missing (s ∷ []) (object ms) (missing e)) ∙ missing e)
      (λ f.
      ap (look_up (s ∷ [])) (deleted_found s [] (object ms) f.0 f.0 f.1 refl)
      ∙ missing_anew (change_member None (step_name s) ms) (find_gone (step_name s) ms h))
      (found_or_not (find (step_name s) ms))
    where
      missing : find (step_name s) ms ≡ None → look_up (s ∷ []) (object ms) ≡ None
      missing e = ap (λ (o : Option Tree). o then look_up []) e

      missing_anew : (ns : Members) → find (step_name s) ns ≡ None → look_up (s ∷ []) (object (in_order ns)) ≡ None
      missing_anew ns e = ap (λ (o : Option Tree). o then look_up []) (find_in_order (step_name s) ns ∙ e)

  -- Another name finds what it found.
  name_other : (p : List Step) (s' : Step) (q : List Step) → (step_name s' ≡ step_name s → ⊥)
      → look_up (s' ∷ q) (delete (s ∷ p) (object ms)) ≡ look_up (s' ∷ q) (object ms)
  name_other p s' q h =
      ⊎_elim
      (λ e. ap (look_up (s' ∷ q)) (deleted_missing (s ∷ p) (object ms) e))
      (λ f.
      let g = then_some (find (step_name s) ms) (look_up p) f.0 f.1 in
      ap (look_up (s' ∷ q)) (deleted_found s p (object ms) g.0 f.0 g.1 g.2)
      ∙ ap (λ (o : Option Tree). o then look_up q)
      (find_in_order (step_name s') (change_member (remains p g.0) (step_name s) ms) ∙ find_other (remains p g.0) (step_name s) (step_name s') ms h))
      (found_or_not (look_up (s ∷ p) (object ms)))

module _ (r : List Step) (t : Tree) (ms : Members) (e : look_up r t ≡ Some (object ms)) (s : Step) where
  -- What was deleted from an object in which no name was there twice is found no more.
  pub deleted_name : distinct (names ms) ≡ true → look_up (r ++ (s ∷ [])) (delete (r ++ (s ∷ [])) t) ≡ None
  deleted_name d = found_within r t (object ms) e s [] (s ∷ []) ∙ name_gone ms s d

  -- The object then has every member but that one, in byte order of the names.
  pub deleted_member : distinct (names ms) ≡ true → (v : Tree) → find (step_name s) ms ≡ Some v
      → (rest : Members) × Taken (step_name s) v ms rest × SameMembers rest (in_order rest)
      × (look_up r (delete (r ++ (s ∷ [])) t) ≡ Some (object (in_order rest)))
  deleted_member d v f =
      let rest = change_member None (step_name s) ms in (
        rest,
        change_taken (step_name s) v ms f,
        in_order_same rest (change_distinct None (step_name s) ms d),
        deleted_within r s [] t (object ms) e ∙ ap Some (deleted_found s [] (object ms) v v f refl),
      )

  -- What has another name there is found as it was, and all that is within it.
  pub deleted_other_name : (p : List Step) (s' : Step) (q : List Step) → (step_name s' ≡ step_name s → ⊥)
      → look_up (r ++ (s' ∷ q)) (delete (r ++ (s ∷ p)) t) ≡ look_up (r ++ (s' ∷ q)) t
  deleted_other_name p s' q h = as_before r t (object ms) e s p (s' ∷ q) (s' ∷ q) (name_other ms s p s' q h)

  -- The object is written anew in byte order of its names.
  pub deleted_in_order : (p : List Step) (v : Tree) → look_up (s ∷ p) (object ms) ≡ Some v
      → (ns : Members) × (look_up r (delete (r ++ (s ∷ p)) t) ≡ Some (object ns)) × Rising (names ns)
  deleted_in_order p v h =
      let g = then_some (find (step_name s) ms) (look_up p) v h in
      let ns = change_member (remains p g.0) (step_name s) ms in (
        in_order ns,
        deleted_within r s p t (object ms) e
            ∙ ap Some (deleted_found s p (object ms) g.0 v g.1 g.2),
        in_order_rising ns,
      )

-- ---- arrays

module _ (ts : Items) (s : Step) where
  array_found : (p : List Step) (i : ℕ) (v : Tree) → step_place s (count ts) ≡ Some i → look_up (s ∷ p) (array ts) ≡ Some v
      → (c : Tree) × (item_at ts i ≡ Some c) × (delete (s ∷ p) (array ts) ≡ array (change_item (remains p c) i ts))
  array_found p i v h e =
      let g = then_some (step_into s (array ts)) (look_up p) v e in (
        g.0,
        ap (λ (o : Option ℕ). o then item_at ts) (sym h) ∙ g.1,
        deleted_found s p (array ts) g.0 v g.1 g.2
            ∙ ap (λ (o : Option ℕ). array (change_at (remains p g.0) o ts)) h,
      )

  item_gone : (i : ℕ) → step_place s (count ts) ≡ Some i → delete (s ∷ []) (array ts) ≡ array (change_item None i ts)
  item_gone i h =
      let c = item_there ts i (step_below s (count ts) i h) in
      let found : step_into s (array ts) ≡ Some c.0 = ap (λ (o : Option ℕ). o then item_at ts) h ∙ c.1 in
      (array_found [] i c.0 h (ap (λ (o : Option Tree). o then look_up []) found)).2

  -- Where something goes from within an item, a step that means another place finds what it found.
  item_elsewhere : (n : Step) (p : List Step) (s' : Step) (q : List Step) → (step_place s' (count ts) ≡ step_place s (count ts) → ⊥)
      → look_up (s' ∷ q) (delete (s ∷ n ∷ p) (array ts)) ≡ look_up (s' ∷ q) (array ts)
  item_elsewhere n p s' q h =
      ⊎_elim
      (λ e. ap (look_up (s' ∷ q)) (deleted_missing (s ∷ n ∷ p) (array ts) e))
      (λ f.
      let g = then_some (step_into s (array ts)) (look_up (n ∷ p)) f.0 f.1 in
      let k = then_some (step_place s (count ts)) (item_at ts) g.0 g.1 in
      let a = array_found (n ∷ p) k.0 f.0 k.1 f.1 in
      ap (look_up (s' ∷ q)) a.2
      ∙ ap (λ (o : Option Tree). o then look_up q)
      (elsewhere (anew (step_into n a.0 then remains p) n a.0) k.0 (λ w. h (w ∙ sym k.1))))
      (found_or_not (look_up (s ∷ n ∷ p) (array ts)))
    where
      other : (u : Tree) (i : ℕ) (o : Option ℕ) → (o ≡ Some i → ⊥) → (o then item_at (change_item (Some u) i ts)) ≡ (o then item_at ts)
      other u i None w = refl
      other u i (Some j) w = item_other u i j ts (λ x. w (ap Some x))

      elsewhere : (u : Tree) (i : ℕ) → (step_place s' (count ts) ≡ Some i → ⊥)
          → step_into s' (array (change_item (Some u) i ts)) ≡ step_into s' (array ts)
      elsewhere u i w =
          ap (λ (k : ℕ). step_place s' k then item_at (change_item (Some u) i ts)) (count_changed u i ts)
          ∙ other u i (step_place s' (count ts)) w

module _ (r : List Step) (t : Tree) (ts : Items) (e : look_up r t ≡ Some (array ts)) (s : Step) where
  -- Where something goes from within an item, the other items are found as they were, and all that is within them.
  pub deleted_other_item : (n : Step) (p : List Step) (s' : Step) (q : List Step)
      → (step_place s' (count ts) ≡ step_place s (count ts) → ⊥)
      → look_up (r ++ (s' ∷ q)) (delete (r ++ (s ∷ n ∷ p)) t) ≡ look_up (r ++ (s' ∷ q)) t
  deleted_other_item n p s' q h = as_before r t (array ts) e s (n ∷ p) (s' ∷ q) (s' ∷ q) (item_elsewhere ts s n p s' q h)

  module _ (i : ℕ) (h : step_place s (count ts) ≡ Some i) where
    -- Where an item goes itself, those before it stay in their places, and those behind it move up by one.
    pub deleted_item_before : (j : ℕ) (q : List Step) → j < i
        → look_up (r ++ (index (pos j) ∷ q)) (delete (r ++ (s ∷ [])) t) ≡ look_up (r ++ (index (pos j) ∷ q)) t
    deleted_item_before j q l =
        as_before r t (array ts) e s [] (index (pos j) ∷ q) (index (pos j) ∷ q)
        (ap (look_up (index (pos j) ∷ q)) (item_gone ts s i h)
        ∙ found_item q j (change_item None i ts)
        ∙ ap (λ (o : Option Tree). o then look_up q) (item_before None i j ts l)
        ∙ sym (found_item q j ts))

    pub deleted_item_behind : (j : ℕ) (q : List Step) → i ≤ j
        → look_up (r ++ (index (pos j) ∷ q)) (delete (r ++ (s ∷ [])) t) ≡ look_up (r ++ (index (pos (suc j)) ∷ q)) t
    deleted_item_behind j q l =
        as_before r t (array ts) e s [] (index (pos j) ∷ q) (index (pos (suc j)) ∷ q)
        (ap (look_up (index (pos j) ∷ q)) (item_gone ts s i h)
        ∙ found_item q j (change_item None i ts)
        ∙ ap (λ (o : Option Tree). o then look_up q) (item_behind i j ts l)
        ∙ sym (found_item q (suc j) ts))

    -- Counted from the end, those behind it keep their places.
    pub deleted_item_from_end : (k : ℕ) (q : List Step) → i + suc k < count ts
        → look_up (r ++ (index (negsuc k) ∷ q)) (delete (r ++ (s ∷ [])) t) ≡ look_up (r ++ (index (negsuc k) ∷ q)) t
    deleted_item_from_end k q l =
        let c = count_gone i ts (step_below s (count ts) i h) in
        let n : suc (count (change_item None i ts) - suc k) ≡ count ts - suc k = omega (arith, c, l) in
        as_before r t (array ts) e s [] (index (negsuc k) ∷ q) (index (negsuc k) ∷ q)
        (ap (look_up (index (negsuc k) ∷ q)) (item_gone ts s i h)
        ∙ ap (λ (o : Option Tree). o then look_up q)
        (back_finds k (change_item None i ts) (omega (arith, c, l))
        ∙ item_behind i (count (change_item None i ts) - suc k) ts (omega (arith, c, l))
        ∙ ap (item_at ts) n
        ∙ sym (back_finds k ts (omega (arith, l)))))

    -- A name on it finds nothing, as before.
    pub deleted_item_name : (n : Bytes) (q : List Step)
        → look_up (r ++ (name n ∷ q)) (delete (r ++ (s ∷ [])) t) ≡ look_up (r ++ (name n ∷ q)) t
    deleted_item_name n q = as_before r t (array ts) e s [] (name n ∷ q) (name n ∷ q) (ap (look_up (name n ∷ q)) (item_gone ts s i h))

    -- The array then has every item but that one, in their order.
    pub deleted_item : (front back : Items) × (v : Tree) × (ts ≡ join front (item v back)) × (count front ≡ i)
        × (look_up r (delete (r ++ (s ∷ [])) t) ≡ Some (array (join front back)))
    deleted_item =
        let c = item_there ts i (step_below s (count ts) i h) in
        let k = change_split i ts c.0 c.1 in (
          k.0,
          k.1,
          c.0,
          k.2,
          k.3,
          deleted_within r s [] t (array ts) e ∙ ap Some (item_gone ts s i h ∙ ap array k.4),
        )

    pub deleted_count : (us : Items) × (look_up r (delete (r ++ (s ∷ [])) t) ≡ Some (array us)) × (suc (count us) ≡ count ts)
    deleted_count = (
      change_item None i ts,
      deleted_within r s [] t (array ts) e ∙ ap Some (item_gone ts s i h),
      count_gone i ts (step_below s (count ts) i h),
    )
