-- Look-up on values: what a path finds in a value, and what look_up finds in a tree of equal value, are equal values.
use Prim.Native.Nat.{ℕ, zero, suc, ◌-◌, ◌<◌, ◌≤◌}
use native.Mathlib.Omega.{arith}
use mathlib.Core.Path.{◌≡◌, refl, ap, sym, ◌∙◌, subst₂}
use mathlib.Core.Bool.{Bool, true, false, not, cond}
use mathlib.Core.List.{List, [], ◌∷◌}
use lib.Dec.{T, ltb, ltb→lt, nltb→le}
use lib.IntN.{pos, negsuc}
use Rattle.layout.specs.Bytes.{Bytes}
use Rattle.layout.specs.Tree.{Tree, null, boolean, number, string, extension, array, object, Items, none, item, Members, empty, member}
use Rattle.layout.specs.Value.{Same, SameItems}
use Rattle.builders.specs.Build.{count}
use Rattle.builders.proofs.Proper.{Proper, ProperItems, ProperMembers}
use Rattle.edits.specs.Keypath.{Step, name, index}
use Rattle.edits.specs.Find.{◌then◌, place, step_place, step_name, item_at, step_into, look_up}
use Rattle.edits.proofs.Deletes.{nothing_some, item_past}
use Rattle.runs.specs.Plain.{member_name, named, from_zero, item_number, how_many, numbered, taken, inward, plain_look_up}
use Rattle.runs.proofs.Named.{by_name, named_find}
use Rattle.runs.proofs.Alikes.{SameFound, finds_same}
use Rattle.std.specs.Prelude.{Some, None, Option}

-- ---- steps: what a step takes is what it steps into

same_count : (ts : Items) → count ts ≡ how_many ts
same_count none = refl
same_count (item t ts) = ap suc (same_count ts)

same_item : (ts : Items) (i : ℕ) → item_at ts i ≡ numbered (Some i) ts
same_item none i = refl
same_item (item t ts) zero = refl
same_item (item t ts) (suc i) = same_item ts i

item_found : (o : Option ℕ) (ts : Items) → (o then item_at ts) ≡ numbered o ts
item_found None ts = refl
item_found (Some i) ts = same_item ts i

-- An index counted back from the end.
back_number : (k n : ℕ) → item_number (index (negsuc k)) n ≡ place (negsuc k) n
unfolding place
back_number k n = go (ltb n (suc k)) (ltb k n) (ltb→lt n (suc k)) (nltb→le n (suc k)) (ltb→lt k n) (nltb→le k n)
  where
    go : (a b : Bool) → (T a → n < suc k) → (T (not a) → suc k ≤ n) → (T b → k < n) → (T (not b) → n ≤ k)
        → from_zero (cond a (negsuc (suc k - suc n)) (pos (n - suc k))) ≡ cond b (Some (n - suc k)) None
    go true true f g h j = let w : ⊥ = omega (arith, f tt, h tt) in absurd w
    go true false f g h j = refl
    go false true f g h j = refl
    go false false f g h j = let w : ⊥ = omega (arith, g tt, j tt) in absurd w

-- The place that a step means is the account's number.
pub place_number : (s : Step) (n i : ℕ) → step_place s n ≡ Some i → item_number s n ≡ Some i
unfolding place
place_number (name b) n i e = e
place_number (index (pos k)) n i e = go (ltb k n) e
  where
    go : (a : Bool) → cond a (Some k) None ≡ Some i → Some k ≡ Some i
    go true e = e
    go false e = nothing_some e
place_number (index (negsuc k)) n i e = back_number k n ∙ e

array_plain : (s : Step) (ts : Items) → (step_place s (count ts) then item_at ts) ≡ numbered (item_number s (how_many ts)) ts
unfolding place
array_plain (name b) ts = refl
array_plain (index (pos k)) ts = go (ltb k (count ts)) (nltb→le k (count ts))
  where
    go : (a : Bool) → (T (not a) → count ts ≤ k) → (cond a (Some k) None then item_at ts) ≡ numbered (Some k) ts
    go true f = same_item ts k
    go false f = sym (item_past ts k (f tt)) ∙ same_item ts k
array_plain (index (negsuc k)) ts =
    ap (λ (n : ℕ). place (negsuc k) n then item_at ts) (same_count ts)
    ∙ ap (λ (o : Option ℕ). o then item_at ts) (sym (back_number k (how_many ts)))
    ∙ item_found (item_number (index (negsuc k)) (how_many ts)) ts

pub same_name : (s : Step) → step_name s ≡ member_name s
same_name (name b) = refl
same_name (index z) = refl

pub step_plain : (s : Step) (t : Tree) → step_into s t ≡ taken s t
step_plain s null = refl
step_plain s (boolean x) = refl
step_plain s (number b) = refl
step_plain s (string b) = refl
step_plain s (extension b) = refl
step_plain s (array ts) = array_plain s ts
step_plain s (object ms) = sym (named_find (step_name s) ms) ∙ ap (λ (n : Bytes). named n ms) (same_name s)

-- ---- what is found is proper

abbrev pub ProperFound : Option Tree → Type 0
ProperFound None = Unit {0}
ProperFound (Some t) = Proper t

named_proper : (n : Bytes) (ms : Members) → ProperMembers ms → ProperFound (named n ms)
named_proper n empty p = tt
named_proper n (member m t ms) p = by_name n m ProperFound _ _ (λ _. p.1) (λ _. named_proper n ms p.2)

numbered_proper : (o : Option ℕ) (ts : Items) → ProperItems ts → ProperFound (numbered o ts)
numbered_proper None ts p = tt
numbered_proper (Some i) none p = tt
numbered_proper (Some zero) (item t ts) p = p.0
numbered_proper (Some (suc i)) (item t ts) p = numbered_proper (Some i) ts p.1

pub taken_proper : (s : Step) (t : Tree) → Proper t → ProperFound (taken s t)
taken_proper s null p = tt
taken_proper s (boolean x) p = tt
taken_proper s (number b) p = tt
taken_proper s (string b) p = tt
taken_proper s (extension b) p = tt
taken_proper s (array ts) p = numbered_proper (item_number s (how_many ts)) ts p
taken_proper s (object ms) p = named_proper (member_name s) ms p.1

pub look_up_proper : (p : List Step) (t : Tree) → Proper t → ProperFound (plain_look_up p t)
look_up_proper [] t h = h
look_up_proper (s ∷ p) t h = go (taken s t) (taken_proper s t h) (look_up_proper p)
  where
    go : (o : Option Tree) → ProperFound o → ((c : Tree) → Proper c → ProperFound (plain_look_up p c)) → ProperFound (inward o (plain_look_up p))
    go None k h = tt
    go (Some c) k h = h c k

-- ---- equal values

how_many_same : (ts us : Items) → SameItems ts us → how_many us ≡ how_many ts
how_many_same none us h = rw h refl
how_many_same (item t ts) us h = rw h.2 (ap suc (how_many_same ts h.1 h.4))

pub count_same : (ts us : Items) → SameItems ts us → count us ≡ how_many ts
count_same ts us h = same_count us ∙ how_many_same ts us h

numbered_same : (o : Option ℕ) (ts us : Items) → SameItems ts us → SameFound (numbered o ts) (numbered o us)
numbered_same None ts us h = tt
numbered_same (Some i) none us h = rw h tt
numbered_same (Some zero) (item t ts) us h = rw h.2 h.3
numbered_same (Some (suc i)) (item t ts) us h = rw h.2 (numbered_same (Some i) ts h.1 h.4)

taken_same : (s : Step) (t u : Tree) → Same t u → Proper t → SameFound (taken s t) (taken s u)
taken_same s null u h p = rw h tt
taken_same s (boolean x) u h p = rw h tt
taken_same s (number b) u h p = rw h tt
taken_same s (string b) u h p = rw h tt
taken_same s (extension b) u h p = rw h tt
taken_same s (array ts) u h p = rw (h.1, how_many_same ts h.0 h.2) (numbered_same (item_number s (how_many ts)) ts h.0 h.2)
taken_same s (object ms) u h p =
    let n = member_name s in
    rw h.1 (subst₂ SameFound (sym (named_find n ms)) (sym (named_find n h.0)) (finds_same ms h.0 h.2 p.0 n))

pub step_same : (s : Step) (t u : Tree) → Same t u → Proper t → SameFound (taken s t) (step_into s u)
step_same s t u h p = rw (step_plain s u) (taken_same s t u h p)

pub look_up_same : (p : List Step) (t u : Tree) → Same t u → Proper t → SameFound (plain_look_up p t) (look_up p u)
look_up_same [] t u h k = h
look_up_same (s ∷ p) t u h k = go (taken s t) (step_into s u) (step_same s t u h k) (taken_proper s t k) (look_up_same p)
  where
    go : (o o' : Option Tree) → SameFound o o' → ProperFound o → ((c c' : Tree) → Same c c' → Proper c → SameFound (plain_look_up p c) (look_up p c'))
        → SameFound (inward o (plain_look_up p)) (o' then look_up p)
    go None None e q f = tt
    go None (Some c') e q f = absurd e
    go (Some c) None e q f = absurd e
    go (Some c) (Some c') e q f = f c c' e q
