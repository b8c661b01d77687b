-- Equal values of members, by what each name finds: where no name stands twice on either side, members have equal values exactly where
-- each name finds equal values.
use mathlib.Core.Path.{◌≡◌, refl, ap, sym, subst, ◌∙◌, subst₂}
use mathlib.Core.Logic.{⊎_elim}
use mathlib.Core.Bool.{true}
use Rattle.layout.specs.Bytes.{Bytes}
use Rattle.layout.specs.Answer.{Answer, gives, refused}
use Rattle.layout.specs.Tree.{Tree, object, Members, empty, member, names}
use Rattle.layout.specs.Order.{order}
use Rattle.layout.specs.Value.{Taken, Same, SameMembers}
use Rattle.layout.proofs.Values.{taken_in}
use Rattle.layout.proofs.Sames.{same_members_sym}
use Rattle.builders.specs.Order.{by, in_order, find, distinct}
use Rattle.builders.proofs.InOrders.{in_order_rising, rising_distinct, find_in_order, has_not, distinct_cons}
use Rattle.builders.proofs.Proper.{same_distinct}
use Rattle.edits.specs.Delete.{change_member}
use Rattle.edits.proofs.Deletes.{equal_or_not, find_first, find_later, not_in, find_other, find_gone, change_distinct, change_taken}
use Rattle.runs.proofs.SameNames.{find_same}
use Rattle.std.specs.Prelude.{Some, None, Option}

-- Equal values found, or nothing on both sides.
abbrev pub SameFound : Option Tree → Option Tree → Type 0
SameFound None None = Unit {0}
SameFound None (Some w) = ⊥
SameFound (Some v) None = ⊥
SameFound (Some v) (Some w) = Same v w

pub same_some : (v : Tree) (o : Option Tree) → SameFound (Some v) o → (w : Tree) × (o ≡ Some w) × Same v w
same_some v None h = absurd h
same_some v (Some w) h = (w, refl, h)

pub some_same : (o : Option Tree) (w : Tree) → SameFound o (Some w) → (v : Tree) × (o ≡ Some v) × Same v w
some_same None w h = absurd h
some_same (Some v) w h = (v, refl, h)

pub none_same : (o : Option Tree) → SameFound o None → o ≡ None
none_same None h = refl
none_same (Some v) h = absurd h

-- Equal values given, or the same number.
abbrev pub SameAnswer : Answer Tree → Answer Tree → Type 0
SameAnswer (gives v) (gives w) = Same v w
SameAnswer (gives v) (refused r) = ⊥
SameAnswer (refused q) (gives w) = ⊥
SameAnswer (refused q) (refused r) = q ≡ r

-- ---- what each name finds in equal values

taken_find : (n : Bytes) (u : Tree) (ns r : Members) → Taken n u ns r → distinct (names ns) ≡ true → find n ns ≡ Some u
taken_find n u empty r k d = absurd k
taken_find n u (member m v ns) r k d =
    let c = distinct_cons m (names ns) d in
    ⊎_elim
    (λ e. find_same n m v ns e.0 ∙ ap Some (sym e.1))
    (λ e.
    find_later n m v ns (λ (q : n ≡ m). has_not m (names ns) c.0 (rw q at (taken_in n u ns e.0 e.2)))
    ∙ taken_find n u ns e.0 e.2 c.1)
    k

taken_other : (n : Bytes) (u : Tree) (ns r : Members) → Taken n u ns r → (x : Bytes) → (x ≡ n → ⊥) → find x ns ≡ find x r
taken_other n u empty r k x h = absurd k
taken_other n u (member m v ns) r k x h =
    ⊎_elim
    (λ e. find_later x m v ns (λ q. h (q ∙ sym e.0)) ∙ ap (find x) (sym e.2))
    (λ e. ap (λ (a : Option Tree). by (order x m) a (Some v) a) (taken_other n u ns e.0 e.2 x h) ∙ ap (find x) (sym e.1))
    k

pub finds_same : (ms ns : Members) → SameMembers ms ns → distinct (names ms) ≡ true → (x : Bytes) → SameFound (find x ms) (find x ns)
finds_same empty ns h d x = rw h tt
finds_same (member n t ms) ns h d x =
    let e = same_distinct ns (member n t ms) (same_members_sym (member n t ms) ns h) d in
    ⊎_elim
    (λ (q : x ≡ n).
    subst (λ (y : Bytes). SameFound (find y (member n t ms)) (find y ns)) (sym q)
    (rw (find_first n t ms, taken_find n h.0 ns h.1 h.2 e) h.3))
    (λ k.
    rw (find_later x n t ms k, taken_other n h.0 ns h.1 h.2 x k)
    (finds_same ms h.1 h.4 (distinct_cons n (names ms) d).1 x))
    (equal_or_not x n)

-- ---- and the other way round

pub same_finds : (ms ns : Members) → distinct (names ms) ≡ true → distinct (names ns) ≡ true
    → ((x : Bytes) → SameFound (find x ms) (find x ns)) → SameMembers ms ns
same_finds empty empty d e h = refl
same_finds empty (member m u ns) d e h = let w : ⊥ = rw (find_first m u ns) at (h m) in absurd w
same_finds (member n t ms) ns d e h =
    let f = same_some t (find n ns) (rw (find_first n t ms) at (h n)) in
    let r = change_member None n ns in
    let c = distinct_cons n (names ms) d in (
      f.0,
      r,
      change_taken n f.0 ns f.1,
      f.2,
      same_finds ms r c.1 (change_distinct None n ns e) (λ x. ⊎_elim (λ q. here x q) (λ k. there x k) (equal_or_not x n)),
    )
  where
    here : (x : Bytes) → x ≡ n → SameFound (find x ms) (find x (change_member None n ns))
    here x q = rw (q, not_in n ms (has_not n (names ms) (distinct_cons n (names ms) d).0), find_gone n ns e) tt

    there : (x : Bytes) → (x ≡ n → ⊥) → SameFound (find x ms) (find x (change_member None n ns))
    there x k = subst₂ SameFound (find_later x n t ms k) (sym (find_other None n x ns k)) (h x)

-- An object written anew has a value where each name finds equal values.
pub anew_same : (ms ns : Members) → distinct (names ms) ≡ true → ((x : Bytes) → SameFound (find x ms) (find x ns))
    → Same (object ms) (object (in_order ns))
anew_same ms ns d h = (
  in_order ns,
  refl,
  same_finds ms (in_order ns) d (rising_distinct (names (in_order ns)) (in_order_rising ns)) (λ x. rw (find_in_order x ns) (h x)),
)
