-- Concat and append on values: the plain edit of two values, and the edit of trees of equal values, give equal values or the same number.
use mathlib.Core.Path.{◌≡◌, refl, ap, sym, ◌∙◌}
use mathlib.Core.Logic.{◌⊎◌, inl, inr, ⊎_elim}
use mathlib.Core.Bool.{true}
use Rattle.layout.specs.Bytes.{Bytes}
use Rattle.layout.specs.Answer.{gives, ◌>>=◌}
use Rattle.layout.specs.Tree.{Tree, null, boolean, number, string, extension, array, object, Items, none, item, Members, empty, member, names}
use Rattle.layout.specs.Value.{Same, SameItems, SameMembers}
use Rattle.layout.proofs.Answers.{gives_inj, refused_gives}
use Rattle.layout.proofs.Values.{In}
use Rattle.layout.proofs.Sames.{same_members_sym}
use Rattle.builders.specs.Order.{in_order, follow, find, distinct}
use Rattle.builders.specs.Build.{join, append}
use Rattle.builders.proofs.InOrders.{or_else, has_not, distinct_cons}
use Rattle.builders.proofs.Proper.{Proper, ProperItems, ProperMembers, distinct_with, same_distinct, Fewer, fewer_distinct}
use Rattle.edits.specs.Concat.{as_items, members_in, concat}
use Rattle.edits.proofs.Deletes.{false_true, find_later, equal_or_not, nothing_some}
use Rattle.edits.proofs.Concats.{find_follow, concat_given, concat_items}
use Rattle.runs.specs.Plain.{has_name, together, lacked, items_then, giving, members_of, objects_or, plain_concat, plain_append}
use Rattle.runs.proofs.Named.{by_test, has_named, missing_name}
use Rattle.runs.proofs.Alikes.{SameFound, SameAnswer, finds_same, anew_same}
use Rattle.runs.proofs.SameNames.{find_same}
use Rattle.std.specs.Prelude.{Some, None, Option}

-- ---- two objects

-- What each name finds in the right's members and those of the left that it lacks.
together_follow : (rs ms : Members) → together rs ms ≡ follow rs ms
together_follow empty ms = refl
together_follow (member n t rs) ms = ap (member n t) (together_follow rs ms)

-- A name that the right lacks finds what it found on the left.
find_lacked : (x : Bytes) (rs ls : Members) → find x rs ≡ None → find x (lacked rs ls) ≡ find x ls
find_lacked x rs empty h = refl
find_lacked x rs (member n t ls) h =
    by_test (has_name n rs) (λ (a : Members). find x a ≡ find x (member n t ls)) _ _
    (λ b. find_lacked x rs ls h ∙ sym (find_later x n t ls (λ (e : x ≡ n). false_true (sym (missing_name n rs (rw e at h)) ∙ b))))
    (λ _.
    ⊎_elim
    (λ (e : x ≡ n). find_same x n t (lacked rs ls) e ∙ sym (find_same x n t ls e))
    (λ k. rw (find_later x n t (lacked rs ls) k, find_later x n t ls k) (find_lacked x rs ls h))
    (equal_or_not x n))

overlay_finds : (x : Bytes) (ls rs : Members) → find x (together rs (lacked rs ls)) ≡ or_else (find x rs) (find x ls)
overlay_finds x ls rs = ap (find x) (together_follow rs (lacked rs ls)) ∙ find_follow x rs (lacked rs ls) ∙ go (find x rs) (find_lacked x rs ls)
  where
    go : (o : Option Tree) → (o ≡ None → find x (lacked rs ls) ≡ find x ls) → or_else o (find x (lacked rs ls)) ≡ or_else o (find x ls)
    go None f = f refl
    go (Some t) f = refl

-- They are proper, as both objects are.
lacked_fewer : (rs ls : Members) → Fewer (names (lacked rs ls)) (names ls)
lacked_fewer rs empty = refl
lacked_fewer rs (member n t ls) =
    by_test (has_name n rs) (λ (a : Members). Fewer (names a) (names (member n t ls))) _ _
    (λ _. inl (lacked_fewer rs ls)) (λ _. inr (names (lacked rs ls), refl, lacked_fewer rs ls))

lacked_proper : (rs ls : Members) → ProperMembers ls → ProperMembers (lacked rs ls)
lacked_proper rs empty p = tt
lacked_proper rs (member n t ls) p =
    by_test (has_name n rs) ProperMembers _ _ (λ _. lacked_proper rs ls p.2) (λ _. (p.0, p.1, lacked_proper rs ls p.2))

-- No name of the right is among those that it lacks.
lacked_new : (rs ls : Members) (x : Bytes) → In x (names rs) → In x (names (lacked rs ls)) → ⊥
lacked_new rs empty x i = λ j. j
lacked_new rs (member n t ls) x i =
    by_test (has_name n rs) (λ (a : Members). In x (names a) → ⊥) _ _
    (λ _. lacked_new rs ls x i)
    (λ b j.
    ⊎_elim
    (λ (e : x ≡ n). has_not n (names rs) (sym (has_named n rs) ∙ b) (rw e at i))
    (λ k. lacked_new rs ls x i k)
    j)

together_in : (rs ms : Members) (x : Bytes) → In x (names (together rs ms)) → In x (names rs) ⊎ In x (names ms)
together_in empty ms x i = inr i
together_in (member n t rs) ms x i =
    ⊎_elim (λ e. inl (inl e)) (λ j. ⊎_elim (λ k. inl (inr k)) (λ k. inr k) (together_in rs ms x j)) i

together_distinct : (rs ms : Members) → distinct (names rs) ≡ true → distinct (names ms) ≡ true → ((x : Bytes) → In x (names rs) → In x (names ms) → ⊥)
    → distinct (names (together rs ms)) ≡ true
together_distinct empty ms d e h = e
together_distinct (member n t rs) ms d e h =
    let c = distinct_cons n (names rs) d in
    distinct_with n (names (together rs ms))
    (λ i. ⊎_elim (has_not n (names rs) c.0) (λ j. h n (inl refl) j) (together_in rs ms n i))
    (together_distinct rs ms c.1 e (λ x i j. h x (inr i) j))

together_proper : (rs ms : Members) → ProperMembers rs → ProperMembers ms → ProperMembers (together rs ms)
together_proper empty ms p q = q
together_proper (member n t rs) ms p q = (p.0, p.1, together_proper rs ms p.2 q)

overlay_proper : (ls rs : Members) → Proper (object ls) → Proper (object rs) → Proper (object (together rs (lacked rs ls)))
overlay_proper ls rs p q = (
  together_distinct rs (lacked rs ls) q.0 (fewer_distinct (names (lacked rs ls)) (names ls) (lacked_fewer rs ls) p.0) (lacked_new rs ls),
  together_proper rs (lacked rs ls) q.1 (lacked_proper rs ls p.1),
)

-- Equal values on either side.
or_same : (a b a' b' : Option Tree) → SameFound a a' → SameFound b b' → SameFound (or_else a b) (or_else a' b')
or_same None b None b' h k = k
or_same None b (Some w) b' h k = absurd h
or_same (Some v) b None b' h k = absurd h
or_same (Some v) b (Some w) b' h k = h

objects_same : (ls rs ls' rs' : Members) → SameMembers ls ls' → SameMembers rs rs' → Proper (object ls) → Proper (object rs)
    → SameAnswer (gives (object (together rs (lacked rs ls)))) (concat (object ls') (object rs'))
objects_same ls rs ls' rs' h k p q =
    rw given
    (anew_same (together rs (lacked rs ls)) (follow rs' ls') (overlay_proper ls rs p q).0
    (λ x.
    rw (overlay_finds x ls rs, find_follow x rs' ls')
    (or_same (find x rs) (find x ls) (find x rs') (find x ls') (finds_same rs rs' k q.0 x) (finds_same ls ls' h p.0 x))))
  where
    given : concat (object ls') (object rs') ≡ gives (object (in_order (follow rs' ls')))
    given = concat_given ls' rs' (same_distinct rs' rs (same_members_sym rs rs' k) q.0)

-- ---- any other pair

then_same : (ts us ts' us' : Items) → SameItems ts ts' → SameItems us us' → SameItems (items_then ts us) (join ts' us')
then_same none us ts' us' h k = rw h k
then_same (item t ts) us ts' us' h k = rw h.2 (h.0, join h.1 us', refl, h.3, then_same ts us h.1 us' h.4 k)

giving_same : (t u : Tree) → Same t u → SameItems (giving t) (as_items u)
giving_same null u h = rw h (null, none, refl, refl, refl)
giving_same (boolean x) u h = rw h (boolean x, none, refl, refl, refl)
giving_same (number b) u h = rw h (number b, none, refl, refl, refl)
giving_same (string b) u h = rw h (string b, none, refl, refl, refl)
giving_same (extension b) u h = rw h (extension b, none, refl, refl, refl)
giving_same (array ts) u h = rw h.1 h.2
giving_same (object ms) u h = rw h.1 (object h.0, none, refl, (h.0, refl, h.2), refl)

no_members : (t u : Tree) → Same t u → members_of t ≡ None → members_in u ≡ None
no_members null u h e = rw h refl
no_members (boolean x) u h e = rw h refl
no_members (number b) u h e = rw h refl
no_members (string b) u h e = rw h refl
no_members (extension b) u h e = rw h refl
no_members (array ts) u h e = rw h.1 refl
no_members (object ms) u h e = nothing_some (sym e)

an_object : (t : Tree) (ms : Members) → members_of t ≡ Some ms → t ≡ object ms
an_object null ms e = nothing_some e
an_object (boolean x) ms e = nothing_some e
an_object (number b) ms e = nothing_some e
an_object (string b) ms e = nothing_some e
an_object (extension b) ms e = nothing_some e
an_object (array ts) ms e = nothing_some e
an_object (object ns) ms e = cc

module _ (t u t' u' : Tree) (h : Same t t') (k : Same u u') where
  pub concat_same : Proper t → Proper u → SameAnswer (gives (plain_concat t u)) (concat t' u')
  concat_same p q = go (members_of t) (members_of u) refl refl
    where
      both : (ls rs : Members) → t ≡ object ls → u ≡ object rs → SameAnswer (gives (object (together rs (lacked rs ls)))) (concat t' u')
      both ls rs e f =
          let l : Same (object ls) t' = rw e at h in
          let r : Same (object rs) u' = rw f at k in
          rw (l.1, r.1) (objects_same ls rs l.0 r.0 l.2 r.2 (rw e at p) (rw f at q))

      items : (members_of t ≡ None) ⊎ (members_of u ≡ None)
          → SameAnswer (gives (array (items_then (giving t) (giving u)))) (concat t' u')
      items w =
          rw (concat_items t' u' (⊎_elim (λ a. inl (no_members t t' h a)) (λ b. inr (no_members u u' k b)) w))
          (_, refl, then_same (giving t) (giving u) (as_items t') (as_items u') (giving_same t t' h) (giving_same u u' k))

      go : (a b : Option Members) → members_of t ≡ a → members_of u ≡ b
          → SameAnswer (gives (objects_or (array (items_then (giving t) (giving u))) a b)) (concat t' u')
      go None b e f = items (inl e)
      go (Some ls) None e f = items (inr f)
      go (Some ls) (Some rs) e f = both ls rs (an_object t ls e) (an_object u rs f)

-- ---- append

pub append_same : (t u t' u' : Tree) → Same t t' → Same u u' → SameAnswer (plain_append t u) (append t' u')
unfolding append plain_append ◌>>=◌
append_same null u t' u' h k = rw h refl
append_same (boolean x) u t' u' h k = rw h refl
append_same (number b) u t' u' h k = rw h refl
append_same (string b) u t' u' h k = rw h refl
append_same (extension b) u t' u' h k = rw h refl
append_same (array ts) u t' u' h k =
    rw h.1 (_, refl, then_same ts (item u none) h.0 (item u' none) h.2 (u', none, refl, k, refl))
append_same (object ms) u t' u' h k = rw h.1 refl

-- ---- the results are proper

then_proper : (ts us : Items) → ProperItems ts → ProperItems us → ProperItems (items_then ts us)
then_proper none us p q = q
then_proper (item t ts) us p q = (p.0, then_proper ts us p.1 q)

giving_proper : (t : Tree) → Proper t → ProperItems (giving t)
giving_proper null p = (p, tt)
giving_proper (boolean x) p = (p, tt)
giving_proper (number b) p = (p, tt)
giving_proper (string b) p = (p, tt)
giving_proper (extension b) p = (p, tt)
giving_proper (array ts) p = p
giving_proper (object ms) p = (p, tt)

pub concat_proper : (t u : Tree) → Proper t → Proper u → Proper (plain_concat t u)
concat_proper t u p q = go (members_of t) (members_of u) refl refl
  where
    items : Proper (array (items_then (giving t) (giving u)))
    items = then_proper (giving t) (giving u) (giving_proper t p) (giving_proper u q)

    go : (a b : Option Members) → members_of t ≡ a → members_of u ≡ b → Proper (objects_or (array (items_then (giving t) (giving u))) a b)
    go None b e f = items
    go (Some ls) None e f = items
    go (Some ls) (Some rs) e f = overlay_proper ls rs (rw (an_object t ls e) at p) (rw (an_object u rs f) at q)

pub append_proper : (t u v : Tree) → Proper t → Proper u → plain_append t u ≡ gives v → Proper v
unfolding plain_append ◌>>=◌
append_proper null u v p q e = refused_gives e
append_proper (boolean x) u v p q e = refused_gives e
append_proper (number b) u v p q e = refused_gives e
append_proper (string b) u v p q e = refused_gives e
append_proper (extension b) u v p q e = refused_gives e
append_proper (array ts) u v p q e = rw (← gives_inj {x = array (items_then ts (item u none))} e) (then_proper ts (item u none) p (q, tt))
append_proper (object ms) u v p q e = refused_gives e
