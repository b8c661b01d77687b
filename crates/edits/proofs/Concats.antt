-- What concat means: of two objects what each name finds, of any other pair the items of both; and that what it gives is valid and
-- sound where both records are.
use Prim.Native.Nat.{ℕ, zero, suc, ◌+◌, ◌-◌, ◌≤◌, ◌<◌}
use native.Mathlib.Omega.{arith}
use mathlib.Core.Path.{◌≡◌, refl, ap, sym, ◌∙◌}
use mathlib.Core.Logic.{◌⊎◌, inl, inr, ⊎_elim}
use mathlib.Core.Bool.{true, false}
use lib.Dec.{T}
use Rattle.layout.specs.Bytes.{Bytes}
use Rattle.layout.specs.Answer.{gives, refused, ◌>>=◌, require}
use Rattle.layout.specs.Order.{order}
use Rattle.layout.specs.Tree.{Tree, null, boolean, number, string, extension, array, object, Items, none, item, Members, empty, member, names}
use Rattle.layout.specs.Limits.{Valid, ValidItems, ValidMembers, depth, depth_members, size_members}
use Rattle.layout.specs.Sound.{Rising, Sound, SoundItems, SoundMembers}
use Rattle.layout.specs.Every.{Ask, every, every_items}
use Rattle.std.specs.declared.cmp.Ordering.{Ordering}
use Rattle.std.specs.declared.cmp.Ordering.TheVariants.{Less, Equal, Greater}
use Rattle.layout.specs.declared.refusal.Refusal.TheVariants.{Repeated}
use Rattle.layout.proofs.Answers.{from_require, to_require, gives_inj}
use Rattle.layout.proofs.Questions.{Apiece, and_apart, and_joined, member_apart, member_joined}
use Rattle.builders.specs.Order.{by, in_order, find, follow, distinct}
use Rattle.builders.specs.Build.{count, join}
use Rattle.builders.proofs.InOrders.{rising_distinct, in_order_rising, or_else, find_in_order, in_order_valid, in_order_sound, in_order_asked, in_order_depth}
use Rattle.builders.proofs.Results.{is_true, Keeps, join_valid, join_sound}
use Rattle.edits.specs.Find.{item_at}
use Rattle.edits.specs.Concat.{as_items, members_in, overlay, overlay_or, concat}
use Rattle.edits.proofs.Deletes.{nothing_some, some_inj, found_or_not}
use Rattle.edits.proofs.Kept.{in_order_shorter}
use Rattle.std.specs.Prelude.{Some, None, Option}

-- ---- the two ways that concat goes

concat_is : (t u : Tree) → concat t u ≡ overlay_or (array (join (as_items t) (as_items u))) (members_in t) (members_in u)
unfolding concat
concat_is t u = refl

-- Two objects.
pub concat_objects : (ls rs : Members) → concat (object ls) (object rs) ≡ overlay ls rs
concat_objects ls rs = concat_is (object ls) (object rs)

module _ (ls rs : Members) where
  pub concat_given : distinct (names rs) ≡ true → concat (object ls) (object rs) ≡ gives (object (in_order (follow rs ls)))
  concat_given d = concat_objects ls rs ∙ to_require (distinct (names rs)) Repeated _ _ (rw d tt) refl

  -- "A name repeated on the right is 8."
  pub concat_refused : distinct (names rs) ≡ false → concat (object ls) (object rs) ≡ refused Repeated
  unfolding ◌>>=◌ require
  concat_refused d = concat_objects ls rs ∙ rw d

-- "Two arrays join; any other pair becomes an array, a non-array side being one item."
pub concat_items : (t u : Tree) → (members_in t ≡ None) ⊎ (members_in u ≡ None)
    → concat t u ≡ gives (array (join (as_items t) (as_items u)))
concat_items t u h = concat_is t u ∙ go (array (join (as_items t) (as_items u))) (members_in t) (members_in u) h
  where
    go : (all : Tree) (l r : Option Members) → (l ≡ None) ⊎ (r ≡ None) → overlay_or all l r ≡ gives all
    go all None r h = refl
    go all (Some ls) None h = refl
    go all (Some ls) (Some rs) h = ⊎_elim (λ e. nothing_some (sym e)) (λ e. nothing_some (sym e)) h

object_in : (t : Tree) (ms : Members) → members_in t ≡ Some ms → t ≡ object ms
object_in null ms e = nothing_some e
object_in (boolean x) ms e = nothing_some e
object_in (number b) ms e = nothing_some e
object_in (string b) ms e = nothing_some e
object_in (extension b) ms e = nothing_some e
object_in (array ts) ms e = nothing_some e
object_in (object ns) ms e = ap object (some_inj e)

-- Two objects, or any other pair.
pub record TwoObjects (t u : Tree) : Type 0 where
  pub left : Members
  pub right : Members
  pub left_is : t ≡ object left
  pub right_is : u ≡ object right

pub objects_or : (t u : Tree) → TwoObjects t u ⊎ ((members_in t ≡ None) ⊎ (members_in u ≡ None))
objects_or t u =
    ⊎_elim
    (λ e. inr (inl e))
    (λ l.
    ⊎_elim
    (λ e. inr (inr e))
    (λ r. inl (record { left = l.0; right = r.0; left_is = object_in t l.0 l.1; right_is = object_in u r.0 r.1 }))
    (found_or_not (members_in u)))
    (found_or_not (members_in t))

-- What concat gives of two objects, and that no name is repeated on the right.
pub concat_gives : (ls rs : Members) (v : Tree) → concat (object ls) (object rs) ≡ gives v
    → (distinct (names rs) ≡ true) × (v ≡ object (in_order (follow rs ls)))
concat_gives ls rs v e =
    from_require _ _ _ (sym (concat_objects ls rs) ∙ e) λ test e₁. (is_true (distinct (names rs)) test, sym (gives_inj e₁))

-- ---- what a name finds

pub find_follow : (n : Bytes) (rs ls : Members) → find n (follow rs ls) ≡ or_else (find n rs) (find n ls)
find_follow n empty ls = refl
find_follow n (member m t rs) ls = first (order n m) (find_follow n rs ls)
  where
    first : (o : Ordering) → find n (follow rs ls) ≡ or_else (find n rs) (find n ls)
        → by o (find n (follow rs ls)) (Some t) (find n (follow rs ls)) ≡ or_else (by o (find n rs) (Some t) (find n rs)) (find n ls)
    first Less e = e
    first Equal e = refl
    first Greater e = e

members_are : (ls rs ms : Members) → concat (object ls) (object rs) ≡ gives (object ms) → ms ≡ in_order (follow rs ls)
members_are ls rs ms e = object_inj (concat_gives ls rs (object ms) e).1
  where
    object_inj : {a b : Members} → object a ≡ object b → a ≡ b
    object_inj e = cc

-- A name finds what it finds on the right, or else what it finds on the left, where "the first counts".
pub concat_find : (ls rs ms : Members) → concat (object ls) (object rs) ≡ gives (object ms) → (n : Bytes)
    → find n ms ≡ or_else (find n rs) (find n ls)
concat_find ls rs ms e n = ap (find n) (members_are ls rs ms e) ∙ find_in_order n (follow rs ls) ∙ find_follow n rs ls

-- Its names rise, whatever they did before. With what each name finds this fixes the object.
pub concat_in_order : (ls rs ms : Members) → concat (object ls) (object rs) ≡ gives (object ms) → Rising (names ms)
concat_in_order ls rs ms e = rw (members_are ls rs ms e) (in_order_rising (follow rs ls))

-- Of any other pair: the left's items stand first, and the right's behind them.
pub concat_left : (ts us : Items) (i : ℕ) → i < count ts → item_at (join ts us) i ≡ item_at ts i
concat_left none us i h = let z : ⊥ = omega arith in absurd z
concat_left (item t ts) us zero h = refl
concat_left (item t ts) us (suc i) h = concat_left ts us i (omega arith)

pub concat_right : (ts us : Items) (i : ℕ) → item_at (join ts us) (count ts + i) ≡ item_at us i
concat_right none us i = let z : 0 + i ≡ i = omega arith in rw z
concat_right (item t ts) us i = let z : suc (count ts) + i ≡ suc (count ts + i) = omega arith in rw z (concat_right ts us i)

pub concat_count : (ts us : Items) → count (join ts us) ≡ count ts + count us
concat_count none us = omega arith
concat_count (item t ts) us = omega (arith, concat_count ts us)

-- ---- validity, soundness

items_valid : (t : Tree) → Valid t → ValidItems (as_items t)
items_valid null v = (v, tt)
items_valid (boolean x) v = (v, tt)
items_valid (number b) v = (v, tt)
items_valid (string b) v = (v, tt)
items_valid (extension b) v = (v, tt)
items_valid (array ts) v = v
items_valid (object ms) v = (v, tt)

items_sound : (t : Tree) → Sound t → SoundItems (as_items t)
items_sound null s = (s, tt)
items_sound (boolean x) s = (s, tt)
items_sound (number b) s = (s, tt)
items_sound (string b) s = (s, tt)
items_sound (extension b) s = (s, tt)
items_sound (array ts) s = s
items_sound (object ms) s = (s, tt)

follow_valid : (rs ls : Members) → ValidMembers rs → ValidMembers ls → ValidMembers (follow rs ls)
follow_valid empty ls v w = w
follow_valid (member n t rs) ls v w = (v.0, v.1, follow_valid rs ls v.2 w)

follow_sound : (rs ls : Members) → SoundMembers rs → SoundMembers ls → SoundMembers (follow rs ls)
follow_sound empty ls s r = r
follow_sound (member n t rs) ls s r = (s.0, follow_sound rs ls s.1 r)

pub concat_keeps : Keeps concat
concat_keeps t u v vt vu e =
    ⊎_elim
    (λ o.
    let vl : ValidMembers o.left = rw o.left_is at vt in
    let vr : ValidMembers o.right = rw o.right_is at vu in
    rw (concat_gives o.left o.right v (rw (o.left_is, o.right_is) at e)).1
    (in_order_valid (follow o.right o.left) (follow_valid o.right o.left vr vl)))
    (λ h.
    rw (gives_inj (sym e ∙ concat_items t u h))
    (join_valid (as_items t) (as_items u) (items_valid t vt) (items_valid u vu)))
    (objects_or t u)

pub concat_sound : (t u v : Tree) → Sound t → Sound u → concat t u ≡ gives v → Sound v
concat_sound t u v st su e =
    ⊎_elim
    (λ o.
    let ms = follow o.right o.left in
    let sl : Sound (object o.left) = rw o.left_is at st in
    let sr : Sound (object o.right) = rw o.right_is at su in
    rw (concat_gives o.left o.right v (rw (o.left_is, o.right_is) at e)).1
    (in_order_rising ms, in_order_sound ms (follow_sound o.right o.left sr.1 sl.1)))
    (λ h.
    rw (gives_inj (sym e ∙ concat_items t u h))
    (join_sound (as_items t) (as_items u) (items_sound t st) (items_sound u su)))
    (objects_or t u)

-- What is asked of each number, extension and name.
module _ (a : Ask) (p : Apiece a) where
  items_asked : (t : Tree) → T (every a t) → T (every_items a (as_items t))
  items_asked null h = h
  items_asked (boolean x) h = h
  items_asked (number b) h = and_joined (every a (number b)) true h tt
  items_asked (string b) h = h
  items_asked (extension b) h = and_joined (every a (extension b)) true h tt
  items_asked (array ts) h = h
  items_asked (object ms) h = and_joined (every a (object ms)) true h tt

  join_asked : (ts us : Items) → T (every_items a ts) → T (every_items a us) → T (every_items a (join ts us))
  join_asked none us h k = k
  join_asked (item t ts) us h k =
      let rest = and_apart (every a t) (every_items a ts) h in
      and_joined (every a t) (every_items a (join ts us)) rest.0 (join_asked ts us rest.1 k)

  follow_asked : (rs ls : Members) → T (every a (object rs)) → T (every a (object ls)) → T (every a (object (follow rs ls)))
  follow_asked empty ls h k = k
  follow_asked (member n t rs) ls h k =
      let rest = member_apart a p n t rs h in
      member_joined a p n t (follow rs ls) rest.0 rest.1 (follow_asked rs ls rest.2 k)

  pub concat_asked : (t u v : Tree) → T (every a t) → T (every a u) → concat t u ≡ gives v → T (every a v)
  concat_asked t u v ht hu e =
      ⊎_elim
      (λ o.
      let ms = follow o.right o.left in
      let hl : T (every a (object o.left)) = rw o.left_is at ht in
      let hr : T (every a (object o.right)) = rw o.right_is at hu in
      rw (concat_gives o.left o.right v (rw (o.left_is, o.right_is) at e)).1
      (in_order_asked a p ms (follow_asked o.right o.left hr hl)))
      (λ h.
      rw (gives_inj (sym e ∙ concat_items t u h))
      (join_asked (as_items t) (as_items u) (items_asked t ht) (items_asked u hu)))
      (objects_or t u)

-- Concat refuses nothing where the right record is sound.
pub concat_some : (t u : Tree) → Sound u → (v : Tree) × (concat t u ≡ gives v)
concat_some t u su =
    ⊎_elim
    (λ o.
    let sr : Sound (object o.right) = rw o.right_is at su in (
      object (in_order (follow o.right o.left)),
      rw (o.left_is, o.right_is) (concat_given o.left o.right (rising_distinct (names o.right) sr.0)),
    ))
    (λ h. (array (join (as_items t) (as_items u)), concat_items t u h))
    (objects_or t u)

-- ---- depth and length

follow_depth : (rs ls : Members) (d : ℕ) → depth_members rs ≤ d → depth_members ls ≤ d → depth_members (follow rs ls) ≤ d
follow_depth empty ls d h k = k
follow_depth (member n t rs) ls d h k = omega (arith, follow_depth rs ls d (omega arith) k)

follow_size : (rs ls : Members) → size_members (follow rs ls) ≡ size_members rs + size_members ls
follow_size empty ls = omega arith
follow_size (member n t rs) ls = omega (arith, follow_size rs ls)

module _ (ls rs : Members) where
  -- The object is no deeper than both are, and no longer than both together.
  pub concat_depth : (d : ℕ) → depth (object ls) ≤ d → depth (object rs) ≤ d → depth (object (in_order (follow rs ls))) ≤ d
  concat_depth d h k =
      omega (arith, in_order_depth (follow rs ls), follow_depth rs ls (d - 1) (omega arith) (omega arith))

  pub concat_size : size_members (in_order (follow rs ls)) ≤ size_members ls + size_members rs
  concat_size = omega (arith, in_order_shorter (follow rs ls), follow_size rs ls)
