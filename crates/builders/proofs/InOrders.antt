-- Members in byte order: the names rise, each name finds what it found, and where no name is there twice no member is lost.
use Prim.Native.Nat.{ℕ, suc, ◌+◌, ◌≤◌, max}
use native.Mathlib.Omega.{arith}
use mathlib.Core.Path.{◌≡◌, refl, ap, sym, ◌∙◌}
use mathlib.Core.Logic.{◌⊎◌, inl, inr, ⊎_elim}
use mathlib.Core.Bool.{Bool, true, false, not, ◌&&◌, ◌||◌}
use mathlib.Core.List.{List, [], ◌∷◌}
use lib.Dec.{T}
use lib.ListN.{length, length-append}
use Rattle.layout.specs.Bytes.{Bytes}
use Rattle.layout.specs.Text.{utf8}
use Rattle.layout.specs.Tree.{Tree, object, Members, empty, member, names}
use Rattle.layout.specs.Encode.{payloads, name_parts, member_parts}
use Rattle.layout.specs.Limits.{Valid, ValidMembers, depth, depth_members, size, size_members}
use Rattle.layout.specs.Order.{order, same_bytes}
use Rattle.layout.specs.Sound.{◌≺◌, Rising, Sound, SoundMembers}
use Rattle.layout.specs.Every.{Ask, every}
use Rattle.layout.specs.Value.{Taken, SameMembers}
use Rattle.std.specs.declared.cmp.Ordering.{Ordering}
use Rattle.std.specs.declared.cmp.Ordering.TheVariants.{Less, Equal, Greater}
use Rattle.layout.proofs.Values.{≺-irrefl, ≺-trans, In, rising_tail, rising_all, same_refl}
use Rattle.layout.proofs.Orders.{unlike_bytes, alike_bytes}
use Rattle.layout.proofs.Questions.{Apiece, no_member, member_apart, member_joined}
use Rattle.builders.specs.Order.{by, insert, insert_all, in_order, find, has, distinct, follow}
use Rattle.builders.proofs.Orderings.{order_cases, by_order, order_less, order_greater, order_refl}
use Rattle.std.specs.Prelude.{Some, None, Option}

-- A name that comes before another is not equal to it.
pub unlike : (a b : Bytes) → a ≺ b → a ≡ b → ⊥
unlike a b l e = ≺-irrefl a (rw (← e) at l)

-- ---- names among others

pub not_has : (n : Bytes) (ns : List Bytes) → (In n ns → ⊥) → has n ns ≡ false
unfolding has
not_has n [] h = refl
not_has n (m ∷ ns) h = rw (← unlike_bytes n m (λ e. h (inl e))) (not_has n ns (λ i. h (inr i)))

true_false : true ≡ false → ⊥
true_false e = let z : ◌≡◌ {A = ℕ} 0 1 = cc in omega arith

pub has_not : (n : Bytes) (ns : List Bytes) → has n ns ≡ false → In n ns → ⊥
unfolding has
has_not n [] e i = i
has_not n (m ∷ ns) e i =
    ⊎_elim (λ j. true_false (rw (← alike_bytes n m j) at e)) (λ j. has_not n ns (neither (same_bytes n m) (has n ns) e) j) i
  where
    neither : (p q : Bool) → (p || q) ≡ false → q ≡ false
    neither true q k = absurd (true_false k)
    neither false q k = k

-- The first of distinct names is not among the rest, and these are distinct.
pub distinct_cons : (n : Bytes) (ns : List Bytes) → distinct (n ∷ ns) ≡ true → (has n ns ≡ false) × (distinct ns ≡ true)
unfolding distinct
distinct_cons n ns e = go (has n ns) (distinct ns) e
  where
    go : (p q : Bool) → (not p && q) ≡ true → (p ≡ false) × (q ≡ true)
    go true q e = absurd (true_false (sym e))
    go false q e = (refl, e)

pub rising_distinct : (ns : List Bytes) → Rising ns → distinct ns ≡ true
unfolding distinct
rising_distinct [] h = refl
rising_distinct (n ∷ ns) h =
    rw (not_has n ns (λ i. ≺-irrefl n (rising_all n ns h n i)), rising_distinct ns (rising_tail n ns h))

-- ---- the names rise

insert_names : (n : Bytes) (t : Tree) (ms : Members) (x : Bytes) → In x (names (insert n t ms)) → (x ≡ n) ⊎ In x (names ms)
insert_names n t empty x i = i
insert_names n t (member m u ms) x i =
    by_order n m (λ (a : Members). In x (names a) → (x ≡ n) ⊎ In x (names (member m u ms))) _ _ _
    (λ _ i. i)
    (λ _ i. inr i)
    (λ _ i. ⊎_elim (λ j. inr (inl j)) (λ j. ⊎_elim (λ k. inl k) (λ k. inr (inr k)) (insert_names n t ms x j)) i)
    i

pub rising_cons : (n : Bytes) (ns : List Bytes) → ((m : Bytes) → In m ns → n ≺ m) → Rising ns → Rising (n ∷ ns)
rising_cons n [] h r = tt
rising_cons n (m ∷ ns) h r = (h m (inl refl), r)

insert_rising : (n : Bytes) (t : Tree) (ms : Members) → Rising (names ms) → Rising (names (insert n t ms))
insert_rising n t empty h = tt
insert_rising n t (member m u ms) h =
    by_order n m (λ (a : Members). Rising (names a)) _ _ _
    (λ l. (l, h))
    (λ _. h)
    (λ l.
    rising_cons m (names (insert n t ms))
    (λ x i. ⊎_elim (λ j. rw j l) (λ j. rising_all m (names ms) h x j) (insert_names n t ms x i))
    (insert_rising n t ms (rising_tail m (names ms) h)))

all_rising : (ms done : Members) → Rising (names done) → Rising (names (insert_all ms done))
all_rising empty done h = h
all_rising (member n t ms) done h = all_rising ms (insert n t done) (insert_rising n t done h)

pub in_order_rising : (ms : Members) → Rising (names (in_order ms))
in_order_rising ms = all_rising ms empty tt

-- ---- names that rise already

follow_empty : (done : Members) → follow done empty ≡ done
follow_empty empty = refl
follow_empty (member n t done) = ap (member n t) (follow_empty done)

follow_member : (n : Bytes) (t : Tree) (done ms : Members)
    → follow (follow done (member n t empty)) ms ≡ follow done (member n t ms)
follow_member n t empty ms = refl
follow_member n t (member m u done) ms = ap (member m u) (follow_member n t done ms)

follow_in : (n : Bytes) (t : Tree) (done ms : Members) → In n (names (follow done (member n t ms)))
follow_in n t empty ms = inl refl
follow_in n t (member m u done) ms = inr (follow_in n t done ms)

insert_end : (n : Bytes) (t : Tree) (done ms : Members) → Rising (names (follow done (member n t ms)))
    → insert n t done ≡ follow done (member n t empty)
insert_end n t empty ms h = refl
insert_end n t (member m u done) ms h =
    rw (order_greater n m (rising_all m (names (follow done (member n t ms))) h n (follow_in n t done ms)))
    (ap (member m u) (insert_end n t done ms (rising_tail m (names (follow done (member n t ms))) h)))

all_end : (ms done : Members) → Rising (names (follow done ms)) → insert_all ms done ≡ follow done ms
all_end empty done h = sym (follow_empty done)
all_end (member n t ms) done h =
    ap (insert_all ms) (insert_end n t done ms h)
    ∙ all_end ms (follow done (member n t empty)) (rw (follow_member n t done ms) h)
    ∙ follow_member n t done ms

-- Members whose names rise are their own order.
pub rising_in_order : (ms : Members) → Rising (names ms) → in_order ms ≡ ms
rising_in_order ms h = all_end ms empty h

-- ---- what each name finds

-- What one finds, or else what the other does.
abbrev pub or_else : Option Tree → Option Tree → Option Tree
or_else None b = b
or_else (Some t) b = Some t

or_none : (a : Option Tree) → or_else a None ≡ a
or_none None = refl
or_none (Some t) = refl

or_else_assoc : (a b c : Option Tree) → or_else (or_else a b) c ≡ or_else a (or_else b c)
or_else_assoc None b c = refl
or_else_assoc (Some t) b c = refl

not_found : (n : Bytes) (ms : Members) → (In n (names ms) → ⊥) → find n ms ≡ None
not_found n empty h = refl
not_found n (member m u ms) h =
    by_order n m (λ (a : Option Tree). a ≡ None) _ _ _
    (λ _. not_found n ms (λ i. h (inr i))) (λ e. absurd (h (inl e))) (λ _. not_found n ms (λ i. h (inr i)))

-- A member that goes in front of others in order, or whose name is the first, or that goes behind the first.
module _ (x n : Bytes) (t : Tree) (m : Bytes) (u : Tree) (ms : Members) where
  find_less : n ≺ m → Rising (m ∷ names ms)
      → find x (member n t (member m u ms)) ≡ or_else (find x (member m u ms)) (find x (member n t empty))
  find_less l h =
      order_cases x n
      (λ o. by o (find x (member m u ms)) (Some t) (find x (member m u ms)) ≡ or_else (find x (member m u ms)) (by o None (Some t) None))
      (λ _. sym (or_none (find x (member m u ms))))
      (λ e. ap (λ (a : Option Tree). or_else a (Some t)) (sym (not_found x (member m u ms) (lower e))))
      (λ _. sym (or_none (find x (member m u ms))))
    where
      lower : x ≡ n → In x (names (member m u ms)) → ⊥
      lower e i =
          let k : x ≺ m = rw e l in
          ⊎_elim (λ j. unlike x m k j) (λ j. ≺-irrefl x (≺-trans x m x k (rising_all m (names ms) h x j))) i

  find_equal : n ≡ m → find x (member m u ms) ≡ or_else (find x (member m u ms)) (find x (member n t empty))
  find_equal e =
      order_cases x n (λ o. find x (member m u ms) ≡ or_else (find x (member m u ms)) (by o None (Some t) None))
      (λ _. sym (or_none (find x (member m u ms))))
      (λ k.
      let f : find x (member m u ms) ≡ Some u = rw (k, e, order_refl m) in
      f ∙ ap (λ (a : Option Tree). or_else a (Some t)) (sym f))
      (λ _. sym (or_none (find x (member m u ms))))

  find_greater : (r : Members) (b : Option Tree) → find x r ≡ or_else (find x ms) b
      → find x (member m u r) ≡ or_else (find x (member m u ms)) b
  find_greater r b e =
      order_cases x m (λ o. by o (find x r) (Some u) (find x r) ≡ or_else (by o (find x ms) (Some u) (find x ms)) b)
      (λ _. e) (λ _. refl) (λ _. e)

find_insert : (x n : Bytes) (t : Tree) (ms : Members) → Rising (names ms)
    → find x (insert n t ms) ≡ or_else (find x ms) (find x (member n t empty))
find_insert x n t empty h = refl
find_insert x n t (member m u ms) h =
    by_order n m (λ (a : Members). find x a ≡ or_else (find x (member m u ms)) (find x (member n t empty))) _ _ _
    (λ l. find_less x n t m u ms l h)
    (λ e. find_equal x n t m u ms e)
    (λ _. find_greater x n t m u ms (insert n t ms) (find x (member n t empty)) (find_insert x n t ms (rising_tail m (names ms) h)))

find_head : (x n : Bytes) (t : Tree) (ms : Members) → or_else (find x (member n t empty)) (find x ms) ≡ find x (member n t ms)
find_head x n t ms = go (order x n)
  where
    go : (o : Ordering) → or_else (by o None (Some t) None) (find x ms) ≡ by o (find x ms) (Some t) (find x ms)
    go Less = refl
    go Equal = refl
    go Greater = refl

find_all : (x : Bytes) (ms done : Members) → Rising (names done)
    → find x (insert_all ms done) ≡ or_else (find x done) (find x ms)
find_all x empty done h = sym (or_none (find x done))
find_all x (member n t ms) done h =
    find_all x ms (insert n t done) (insert_rising n t done h)
    ∙ ap (λ (a : Option Tree). or_else a (find x ms)) (find_insert x n t done h)
    ∙ or_else_assoc (find x done) (find x (member n t empty)) (find x ms)
    ∙ ap (or_else (find x done)) (find_head x n t ms)

-- Each name finds what it found: of equal names the first is kept.
pub find_in_order : (x : Bytes) (ms : Members) → find x (in_order ms) ≡ find x ms
find_in_order x ms = find_all x ms empty tt

-- ---- validity, soundness, depth

insert_valid : (n : Bytes) (t : Tree) (ms : Members) → T (utf8 n) → Valid t → ValidMembers ms → ValidMembers (insert n t ms)
insert_valid n t empty x v w = (x, v, tt)
insert_valid n t (member m u ms) x v w =
    by_order n m ValidMembers _ _ _ (λ _. (x, v, w)) (λ _. w) (λ _. (w.0, w.1, insert_valid n t ms x v w.2))

all_valid : (ms done : Members) → ValidMembers ms → ValidMembers done → ValidMembers (insert_all ms done)
all_valid empty done v w = w
all_valid (member n t ms) done v w = all_valid ms (insert n t done) v.2 (insert_valid n t done v.0 v.1 w)

pub in_order_valid : (ms : Members) → ValidMembers ms → ValidMembers (in_order ms)
in_order_valid ms v = all_valid ms empty v tt

insert_sound : (n : Bytes) (t : Tree) (ms : Members) → Sound t → SoundMembers ms → SoundMembers (insert n t ms)
insert_sound n t empty s w = (s, tt)
insert_sound n t (member m u ms) s w =
    by_order n m SoundMembers _ _ _ (λ _. (s, w)) (λ _. w) (λ _. (w.0, insert_sound n t ms s w.1))

all_sound : (ms done : Members) → SoundMembers ms → SoundMembers done → SoundMembers (insert_all ms done)
all_sound empty done s w = w
all_sound (member n t ms) done s w = all_sound ms (insert n t done) s.1 (insert_sound n t done s.0 w)

pub in_order_sound : (ms : Members) → SoundMembers ms → SoundMembers (in_order ms)
in_order_sound ms s = all_sound ms empty s tt

-- What is asked of each name and each value by itself.
module _ (a : Ask) (p : Apiece a) where
  insert_asked : (n : Bytes) (t : Tree) (ms : Members) → T (p.name n) → T (every a t) → T (every a (object ms))
      → T (every a (object (insert n t ms)))
  insert_asked n t empty x v h = member_joined a p n t empty x v h
  insert_asked n t (member m u ms) x v h =
      let rest = member_apart a p m u ms h in
      by_order n m (λ (q : Members). T (every a (object q))) _ _ _
      (λ _. member_joined a p n t (member m u ms) x v h)
      (λ _. h)
      (λ _. member_joined a p m u (insert n t ms) rest.0 rest.1 (insert_asked n t ms x v rest.2))

  all_asked : (ms done : Members) → T (every a (object ms)) → T (every a (object done)) → T (every a (object (insert_all ms done)))
  all_asked empty done h k = k
  all_asked (member n t ms) done h k =
      let rest = member_apart a p n t ms h in
      all_asked ms (insert n t done) rest.2 (insert_asked n t done rest.0 rest.1 k)

  pub in_order_asked : (ms : Members) → T (every a (object ms)) → T (every a (object (in_order ms)))
  in_order_asked ms h = all_asked ms empty h (no_member a p)

insert_depth : (n : Bytes) (t : Tree) (ms : Members) → depth_members (insert n t ms) ≤ max (depth t) (depth_members ms)
insert_depth n t empty = omega arith
insert_depth n t (member m u ms) =
    by_order n m (λ (a : Members). depth_members a ≤ max (depth t) (depth_members (member m u ms))) _ _ _
    (λ _. omega arith) (λ _. omega arith) (λ _. omega (arith, insert_depth n t ms))

all_depth : (ms done : Members) → depth_members (insert_all ms done) ≤ max (depth_members ms) (depth_members done)
all_depth empty done = omega arith
all_depth (member n t ms) done = omega (arith, all_depth ms (insert n t done), insert_depth n t done)

pub in_order_depth : (ms : Members) → depth_members (in_order ms) ≤ depth_members ms
in_order_depth ms = omega (arith, all_depth ms empty)

-- ---- where no name is there twice

-- Two members with unlike names may be put in either way round.
insert_before : (a b : Bytes) (x y : Tree) (ms : Members) → a ≺ b → insert a x (insert b y ms) ≡ insert b y (insert a x ms)
insert_before a b x y empty l = rw (order_less a b l, order_greater b a l)
insert_before a b x y (member m u ms) l =
    order_cases a m (λ _. insert a x (insert b y (member m u ms)) ≡ insert b y (insert a x (member m u ms)))
    (λ k.
    rw (order_less a m k, order_greater b a l)
    (by_order b m (λ (q : Members). insert a x q ≡ member a x q) _ _ _
    (λ _. rw (order_less a b l)) (λ _. rw (order_less a m k)) (λ _. rw (order_less a m k))))
    (λ k. let l₁ : m ≺ b = rw k at l in rw (k, order_greater b m l₁, order_refl m, order_greater b m l₁))
    (λ k.
    rw (order_greater a m k, order_greater b m (≺-trans m a b k l), order_greater a m k)
    (ap (member m u) (insert_before a b x y ms l)))

insert_comm : (a b : Bytes) (x y : Tree) (ms : Members) → (a ≡ b → ⊥) → insert a x (insert b y ms) ≡ insert b y (insert a x ms)
insert_comm a b x y ms h =
    order_cases a b (λ _. insert a x (insert b y ms) ≡ insert b y (insert a x ms))
    (λ l. insert_before a b x y ms l) (λ e. absurd (h e)) (λ l. sym (insert_before b a y x ms l))

insert_last : (n : Bytes) (t : Tree) (ms done : Members) → (In n (names ms) → ⊥)
    → insert_all ms (insert n t done) ≡ insert n t (insert_all ms done)
insert_last n t empty done h = refl
insert_last n t (member m u ms) done h =
    ap (insert_all ms) (insert_comm m n u t done (λ e. h (inl (sym e)))) ∙ insert_last n t ms (insert m u done) (λ i. h (inr i))

all_names : (ms done : Members) (x : Bytes) → In x (names (insert_all ms done)) → In x (names ms) ⊎ In x (names done)
all_names empty done x i = inr i
all_names (member n t ms) done x i =
    ⊎_elim (λ j. inl (inr j)) (λ j. ⊎_elim (λ k. inl (inl k)) (λ k. inr k) (insert_names n t done x j))
    (all_names ms (insert n t done) x i)

module _ (n : Bytes) (t : Tree) (ms : Members) (d : distinct (n ∷ names ms) ≡ true) where
  -- The members in order are the rest in order with the first put in, whose name is not there.
  in_order_member : in_order (member n t ms) ≡ insert n t (in_order ms)
  in_order_member = insert_last n t ms empty (has_not n (names ms) (distinct_cons n (names ms) d).0)

  in_order_new : In n (names (in_order ms)) → ⊥
  in_order_new i =
      ⊎_elim (λ j. has_not n (names ms) (distinct_cons n (names ms) d).0 j) (λ j. absurd j) (all_names ms empty n i)

-- What the members come to, taken together one by one: a sum of what each weighs, or a test of each.
abbrev pub gather : {A : Type 0} → (A → A → A) → A → (Bytes → Tree → A) → Members → A
gather op z f empty = z
gather op z f (member n t ms) = op (f n t) (gather op z f ms)

-- In order they come to the same, where it makes no difference which of two comes first.
module _ {A : Type 0} (op : A → A → A) (swap : (a b c : A) → op a (op b c) ≡ op b (op a c)) (z : A) (f : Bytes → Tree → A) where
  gather_insert : (n : Bytes) (t : Tree) (ms : Members) → (In n (names ms) → ⊥)
      → gather op z f (insert n t ms) ≡ op (f n t) (gather op z f ms)
  gather_insert n t empty h = refl
  gather_insert n t (member m u ms) h =
      by_order n m (λ (a : Members). gather op z f a ≡ op (f n t) (gather op z f (member m u ms))) _ _ _
      (λ _. refl)
      (λ e. absurd (h (inl e)))
      (λ _. ap (op (f m u)) (gather_insert n t ms (λ i. h (inr i))) ∙ swap (f m u) (f n t) (gather op z f ms))

  pub gather_in_order : (ms : Members) → distinct (names ms) ≡ true → gather op z f (in_order ms) ≡ gather op z f ms
  gather_in_order empty d = refl
  gather_in_order (member n t ms) d =
      ap (gather op z f) (in_order_member n t ms d)
      ∙ gather_insert n t (in_order ms) (in_order_new n t ms d)
      ∙ ap (op (f n t)) (gather_in_order ms (distinct_cons n (names ms) d).1)

-- A sum over the members.
abbrev weigh : (Bytes → Tree → ℕ) → Members → ℕ
weigh f ms = gather ◌+◌ 0 f ms

weigh_in_order : (f : Bytes → Tree → ℕ) (ms : Members) → distinct (names ms) ≡ true → weigh f (in_order ms) ≡ weigh f ms
weigh_in_order f ms d = gather_in_order ◌+◌ (λ a b c. omega arith) 0 f ms d

size_weigh : (ms : Members) → size_members ms ≡ weigh (λ n t. 8 + length n + size t) ms
size_weigh empty = refl
size_weigh (member n t ms) = ap (λ (k : ℕ). 8 + length n + size t + k) (size_weigh ms)

count_weigh : (ms : Members) → length (member_parts ms) ≡ weigh (λ n t. 1) ms
count_weigh empty = refl
count_weigh (member n t ms) = omega (arith, count_weigh ms)

names_weigh : (ms : Members) → length (payloads (name_parts (names ms))) ≡ weigh (λ n t. length n) ms
names_weigh empty = refl
names_weigh (member n t ms) = length-append n (payloads (name_parts (names ms))) ∙ ap (λ (k : ℕ). length n + k) (names_weigh ms)

module _ (ms : Members) (d : distinct (names ms) ≡ true) where
  pub in_order_size : size_members (in_order ms) ≡ size_members ms
  in_order_size = size_weigh (in_order ms) ∙ weigh_in_order (λ n t. 8 + length n + size t) ms d ∙ sym (size_weigh ms)

  pub in_order_count : length (member_parts (in_order ms)) ≡ length (member_parts ms)
  in_order_count = count_weigh (in_order ms) ∙ weigh_in_order (λ n t. 1) ms d ∙ sym (count_weigh ms)

  pub in_order_names : length (payloads (name_parts (names (in_order ms)))) ≡ length (payloads (name_parts (names ms)))
  in_order_names = names_weigh (in_order ms) ∙ weigh_in_order (λ n t. length n) ms d ∙ sym (names_weigh ms)

-- A name that is put in is there, with all that were there.
insert_in : (n : Bytes) (t : Tree) (ms : Members) → In n (names (insert n t ms))
insert_in n t empty = inl refl
insert_in n t (member m u ms) =
    by_order n m (λ (a : Members). In n (names a)) _ _ _ (λ _. inl refl) (λ e. inl e) (λ _. inr (insert_in n t ms))

insert_stays : (n : Bytes) (t : Tree) (ms : Members) (x : Bytes) → In x (names ms) → In x (names (insert n t ms))
insert_stays n t empty x i = absurd i
insert_stays n t (member m u ms) x i =
    by_order n m (λ (a : Members). In x (names a)) _ _ _
    (λ _. inr i) (λ _. i) (λ _. ⊎_elim (λ j. inl j) (λ j. inr (insert_stays n t ms x j)) i)

-- A member whose name is there already adds none, and no member adds more than one.
insert_there : (n : Bytes) (t : Tree) (ms : Members) → Rising (names ms) → In n (names ms)
    → length (member_parts (insert n t ms)) ≡ length (member_parts ms)
insert_there n t empty h i = absurd i
insert_there n t (member m u ms) h i =
    by_order n m (λ (a : Members). length (member_parts a) ≡ length (member_parts (member m u ms))) _ _ _
    (λ l. absurd (⊎_elim (λ j. unlike n m l j) (λ j. ≺-irrefl n (≺-trans n m n l (rising_all m (names ms) h n j))) i))
    (λ _. refl)
    (λ l.
    ap suc
    (insert_there n t ms (rising_tail m (names ms) h) (⊎_elim (λ j. absurd (unlike m n l (sym j))) (λ j. j) i)))

insert_count : (n : Bytes) (t : Tree) (ms : Members) → length (member_parts (insert n t ms)) ≤ suc (length (member_parts ms))
insert_count n t empty = omega arith
insert_count n t (member m u ms) =
    by_order n m (λ (a : Members). length (member_parts a) ≤ suc (length (member_parts (member m u ms)))) _ _ _
    (λ _. omega arith) (λ _. omega arith) (λ _. omega (arith, insert_count n t ms))

all_count : (ms done : Members) → length (member_parts (insert_all ms done)) ≤ length (member_parts ms) + length (member_parts done)
all_count empty done = omega arith
all_count (member n t ms) done = omega (arith, all_count ms (insert n t done), insert_count n t done)

-- Where each adds one, no name is repeated, and none is there already.
all_distinct : (ms done : Members) → Rising (names done)
    → length (member_parts (insert_all ms done)) ≡ length (member_parts ms) + length (member_parts done)
    → (distinct (names ms) ≡ true) × ((x : Bytes) → In x (names ms) → In x (names done) → ⊥)
unfolding distinct
all_distinct empty done h e = (refl, λ x i j. i)
all_distinct (member n t ms) done h e =
    let grown : length (member_parts (insert n t done)) ≡ suc (length (member_parts done)) =
    omega (arith, all_count ms (insert n t done), insert_count n t done) in
    let k = all_distinct ms (insert n t done) (insert_rising n t done h) (omega arith) in
    let new : In n (names done) → ⊥ = λ i. let same_bytes = insert_there n t done h i in omega arith in (
      rw (not_has n (names ms) (λ i. k.1 n i (insert_in n t done))) k.0,
      λ x i j. ⊎_elim (λ e. new (rw e at j)) (λ i. k.1 x i (insert_stays n t done x j)) i,
    )

-- Where no member is lost, no name is there twice.
pub count_distinct : (ms : Members) → length (member_parts (in_order ms)) ≡ length (member_parts ms) → distinct (names ms) ≡ true
count_distinct ms e = (all_distinct ms empty tt (omega arith)).0

insert_taken : (n : Bytes) (t : Tree) (ms : Members) → (In n (names ms) → ⊥) → Taken n t (insert n t ms) ms
insert_taken n t empty h = inl (refl, refl, refl)
insert_taken n t (member m u ms) h =
    by_order n m (λ (a : Members). Taken n t a (member m u ms)) _ _ _
    (λ _. inl (refl, refl, refl)) (λ e. absurd (h (inl e))) (λ _. inr (ms, refl, insert_taken n t ms (λ i. h (inr i))))

-- The members in order are an equal object.
pub in_order_same : (ms : Members) → distinct (names ms) ≡ true → SameMembers ms (in_order ms)
in_order_same empty d = refl
in_order_same (member n t ms) d = (
  t,
  in_order ms,
  rw (in_order_member n t ms d) (insert_taken n t (in_order ms) (in_order_new n t ms d)),
  same_refl t,
  in_order_same ms (distinct_cons n (names ms) d).1,
)
