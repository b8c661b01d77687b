-- Counting members that are alike: each member of one object has fewer like it behind it than there are in the other exactly where
-- the members of both are matched one by one, as `SameMembers` says.
use Prim.Native.Nat.{suc, ◌+◌, ◌^◌, ◌<◌, ◌≤◌}
use native.Mathlib.Omega.{arith}
use mathlib.Core.Path.{◌≡◌, refl, sym, ◌∙◌}
use mathlib.Core.Logic.{◌↔◌, inl, inr, ⊎_elim}
use mathlib.Core.Bool.{Bool, true, false, cond}
use mathlib.Core.List.{List, [], ◌∷◌}
use lib.Dec.{T, ltb, ltb→lt, lt→ltb}
use lib.ListN.{length}
use Rattle.layout.specs.Bytes.{Bytes}
use Rattle.layout.specs.Tree.{Tree, Members, empty, member}
use Rattle.layout.specs.Encode.{payload, part, member_parts}
use Rattle.layout.specs.Value.{Taken, Same, SameMembers}
use Rattle.layout.specs.Order.{same_bytes}
use Rattle.layout.proofs.Values.{same_refl}
use Rattle.layout.proofs.Sames.{same_sym, same_trans}
use Rattle.layout.proofs.Orders.{bytes_test}
use Rattle.layout.proofs.Sounds.{both}
use Rattle.values.specs.Alike.{same_part, Member, like, likes, same_members}

-- The members of a tree.
abbrev pub one : Bytes → Tree → Member
one n t = record { name = n; value = part t }

abbrev pub listed : Members → List Member
listed empty = []
listed (member n t ms) = one n t ∷ listed ms

-- `f` tells of any short tree whether it has the value of `t`; and so for the value of each member.
abbrev pub Tells : (Bytes → Bytes → Bool) → Tree → Type 0
Tells f t = (u : Tree) → length (payload u) < 2 ^ 28 → T (same_part f (part t) (part u)) ↔ Same t u

abbrev pub Told : (Bytes → Bytes → Bool) → Members → Type 0
Told f empty = Unit {0}
Told f (member n t ms) = Tells f t × Told f ms

abbrev pub Small : Members → Type 0
Small empty = Unit {0}
Small (member n t ms) = (length (payload t) < 2 ^ 28) × Small ms

small_taken : (n : Bytes) (t : Tree) (ns r : Members) → Taken n t ns r → Small ns → (length (payload t) < 2 ^ 28) × Small r
small_taken n t empty r k s = absurd k
small_taken n t (member m u ns) r k s =
    ⊎_elim
    (λ e. (rw e.1 s.0, rw e.2 s.1))
    (λ e. let (p, q) = small_taken n t ns e.0 e.2 s.1 in (p, rw e.1 (s.0, q)))
    k

length_taken : (n : Bytes) (t : Tree) (ns r : Members) → Taken n t ns r → length (member_parts ns) ≡ suc (length (member_parts r))
length_taken n t empty r k = absurd k
length_taken n t (member m u ns) r k =
    ⊎_elim (λ e. rw e.2) (λ e. rw (e.1, length_taken n t ns e.0 e.2)) k

pub same_length : (ms ns : Members) → SameMembers ms ns → length (member_parts ms) ≡ length (member_parts ns)
same_length empty ns h = rw h
same_length (member n t ms) ns h = rw (length_taken n h.0 ns h.1 h.2, same_length ms h.1 h.4)

-- Tests that say the same are equal.
pub one_test : (a b : Bool) → (T a → T b) → (T b → T a) → a ≡ b
one_test true true p q = refl
one_test true false p q = absurd (p tt)
one_test false true p q = absurd (q tt)
one_test false false p q = refl

pub holds : (a : Bool) → T a → a ≡ true
holds a h = one_test a true (λ _. tt) (λ _. h)

pub fails : (a : Bool) → (T a → ⊥) → a ≡ false
fails a h = one_test a false h (λ k. absurd k)

module _ (f : Bytes → Bytes → Bool) where
  like_test : (n m : Bytes) (t u : Tree) → Tells f t → length (payload u) < 2 ^ 28 → T (like f (one n t) (one m u)) ↔ ((n ≡ m) × Same t u)
  unfolding like
  like_test n m t u k s = both (same_bytes n m) (same_part f (part t) (part u)) (bytes_test n m) (k u s)

  -- Members of one name and equal values are like the same members, and the same members are like them.
  like_right : (n m : Bytes) (t u v : Tree) → Tells f t → length (payload u) < 2 ^ 28 → length (payload v) < 2 ^ 28 → Same u v →
      like f (one n t) (one m u) ≡ like f (one n t) (one m v)
  like_right n m t u v k s r h =
      let p = like_test n m t u k s in
      let q = like_test n m t v k r in
      one_test (like f (one n t) (one m u)) (like f (one n t) (one m v))
      (λ a. let b = p.0 a in q.1 (b.0, same_trans t u v b.1 h))
      (λ a. let b = q.0 a in p.1 (b.0, same_trans t v u b.1 (same_sym u v h)))

  like_left : (n m l : Bytes) (t u v : Tree) → Tells f t → Tells f u → length (payload v) < 2 ^ 28 → n ≡ m → Same t u →
      like f (one n t) (one l v) ≡ like f (one m u) (one l v)
  like_left n m l t u v k j s e h =
      let p = like_test n l t v k s in
      let q = like_test m l u v j s in
      one_test (like f (one n t) (one l v)) (like f (one m u) (one l v))
      (λ a. let b = p.0 a in q.1 (sym e ∙ b.0, same_trans u t v (same_sym t u h) b.1))
      (λ a. let b = q.0 a in p.1 (e ∙ b.0, same_trans t u v h b.1))

  likes_left : (n m : Bytes) (t u : Tree) (ns : Members) → Tells f t → Tells f u → Small ns → n ≡ m → Same t u →
      likes f (one n t) (listed ns) ≡ likes f (one m u) (listed ns)
  unfolding likes
  likes_left n m t u empty k j s e h = refl
  likes_left n m t u (member l v ns) k j s e h =
      rw (like_left n m l t u v k j s.0 e h, likes_left n m t u ns k j s.1 e h)

  -- One taken out.
  likes_taken : (x : Member) (m : Bytes) (u : Tree) (ns r : Members) → Taken m u ns r →
      likes f x (listed ns) ≡ cond (like f x (one m u)) 1 0 + likes f x (listed r)
  unfolding likes
  likes_taken x m u empty r k = absurd k
  likes_taken x m u (member l v ns) r k =
      ⊎_elim
      (λ e. rw (e.0, e.1, e.2))
      (λ e. rw e.1 (omega (arith, likes_taken x m u ns e.0 e.2)))
      k

  likes_same : (n : Bytes) (t : Tree) (ms ns : Members) → Tells f t → Small ms → Small ns → SameMembers ms ns →
      likes f (one n t) (listed ms) ≡ likes f (one n t) (listed ns)
  unfolding likes
  likes_same n t empty ns k s r h = rw h
  likes_same n t (member m v ms) ns k s r h =
      let w = small_taken m h.0 ns h.1 h.2 r in
      rw (
        likes_taken (one n t) m h.0 ns h.1 h.2,
        like_right n m t v h.0 k s.0 w.0 h.3,
        likes_same n t ms h.1 k s.1 w.1 h.4,
      )

  -- Of each member there are at least as many in `ns`.
  abbrev Within : Members → Members → Type 0
  Within ms ns = (n : Bytes) (t : Tree) → Tells f t → likes f (one n t) (listed ms) ≤ likes f (one n t) (listed ns)

  counted : (ms ns : Members) → Told f ms → Small ms → Within ms ns → T (same_members f (listed ms) (listed ns))
  unfolding likes same_members
  counted empty ns k s w = tt
  counted (member n t ms) ns k s w =
      let self : like f (one n t) (one n t) ≡ true = holds _ ((like_test n n t t k.0 s.0).1 (refl, same_refl t)) in
      let less : likes f (one n t) (listed ms) < likes f (one n t) (listed ns) = omega (arith, rw self at (w n t k.0)) in
      (both (ltb (likes f (one n t) (listed ms)) (likes f (one n t) (listed ns))) (same_members f (listed ms) (listed ns))
      (ltb→lt _ _, lt→ltb _ _) (λ h. h, λ h. h)).1
      (less, counted ms ns k.1 s.1 (λ m u j. omega (arith, w m u j)))

  within : (ms ns : Members) → Told f ms → Small ms → Small ns → T (same_members f (listed ms) (listed ns)) → Within ms ns
  unfolding likes same_members
  within empty ns k s r h m u j = omega arith
  within (member n t ms) ns k s r h m u j =
      let w = (both (ltb (likes f (one n t) (listed ms)) (likes f (one n t) (listed ns))) (same_members f (listed ms) (listed ns))
      (ltb→lt _ _, lt→ltb _ _) (λ h. h, λ h. h)).0 h in
      go w.0 (within ms ns k.1 s.1 r w.1 m u j) (like f (one m u) (one n t)) refl
    where
      go : likes f (one n t) (listed ms) < likes f (one n t) (listed ns) → likes f (one m u) (listed ms) ≤ likes f (one m u) (listed ns) →
          (b : Bool) → like f (one m u) (one n t) ≡ b → cond b 1 0 + likes f (one m u) (listed ms) ≤ likes f (one m u) (listed ns)
      go l i true e =
          let p = (like_test m n u t j s.0).0 (rw e tt) in
          omega (arith, likes_left m n u t ms j k.0 s.1 p.0 p.1, likes_left m n u t ns j k.0 r p.0 p.1)
      go l i false e = omega arith

  -- A member of which there is one is found and taken out.
  find_like : (n : Bytes) (t : Tree) (ns : Members) → Tells f t → Small ns → 1 ≤ likes f (one n t) (listed ns) →
      (u : Tree) × (r : Members) × Taken n u ns r × Same t u
  unfolding likes
  find_like n t empty k s h = let z : ⊥ = omega arith in absurd z
  find_like n t (member m u ns) k s h = go (like f (one n t) (one m u)) refl h (find_like n t ns k s.1)
    where
      go : (b : Bool) → like f (one n t) (one m u) ≡ b → 1 ≤ cond b 1 0 + likes f (one n t) (listed ns) →
          (1 ≤ likes f (one n t) (listed ns) → (v : Tree) × (r : Members) × Taken n v ns r × Same t v) →
          (v : Tree) × (r : Members) × Taken n v (member m u ns) r × Same t v
      go true e l next =
          let p = (like_test n m t u k s.0).0 (rw e tt) in
          (u, ns, inl (p.0, refl, refl), p.1)
      go false e l next =
          let w = next (omega arith) in
          (w.0, member m u w.1, inr (w.1, refl, w.2), w.3)

  matched : (ms ns : Members) → Told f ms → Small ms → Small ns → Within ms ns → length (member_parts ms) ≡ length (member_parts ns) →
      SameMembers ms ns
  unfolding likes
  matched empty empty k s r w l = refl
  matched empty (member m u ns) k s r w l = let z : ⊥ = omega arith in absurd z
  matched (member n t ms) ns k s r w l =
      let self : like f (one n t) (one n t) ≡ true = holds _ ((like_test n n t t k.0 s.0).1 (refl, same_refl t)) in
      let found = find_like n t ns k.0 r (omega (arith, rw self at (w n t k.0))) in
      let small = small_taken n found.0 ns found.1 found.2 r in (
        found.0,
        found.1,
        found.2,
        found.3,
        matched ms found.1 k.1 s.1 small.1
            (λ m v j. omega (
              arith,
              w m v j,
              likes_taken (one m v) n found.0 ns found.1 found.2,
              rw (like_right m n v t found.0 j s.0 small.0 found.3) at (w m v j),
            ))
            (omega (arith, length_taken n found.0 ns found.1 found.2)),
      )

  pub members_test : (ms ns : Members) → Told f ms → Small ms → Small ns → length (member_parts ms) ≡ length (member_parts ns) →
      T (same_members f (listed ms) (listed ns)) ↔ SameMembers ms ns
  members_test ms ns k s r l = (
    λ h. matched ms ns k s r (within ms ns k s r h) l,
    λ h. counted ms ns k s (λ n t j. omega (arith, likes_same n t ms ns j s r h)),
  )
