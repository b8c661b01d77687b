-- How the comparison of two records goes, in the terms of the code: each law answers one step, or the start or end of a loop.
use Prim.Native.Nat.{ℕ, zero, suc, ◌+◌, ◌-◌, ◌<◌, ◌≤◌, min}
use native.Mathlib.Omega.{arith}
use mathlib.Core.Path.{◌≡◌, refl, sym, ap, ◌∙◌}
use mathlib.Core.Bool.{Bool, true, false, cond, ◌&&◌}
use mathlib.Core.List.{List, [], ◌∷◌, map}
use lib.Dec.{ltb, eqb}
use lib.ListN.{length}
use mir.Val.{bool_byte}
use borrow.Author.Tests.{lt-ltb, le-ltb, eq-eqb, ne_eqb}
use mathlib.Core.Logic.{inl, inr}
use Rattle.std.proofs.Common.{T, ◌↔◌, ◌⊎◌}
use Rattle.layout.specs.Bytes.{Bytes, word_at}
use Rattle.layout.specs.Encode.{Part}
use Rattle.layout.specs.Order.{same_bytes}
use Rattle.layout.specs.Left.{part_shown, placed_at}
use Rattle.layout.specs.Parts.{start_of, first_part, parts_of}
use Rattle.layout.specs.Place.{parts_at}
use Rattle.layout.specs.Read.{header}
use Rattle.layout.specs.Value.{same_kind}
use Rattle.layout.specs.declared.item.Kind.{Kind}
use Rattle.layout.specs.declared.item.Kind.TheVariants.{Null, String, Number, False, True, Container, Extension}
use Rattle.layout.specs.declared.refusal.Refusal.{Refusal}
use Rattle.layout.specs.declared.util.Header.{Header}
use Rattle.layout.specs.declared.util.Header.TheVariants.{Array, Object, Scalar}
use Rattle.layout.proofs.Lefts.{parts_left}
use Rattle.layout.proofs.Sames.{kind_test}
use Rattle.values.specs.declared.value.PairAt.{PairAt}
use Rattle.values.specs.Alike.{first, same_payload, same_part, same_parts, Member, next, members_from, members, like, likes, same_members, same_by, same_at}
use Rattle.std.specs.Prelude.{Ok, Err, Result}

-- Kinds and payloads.
kind_same : (k l : Kind) → k ≡ l → same_kind k l ≡ true
kind_same k l e = go (same_kind k l) (kind_test k l)
  where
    go : (t : Bool) → T t ↔ (k ≡ l) → t ≡ true
    go true h = refl
    go false h = absurd (h.1 e)

kind_differs : (k l : Kind) → (k ≡ l → ⊥) → same_kind k l ≡ false
kind_differs k l d = go (same_kind k l) (kind_test k l)
  where
    go : (t : Bool) → T t ↔ (k ≡ l) → t ≡ false
    go true h = absurd (d (h.0 tt))
    go false h = refl

payload_other : (f : Bytes → Bytes → Bool) (k : Kind) (a b : Bytes) → (k ≡ Container → ⊥) → same_payload f k a b ≡ same_bytes a b
unfolding same_payload
payload_other f Null a b h = refl
payload_other f String a b h = refl
payload_other f Number a b h = refl
payload_other f False a b h = refl
payload_other f True a b h = refl
payload_other f Container a b h = absurd (h refl)
payload_other f Extension a b h = refl

-- `k` and `l` are the kinds that the code has read.
module _ (f : Bytes → Bytes → Bool) (p q : Part) {k l : Kind} (hk : k ≡ p.kind) (hl : l ≡ q.kind) where
  pub item_unlike : (k ≡ l → ⊥) → false ≡ same_part f p q
  unfolding same_part
  item_unlike d = rw (← hk, ← hl, kind_differs k l d)

  pub item_nested : k ≡ l → k ≡ Container → (r : Bool) → r ≡ f p.bytes q.bytes → r ≡ same_part f p q
  unfolding same_part same_payload
  item_nested e n r h = rw (← hk, ← hl, kind_same k l e, n) h

  pub item_other : k ≡ l → (k ≡ Container → ⊥) → (r : Bool) → r ≡ same_bytes p.bytes q.bytes → r ≡ same_part f p q
  unfolding same_part
  item_other e n r h = rw (← hk, ← hl, kind_same k l e, payload_other f k p.bytes q.bytes n) h

-- Items in turn: `whole` is the answer for all of them, and for those that are left.
pub record ItemsLeft (f : Bytes → Bytes → Bool) (whole : Bool) (ps qs : List Part) : Type 0 where
  pub level : length ps ≡ length qs
  pub is : whole ≡ same_parts f ps qs

parts_length : (s : Bytes) (i p n : ℕ) → length (parts_at s i p n) ≡ n
unfolding parts_at
parts_length s i p zero = refl
parts_length s i p (suc n) = rw (parts_length s (i + 1) _ n)

pub items_start : (f : Bytes → Bytes → Bool) (a b : Bytes) (n : ℕ)
    → ItemsLeft f (same_parts f (parts_of a n) (parts_of b n)) (map part_shown (placed_at a (start_of n) n)) (map part_shown (placed_at b (start_of n) n))
items_start f a b n =
    rw (parts_left a (first_part n) n, parts_left b (first_part n) n)
    (record { level = parts_length a 0 (start_of n) n ∙ sym (parts_length b 0 (start_of n) n); is = refl })

module _ {f : Bytes → Bytes → Bool} {whole : Bool} {ps qs : List Part} (inv : ItemsLeft f whole ps qs) where
  module _ {p q : Part} {ps' qs' : List Part} (hp : ps ≡ p ∷ ps') (hq : qs ≡ q ∷ qs') (g : Bool) (hg : g ≡ same_part f p q) where
    items_turn : whole ≡ (g && same_parts f ps' qs')
    unfolding same_parts
    items_turn = inv.is ∙ rw (hp, hq, hg)

    pub items_stop : g ≡ false → false ≡ whole
    items_stop t = rw (items_turn, t)

    pub items_more : g ≡ true → ItemsLeft f whole ps' qs'
    items_more t = record {
      level = omega (arith, inv.level, ap length hp, ap length hq);
      is = items_turn ∙ rw t;
    }

  pub items_end : (ps ≡ []) ⊎ (qs ≡ []) → true ≡ whole
  unfolding same_parts
  items_end h = go ps qs inv.level inv.is h
    where
      go : (us vs : List Part) → length us ≡ length vs → whole ≡ same_parts f us vs → (us ≡ []) ⊎ (vs ≡ []) → true ≡ whole
      go [] [] l e h = sym e
      go [] (y ∷ vs) l e h = absurd (omega (arith, l))
      go (x ∷ us) [] l e h = absurd (omega (arith, l))
      go (x ∷ us) (y ∷ vs) l e (inl h) = cc
      go (x ∷ us) (y ∷ vs) l e (inr h) = cc

-- Two members.
module _ (f : Bytes → Bytes → Bool) (m n : Member) (g : Bool) (hg : g ≡ same_bytes m.name n.name) where
  pub like_not : g ≡ false → g ≡ like f m n
  unfolding like
  like_not t = rw (← hg, t)

  pub like_by : (r : Bool) → g ≡ true → r ≡ same_part f m.value n.value → r ≡ like f m n
  unfolding like
  like_by r t h = rw (← hg, t) h

-- Counting, up to a limit. A test counts as 0 or 1.
bit : (g : Bool) → bool_byte g ≡ cond g 1 0
bit true = refl
bit false = refl

pub bit_most : (g : Bool) → bool_byte g ≤ 1
bit_most true = omega arith
bit_most false = omega arith

likes_most : (f : Bytes → Bytes → Bool) (x : Member) (ms : List Member) → likes f x ms ≤ length ms
unfolding likes
likes_most f x [] = omega arith
likes_most f x (m ∷ ms) = omega (arith, likes_most f x ms, bit (like f x m), bit_most (like f x m))

-- What is counted of all members is `count` and what is counted of those that are left.
pub record Counting (f : Bytes → Bytes → Bool) (x : Member) (limit whole count : ℕ) (ms : List Member) : Type 0 where
  pub most : count ≤ limit
  pub is : min limit whole ≡ min limit (count + likes f x ms)

pub count_start : (f : Bytes → Bytes → Bool) (x : Member) (limit : ℕ) (ms : List Member) → Counting f x limit (likes f x ms) 0 ms
count_start f x limit ms = record { most = omega arith; is = omega arith }

module _ {f : Bytes → Bytes → Bool} {x : Member} {limit whole count : ℕ} {ms : List Member} (inv : Counting f x limit whole count ms) where
  pub count_full : count ≡ limit → count ≡ min limit whole
  count_full e = omega (arith, inv.is)

  pub count_end : ms ≡ [] → count ≡ min limit whole
  unfolding likes
  count_end e = omega (arith, inv.is, inv.most, ap (likes f x) e)

  pub count_more : (m : Member) (ns : List Member) → ms ≡ m ∷ ns → (count ≡ limit → ⊥) → (g : Bool) → g ≡ like f x m
      → Counting f x limit whole (count + bool_byte g) ns
  unfolding likes
  count_more m ns e more g hg =
      let s = ap (likes f x) e in
      record { most = omega (arith, inv.most, bit_most g); is = rw (bit g, hg) (omega (arith, inv.is)) }

-- Members in turn: of those like one, `left` stand behind it, and `found` were counted in the other object.
members_length : (s : Bytes) (m : PairAt) (k : ℕ) → length (members_from s m k) ≡ k
unfolding members_from
members_length s m zero = refl
members_length s m (suc k) = rw (members_length s (next s m) k)

-- `whole` is the answer for all of them, and for those that are left, which are at most as many as all.
pub record MembersLeft (f : Bytes → Bytes → Bool) (whole : Bool) (all : ℕ) (ms ns : List Member) : Type 0 where
  pub most : length ms ≤ all
  pub is : whole ≡ same_members f ms ns

pub members_start : (f : Bytes → Bytes → Bool) (s : Bytes) (n : ℕ) (ns : List Member)
    → MembersLeft f (same_members f (members s n) ns) n (members s n) ns
members_start f s n ns = record { most = omega (arith, members_length s (first s n) n); is = refl }

module _ {f : Bytes → Bytes → Bool} {whole : Bool} {all : ℕ} {ms ns : List Member} (inv : MembersLeft f whole all ms ns) where
  pub members_end : ms ≡ [] → true ≡ whole
  unfolding same_members
  members_end e = sym (inv.is ∙ rw e)

  module _ (m : Member) (rest : List Member) (hm : ms ≡ m ∷ rest) (left found : ℕ) (hl : left ≡ min all (likes f m rest)) where
    behind_all : left ≡ likes f m rest
    behind_all = omega (arith, hl, inv.most, ap length hm, likes_most f m rest)

    module _ (hf : found ≡ min (left + 1) (likes f m ns)) where
      members_turn : (t : Bool) → t ≡ ltb left (likes f m ns) → whole ≡ (t && same_members f rest ns)
      unfolding same_members
      members_turn t h = inv.is ∙ rw (hm, ← behind_all, ← h)

      pub members_stop : found ≤ left → false ≡ whole
      members_stop l =
          let few : likes f m ns ≤ left = omega (arith, hf) in
          sym (members_turn false (sym (le-ltb left (likes f m ns) few)))

      pub members_more : left < found → MembersLeft f whole all rest ns
      members_more l =
          let many : left < likes f m ns = omega (arith, hf) in
          record {
            most = omega (arith, inv.most, ap length hm);
            is = members_turn true (sym (lt-ltb left (likes f m ns) many));
          }

-- A record.
pub same_none : (k : ℕ) (a b : Bytes) → k ≡ 0 → false ≡ same_at k a b
unfolding same_at
same_none k a b z = rw z

same_some : (k : ℕ) (a b : Bytes) (w v : ℕ) → (k ≡ 0 → ⊥) → w ≡ word_at a 0 → v ≡ word_at b 0
    → same_at k a b ≡ (eqb w v && same_by (same_at (k - 1)) (header a) a b)
unfolding same_at
same_some zero a b w v z hw hv = absurd (z refl)
same_some (suc k) a b w v z hw hv = let e : suc k - 1 ≡ k = omega arith in rw (e, hw, hv)

pub same_unlike : (k : ℕ) (a b : Bytes) (w v : ℕ) → (k ≡ 0 → ⊥) → w ≡ word_at a 0 → v ≡ word_at b 0 → (w ≡ v → ⊥) → false ≡ same_at k a b
same_unlike k a b w v z hw hv n = rw (same_some k a b w v z hw hv, ne_eqb w v n)

-- Levels are left, both records have one header, and it was read.
pub record Headed (k : ℕ) (a b : Bytes) (h : Result Header Refusal) : Type 0 where
  pub some : k ≡ 0 → ⊥
  pub one : word_at a 0 ≡ word_at b 0
  pub read : h ≡ header a

pub headed_by : (k : ℕ) (a b : Bytes) (w v : ℕ) (h : Result Header Refusal) → (k ≡ 0 → ⊥) → w ≡ word_at a 0 → v ≡ word_at b 0 → w ≡ v → h ≡ header a
    → Headed k a b h
headed_by k a b w v h z hw hv e hh = record { some = z; one = sym hw ∙ e ∙ hv; read = hh }

module _ {k : ℕ} {a b : Bytes} {h : Result Header Refusal} (d : Headed k a b h) where
  same_headed : (r : Bool) (x : Result Header Refusal) → h ≡ x → r ≡ same_by (same_at (k - 1)) x a b → r ≡ same_at k a b
  same_headed r x q t =
      rw (same_some k a b _ _ d.some refl refl, eq-eqb (word_at a 0) (word_at b 0) d.one, ← d.read, q) t

  pub same_refused : (r : Refusal) → h ≡ Err r → false ≡ same_at k a b
  same_refused r q = same_headed false (Err r) q refl

  module _ (n : ℕ) (g : Bool) where
    pub same_scalar : h ≡ Ok (Scalar n) → g ≡ same_parts (same_at (k - 1)) (parts_at a 0 8 1) (parts_at b 0 8 1) → g ≡ same_at k a b
    same_scalar q t = same_headed g (Ok (Scalar n)) q t

    pub same_array : h ≡ Ok (Array n) → g ≡ same_parts (same_at (k - 1)) (parts_of a n) (parts_of b n)
        → g ≡ same_at k a b
    same_array q t = same_headed g (Ok (Array n)) q t

    pub same_object : h ≡ Ok (Object n) → g ≡ same_members (same_at (k - 1)) (members a n) (members b n) → g ≡ same_at k a b
    same_object q t = same_headed g (Ok (Object n)) q t
