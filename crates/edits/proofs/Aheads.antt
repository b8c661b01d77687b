-- The members of an object taken one by one: whether they are taken as they stand or searched for, each is the next one in byte
-- order.
use Prim.Native.Nat.{ℕ}
use native.Mathlib.Nat.{sub-zero}
use native.Mathlib.Omega.{arith}
use mathlib.Core.Path.{◌≡◌, refl, ap, sym, ◌∙◌}
use mathlib.Core.Logic.{inl, inr}
use mathlib.Core.Bool.{Bool, true, false}
use mathlib.Core.List.{List, [], ◌∷◌, ◌++◌, append_assoc}
use Rattle.layout.specs.Bytes.{Bytes}
use Rattle.layout.specs.Tree.{Members, empty, member, names}
use Rattle.layout.specs.Order.{order}
use Rattle.layout.specs.Sound.{Rising}
use Rattle.std.specs.declared.cmp.Ordering.TheVariants.{Less}
use Rattle.layout.proofs.Values.{In, rising_tail, rising_all}
use Rattle.layout.specs.Parts.{name_in, members_at}
use Rattle.builders.specs.Search.{kept_of, Bound, over, least}
use Rattle.builders.specs.declared.search.Kept.{Kept}
use Rattle.layout.specs.declared.parts.MemberAt.{MemberAt}
use Rattle.builders.proofs.Orderings.{order_less}
use Rattle.builders.proofs.Searches.{Above, Ascending, Passed, least_append, least_passed, least_first, passed_later, over_less, over_itself, ascending_kept}
use Rattle.builders.proofs.Stands.{Stand}
use Rattle.layout.specs.Parts.{members_of}
use Rattle.layout.specs.Table.{nth_member}
use Rattle.layout.proofs.Carries.{object_start}
use Rattle.edits.specs.Members.{all_ahead, kept_ahead, Near, CarriedAhead, Standing, Searching, Next}
use Rattle.edits.specs.declared.members.Ahead.{Ahead}
use Rattle.edits.proofs.Tables.{object_rises}
use Rattle.edits.proofs.Sorteds.{ObjectAt}
use Rattle.edits.proofs.Choices.{Below, search_later}
use Rattle.std.specs.Prelude.{Some, None, Option}

abbrev pub found_of : Option (MemberAt × Ahead) → Option MemberAt
found_of None = None
found_of (Some (m, a)) = Some m

-- All that are kept of an object of `n` members.
abbrev pub searched : Bytes → ℕ → Kept → List MemberAt
searched s n kept = kept_of kept 0 (members_at s s (members_of s n) n)

-- Where names rise: those behind the bound were taken or passed, those ahead are above it and rise.
pub record Rest (s : Bytes) (n : ℕ) (kept : Kept) (last : Bound) (a : Ahead) : Type 0 where
  pub gone : List MemberAt
  pub split : searched s n kept ≡ gone ++ kept_ahead s kept a
  pub passed : Passed (name_in s) last gone
  pub above : (m : MemberAt) (ms : List MemberAt) → kept_ahead s kept a ≡ m ∷ ms → over last (name_in s m) ≡ true
  pub rising : Ascending (name_in s) (kept_ahead s kept a)

-- What is ahead behind a bound.
pub record AheadOf (s : Bytes) (n : ℕ) (kept : Kept) (last : Bound) (a : Ahead) : Type 0 where
  pub near : Near a
  pub all : a.is_rising ≡ false → a ≡ all_ahead s n
  pub rest : a.is_rising ≡ true → Rest s n kept last a
  pub carried : a.at ≡ nth_member s n a.index

-- What `next_in_order` asks of it.
abbrev pub Ready : Ahead → Type 0
Ready a = Near a × (a.is_rising ≡ false → a.index ≡ 0)

pub ahead_ready : (s : Bytes) (n : ℕ) (kept : Kept) (last : Bound) (a : Ahead) → AheadOf s n kept last a → Ready a
ahead_ready s n kept last a h = (h.near, λ f. ap (λ (x : Ahead). x.index) (h.all f))

-- Names that rise, by the members that stand for them.
stand_above : (s : Bytes) (value : MemberAt → Bytes) (entry : MemberAt → ℕ) (x : MemberAt) (xs : List MemberAt) (ms : Members)
    → Stand (name_in s) value entry xs ms → ((k : Bytes) → In k (names ms) → order (name_in s x) k ≡ Less) → Above (name_in s) x xs
stand_above s value entry x [] ms h f = tt
stand_above s value entry x (y ∷ ys) empty h f = absurd h
stand_above s value entry x (y ∷ ys) (member k t ms) h f =
    (rw h.0.2 (f k (inl refl)), stand_above s value entry x ys ms h.1 (λ j i. f j (inr i)))

stand_ascending : (s : Bytes) (value : MemberAt → Bytes) (entry : MemberAt → ℕ) (xs : List MemberAt) (ms : Members)
    → Stand (name_in s) value entry xs ms → Rising (names ms) → Ascending (name_in s) xs
stand_ascending s value entry [] ms h r = tt
stand_ascending s value entry (x ∷ xs) empty h r = absurd h
stand_ascending s value entry (x ∷ xs) (member k t ms) h r = (
  stand_above s value entry x xs ms h.1 (λ j i. rw h.0.2 (order_less k j (rising_all k (names ms) r j i))),
  stand_ascending s value entry xs ms h.1 (rising_tail k (names ms) r),
)

pub all_is : (s : Bytes) (n : ℕ) (kept : Kept) → kept_ahead s kept (all_ahead s n) ≡ searched s n kept
all_is s n kept = rw (sub-zero n)

-- At first all is ahead.
pub ahead_starts : (s : Bytes) (n : ℕ) (kept : Kept) → ObjectAt s n → AheadOf s n kept None (all_ahead s n)
unfolding over
ahead_starts s n kept w =
    record {
      near =
          record {
            few = omega (arith, w.table, w.short);
            inside = omega arith;
            key_jentry = omega arith;
            val_jentry = omega (arith, w.table, w.short);
            key = omega (arith, w.table, w.short);
            val = omega (arith, w.values, w.short);
          };
      all = λ f. refl;
      rest = λ t.
          record {
            gone = [];
            split = sym (all_is s n kept);
            passed = tt;
            above = λ m ms e. refl;
            rising =
                rw (all_is s n kept)
                (ascending_kept (name_in s) kept 0 (members_at s s (members_of s n) n)
                (stand_ascending s _ _ (members_at s s (members_of s n) n) w.members w.stand (object_rises w.members s n w.bytes w.short w.count t)));
          };
      carried = object_start s n;
    }

module _ (s : Bytes) (n : ℕ) (kept : Kept) (last : Bound) (a : Ahead) (h : AheadOf s n kept last a) where
  -- The first of those ahead, where they rise.
  first_rest : (ms : List MemberAt) (m : MemberAt) (r : Rest s n kept last a) → kept_ahead s kept a ≡ m ∷ ms
      → least (name_in s) last None (searched s n kept) ≡ Some m
  first_rest ms m r e =
      let q : Ascending (name_in s) (m ∷ ms) = rw e at r.rising in
      ap (least (name_in s) last None) (r.split ∙ ap (λ (l : List MemberAt). r.gone ++ l) e)
      ∙ least_append (name_in s) last None r.gone (m ∷ ms)
      ∙ ap (λ (f : Option MemberAt). least (name_in s) last f (m ∷ ms)) (least_passed (name_in s) last None r.gone r.passed)
      ∙ least_first (name_in s) last m ms (r.above m ms e) q.0

  none_rest : (r : Rest s n kept last a) → kept_ahead s kept a ≡ [] → least (name_in s) last None (searched s n kept) ≡ None
  unfolding least
  none_rest r e =
      ap (least (name_in s) last None) (r.split ∙ ap (λ (l : List MemberAt). r.gone ++ l) e)
      ∙ least_append (name_in s) last None r.gone []
      ∙ least_passed (name_in s) last None r.gone r.passed

  stands_is : (r : Option (MemberAt × Ahead)) → Rest s n kept last a → Standing s kept a r → found_of r ≡ least (name_in s) last None (searched s n kept)
  stands_is None g e = sym (none_rest g e)
  stands_is (Some (m, b)) g e = sym (first_rest (kept_ahead s kept b) m g e.0)

  searched_is : (r : Option (MemberAt × Ahead)) → a ≡ all_ahead s n → Searching s kept last a r → found_of r ≡ least (name_in s) last None (searched s n kept)
  searched_is None q e = sym e ∙ ap (λ (x : Ahead). least (name_in s) last None (kept_ahead s kept x)) q ∙ ap (least (name_in s) last None) (all_is s n kept)
  searched_is (Some (m, b)) q e = sym e.0 ∙ ap (λ (x : Ahead). least (name_in s) last None (kept_ahead s kept x)) q ∙ ap (least (name_in s) last None) (all_is s n kept)

  -- The next member, as the search over all would find it.
  pub next_is : (r : Option (MemberAt × Ahead)) → Next s kept last a r → found_of r ≡ least (name_in s) last None (searched s n kept)
  next_is r e = go a.is_rising refl
    where
      go : (g : Bool) → a.is_rising ≡ g → found_of r ≡ least (name_in s) last None (searched s n kept)
      go true q = stands_is r (h.rest q) (e.stands q)
      go false q = searched_is r (h.all q) (e.searched q)

  module _ (m : MemberAt) (b : Ahead) (e : Next s kept last a (Some (m, b))) where
    -- What is then ahead is above it.
    pub ahead_taken : over last (name_in s m) ≡ true → AheadOf s n kept (Some (name_in s m)) b
    ahead_taken o = go a.is_rising refl
      where
        rising : a.is_rising ≡ true → AheadOf s n kept (Some (name_in s m)) b
        rising q =
            let g = h.rest q in
            let st = e.stands q in
            let up : Ascending (name_in s) (m ∷ kept_ahead s kept b) = rw st.0 at g.rising in
            let bt : b.is_rising ≡ true = st.1 ∙ q in
            record {
              near = st.2;
              all = λ f. let z : true ≡ false = sym bt ∙ f in cc;
              rest = λ t.
                  record {
                    gone = g.gone ++ (m ∷ []);
                    split = g.split ∙ ap (λ (l : List MemberAt). g.gone ++ l) st.0 ∙ sym (append_assoc g.gone (m ∷ []) (kept_ahead s kept b));
                    passed = passed_and g.gone (passed_later (name_in s) last (name_in s m) g.gone o g.passed);
                    above = λ k ks z. let w : Above (name_in s) m (k ∷ ks) = rw z at up.0 in over_less (name_in s) (name_in s m) (name_in s k) w.0;
                    rising = up.1;
                  };
              carried = st.3 n h.carried;
            }
          where
            passed_and : (xs : List MemberAt) → Passed (name_in s) (Some (name_in s m)) xs → Passed (name_in s) (Some (name_in s m)) (xs ++ (m ∷ []))
            passed_and [] p = (over_itself (name_in s) (name_in s m), tt)
            passed_and (x ∷ xs) p = (p.0, passed_and xs p.1)

        go : (g : Bool) → a.is_rising ≡ g → AheadOf s n kept (Some (name_in s m)) b
        go true q = rising q
        go false q =
            let z : b ≡ a = (e.searched q).1 in
            rw z (record {
              near = h.near;
              all = h.all;
              rest = λ t. let y : true ≡ false = sym t ∙ q in let z : ◌≡◌ {A = ℕ} 0 1 = cc in let w : ⊥ = omega arith in absurd w;
              carried = h.carried;
            })

  -- Where names rise, a member that is left out changes nothing.
  pub ahead_aside : (b : Ahead) → a.is_rising ≡ true → b.is_rising ≡ true → Near b → CarriedAhead s a b
      → kept_ahead s kept a ≡ kept_ahead s kept b → AheadOf s n kept last b
  ahead_aside b ta tb near c e =
      record {
        near = near;
        all = λ f. let z : true ≡ false = sym tb ∙ f in cc;
        rest = λ t.
            record {
              gone = (h.rest ta).gone;
              split = (h.rest ta).split ∙ ap (λ (l : List MemberAt). (h.rest ta).gone ++ l) e;
              passed = (h.rest ta).passed;
              above = λ m ms q. (h.rest ta).above m ms (e ∙ q);
              rising = rw e at (h.rest ta).rising;
            };
        carried = c n h.carried;
      }

  -- A name above the last and below the next, or where there is no next: what is ahead stays, and so does the next.
  abbrev pub below_next : Bytes → Option (MemberAt × Ahead) → Type 0
  below_next x r = Below (name_in s) x (found_of r)

  pub ahead_passed : (r : Option (MemberAt × Ahead)) (x : Bytes) → Next s kept last a r → over last x ≡ true → below_next x r → AheadOf s n kept (Some x) a
  ahead_passed r x e o l =
      record {
        near = h.near;
        all = h.all;
        rest = λ t.
            record {
              gone = (h.rest t).gone;
              split = (h.rest t).split;
              passed = passed_later (name_in s) last x (h.rest t).gone o (h.rest t).passed;
              above = λ m ms q. over_less (name_in s) x (name_in s m) (head r m ms q (e.stands t) l);
              rising = (h.rest t).rising;
            };
        carried = h.carried;
      }
    where
      head : (r : Option (MemberAt × Ahead)) (m : MemberAt) (ms : List MemberAt) → kept_ahead s kept a ≡ m ∷ ms → Standing s kept a r → below_next x r → order x (name_in s m) ≡ Less
      head None m ms q st l = let z : [] ≡ m ∷ ms = sym st ∙ q in let y : ◌≡◌ {A = ℕ} 0 1 = cc in let w : ⊥ = omega arith in absurd w
      head (Some (k, b)) m ms q st l = let z : k ∷ kept_ahead s kept b ≡ m ∷ ms = sym st.0 ∙ q in let y : k ≡ m = cc in rw (← y) l

  pub next_passed : (r : Option (MemberAt × Ahead)) (x : Bytes) → Next s kept last a r → over last x ≡ true → below_next x r → Next s kept (Some x) a r
  next_passed r x e o l = record { stands = e.stands; searched = λ q. still r (e.searched q) l }
    where
      still : (r : Option (MemberAt × Ahead)) → Searching s kept last a r → below_next x r → Searching s kept (Some x) a r
      still None q l = search_later (name_in s) last x o (kept_ahead s kept a) None q l
      still (Some (m, b)) q l = (search_later (name_in s) last x o (kept_ahead s kept a) (Some m) q.0 l, q.1)
