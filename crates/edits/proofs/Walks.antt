-- Members stored as they stand; and two objects whose names rise, walked through side by side: the turns are those of
-- proofs/Merges.antt, with what stands next on each side.
use Rattle.layout.specs.Parts.{rises}
use Prim.Native.Nat.{ℕ, zero, suc, ◌+◌, ◌*◌, ◌-◌, ◌^◌, ◌≤◌, ◌<◌}
use native.Mathlib.Nat.{sub-zero}
use native.Mathlib.Omega.{arith}
use mathlib.Core.Path.{◌≡◌, refl, sym, ap, subst, ◌∙◌}
use mathlib.Core.Bool.{Bool, true, false, cond, ◌&&◌}
use mathlib.Core.List.{List, [], ◌∷◌, ◌++◌}
use lib.Dec.{ltb}
use lib.ListN.{length}
use borrow.Author.Tests.{lt-ltb, le-ltb, ltb-true, ltb-false}
use Rattle.layout.specs.Bytes.{Bytes}
use Rattle.layout.specs.Order.{order}
use Rattle.std.specs.declared.cmp.Ordering.{Ordering}
use Rattle.std.specs.declared.cmp.Ordering.TheVariants.{Less, Equal, Greater}
use Rattle.layout.proofs.Fields.{length_lt}
use Rattle.layout.proofs.Patches.{length_patch}
use Rattle.layout.specs.Table.{CarriedPair}
use Rattle.layout.proofs.Carries.{pair_start, pair_on}
use Rattle.layout.proofs.Places.{and_both}
use Rattle.layout.specs.Parts.{bytes_at, name_in, value_in, member_at, members_from, members_at}
use Rattle.builders.specs.Search.{is_kept, Bound}
use Rattle.builders.specs.Weave.{behind, own_entry, stored, woven, column}
use Rattle.builders.specs.declared.search.Kept.TheVariants.{All}
use Rattle.layout.specs.declared.parts.MemberAt.{MemberAt}
use Rattle.layout.specs.declared.parts.Places.{Places}
use Rattle.builders.proofs.Searches.{length_members, bytes_short}
use Rattle.builders.proofs.Storing.{column_cons, column_none}
use Rattle.layout.specs.Parts.{members_of, behind_member}
use Rattle.edits.specs.Members.{all_ahead, Near, Standing, Next}
use Rattle.edits.specs.Merge.{chosen, merged, behind_members, behind_all}
use Rattle.edits.specs.declared.members.Ahead.{Ahead}
use Rattle.edits.specs.declared.merge.Turn.TheVariants.{Left, Right, Both}
use Rattle.edits.proofs.Sorteds.{ObjectAt}
use Rattle.edits.proofs.Standings.{one_kept, none_left, near_on, carried_ahead, column_short, next_stands}
use Rattle.edits.proofs.Aheads.{ahead_starts}
use Rattle.edits.proofs.Turns.{turn_less, turn_equal, turn_greater}
use Rattle.edits.proofs.Merges.{Merging, merging_starts, merging_within, goes_left, goes_right, goes_both, merging_end}
use Rattle.std.specs.Prelude.{Some, None, Option}

-- The member that stands at some places, and what is stored of it.
abbrev pub member_here : Bytes → Places → MemberAt
member_here s at = member_at s s at.key_jentry at.val_jentry at.key at.val

abbrev pub put_here : Bytes → Bytes → Places → MemberAt → Bytes
put_here s o at m = stored (name_in s) (value_in s) own_entry o at.key_jentry at.val_jentry at.key at.val m

abbrev pub put_each : Bytes → Bytes → Places → List MemberAt → Bytes
put_each s o at ms = woven (name_in s) (value_in s) own_entry o at.key_jentry at.val_jentry at.key at.val ms

-- A member is stored, and the places are those behind it.
abbrev pub IsPut : Bytes → Bytes → Places → MemberAt → Bytes → Places → Type 0
IsPut s o at m o' at' = (at' ≡ behind (name_in s m) (value_in s m) at) × (o' ≡ put_here s o at m)

-- The first of some members, and the rest.
module _ (s : Bytes) (at : Places) where
  pub first_here : (k : ℕ) → members_at s s at (suc k) ≡ member_here s at ∷ members_at s s (behind_member at (member_here s at)) k
  unfolding members_at members_from
  first_here k = refl

  pub none_here : members_at s s at 0 ≡ []
  unfolding members_at members_from
  none_here = refl

-- The places behind them, and what they leave in the buffer.
module _ (s : Bytes) (o : Bytes) (at : Places) where
  pub behind_none : behind_members s [] at ≡ at
  behind_none =
      let a : at.key_jentry + 4 * 0 ≡ at.key_jentry = omega arith in
      let b : at.val_jentry + 4 * 0 ≡ at.val_jentry = omega arith in
      let c : at.key + length (column (name_in s) []) ≡ at.key = omega (arith, column_none (name_in s)) in
      let d : at.val + length (column (value_in s) []) ≡ at.val = omega (arith, column_none (value_in s)) in
      rw (a, b, c, d)

  pub put_none : put_each s o at [] ≡ o
  unfolding woven
  put_none = refl

  module _ (m : MemberAt) (ms : List MemberAt) where
    pub behind_first : behind_members s (m ∷ ms) at ≡ behind_members s ms (behind (name_in s m) (value_in s m) at)
    behind_first =
        let a : at.key_jentry + 4 * length (m ∷ ms) ≡ at.key_jentry + 4 + 4 * length ms = omega arith in
        let b : at.val_jentry + 4 * length (m ∷ ms) ≡ at.val_jentry + 4 + 4 * length ms = omega arith in
        let c : at.key + length (column (name_in s) (m ∷ ms))
        ≡ at.key + length (name_in s m) + length (column (name_in s) ms) =
        omega (arith, column_cons (name_in s) m ms) in
        let d : at.val + length (column (value_in s) (m ∷ ms))
        ≡ at.val + length (value_in s m) + length (column (value_in s) ms) =
        omega (arith, column_cons (value_in s) m ms) in
        rw (a, b, c, d)

    pub put_first : put_each s o at (m ∷ ms) ≡ put_each s (put_here s o at m) (behind (name_in s m) (value_in s m) at) ms
    unfolding woven
    put_first = refl

    pub length_put : length (put_here s o at m) ≡ length o
    length_put = length_patch _ _ _ ∙ length_patch _ _ _ ∙ length_patch _ _ _ ∙ length_patch _ _ _

-- Places that were reached from others over `i` members.
pub record Reached (from : Places) (i : ℕ) (at : Places) : Type 0 where
  pub key_jentry : at.key_jentry ≡ from.key_jentry + 4 * i
  pub val_jentry : at.val_jentry ≡ from.val_jentry + 4 * i
  pub key : at.key ≤ from.key + 2 ^ 28 * i
  pub val : at.val ≤ from.val + 2 ^ 28 * i

-- Places so near that sums with them are right.
abbrev pub Under : ℕ → Places → Type 0
Under b at = (at.key_jentry < b) × (at.val_jentry < b) × (at.key < b) × (at.val < b)

pub under_up : (at : Places) (a b : ℕ) → a ≤ b → Under a at → Under b at
under_up at a b le h = (omega (arith, h.0), omega (arith, h.1), omega (arith, h.2), omega (arith, h.3))

pub reached_none : (from : Places) → Reached from 0 from
reached_none from = record { key_jentry = omega arith; val_jentry = omega arith; key = omega arith; val = omega arith }

module _ (from : Places) (i : ℕ) (at : Places) (h : Reached from i at) where
  pub reached_member : (m : MemberAt) → Reached from (i + 1) (behind_member at m)
  reached_member m =
      record {
        key_jentry = omega (arith, h.key_jentry);
        val_jentry = omega (arith, h.val_jentry);
        key = omega (arith, h.key, length_lt m.key.jentry);
        val = omega (arith, h.val, length_lt m.val.jentry);
      }

  pub reached_stored : (s : Bytes) (m : MemberAt) → Reached from (i + 1) (behind (name_in s m) (value_in s m) at)
  reached_stored s m =
      record {
        key_jentry = omega (arith, h.key_jentry);
        val_jentry = omega (arith, h.val_jentry);
        key = omega (arith, h.key, bytes_short s m.key);
        val = omega (arith, h.val, bytes_short s m.val);
      }

  pub reached_near : i < 2 ^ 29 → Under (2 ^ 59) from → Under (2 ^ 60) at
  reached_near f b = (
    omega (arith, h.key_jentry, b.0),
    omega (arith, h.val_jentry, b.1),
    omega (arith, h.key, b.2),
    omega (arith, h.val, b.3),
  )

-- The loop of put_standing: `i` of the members that stand are stored, and the rest is to come.
module _ (s : Bytes) (count : ℕ) (o : Bytes) (from to : Places) where
  pub record Putting (out : Bytes) (here at : Places) (i : ℕ) : Type 0 where
    pub inside : i ≤ count
    pub read : Reached from i here
    pub written : Reached to i at
    pub behind_rest : behind_members s (members_at s s from count) to ≡ behind_members s (members_at s s here (count - i)) at
    pub run : put_each s o to (members_at s s from count) ≡ put_each s out at (members_at s s here (count - i))
    pub as_long : length out ≡ length o
    pub carried : CarriedPair s s from i here

  pub putting_starts : Putting o from to 0
  putting_starts =
      record {
        inside = omega arith;
        read = reached_none from;
        written = reached_none to;
        behind_rest = rw (sub-zero count);
        run = rw (sub-zero count);
        as_long = refl;
        carried = pair_start s s from;
      }

  module _ (out : Bytes) (here at : Places) (i : ℕ) (h : Putting out here at i) where
    pub putting_goes : i < count → (m : MemberAt) (out' : Bytes) (here' at' : Places) → m ≡ member_here s here
        → IsPut s out at m out' at' → here' ≡ behind_member here m
        → Putting out' here' at' (i + 1)
    putting_goes lt m out' here' at' em p eh =
        let q : count - i ≡ suc (count - (i + 1)) = omega arith in
        let rest : List MemberAt = members_at s s (behind_member here m) (count - (i + 1)) in
        let cut : members_at s s here (count - i) ≡ m ∷ members_at s s (behind_member here m) (count - (i + 1)) =
        rw (q, em) (first_here s here (count - (i + 1))) in
        rw (eh, p.0, p.1)
        (record {
          inside = omega arith;
          read = reached_member from i here h.read m;
          written = reached_stored to i at h.written s m;
          behind_rest = h.behind_rest ∙ ap (λ (ms : List MemberAt). behind_members s ms at) cut ∙ behind_first s out at m rest;
          run = h.run ∙ ap (put_each s out at) cut ∙ put_first s out at m rest;
          as_long = length_put s out at m [] ∙ h.as_long;
          carried = pair_on s s from here (behind_member here m) i m h.carried em refl;
        })

    pub putting_ends : count ≤ i
        → (at ≡ behind_members s (members_at s s from count) to) × (out ≡ put_each s o to (members_at s s from count))
    putting_ends le =
        let q : count - i ≡ 0 = omega arith in
        let none : members_at s s here (count - i) ≡ [] = rw q (none_here s here) in (
          sym (h.behind_rest ∙ ap (λ (ms : List MemberAt). behind_members s ms at) none ∙ behind_none s out at),
          sym (h.run ∙ ap (put_each s out at) none ∙ put_none s out at),
        )

-- What holds member by member holds behind all that stand.
module _ (s : Bytes) (n : ℕ) (During : Bytes → Places → Places → ℕ → Type 0) (After : Bytes → Places → Type 0)
    (goes : (out : Bytes) (here at : Places) (i : ℕ) → i < n → During out here at i
    → During (put_here s out at (member_here s here)) (behind_member here (member_here s here))
    (behind (name_in s (member_here s here)) (value_in s (member_here s here)) at) (i + 1))
    (ends : (out : Bytes) (here at : Places) (i : ℕ) → n ≤ i → During out here at i → After out at) where
  pub standing_runs : (k : ℕ) (out : Bytes) (here at : Places) (i : ℕ) → n - i ≡ k → During out here at i
      → After (put_each s out at (members_at s s here k)) (behind_members s (members_at s s here k) at)
  standing_runs zero out here at i e h =
      rw (none_here s here, put_none s out at, behind_none s out at) (ends out here at i (omega arith) h)
  standing_runs (suc k) out here at i e h =
      let m : MemberAt = member_here s here in
      let rest : List MemberAt = members_at s s (behind_member here m) k in
      rw (first_here s here k, put_first s out at m rest, behind_first s out at m rest)
      (standing_runs k (put_here s out at m) (behind_member here m) (behind (name_in s m) (value_in s m) at) (i + 1) (omega arith)
      (goes out here at i (omega arith) h))

-- What stands next on a side, and what is then ahead.
abbrev pub standing_at : Places → ℕ → ℕ → Ahead
standing_at at i n = record { at = at; index = i; count = n; is_rising = true }

unfoldable pub standing_member : Bytes → Places → ℕ → ℕ → Option (MemberAt × Ahead)
standing_member s at i n =
    cond (ltb i n) (Some ((member_here s at), (standing_at (behind_member at (member_here s at)) (i + 1) n))) None

module _ (s : Bytes) (at : Places) (i n : ℕ) where
  taken_more : (m : MemberAt) → m ≡ member_here s at → i < n
      → standing_member s at i n ≡ Some (m, (standing_at (behind_member at m) (i + 1) n))
  unfolding standing_member
  taken_more m e h = rw (lt-ltb i n h, e)

  taken_none : n ≤ i → standing_member s at i n ≡ None
  unfolding standing_member
  taken_none h = rw (le-ltb i n h)

  module _ (h : Near (standing_at at i n)) where
    pub near_behind : (m : MemberAt) → i < n → Near (standing_at (behind_member at m) (i + 1) n)
    near_behind m lt = near_on (standing_at at i n) m _ h lt refl

    pub near_under : Under (2 ^ 58) at
    near_under = (
      omega (arith, h.key_jentry, h.inside, h.few),
      omega (arith, h.val_jentry, h.inside, h.few),
      omega (arith, h.key, h.inside, h.few),
      omega (arith, h.val, h.inside, h.few),
    )

    stands_at : Standing s All (standing_at at i n) (standing_member s at i n)
    unfolding standing_member is_kept
    stands_at = go (ltb i n) refl
      where
        go : (b : Bool) → ltb i n ≡ b
            → Standing s All (standing_at at i n)
            (cond b (Some ((member_here s at), (standing_at (behind_member at (member_here s at)) (i + 1) n))) None)
        go true q =
            let lt : i < n = ltb-true i n q in (
              one_kept s All (standing_at at i n) lt (member_here s at) refl _ refl true refl refl,
              refl,
              near_behind (member_here s at) lt,
              carried_ahead s (standing_at at i n) (standing_at at i n) (member_here s at) _ (λ n e. e) refl refl,
            )
        go false q = none_left s All (standing_at at i n) (ltb-false i n q)

    next_at : (b : Bound) → Next s All b (standing_at at i n) (standing_member s at i n)
    next_at b = next_stands s All b (standing_at at i n) (standing_member s at i n) refl stands_at

-- There is a next one on both sides.
pub both_more : (i m j n : ℕ) → (ltb i m && ltb j n) ≡ true → (i < m) × (j < n)
both_more i m j n t = let w = and_both (ltb i m) (ltb j n) t in (ltb-true i m w.0, ltb-true j n w.1)

-- The loop of put_rising: `i` members of the left and `j` of the right are stored or passed over.
module _ (l : Bytes) (m : ℕ) (r : Bytes) (n : ℕ) (o : Bytes) (to : Places) where
  pub record Walking (out : Bytes) (x y at : Places) (i j : ℕ) : Type 0 where
    pub done : ℕ
    pub few : done ≤ i + j
    pub left_near : Near (standing_at x i m)
    pub right_near : Near (standing_at y j n)
    pub merging : Merging l m r n o to out (standing_member l x i m) (standing_member r y j n) at done

  pub walking_starts : ObjectAt l m × ObjectAt r n → rises l m ≡ true → rises r n ≡ true
      → (x y : Places) → x ≡ members_of l m → y ≡ members_of r n → Walking o x y to 0 0
  walking_starts w hl hr x y ex ey =
      let el : standing_at (members_of l m) 0 m ≡ all_ahead l m = rw hl in
      let er : standing_at (members_of r n) 0 n ≡ all_ahead r n = rw hr in
      let nl : Near (standing_at (members_of l m) 0 m) = subst Near (sym el) (ahead_starts l m All w.0).near in
      let nr : Near (standing_at (members_of r n) 0 n) = subst Near (sym er) (ahead_starts r n All w.1).near in
      rw (ex, ey)
      (record {
        done = 0;
        few = omega arith;
        left_near = nl;
        right_near = nr;
        merging =
            merging_starts l m r n o to w.0 w.1 (standing_at (members_of l m) 0 m) (standing_at (members_of r n) 0 n) el er
            (standing_member l (members_of l m) 0 m) (standing_member r (members_of r n) 0 n) (next_at l (members_of l m) 0 m nl None)
            (next_at r (members_of r n) 0 n nr None);
      })

  module _ (out : Bytes) (x y at : Places) (i j : ℕ) (h : Walking out x y at i j) where
    pub walking_near : m + n ≤ 16384 → Under (2 ^ 32) to → Under (2 ^ 48) at
    walking_near f w =
        merging_within l m r n o to out (standing_member l x i m) (standing_member r y j n) at h.done h.merging
        (omega (arith, h.few, h.left_near.inside, h.right_near.inside)) f w

    -- A member is stored, and its side is behind it; of equal names both sides are.
    left_on : (w : MemberAt) → i < m
        → Some (Left w (standing_at (behind_member x w) (i + 1) m)) ≡ chosen l r (standing_member l x i m) (standing_member r y j n)
        → Walking (put_here l out at w) (behind_member x w) y (behind (name_in l w) (value_in l w) at) (i + 1) j
    left_on w lt e =
        let near = near_behind l x i m h.left_near w lt in
        record {
          done = h.done + 1;
          few = omega (arith, h.few);
          left_near = near;
          right_near = h.right_near;
          merging =
              goes_left l m r n o to out (standing_member l x i m) (standing_member r y j n) at h.done h.merging _ e w _ _ _ _ _ _
              refl refl (name_in l w)
              (standing_at (behind_member x w) (i + 1) m) (standing_member l (behind_member x w) (i + 1) m) refl refl (refl, refl)
              (next_at l (behind_member x w) (i + 1) m near (Some (name_in l w))) refl refl;
        }

    right_on : (w : MemberAt) → j < n
        → Some (Right w (standing_at (behind_member y w) (j + 1) n)) ≡ chosen l r (standing_member l x i m) (standing_member r y j n)
        → Walking (put_here r out at w) x (behind_member y w) (behind (name_in r w) (value_in r w) at) i (j + 1)
    right_on w lt e =
        let near = near_behind r y j n h.right_near w lt in
        record {
          done = h.done + 1;
          few = omega (arith, h.few);
          left_near = h.left_near;
          right_near = near;
          merging =
              goes_right l m r n o to out (standing_member l x i m) (standing_member r y j n) at h.done h.merging _ e w _ _ _ _ _ _
              refl refl (name_in r w)
              (standing_at (behind_member y w) (j + 1) n) (standing_member r (behind_member y w) (j + 1) n) refl refl (refl, refl)
              (next_at r (behind_member y w) (j + 1) n near (Some (name_in r w))) refl refl;
        }

    both_on : (v w : MemberAt) → i < m → j < n
        → Some (Both w (standing_at (behind_member x v) (i + 1) m) (standing_at (behind_member y w) (j + 1) n))
        ≡ chosen l r (standing_member l x i m) (standing_member r y j n)
        → Walking (put_here r out at w) (behind_member x v) (behind_member y w)
        (behind (name_in r w) (value_in r w) at) (i + 1) (j + 1)
    both_on v w lt lt' e =
        let nl = near_behind l x i m h.left_near v lt in
        let nr = near_behind r y j n h.right_near w lt' in
        record {
          done = h.done + 1;
          few = omega (arith, h.few);
          left_near = nl;
          right_near = nr;
          merging =
              goes_both l m r n o to out (standing_member l x i m) (standing_member r y j n) at h.done h.merging _ e w _ _ _ _ _ _
              refl refl (name_in r w)
              (standing_at (behind_member x v) (i + 1) m) (standing_at (behind_member y w) (j + 1) n)
              (standing_member l (behind_member x v) (i + 1) m) (standing_member r (behind_member y w) (j + 1) n) refl refl (refl, refl)
              (next_at l (behind_member x v) (i + 1) m nl (Some (name_in r w)))
              (next_at r (behind_member y w) (j + 1) n nr (Some (name_in r w))) refl refl;
        }

    -- In the code's terms, by how the two names compare.
    module _ (lt : i < m) (lt' : j < n) (v w : MemberAt) (ev : v ≡ member_here l x) (ew : w ≡ member_here r y)
        (p q : Bytes) (c : Ordering) (ep : p ≡ bytes_at l v.key) (eq : q ≡ bytes_at r w.key) (ec : c ≡ order p q)
        (out' : Bytes) (at' : Places) where
      pub walks_left : (x' : Places) → c ≡ Less → IsPut l out at v out' at'
          → x' ≡ behind_member x v → Walking out' x' y at' (i + 1) j
      walks_left x' e s ex =
          rw (s.0, s.1, ex)
          (left_on v lt
          (turn_less l r _ _ v w _ _ (taken_more l x i m v ev lt) (taken_more r y j n w ew lt') p q c ep eq ec e))

      pub walks_both : (x' y' : Places) → c ≡ Equal → IsPut r out at w out' at'
          → x' ≡ behind_member x v → y' ≡ behind_member y w → Walking out' x' y' at' (i + 1) (j + 1)
      walks_both x' y' e s ex ey =
          rw (s.0, s.1, ex, ey)
          (both_on v w lt lt'
          (turn_equal l r _ _ v w _ _ (taken_more l x i m v ev lt) (taken_more r y j n w ew lt') p q c ep eq ec e))

      pub walks_right : (y' : Places) → c ≡ Greater → IsPut r out at w out' at'
          → y' ≡ behind_member y w → Walking out' x y' at' i (j + 1)
      walks_right y' e s ey =
          rw (s.0, s.1, ey)
          (right_on w lt'
          (turn_greater l r _ _ v w _ _ (taken_more l x i m v ev lt) (taken_more r y j n w ew lt') p q c ep eq ec e))

  -- Both sides are at their ends: all is stored.
  abbrev pub AllPut : Bytes → Places → Type 0
  AllPut out at = (at ≡ behind_all l m r n to) × (out ≡ put_each (r ++ l) o to (merged l m r n))

  walking_ends : (out : Bytes) (x y at : Places) (i j : ℕ) → m ≤ i → n ≤ j → Walking out x y at i j → AllPut out at
  walking_ends out x y at i j le le' h =
      merging_end l m r n o to out (standing_member l x i m) (standing_member r y j n) at h.done h.merging None
      (rw (taken_none l x i m le, taken_none r y j n le')) refl

  -- Where one side is at its end, the rest of the other is stored as it stands.
  module _ (out : Bytes) (x y at : Places) (i j : ℕ) (h : Walking out x y at i j) where
    left_rest : n ≤ j → AllPut (put_each l out at (members_at l l x (m - i))) (behind_members l (members_at l l x (m - i)) at)
    left_rest le =
        standing_runs l m (λ (b : Bytes) (here to : Places) (k : ℕ). Walking b here y to k j) AllPut
        (λ b here to k lt w. left_on b here y to k j w (member_here l here) lt
        (rw (taken_more l here k m (member_here l here) refl lt, taken_none r y j n le)))
        (λ b here to k le' w. walking_ends b here y to k j le' le w)
        (m - i) out x at i refl h

    right_rest : m ≤ i → AllPut (put_each r out at (members_at r r y (n - j))) (behind_members r (members_at r r y (n - j)) at)
    right_rest le =
        standing_runs r n (λ (b : Bytes) (here to : Places) (k : ℕ). Walking b x here to i k) AllPut
        (λ b here to k lt w. right_on b x here to i k w (member_here r here) lt
        (rw (taken_more r here k n (member_here r here) refl lt, taken_none l x i m le)))
        (λ b here to k le' w. walking_ends b x here to i k le le' w)
        (n - j) out y at j refl h

    module _ (out' out'' : Bytes) (at' at'' : Places)
        (p : (at' ≡ behind_members l (members_at l l x (m - i)) at)
        × (out' ≡ put_each l out at (members_at l l x (m - i))))
        (q : (at'' ≡ behind_members r (members_at r r y (n - j)) at')
        × (out'' ≡ put_each r out' at' (members_at r r y (n - j)))) where
      pub walking_rest : (ltb i m && ltb j n) ≡ false → AllPut out'' at''
      walking_rest t = go (ltb i m) (ltb j n) refl refl t
        where
          right_none : n ≤ j → AllPut out'' at''
          right_none le =
              let z : n - j ≡ 0 = omega arith in
              let none : members_at r r y (n - j) ≡ [] = rw z (none_here r y) in
              rw (q.0, q.1, none, put_none r out' at', behind_none r out' at', p.0, p.1) (left_rest le)

          left_none : m ≤ i → AllPut out'' at''
          left_none le =
              let z : m - i ≡ 0 = omega arith in
              let none : members_at l l x (m - i) ≡ [] = rw z (none_here l x) in
              let ea : at' ≡ at = p.0 ∙ ap (λ (ms : List MemberAt). behind_members l ms at) none ∙ behind_none l out at in
              let eo : out' ≡ out = p.1 ∙ ap (put_each l out at) none ∙ put_none l out at in
              rw (q.0, q.1, ea, eo) (right_rest le)

          go : (a b : Bool) → ltb i m ≡ a → ltb j n ≡ b → (a && b) ≡ false → AllPut out'' at''
          go false b e f t = left_none (ltb-false i m e)
          go true false e f t = right_none (ltb-false j n f)
          go true true e f t = let z : ◌≡◌ {A = ℕ} 0 1 = cc in let w : ⊥ = omega arith in absurd w

-- The places behind a few members are still near.
pub behind_near : (s : Bytes) (from : Places) (k : ℕ) (at at' : Places) → at' ≡ behind_members s (members_at s s from k) at
    → k ≤ 16384 → Under (2 ^ 48) at → Under (2 ^ 59) at'
unfolding members_at
behind_near s from k at at' e f b =
    let n = length_members s s from.key_jentry from.val_jentry from.key from.val k in
    let u = column_short (name_in s) (members_at s s from k) (λ m. bytes_short s m.key) in
    let v = column_short (value_in s) (members_at s s from k) (λ m. bytes_short s m.val) in
    rw e (omega (arith, n, b.0), omega (arith, n, b.1), omega (arith, n, u, b.2), omega (arith, n, v, b.3))
