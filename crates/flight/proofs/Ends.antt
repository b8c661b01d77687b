-- How the check and the flight edits end, in the terms of the code: by how the records stand to the profile, and by how deep each may
-- be beside the other.
use Prim.Native.Nat.{ℕ, ◌≤◌}
use native.Mathlib.Omega.{arith}
use borrow.Author.Tests.{le-ltb}
use mathlib.Core.Path.{◌≡◌, refl, ap, ap₂, sym, subst, ◌∙◌}
use mathlib.Core.Logic.{◌↔◌}
use mathlib.Core.Bool.{Bool, true, false, not, cond, ◌&&◌}
use mathlib.Core.List.{List, [], ◌++◌}
use lib.Dec.{T, leb, leb→le, le→leb}
use lib.ListN.{length}
use Rattle.layout.specs.Bytes.{Bytes, Octets}
use Rattle.layout.specs.Answer.{Answer, gives, refused, ◌>>=◌}
use Rattle.layout.specs.Tree.{Tree, null, boolean, number, string, extension, array, object}
use Rattle.layout.specs.Encode.{encode}
use Rattle.layout.specs.Read.{header, read}
use Rattle.layout.specs.Limits.{depth, record_length}
use Rattle.layout.specs.Every.{every}
use Rattle.layout.specs.EveryAt.{profile_ask, every_at}
use Rattle.layout.specs.Check.{checked, nesting_to}
use Rattle.layout.specs.Ended.{Outcome, result, absence, refusal, into, ending, Ended}
use Rattle.layout.specs.Room.{placed, EndedIn}
use Rattle.layout.specs.Pipeline.{within, found, written}
use Rattle.layout.specs.declared.refusal.Refusal.{Refusal}
use Rattle.layout.specs.declared.refusal.Refusal.TheVariants.{Path, Profile}
use Rattle.layout.specs.declared.util.Header.{Header}
use Rattle.layout.proofs.Answers.{from_require, gives_inj}
use Rattle.layout.proofs.Asks.{every_read}
use Rattle.layout.proofs.Questions.{and_apart, and_joined}
use Rattle.layout.proofs.Nestings.{head_of, header_read}
use Rattle.layout.proofs.Patches.{patch_empty}
use Rattle.layout.proofs.Readables.{length_encode}
use Rattle.builders.specs.Build.{on_two}
use Rattle.builders.proofs.Results.{is_true, on_two_is, within_is}
use Rattle.edits.specs.Keypath.{Step, path_of}
use Rattle.edits.specs.Path.{delete_by, on_path}
use Rattle.edits.specs.Concat.{concat}
use Rattle.edits.specs.Strip.{strip, on_one}
use Rattle.edits.specs.Steps.{steps_told}
use Rattle.edits.proofs.Concats.{concat_some}
use Rattle.edits.proofs.Paths.{steps_refused}
use Rattle.edits.proofs.PathResults.{on_path_is}
use Rattle.edits.proofs.StripWrites.{on_one_is}
use Rattle.flight.specs.Flight.{Flight, profiled, flight, flight_delete_by, flight_strip, on_flights}
use Rattle.flight.specs.Claims.{FlightRecord, stands}
use Rattle.flight.specs.Profile.{fits_profile, profile_in, both_in, beside_outside, is_object, levels_beside, beside, OutsideBeside, or_profile}
use Rattle.flight.proofs.Inside.{flight_test, flight_asked, profiled_gives, profiled_refused, outside, concat_leaves}
use Rattle.flight.proofs.Flights.{delete_lines, delete_stays, strip_lines, strip_stays, concat_lines, on_flights_is}
use Rattle.std.specs.Prelude.{Ok, Err, Result}
use Rattle.layout.specs.Ended.{Ending}

-- ---- how a record stands to the profile

-- What the check with so many levels has found.
module _ (levels : ℕ) (m : Answer Tree) (n : Result Bool Refusal) (hn : n ≡ nesting_to levels m) where
  pub standing_refused : (x : Refusal) → n ≡ Err x → Err x ≡ profile_in levels m
  standing_refused x q = go m (sym q ∙ hn)
    where
      go : (m : Answer Tree) → Err x ≡ nesting_to levels m → Err x ≡ profile_in levels m
      go (refused y) e = cc
      go (gives t) e = by (leb (depth t) levels) e
        where
          by : (b : Bool) → ◌≡◌ {A = Result Bool Refusal} (Err x) (Ok b) → ◌≡◌ {A = Result Bool Refusal} (Err x) (Ok (fits_profile levels t))
          by b e = cc

  pub standing_deep : n ≡ Ok false → Ok false ≡ profile_in levels m
  standing_deep q = go m (sym q ∙ hn)
    where
      go : (m : Answer Tree) → Ok false ≡ nesting_to levels m → Ok false ≡ profile_in levels m
      go (refused y) e = cc
      go (gives t) e = by (leb (depth t) levels) (every (profile_ask 32) t) e
        where
          by : (b c : Bool) → ◌≡◌ {A = Result Bool Refusal} (Ok false) (Ok b) → ◌≡◌ {A = Result Bool Refusal} (Ok false) (Ok (b && c))
          by true c e = cc
          by false c e = refl

-- Where it fits, the rest of the profile decides.
module _ (levels : ℕ) (s : Bytes) (o : Octets s) (n : Result Bool Refusal) (hn : n ≡ nesting_to levels (read s)) (q : n ≡ Ok true) (g : Bool)
    (hg : g ≡ every_at (profile_ask 32) 64 s) where
  pub standing_fits : Ok g ≡ profile_in levels (read s)
  standing_fits = go (read s) refl (sym q ∙ hn)
    where
      go : (m : Answer Tree) → read s ≡ m → Ok true ≡ nesting_to levels m → Ok g ≡ profile_in levels m
      go (refused y) e f = cc
      go (gives t) e f =
          rw (hg, every_read (profile_ask 32) s t o e) (by (leb (depth t) levels) (every (profile_ask 32) t) f)
        where
          by : (b c : Bool) → ◌≡◌ {A = Result Bool Refusal} (Ok true) (Ok b) → ◌≡◌ {A = Result Bool Refusal} (Ok c) (Ok (b && c))
          by true c e = refl
          by false c e = cc

-- What each way to stand, with all the profile's levels, says of the record.
abbrev Stands : Result Bool Refusal → Bytes → Type 0
Stands (Ok true) s = FlightRecord s
Stands (Ok false) s = (t : Tree) × (read s ≡ gives t) × (profiled t ≡ refused Profile)
Stands (Err x) s = read s ≡ refused x

stands_so : (s : Bytes) → Stands (profile_in 8 (read s)) s
stands_so s = go (read s) refl
  where
    by : (t : Tree) (b : Bool) → read s ≡ gives t → fits_profile 8 t ≡ b → Stands (Ok b) s
    by t true e q = record { tree = t; reads = e; flight = (flight_test t).0 (rw (flight_asked t ∙ q) tt) }
    by t false e q = (t, e, profiled_refused t (flight_asked t ∙ q))

    go : (m : Answer Tree) → read s ≡ m → Stands (profile_in 8 m) s
    go (gives t) e = by t (fits_profile 8 t) e refl
    go (refused x) e = e

pub standing : (s : Bytes) (p q : Result Bool Refusal) → p ≡ profile_in 8 (read s) → p ≡ q → Stands q s
standing s p q e h = subst (λ x. Stands x s) (sym e ∙ h) (stands_so s)

-- ---- the check

module _ (s : Bytes) (p : Result Bool Refusal) (e : p ≡ profile_in 8 (read s)) where
  pub taken : p ≡ Ok true → Ok tt ≡ checked (flight s)
  unfolding flight ◌>>=◌
  taken h = let f = standing s p (Ok true) e h in rw (f.reads, profiled_gives f.tree f.flight)

  pub not_taken : p ≡ Ok false → Err Profile ≡ checked (flight s)
  unfolding flight ◌>>=◌
  not_taken h = let f = standing s p (Ok false) e h in rw (f.1, f.2)

  pub not_read : (x : Refusal) → p ≡ Err x → Err x ≡ checked (flight s)
  unfolding flight ◌>>=◌
  not_read x h = rw (standing s p (Err x) e h)

-- ---- the edits of one record

-- A number is the end of a call, and leaves the buffer as it was.
pub ended_refused : (before : Bytes) (o : Outcome) (x : Refusal) → o ≡ refusal x → Ended (Err x) before before o
ended_refused before o x e = rw e (record { answer = refl; bytes = refl })

-- So is one behind a call that was lent no bytes: it has left none.
pub ended_unwritten : (before : Bytes) (o p : Outcome) (x : Refusal) {r : Ending} {none : Bytes} → EndedIn r [] none o → p ≡ refusal x
    → Ended (Err x) before (none ++ before) p
ended_unwritten before o p x d e = rw (d.bytes ∙ unplaced o) (ended_refused before p x e)
  where
    unplaced : (o : Outcome) → placed o [] ≡ []
    unplaced (result b) = patch_empty 0 b
    unplaced absence = refl
    unplaced (refusal y) = refl

pub ended_same : {r : Ending} {before after : Bytes} (o p : Outcome) → p ≡ o → Ended r before after o → Ended r before after p
ended_same o p e h = rw e h

module _ (s : Bytes) (p : Result Bool Refusal) (e : p ≡ profile_in 8 (read s)) (room : ℕ) where
  module _ (path : Bytes) where
    pub delete_unread : (x : Refusal) → p ≡ Err x → on_path flight_delete_by s path room ≡ refusal x
    unfolding ◌>>=◌
    delete_unread x h = on_path_is flight_delete_by s path room ∙ rw (standing s p (Err x) e h)

    -- 6 before 12.
    pub delete_outside : (x : Refusal) → p ≡ Ok false → x ≡ beside_outside (path_of path) → on_path flight_delete_by s path room ≡ refusal x
    unfolding ◌>>=◌
    delete_outside x h q =
        let f = standing s p (Ok false) e h in
        rw (on_path_is flight_delete_by s path room, f.1) (by f.0 f.2 (path_of path) refl q)
      where
        by : (t : Tree) → profiled t ≡ refused Profile → (m : Answer (List Step)) → path_of path ≡ m → x ≡ beside_outside m
            → found room (m >>= λ ss. flight_delete_by ss t) ≡ refusal x
        by t h (gives ss) k q = rw (q, delete_lines ss t, h)
        by t h (refused y) k q =
            let six : path_of path ≡ refused Path = steps_refused path (rw k) in
            let same : y ≡ x = cc in
            ap refusal same

    pub delete_inside : p ≡ Ok true → on_path flight_delete_by s path room ≡ on_path delete_by s path room
    delete_inside h = delete_stays s path room (standing s p (Ok true) e h)

  pub strip_unread : (x : Refusal) → p ≡ Err x → on_one flight_strip s room ≡ refusal x
  unfolding ◌>>=◌
  strip_unread x h = on_one_is flight_strip s room ∙ rw (standing s p (Err x) e h)

  pub strip_outside : p ≡ Ok false → on_one flight_strip s room ≡ refusal Profile
  unfolding ◌>>=◌
  strip_outside h =
      let f = standing s p (Ok false) e h in
      on_one_is flight_strip s room ∙ rw (f.1, strip_lines f.0, f.2)

  pub strip_inside : p ≡ Ok true → on_one flight_strip s room ≡ on_one strip s room
  strip_inside h = strip_stays s room (standing s p (Ok true) e h)

-- ---- two records

-- What each way to stand says of two.
abbrev Both : Result Bool Refusal → Bytes → Bytes → Type 0
Both (Ok true) l r = FlightRecord l × FlightRecord r
Both (Ok false) l r = (room : ℕ) → on_flights l r room ≡ refusal Profile
Both (Err x) l r = (room : ℕ) → on_flights l r room ≡ refusal x

module _ (l r : Bytes) where
  -- The left one's number, the right one's, and 12 of either.
  first_unread : (x : Refusal) → read l ≡ refused x → (room : ℕ) → on_flights l r room ≡ refusal x
  unfolding ◌>>=◌
  first_unread x e room = rw (on_flights_is l r room, e)

  second_unread : (t : Tree) (x : Refusal) → read l ≡ gives t → read r ≡ refused x → (room : ℕ) → on_flights l r room ≡ refusal x
  unfolding ◌>>=◌
  second_unread t x e q room = rw (on_flights_is l r room, e, q)

  first_outside : (t u : Tree) → read l ≡ gives t → read r ≡ gives u → profiled t ≡ refused Profile → (room : ℕ)
      → on_flights l r room ≡ refusal Profile
  unfolding ◌>>=◌
  first_outside t u e q h room = rw (on_flights_is l r room, e, q, concat_lines t u, h)

  second_outside : (t u : Tree) → read l ≡ gives t → read r ≡ gives u → Flight t → profiled u ≡ refused Profile → (room : ℕ)
      → on_flights l r room ≡ refusal Profile
  unfolding ◌>>=◌
  second_outside t u e q f h room = rw (on_flights_is l r room, e, q, concat_lines t u, profiled_gives t f, h)

  both_so : (p q : Result Bool Refusal) → Stands p l → Stands q r → Both (both_in p q) l r
  both_so (Err x) q h k = first_unread x h
  both_so (Ok true) (Ok true) h k = (h, k)
  both_so (Ok true) (Ok false) h k = second_outside h.tree k.0 h.reads k.1 h.flight k.2
  both_so (Ok true) (Err x) h k = second_unread h.tree x h.reads k
  both_so (Ok false) (Ok true) h k = first_outside h.0 k.tree h.1 k.reads h.2
  both_so (Ok false) (Ok false) h k = first_outside h.0 k.0 h.1 k.1 h.2
  both_so (Ok false) (Err x) h k = second_unread h.0 x h.1 k

  pub both_standing : (p q : Result Bool Refusal) → p ≡ both_in (profile_in 8 (read l)) (profile_in 8 (read r)) → p ≡ q → Both q l r
  both_standing p q e h = subst (λ x. Both x l r) (sym e ∙ h) (both_so (profile_in 8 (read l)) (profile_in 8 (read r)) (stands_so l) (stands_so r))

-- ---- the overlay of two flight records

module _ (l r : Bytes) (fl : FlightRecord l) (fr : FlightRecord r) where
  -- Both edits up to what concat gives, and then 9, and 12 of the flight edit.
  concat_so : (v : Tree) × (concat fl.tree fr.tree ≡ gives v)
  concat_so = concat_some fl.tree fr.tree fr.flight.sound

  plain_so : (room : ℕ) → on_two concat l r room ≡ written room (within concat_so.0)
  unfolding ◌>>=◌
  plain_so room = rw (on_two_is concat l r room, fl.reads, fr.reads, concat_so.1)

  flight_so : (room : ℕ) → on_flights l r room ≡ written room (within concat_so.0 >>= λ w. profiled w)
  unfolding ◌>>=◌
  flight_so room =
      rw (on_flights_is l r room, fl.reads, fr.reads, concat_lines fl.tree fr.tree, profiled_gives fl.tree fl.flight)
      (rw (profiled_gives fr.tree fr.flight, concat_so.1))

  leaves : Flight concat_so.0 ↔ ((stands fl.tree fr.tree ≤ 8) × (stands fr.tree fl.tree ≤ 8))
  leaves = concat_leaves fl.tree fr.tree concat_so.0 fl.flight fr.flight concat_so.1

  -- What concat gives is within the limits, or is refused.
  limited : (w : Tree) → within concat_so.0 ≡ gives w → (concat_so.0 ≡ w) × (length (encode w) ≤ 65536)
  limited w e =
      from_require _ _ _ (sym (within_is concat_so.0) ∙ e) λ test q.
      let v = concat_so.0 in
      let same : v ≡ w = gives_inj q in
      let limits = and_apart (leb (record_length v) 65536) (leb (depth v) 64) test in
      (same, rw (← same) (omega (arith, length_encode v, leb→le (record_length v) 65536 limits.0)))

  -- An overlay outside the profile: what the plain edit is refused for, and then 12.
  overlay_refused : (Flight concat_so.0 → ⊥) → (room : ℕ) → on_flights l r room ≡ refusal (or_profile (ending (on_two concat l r 65536)))
  unfolding ◌>>=◌ into
  overlay_refused out room = rw (flight_so room, plain_so 65536) (by (within concat_so.0) refl)
    where
      by : (m : Answer Tree) → within concat_so.0 ≡ m
          → written room (m >>= λ w. profiled w) ≡ refusal (or_profile (ending (written 65536 m)))
      by (refused x) e = refl
      by (gives w) e =
          let k = limited w e in
          let twelve : profiled w ≡ refused Profile = rw (← k.0) (profiled_refused concat_so.0 (outside concat_so.0 out)) in
          rw (twelve, le-ltb 65536 (length (encode w)) k.1)

  -- One inside it: the plain edit.
  overlay_plain : Flight concat_so.0 → (room : ℕ) → on_flights l r room ≡ on_two concat l r room
  unfolding ◌>>=◌
  overlay_plain inside room = rw (flight_so room, plain_so room) (ap (written room) (by (within concat_so.0) refl))
    where
      by : (m : Answer Tree) → within concat_so.0 ≡ m → (m >>= λ w. profiled w) ≡ m
      by (refused x) e = refl
      by (gives w) e = rw (← (limited w e).0) (profiled_gives concat_so.0 inside)

-- ---- beside each other

-- A side that may have so many levels: it stands no deeper than 8 levels in the overlay.
beside_levels : (t u : Tree) → depth t ≤ 8 → (depth t ≤ levels_beside (head_of t) (head_of u)) ↔ (stands t u ≤ 8)
unfolding levels_beside
beside_levels null u d = (λ h. h, λ h. h)
beside_levels (boolean x) u d = (λ h. h, λ h. h)
beside_levels (number b) u d = (λ h. h, λ h. h)
beside_levels (string b) u d = (λ h. h, λ h. h)
beside_levels (extension b) u d = (λ h. h, λ h. h)
beside_levels (array ts) u d = (λ h. h, λ h. h)
beside_levels (object ms) (object ns) d = (λ h. h, λ h. h)
beside_levels (object ms) null d = (λ h. omega arith, λ h. omega arith)
beside_levels (object ms) (boolean x) d = (λ h. omega arith, λ h. omega arith)
beside_levels (object ms) (number b) d = (λ h. omega arith, λ h. omega arith)
beside_levels (object ms) (string b) d = (λ h. omega arith, λ h. omega arith)
beside_levels (object ms) (extension b) d = (λ h. omega arith, λ h. omega arith)
beside_levels (object ms) (array ts) d = (λ h. omega arith, λ h. omega arith)

-- No side may have more levels than the profile has.
pub few_levels : (h other : Result Header Refusal) → levels_beside h other ≤ 8
unfolding levels_beside
few_levels h other = go (is_object h && not (is_object other))
  where
    go : (b : Bool) → cond b 7 8 ≤ 8
    go true = omega arith
    go false = omega arith

-- Two ways to stand that are not the same.
abbrev tag : Result Bool Refusal → ℕ
tag (Ok true) = 0
tag (Ok false) = 1
tag (Err x) = 2

clash : {C : Type 0} {p q : Result Bool Refusal} → p ≡ q → (tag p ≡ tag q → ⊥) → C
clash e n = absurd (n (ap tag e))

-- What it is to stand inside with so many levels.
fits_flight : (k : ℕ) (t : Tree) → k ≤ 8 → T (fits_profile k t) → Flight t × (depth t ≤ k)
fits_flight k t few h =
    let q = and_apart (leb (depth t) k) (every (profile_ask 32) t) h in
    let d = leb→le (depth t) k q.0 in
    let f : T (fits_profile 8 t) = and_joined (leb (depth t) 8) (every (profile_ask 32) t) (le→leb (depth t) 8 (omega arith)) q.1 in
    ((flight_test t).0 (rw (flight_asked t) f), d)

flight_fits : (k : ℕ) (t : Tree) → Flight t → depth t ≤ k → T (fits_profile k t)
flight_fits k t f d =
    let q = and_apart (leb (depth t) 8) (every (profile_ask 32) t) (rw (flight_asked t) at ((flight_test t).1 f)) in
    and_joined (leb (depth t) k) (every (profile_ask 32) t) (le→leb (depth t) k d) q.1

inside_told : (k : ℕ) (s : Bytes) → k ≤ 8 → profile_in k (read s) ≡ Ok true → (f : FlightRecord s) × (depth f.tree ≤ k)
inside_told k s few = go (read s) refl
  where
    by : (t : Tree) (b : Bool) → read s ≡ gives t → fits_profile k t ≡ b → ◌≡◌ {A = Result Bool Refusal} (Ok b) (Ok true) → (f : FlightRecord s) × (depth f.tree ≤ k)
    by t true e q h = let f = fits_flight k t few (rw q tt) in (record { tree = t; reads = e; flight = f.0 }, f.1)
    by t false e q h = clash h (λ z. omega arith)

    go : (m : Answer Tree) → read s ≡ m → profile_in k m ≡ Ok true → (f : FlightRecord s) × (depth f.tree ≤ k)
    go (gives t) e h = by t (fits_profile k t) e refl h
    go (refused x) e h = clash h (λ z. omega arith)

inside_so : (k : ℕ) (s : Bytes) (f : FlightRecord s) → depth f.tree ≤ k → profile_in k (read s) ≡ Ok true
inside_so k s f d = rw (f.reads, is_true (fits_profile k f.tree) (flight_fits k f.tree f.flight d))

both_inside : (p q : Result Bool Refusal) → both_in p q ≡ Ok true → (p ≡ Ok true) × (q ≡ Ok true)
both_inside (Ok true) (Ok b) e = (refl, e)
both_inside (Ok true) (Err x) e = clash e (λ z. omega arith)
both_inside (Ok false) (Ok true) e = clash e (λ z. omega arith)
both_inside (Ok false) (Ok false) e = clash e (λ z. omega arith)
both_inside (Ok false) (Err x) e = clash e (λ z. omega arith)
both_inside (Err x) q e = clash e (λ z. omega arith)

module _ (l r : Bytes) where
  -- A number of either, whatever levels they may have.
  pub beside_unread : (j k : ℕ) (x : Refusal) → both_in (profile_in j (read l)) (profile_in k (read r)) ≡ Err x → (room : ℕ)
      → on_flights l r room ≡ refusal x
  beside_unread j k x = go (read l) (read r) refl refl
    where
      second : (b : Bool) (y : Refusal) → both_in (Ok b) (Err y) ≡ Err x → y ≡ x
      second b y q = cc

      never : {C : Type 0} (b c : Bool) → both_in (Ok b) (Ok c) ≡ Err x → C
      never b c q = let z : Ok (b && c) ≡ Err x = q in cc

      go : (m n : Answer Tree) → read l ≡ m → read r ≡ n → both_in (profile_in j m) (profile_in k n) ≡ Err x → (room : ℕ)
          → on_flights l r room ≡ refusal x
      go (refused y) n e f q room = let same : y ≡ x = cc in first_unread l r y e room ∙ ap refusal same
      go (gives t) (refused y) e f q room = second_unread l r t y e f room ∙ ap refusal (second (fits_profile j t) y q)
      go (gives t) (gives u) e f q room = never (fits_profile j t) (fits_profile k u) q

  module _ (ol : Octets l) (or : Octets r) where
    -- How deep each side stands in the overlay, by how many levels it has.
    side_levels : (fl : FlightRecord l) (fr : FlightRecord r) → (depth fl.tree ≤ levels_beside (header l) (header r)) ↔ (stands fl.tree fr.tree ≤ 8)
    side_levels fl fr =
        rw (header_read l fl.tree ol fl.reads, header_read r fr.tree or fr.reads)
        (beside_levels fl.tree fr.tree fl.flight.deep)

module _ (l r : Bytes) (ol : Octets l) (or : Octets r) where
  -- Both inside with the levels that they may have beside each other: the plain edit.
  pub beside_inside : both_in (beside l r) (beside r l) ≡ Ok true → (room : ℕ) → on_flights l r room ≡ on_two concat l r room
  beside_inside e room =
      let both = both_inside (beside l r) (beside r l) e in
      let left = inside_told (levels_beside (header l) (header r)) l (few_levels (header l) (header r)) both.0 in
      let right = inside_told (levels_beside (header r) (header l)) r (few_levels (header r) (header l)) both.1 in
      let fl = left.0 in
      let fr = right.0 in
      overlay_plain l r fl fr
      ((leaves l r fl fr).1 ((side_levels l r ol or fl fr).0 left.1, (side_levels r l or ol fr fl).0 right.1))
      room

  -- Both flight records, and one of them outside with these levels: the overlay would be too deep.
  pub beside_deep : OutsideBeside l r → (fl : FlightRecord l) (fr : FlightRecord r) (a : Ending) → a ≡ ending (on_two concat l r 65536)
      → (x : Refusal) → x ≡ or_profile a → (room : ℕ) → on_flights l r room ≡ refusal x
  beside_deep out fl fr a ha x hx room =
      overlay_refused l r fl fr deeper room ∙ ap refusal (sym (hx ∙ ap or_profile ha))
    where
      deeper : Flight (concat_so l r fl fr).0 → ⊥
      deeper f =
          let q = (leaves l r fl fr).0 f in
          let left : beside l r ≡ Ok true = inside_so (levels_beside (header l) (header r)) l fl ((side_levels l r ol or fl fr).1 q.0) in
          let right : beside r l ≡ Ok true = inside_so (levels_beside (header r) (header l)) r fr ((side_levels r l or ol fr fl).1 q.1) in
          let both : Ok true ≡ Ok false = sym (ap₂ both_in left right) ∙ out in
          clash both (λ z. omega arith)

-- ---- the forms of the code, by what a call has told

pub as_told : {A B : Type 0} (f : A → B) {a b c : A} → a ≡ b → a ≡ c → f c ≡ f b
as_told f e q = ap f (sym q ∙ e)

pub as_both_told : {A B C : Type 0} (f : A → B → C) {a b c : A} {x y z : B} → a ≡ b → a ≡ c → x ≡ y → x ≡ z → f c z ≡ f b y
as_both_told f e q k h = ap₂ f (sym q ∙ e) (sym h ∙ k)

module _ (b : Bytes) (s : Result ℕ Refusal) (e : s ≡ steps_told (path_of b)) where
  pub path_told : (n : ℕ) → s ≡ Ok n → Profile ≡ beside_outside (path_of b)
  path_told n q = go (path_of b) (sym q ∙ e)
    where
      go : (m : Answer (List Step)) → Ok n ≡ steps_told m → Profile ≡ beside_outside m
      go (gives p) k = refl
      go (refused x) k = cc

  pub no_path_told : {x : Refusal} → s ≡ Err x → x ≡ beside_outside (path_of b)
  no_path_told {x} q = go (path_of b) (sym q ∙ e)
    where
      go : (m : Answer (List Step)) → Err x ≡ steps_told m → x ≡ beside_outside m
      go (gives p) k = cc
      go (refused y) k = cc

-- Which levels a side may have, by the two tests of the code.
module _ (h o : Result Header Refusal) (g k : Bool) (hg : g ≡ is_object h) (hk : k ≡ is_object o) where
  pub one_level_less : (g && not k) ≡ true → 7 ≡ levels_beside h o
  unfolding levels_beside
  one_level_less q = rw (← hg, ← hk, q)

  pub all_levels : (g && not k) ≡ false → 8 ≡ levels_beside h o
  unfolding levels_beside
  all_levels q = rw (← hg, ← hk, q)
