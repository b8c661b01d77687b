-- The profile: its test says what `Flight` says; delete and strip stay inside it, and of concat only a level too many leaves it.
use Prim.Native.Nat.{◌≤◌}
use native.Mathlib.Omega.{arith}
use mathlib.Core.Path.{◌≡◌, refl, sym, ◌∙◌}
use mathlib.Core.Logic.{◌↔◌, ◌⊎◌, inl, inr, ⊎_elim}
use mathlib.Core.Bool.{Bool, true, false, ◌&&◌}
use mathlib.Core.List.{List}
use lib.Dec.{T, leb, leb→le, le→leb}
use Rattle.layout.specs.Answer.{gives, refused, ◌>>=◌, require}
use Rattle.layout.specs.Tree.{Tree, null, boolean, number, string, extension, array, object}
use Rattle.layout.specs.Limits.{depth, depth_items}
use Rattle.layout.specs.Every.{every, is_sound, sound_ask, names_ask, kinds_ask}
use Rattle.layout.specs.EveryAt.{both_ask, profile_ask}
use Rattle.layout.specs.declared.refusal.Refusal.TheVariants.{Profile}
use Rattle.layout.proofs.Answers.{from_require, to_require, gives_inj}
use Rattle.layout.proofs.Sounds.{both, sound_test}
use Rattle.layout.proofs.Questions.{every_both, names_apiece, kinds_apiece}
use Rattle.builders.specs.Build.{join}
use Rattle.builders.proofs.Appends.{depth_join}
use Rattle.edits.specs.Keypath.{Step}
use Rattle.edits.specs.Delete.{delete}
use Rattle.edits.specs.Concat.{as_items, members_in, concat}
use Rattle.edits.specs.Strip.{stripped}
use Rattle.edits.proofs.Kept.{NoMore, delete_kept}
use Rattle.edits.proofs.Strips.{strip_shrinks}
use Rattle.edits.proofs.Concats.{TwoObjects, objects_or, concat_gives, concat_items, concat_sound, concat_asked, concat_depth}
use Rattle.flight.specs.Flight.{Flight, is_flight, profiled}
use Rattle.flight.specs.Claims.{stands}
use Rattle.std.specs.Prelude.{Some, None}

-- ---- the test

pub flight_test : (t : Tree) → T (is_flight t) ↔ Flight t
unfolding is_flight
flight_test t =
    let asked = both (every (names_ask 1 32) t) (every kinds_ask t) (λ h. h, λ h. h) (λ h. h, λ h. h) in
    let rest = both (leb (depth t) 8) (every (names_ask 1 32) t && every kinds_ask t) (leb→le (depth t) 8, le→leb (depth t) 8) asked in
    let all = both (is_sound t) (leb (depth t) 8 && (every (names_ask 1 32) t && every kinds_ask t)) (sound_test t) rest in (
      λ h. let r = all.0 h in record { sound = r.0; deep = r.1.0; named = r.1.1.0; plain = r.1.1.1 },
      λ f. all.1 (f.sound, (f.deep, (f.named, f.plain))),
    )

-- The order in which the code asks: first the depth, and then the rest at once.
pub flight_asked : (t : Tree) → is_flight t ≡ (leb (depth t) 8 && every (profile_ask 32) t)
unfolding is_flight
flight_asked t =
    rw (every_both sound_ask (both_ask (names_ask 1 32) kinds_ask) t, every_both (names_ask 1 32) kinds_ask t)
    (turned (is_sound t) (leb (depth t) 8) (every (names_ask 1 32) t && every kinds_ask t))
  where
    turned : (a b c : Bool) → (a && (b && c)) ≡ (b && (a && c))
    turned true b c = refl
    turned false true c = refl
    turned false false c = refl

pub profiled_is : (t : Tree) → profiled t ≡ (require (is_flight t) Profile >>= λ _. gives t)
profiled_is t = unfold profiled in refl

pub profiled_gives : (t : Tree) → Flight t → profiled t ≡ gives t
profiled_gives t f = profiled_is t ∙ to_require _ _ _ _ ((flight_test t).1 f) refl

pub profiled_flight : (t v : Tree) → profiled t ≡ gives v → Flight t × (t ≡ v)
profiled_flight t v e = from_require _ _ _ (sym (profiled_is t) ∙ e) λ h e₁. ((flight_test t).0 h, gives_inj e₁)

pub profiled_refused : (t : Tree) → is_flight t ≡ false → profiled t ≡ refused Profile
profiled_refused t e = profiled_is t ∙ unfold ◌>>=◌ require in rw e

pub outside : (t : Tree) → (Flight t → ⊥) → is_flight t ≡ false
outside t n = go (is_flight t) refl
  where
    go : (b : Bool) → is_flight t ≡ b → b ≡ false
    go true e = absurd (n ((flight_test t).0 (rw e tt)))
    go false e = refl

-- ---- what the edits keep

no_more_flight : (u t : Tree) → NoMore u t → Flight t → Flight u
no_more_flight u t k f =
    record {
      sound = k.sound f.sound;
      deep = omega (arith, k.deep, f.deep);
      named = k.asked (names_ask 1 32) (names_apiece 1 32) f.named;
      plain = k.asked kinds_ask kinds_apiece f.plain;
    }

pub delete_flight : (p : List Step) (t : Tree) → Flight t → Flight (delete p t)
delete_flight p t f = no_more_flight (delete p t) t (delete_kept p t) f

pub strip_flight : (t : Tree) → Flight t → Flight (stripped t)
strip_flight t f = no_more_flight (stripped t) t (strip_shrinks t) f

-- How deep a side of an overlay that is no object stands in it, by its items.
side : (t u : Tree) → (members_in t ≡ None) ⊎ (members_in u ≡ None) → (depth_items (as_items t) ≤ 7) ↔ (stands t u ≤ 8)
side null u h = (λ d. omega arith, λ d. omega arith)
side (boolean x) u h = (λ d. omega arith, λ d. omega arith)
side (number b) u h = (λ d. omega arith, λ d. omega arith)
side (string b) u h = (λ d. omega arith, λ d. omega arith)
side (extension b) u h = (λ d. omega arith, λ d. omega arith)
side (array ts) u h = (λ d. omega arith, λ d. omega arith)
side (object ms) u h = rw (alone h) (λ d. omega arith, λ d. omega arith)
  where
    alone : (Some ms ≡ None) ⊎ (members_in u ≡ None) → members_in u ≡ None
    alone (inl e) = cc
    alone (inr e) = e

module _ (t u v : Tree) (ft : Flight t) (fu : Flight u) (e : concat t u ≡ gives v) where
  -- All but the depth holds of what concat gives.
  concat_flight : depth v ≤ 8 → Flight v
  concat_flight d =
      record {
        sound = concat_sound t u v ft.sound fu.sound e;
        deep = d;
        named = concat_asked (names_ask 1 32) (names_apiece 1 32) t u v ft.named fu.named e;
        plain = concat_asked kinds_ask kinds_apiece t u v ft.plain fu.plain e;
      }

  concat_levels : (depth v ≤ 8) ↔ ((stands t u ≤ 8) × (stands u t ≤ 8))
  concat_levels = ⊎_elim both none (objects_or t u)
    where
      both : TwoObjects t u → (depth v ≤ 8) ↔ ((stands t u ≤ 8) × (stands u t ≤ 8))
      both o =
          let left : depth (object o.left) ≤ 8 = rw o.left_is at ft.deep in
          let right : depth (object o.right) ≤ 8 = rw o.right_is at fu.deep in
          let is = (concat_gives o.left o.right v (rw (o.left_is, o.right_is) at e)).1 in
          rw (is, o.left_is, o.right_is)
          (λ d. (left, right), λ d. concat_depth o.left o.right 8 left right)

      none : (members_in t ≡ None) ⊎ (members_in u ≡ None) → (depth v ≤ 8) ↔ ((stands t u ≤ 8) × (stands u t ≤ 8))
      none h =
          let l = side t u h in
          let r = side u t (⊎_elim inr inl h) in
          let is : v ≡ array (join (as_items t) (as_items u)) = gives_inj (sym e ∙ concat_items t u h) in
          let d = depth_join (as_items t) (as_items u) in
          rw is
          (λ q. (l.0 (omega arith), r.0 (omega arith)), λ q. omega (arith, d, l.1 q.0, r.1 q.1))

  pub concat_leaves : Flight v ↔ ((stands t u ≤ 8) × (stands u t ≤ 8))
  concat_leaves = (λ f. concat_levels.0 f.deep, λ q. concat_flight (concat_levels.1 q))
