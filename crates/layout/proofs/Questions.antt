-- The questions that the code asks of a record: what soundness and the profile ask of the names of an object, in the terms of the
-- code; two questions at once; and those that ask each name by itself.
use Prim.Native.Nat.{ℕ}
use mathlib.Core.Path.{◌≡◌, refl, ap, ap₂, ◌∙◌}
use mathlib.Core.Bool.{Bool, true, false, ◌&&◌, and-true}
use mathlib.Core.List.{List, [], ◌∷◌}
use lib.Dec.{T}
use Rattle.layout.specs.Bytes.{Bytes}
use Rattle.layout.specs.Tree.{Tree, null, boolean, number, string, extension, array, object, Items, none, item, Members, empty, member, names}
use Rattle.layout.specs.Encode.{Part}
use Rattle.layout.specs.Text.{between, code_points}
use Rattle.layout.specs.Check.{text_checked}
use Rattle.layout.specs.Place.{rising_parts}
use Rattle.layout.specs.Parts.{texts}
use Rattle.layout.specs.Every.{Ask, every, every_items, every_members, sound_ask, kinds_ask, has_characters, each, names_ask}
use Rattle.layout.specs.EveryAt.{both_ask, profile_ask}
use Rattle.layout.specs.declared.refusal.Refusal.{Refusal}
use Rattle.layout.proofs.Texts.{passed_some, refused_none}
use Rattle.layout.proofs.Sounds.{texts_rise}
use Rattle.std.specs.Prelude.{Ok, Err, Result}

-- ---- two questions at once

-- Tests of two things, asked one thing after the other.
exchanged : (a b c d : Bool) → ((a && b) && (c && d)) ≡ ((a && c) && (b && d))
exchanged true true c d = refl
exchanged true false true d = refl
exchanged true false false d = refl
exchanged false b c d = refl

mutual
  pub every_both : (a b : Ask) (t : Tree) → every (both_ask a b) t ≡ (every a t && every b t)
  every_both a b null = refl
  every_both a b (boolean x) = refl
  every_both a b (number p) = refl
  every_both a b (string p) = refl
  every_both a b (extension p) = refl
  every_both a b (array ts) = items_both a b ts
  every_both a b (object ms) =
      ap (λ x. (a.names (names ms) && b.names (names ms)) && x) (members_both a b ms)
      ∙ exchanged (a.names (names ms)) (b.names (names ms)) (every_members a ms) (every_members b ms)

  items_both : (a b : Ask) (ts : Items) → every_items (both_ask a b) ts ≡ (every_items a ts && every_items b ts)
  items_both a b none = refl
  items_both a b (item t ts) =
      ap₂ ◌&&◌ (every_both a b t) (items_both a b ts) ∙ exchanged (every a t) (every b t) (every_items a ts) (every_items b ts)

  members_both : (a b : Ask) (ms : Members) → every_members (both_ask a b) ms ≡ (every_members a ms && every_members b ms)
  members_both a b empty = refl
  members_both a b (member n t ms) =
      ap₂ ◌&&◌ (every_both a b t) (members_both a b ms) ∙ exchanged (every a t) (every b t) (every_members a ms) (every_members b ms)

-- ---- questions that ask each name by itself

pub and_apart : (p q : Bool) → T (p && q) → T p × T q
and_apart true q h = (tt, h)
and_apart false q h = absurd h

pub and_joined : (p q : Bool) → T p → T q → T (p && q)
and_joined true q h k = k
and_joined false q h k = absurd h

-- Whatever the names stand beside, so that fewer of them, in any order, pass where all did.
pub record Apiece (a : Ask) : Type 0 where
  pub name : Bytes → Bool
  pub names : (ns : List Bytes) → a.names ns ≡ each name ns

pub kinds_apiece : Apiece kinds_ask
kinds_apiece = record { name = λ n. true; names = all }
  where
    all : (ns : List Bytes) → true ≡ each (λ n. true) ns
    all [] = refl
    all (n ∷ ns) = all ns

pub names_apiece : (low high : ℕ) → Apiece (names_ask low high)
names_apiece low high = record { name = has_characters low high; names = λ ns. refl }

module _ (a : Ask) (p : Apiece a) where
  pub no_member : T (every a (object empty))
  no_member = rw (p.names []) tt

  module _ (n : Bytes) (t : Tree) (ms : Members) where
    pub member_apart : T (every a (object (member n t ms))) → T (p.name n) × T (every a t) × T (every a (object ms))
    member_apart h =
        let both = and_apart (a.names (n ∷ names ms)) (every a t && every_members a ms) h in
        let values = and_apart (every a t) (every_members a ms) both.1 in
        let named = and_apart (p.name n) (each p.name (names ms)) (rw (p.names (n ∷ names ms)) at both.0) in
        (named.0, values.0, and_joined (a.names (names ms)) (every_members a ms) (rw (p.names (names ms)) named.1) values.1)

    pub member_joined : T (p.name n) → T (every a t) → T (every a (object ms)) → T (every a (object (member n t ms)))
    member_joined x v h =
        let rest = and_apart (a.names (names ms)) (every_members a ms) h in
        let named = and_joined (p.name n) (each p.name (names ms)) x (rw (p.names (names ms)) at rest.0) in
        and_joined (a.names (n ∷ names ms)) (every a t && every_members a ms) (rw (p.names (n ∷ names ms)) named)
        (and_joined (every a t) (every_members a ms) v rest.1)

-- ---- the characters of a name

module _ (b : Bytes) (r : Result ℕ Refusal) (longest : ℕ) (hr : r ≡ text_checked (code_points b)) where
  pub so_many_characters : (n : ℕ) → r ≡ Ok n → between 1 longest n ≡ has_characters 1 longest b
  unfolding has_characters
  so_many_characters n q = rw (passed_some (code_points b) r n hr q)

  pub no_characters : (x : Refusal) → r ≡ Err x → false ≡ has_characters 1 longest b
  unfolding has_characters
  no_characters x q = rw (refused_none (code_points b) r x hr q).0

-- ---- what a question asks of names

pub sound_names : (ps : List Part) (r : Bool) → r ≡ rising_parts ps → r ≡ sound_ask.names (texts ps)
sound_names ps r hr = hr ∙ texts_rise ps

pub profile_names : (ps : List Part) (longest : ℕ) (r g : Bool) → r ≡ rising_parts ps → g ≡ each (has_characters 1 longest) (texts ps)
    → (r && g) ≡ (profile_ask longest).names (texts ps)
profile_names ps longest r g hr hg = rw (hr, texts_rise ps, hg, and-true (each (has_characters 1 longest) (texts ps)))
