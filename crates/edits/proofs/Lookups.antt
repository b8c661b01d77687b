-- Look-up by a path: from one step to the next, and from what the checks, the header and the steps say to the outcome.
use Prim.Native.Nat.{ℕ, ◌+◌, ◌*◌, ◌^◌, ◌≤◌, ◌<◌}
use mathlib.Core.Path.{◌≡◌, refl, sym, ◌∙◌}
use mathlib.Core.List.{List, [], ◌∷◌, map}
use lib.ListN.{length}
use Rattle.layout.specs.Bytes.{Bytes}
use Rattle.layout.specs.Answer.{gives}
use Rattle.layout.specs.Tree.{Tree, null, boolean, number, string, extension, array, object}
use Rattle.layout.specs.Read.{header, nested, read}
use Rattle.layout.specs.Place.{parts_at}
use Rattle.layout.specs.Parts.{parts_of}
use Rattle.layout.specs.Check.{checked}
use Rattle.layout.specs.Ended.{into}
use Rattle.layout.specs.Room.{EndedIn}
use Rattle.layout.specs.declared.refusal.Refusal.{Refusal}
use Rattle.layout.specs.declared.util.Header.{Header}
use Rattle.layout.specs.declared.util.Header.TheVariants.{Scalar}
use Rattle.layout.proofs.Places.{length_parts}
use Rattle.layout.proofs.Nestings.{head_of, refused_as}
use Rattle.layout.specs.declared.parts.ItemAt.{ItemAt}
use Rattle.builders.proofs.Knowns.{Known, BothOctets}
use Rattle.edits.specs.Keypath.{Step, path_of}
use Rattle.edits.specs.Find.{◌then◌, step_into, look_up}
use Rattle.edits.specs.Path.{get_by, on_path}
use Rattle.edits.specs.Steps.{part_steps, steps_told}
use Rattle.edits.specs.Held.{Held, Stands, Finds, item_record}
use Rattle.layout.specs.Parts.{start_of}
use Rattle.layout.specs.Left.{Placed, placed_at}
use Rattle.edits.proofs.Keys.{placed_step, steps_placed}
use Rattle.edits.proofs.Paths.{length_part_steps, steps_counted, path_refused}
use Rattle.edits.proofs.Descents.{container_ready, finds_none, finds_item, passed_tree, look_absent, look_whole, look_item}
use Rattle.edits.proofs.OnPaths.{path_left, path_path}
use Rattle.std.specs.Prelude.{Ok, Err, Some, None, Result, Option}
use Rattle.layout.specs.Ended.{Ending}

-- The steps of a path of `n`.
abbrev pub steps_in : Bytes → ℕ → List Step
steps_in path n = part_steps (parts_of path n)

-- ---- from one step to the next

-- What the steps that are left find: one step and then those behind it, or nothing more.
abbrev pub steps_left : List Placed → Tree → Option Tree
steps_left ps = look_up (map placed_step ps)

module _ (ps : List Placed) where
  pub left_first : (q : Placed) (qs : List Placed) → ps ≡ q ∷ qs → (t : Tree) → steps_left ps t ≡ (step_into (placed_step q) t then steps_left qs)
  left_first q qs e t = rw e

  pub left_none : ps ≡ [] → (t : Tree) → steps_left ps t ≡ Some t
  left_none e t = rw e

  pub left_all : (path : Bytes) (n : ℕ) → ps ≡ placed_at path (start_of n) n → look_up (steps_in path n) ≡ steps_left ps
  left_all path n e = rw (e, steps_placed path (record { index = 0; place = start_of n }) n)

-- A step into a scalar finds nothing.
scalar_none : (p : Step) (t : Tree) (m : ℕ) → head_of t ≡ Ok (Scalar m) → step_into p t ≡ None
scalar_none p null m e = refl
scalar_none p (boolean x) m e = refl
scalar_none p (number b) m e = refl
scalar_none p (string b) m e = refl
scalar_none p (extension b) m e = refl
scalar_none p (array ts) m e = cc
scalar_none p (object ms) m e = cc

pub scalar_look_up : (p : List Step) (t : Tree) (m : ℕ) → head_of t ≡ Ok (Scalar m) → (length p ≡ 0 → ⊥) → look_up p t ≡ None
scalar_look_up [] t m e q = absurd (q refl)
scalar_look_up (s ∷ p) t m e q = rw (scalar_none s t m e)

pub steps_length : (path : Bytes) (n : ℕ) → length (steps_in path n) ≡ n
steps_length path n = length_part_steps (parts_of path n) ∙ length_parts path 0 (4 + 4 * n) n

-- ---- an edit by a path: the tests that look_up and delete share

-- What the tests so far have shown of the record and the path, one record for each test passed: the record is readable, the path has
-- n steps, the record is a container, it was searched.
pub record TargetRead (a path : Bytes) : Type 0 where
  pub octets : BothOctets a path
  pub readable : checked (read a) ≡ Ok tt

pub record StepsCounted (a path : Bytes) (n : ℕ) : Type 0 where
  pub before : TargetRead a path
  pub count : Ok n ≡ steps_told (path_of path)

pub record ContainerMet (a path : Bytes) (n : ℕ) : Type 0 where
  pub before : StepsCounted a path n
  pub container : (m : ℕ) → header a ≡ Ok (Scalar m) → ⊥

pub record Searched (a path : Bytes) (n : ℕ) (r : Option ItemAt) : Type 0 where
  pub before : ContainerMet a path n
  pub finds : Finds a (look_up (steps_in path n)) r

pub target : {a path : Bytes} → TargetRead a path → (t : Tree) × Known a t
target s = passed_tree (record { octets = s.octets.left; readable = s.readable })

module _ {a path : Bytes} {n : ℕ} (s : StepsCounted a path n) where
  pub steps_are : path_of path ≡ gives (steps_in path n)
  steps_are = (steps_counted path n s.before.octets.right s.count).2

  few_steps : n < 2 ^ 29
  few_steps = (steps_counted path n s.before.octets.right s.count).1

-- What the search asks.
pub search_ready : {a path : Bytes} {n : ℕ} → ContainerMet a path n
    → (length a ≤ 65536) × (checked (nested 64 a) ≡ Ok tt) × (n < 2 ^ 29)
search_ready {a} s =
    let t = target s.before.before in
    let w = container_ready a t.0 t.1 s.container in
    (w.0, w.1, few_steps s.before)

-- What its answer says.
module _ {a path : Bytes} {n : ℕ} {r : Option ItemAt} (s : Searched a path n r) where
  abbrev t : (t : Tree) × Known a t
  t = target s.before.before.before

  pub searched_none : r ≡ None → look_up (steps_in path n) t.0 ≡ None
  searched_none = finds_none a t.0 t.1 s.before.container (look_up (steps_in path n)) r s.finds

  pub searched_item : {x : ItemAt} → r ≡ Some x → (v : Tree) × (look_up (steps_in path n) t.0 ≡ Some v) × Held a x v
  searched_item {x} = finds_item a t.0 t.1 s.before.container (look_up (steps_in path n)) r s.finds x

-- ---- look_up

pub get_is : (p : List Step) (t : Tree) → get_by p t ≡ gives (look_up p t)
unfolding get_by
get_is p t = refl

abbrev On : Bytes → Bytes → ℕ → Ending → Bytes → Bytes → Type 0
On a path room e o o' = EndedIn e o o' (on_path get_by a path room)

module _ {a path : Bytes} where
  pub get_left : BothOctets a path → {o : Bytes} (room : ℕ) {c : Result (Unit {0}) Refusal} → c ≡ checked (read a) → {x : Refusal} → c ≡ Err x
      → On a path room (Err x) o o
  get_left s {o} room {c} hc {x} q = path_left get_by a path o room x (refused_as (read a) c x hc q)

  pub get_path : TargetRead a path → {o : Bytes} (room : ℕ) {k : Result ℕ Refusal} → k ≡ steps_told (path_of path) → {x : Refusal} → k ≡ Err x
      → On a path room (Err x) o o
  get_path s {o} room hk q =
      path_path get_by a path o room (target s).0 (target s).1.reads (path_refused path hk q)

  module _ {n : ℕ} (s : StepsCounted a path n) where
    abbrev tree_of : (t : Tree) × Known a t
    tree_of = target s.before

    get_absent : look_up (steps_in path n) tree_of.0 ≡ None → {o : Bytes} (room : ℕ) → On a path room (Ok None) o o
    unfolding on_path get_by
    get_absent q room = look_absent path_of look_up tree_of.0 tree_of.1 path (steps_in path n) (steps_are s) room q

    -- An empty path gives the record.
    pub get_whole : n ≡ 0 → {e : Ending} {o o' : Bytes} (room : ℕ) → EndedIn e o o' (into room a) → On a path room e o o'
    unfolding on_path get_by parts_at
    get_whole z room = look_whole path_of look_up tree_of.0 tree_of.1 path (steps_in path n) (steps_are s) room (rw z)

    pub get_scalar : (n ≡ 0 → ⊥) → {h : Result Header Refusal} → h ≡ header a → {m : ℕ} → h ≡ Ok (Scalar m) → {o : Bytes} (room : ℕ)
        → On a path room (Ok None) o o
    get_scalar z hh {m} q =
        get_absent
        (scalar_look_up (steps_in path n) tree_of.0 m (sym tree_of.1.head ∙ sym hh ∙ q) (λ e. z (sym (steps_length path n) ∙ e)))

  module _ {n : ℕ} {r : Option ItemAt} (s : Searched a path n r) where
    pub get_none : r ≡ None → {o : Bytes} (room : ℕ) → On a path room (Ok None) o o
    get_none e = get_absent s.before.before (searched_none s e)

    pub get_stands : {x : ItemAt} → r ≡ Some x → Stands a x
    get_stands e = let item = searched_item s e in (item.0, item.2)

    pub get_item : {x : ItemAt} → r ≡ Some x → {e : Ending} {o o' : Bytes} (room : ℕ) → EndedIn e o o' (into room (item_record a x))
        → On a path room e o o'
    unfolding on_path get_by
    get_item q room =
        let counted = s.before.before in
        let item = searched_item s q in
        look_item path_of look_up (target counted.before).0 (target counted.before).1 path (steps_in path n) (steps_are counted) room
        item.0 item.1 item.2
