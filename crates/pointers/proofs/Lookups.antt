-- Look-up by a pointer, on bytes: the order of numbers is the order of these laws.
use Prim.Native.Nat.{ℕ, ◌≤◌}
use mathlib.Core.Path.{◌≡◌, refl, sym, ◌∙◌}
use mathlib.Core.Bool.{true, false}
use mathlib.Core.List.{List, [], ◌∷◌}
use native.Mathlib.Omega.{arith}
use lib.ListN.{length}
use Rattle.layout.specs.Bytes.{Bytes}
use Rattle.layout.specs.Answer.{gives, refused}
use Rattle.layout.specs.Tree.{Tree}
use Rattle.layout.specs.Read.{header, nested, read}
use Rattle.layout.specs.Check.{checked}
use Rattle.layout.specs.Ended.{into}
use Rattle.layout.specs.Room.{EndedIn, Fits}
use Rattle.layout.specs.declared.refusal.Refusal.{Refusal}
use Rattle.layout.specs.declared.refusal.Refusal.TheVariants.{Pointer}
use Rattle.layout.specs.declared.parts.ItemAt.{ItemAt}
use Rattle.layout.specs.declared.util.Header.{Header}
use Rattle.layout.specs.declared.util.Header.TheVariants.{Scalar}
use Rattle.layout.proofs.Nestings.{head_of, refused_as}
use Rattle.layout.proofs.Pipelines.{record_fits, record_first, record_second}
use Rattle.layout.proofs.Refusals.{RefusedBy, by_require}
use Rattle.builders.proofs.Knowns.{Known}
use Rattle.edits.specs.Held.{Held, Stands, Finds, item_record}
use Rattle.edits.proofs.Descents.{container_ready, finds_none, finds_item, Passed, passed_tree, look_absent, look_whole, look_item}
use Rattle.edits.proofs.Lookups.{scalar_look_up}
use Rattle.pointers.specs.Pointer.{is_pointer, tokens, pointer_of, point, on_pointer}
use Rattle.pointers.proofs.Steps.{as_path, pointer_is_path, left_none, some_tokens}
use Rattle.std.specs.Prelude.{Ok, Err, Some, None, Result, Option}
use Rattle.layout.specs.Ended.{Ending}

-- ---- the text

pub pointer_given : (p : Bytes) → is_pointer p ≡ true → pointer_of p ≡ gives (tokens p)
unfolding pointer_of
pointer_given p h = rw h

pub pointer_refused : (p : Bytes) → is_pointer p ≡ false → pointer_of p ≡ refused Pointer
unfolding pointer_of
pointer_refused p h = rw h

-- Which numbers a pointer can have, beside those of reading: 11.
pub pointer_by : (P : Refusal → Type 0) → P Pointer → (p : Bytes) → RefusedBy P (pointer_of p)
unfolding pointer_of
pointer_by P eleven p = by_require P (is_pointer p) Pointer _ eleven tt

-- A token on a scalar finds nothing.
scalar_point : (ks : List Bytes) (t : Tree) (m : ℕ) → head_of t ≡ Ok (Scalar m) → (length ks ≡ 0 → ⊥) → point ks t ≡ None
scalar_point [] t m e z = absurd (z refl)
scalar_point (k ∷ ks) t m e z =
    sym (pointer_is_path (k ∷ ks) t) ∙ scalar_look_up (as_path (k ∷ ks) t) t m e (λ q. omega (arith, q))

-- ---- what the tests so far have shown, one record for each test passed: the text is a pointer, the record is a container, it was searched

pub record PointerRead (a p : Bytes) : Type 0 where
  pub before : Passed a
  pub text : is_pointer p ≡ true

pub record ContainerMet (a p : Bytes) : Type 0 where
  pub before : PointerRead a p
  pub container : (m : ℕ) → header a ≡ Ok (Scalar m) → ⊥

pub record Searched (a p : Bytes) (r : Option ItemAt) : Type 0 where
  pub before : ContainerMet a p
  pub finds : Finds a (point (tokens p)) r

abbrev target : {a p : Bytes} → PointerRead a p → (t : Tree) × Known a t
target s = passed_tree s.before

-- What the search asks.
pub search_ready : {a p : Bytes} → ContainerMet a p → (length a ≤ 65536) × (checked (nested 64 a) ≡ Ok tt)
search_ready {a} s = let t = target s.before in container_ready a t.0 t.1 s.container

-- ---- the ends

pub pointer_fits : (a p : Bytes) (room : ℕ) → Fits room (on_pointer a p room)
unfolding on_pointer
pointer_fits a p room = record_fits pointer_of (λ t ks. gives (point ks t)) a p room

abbrev On : Bytes → Bytes → ℕ → Ending → Bytes → Bytes → Type 0
On a p room e o o' = EndedIn e o o' (on_pointer a p room)

-- The record is refused.
pub get_left : (a p o : Bytes) (room : ℕ) (c : Result (Unit {0}) Refusal) (x : Refusal) → c ≡ checked (read a) → c ≡ Err x → On a p room (Err x) o o
unfolding on_pointer
get_left a p o room c x hc q =
    record_first pointer_of (λ t ks. gives (point ks t)) a p room o x (refused_as (read a) c x hc q)

-- The text is.
pub get_bad : {a : Bytes} → Passed a → (p : Bytes) {o : Bytes} (room : ℕ) → is_pointer p ≡ false → On a p room (Err Pointer) o o
unfolding on_pointer
get_bad {a} s p {o} room q =
    let t = passed_tree s in
    record_second pointer_of (λ t ks. gives (point ks t)) a p room o t.0 t.1.reads Pointer (pointer_refused p q)

module _ {a p : Bytes} where
  module _ (s : PointerRead a p) where
    get_absent : point (tokens p) (target s).0 ≡ None → {o : Bytes} (room : ℕ) → On a p room (Ok None) o o
    unfolding on_pointer
    get_absent q room = look_absent pointer_of point (target s).0 (target s).1 p (tokens p) (pointer_given p s.text) room q

    -- "The empty pointer gives the record."
    pub get_whole : length p ≡ 0 → {e : Ending} {o o' : Bytes} (room : ℕ) → EndedIn e o o' (into room a) → On a p room e o o'
    unfolding on_pointer
    get_whole z room =
        look_whole pointer_of point (target s).0 (target s).1 p (tokens p) (pointer_given p s.text) room
        (left_none p z (target s).0)

    pub get_scalar : (length p ≡ 0 → ⊥) → {h : Result Header Refusal} → h ≡ header a → {m : ℕ} → h ≡ Ok (Scalar m) → {o : Bytes} (room : ℕ)
        → On a p room (Ok None) o o
    get_scalar z hh {m} q =
        get_absent (scalar_point (tokens p) (target s).0 m (sym (target s).1.head ∙ sym hh ∙ q) (some_tokens p z))

  module _ {r : Option ItemAt} (s : Searched a p r) where
    abbrev text : PointerRead a p
    text = s.before.before

    pub get_none : r ≡ None → {o : Bytes} (room : ℕ) → On a p room (Ok None) o o
    get_none q =
        let t = target text in
        get_absent text (finds_none a t.0 t.1 s.before.container (point (tokens p)) r s.finds q)

    item : {x : ItemAt} → r ≡ Some x → (v : Tree) × (point (tokens p) (target text).0 ≡ Some v) × Held a x v
    item {x} = finds_item a (target text).0 (target text).1 s.before.container (point (tokens p)) r s.finds x

    pub get_stands : {x : ItemAt} → r ≡ Some x → Stands a x
    get_stands q = let found = item q in (found.0, found.2)

    pub get_item : {x : ItemAt} → r ≡ Some x → {e : Ending} {o o' : Bytes} (room : ℕ) → EndedIn e o o' (into room (item_record a x))
        → On a p room e o o'
    unfolding on_pointer
    get_item q room =
        let t = target text in
        let found = item q in
        look_item pointer_of point t.0 t.1 p (tokens p) (pointer_given p text.text) room found.0 found.1 found.2
