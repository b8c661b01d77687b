-- Delete by a path, number by number in document 01's order, as the code decides.
use Prim.Native.Nat.{ℕ, ◌^◌, ◌<◌}
use native.Mathlib.Omega.{arith}
use mathlib.Core.Path.{◌≡◌, refl, ap, sym, ◌∙◌}
use mathlib.Core.Bool.{true, false}
use mathlib.Core.List.{List, [], ◌∷◌}
use lib.ListN.{length, length-append}
use Rattle.layout.specs.Bytes.{Bytes}
use Rattle.layout.specs.Answer.{gives, refused, ◌>>=◌}
use Rattle.layout.specs.Entry.{code, code_of, entry_at}
use Rattle.layout.specs.Tree.{Tree, null, boolean, number, string, extension, array, object, none, item, kind}
use Rattle.layout.specs.Encode.{part, encode, payload, scalar}
use Rattle.layout.specs.Read.{header, nested, read}
use Rattle.layout.specs.Check.{checked}
use Rattle.layout.specs.Ended.{into}
use Rattle.layout.specs.Room.{EndedIn}
use Rattle.layout.specs.Place.{parts_at}
use Rattle.layout.specs.declared.refusal.Refusal.{Refusal}
use Rattle.layout.specs.declared.refusal.Refusal.TheVariants.{Kind}
use Rattle.layout.specs.declared.util.Header.TheVariants.{Scalar}
use Rattle.layout.specs.declared.item.Kind.TheVariants.{Container}
use Rattle.layout.proofs.Level.{code_small}
use Rattle.layout.proofs.Decoding.{container_encode}
use Rattle.layout.proofs.Encoding.{items_fit}
use Rattle.layout.proofs.Readables.{record_of_length}
use Rattle.layout.proofs.Fields.{code_entry}
use Rattle.layout.proofs.Nestings.{head_of, refused_as}
use Rattle.layout.proofs.Patches.{in_as}
use Rattle.builders.proofs.Knowns.{Known, BothOctets}
use Rattle.layout.specs.declared.parts.ItemAt.{ItemAt}
use Rattle.edits.specs.Keypath.{Step, path_of}
use Rattle.edits.specs.Find.{◌then◌, step_into, look_up}
use Rattle.edits.specs.Delete.{anew, remains, delete, deletable}
use Rattle.edits.specs.Path.{delete_by, on_path}
use Rattle.edits.specs.Steps.{steps_told}
use Rattle.edits.specs.Held.{finding}
use Rattle.edits.specs.Remains.{remains_of}
use Rattle.edits.proofs.Deletes.{then_some}
use Rattle.edits.proofs.Onwards.{inside_container, anew_kind}
use Rattle.edits.proofs.Meanings.{deleted_whole, deleted_missing}
use Rattle.edits.proofs.Rows.{row_entry}
use Rattle.edits.proofs.Paths.{path_refused}
use Rattle.edits.proofs.OnPaths.{path_left, path_path, path_edit, path_done}
use Rattle.edits.proofs.Descents.{search_is, nested_read}
use Rattle.edits.proofs.Lookups.{steps_in, steps_length}
use Rattle.edits.proofs.Lookups.{TargetRead, StepsCounted, ContainerMet, Searched, target, steps_are, searched_none, searched_item}
use Rattle.std.specs.Prelude.{Ok, Err, Some, None, Result, Option}
use Rattle.layout.specs.Ended.{Ending}

-- A scalar by the code of its entry.
scalar_entry : (t : Tree) → length (payload t) < 2 ^ 28 → code_of (entry_at (scalar t) 0) ≡ code (kind t)
scalar_entry t l =
    let f = items_fit (item t none) (omega (arith, length-append (payload t) [])) in
    ap code_of (row_entry (2 ^ 29) [] (part t) [] f).0 ∙ code_entry (code (kind t)) (length (payload t)) (omega (arith, code_small (kind t))) l

scalar_encode : (t : Tree) (m : ℕ) → head_of t ≡ Ok (Scalar m) → scalar t ≡ encode t
scalar_encode null m h = refl
scalar_encode (boolean x) m h = refl
scalar_encode (number b) m h = refl
scalar_encode (string b) m h = refl
scalar_encode (extension b) m h = refl
scalar_encode (array ts) m h = let z : ◌≡◌ {A = ℕ} 0 1 = cc in let w : ⊥ = omega arith in absurd w
scalar_encode (object ms) m h = let z : ◌≡◌ {A = ℕ} 0 1 = cc in let w : ⊥ = omega arith in absurd w

-- Of scalars only an extension can be deleted in, and it stays.
not_deletable : (t : Tree) (m : ℕ) → head_of t ≡ Ok (Scalar m) → (code (kind t) ≡ 6 → ⊥) → deletable t ≡ refused Kind
not_deletable null m h q = refl
not_deletable (boolean x) m h q = refl
not_deletable (number b) m h q = refl
not_deletable (string b) m h q = refl
not_deletable (extension b) m h q = absurd (q refl)
not_deletable (array ts) m h q = let z : ◌≡◌ {A = ℕ} 0 1 = cc in let w : ⊥ = omega arith in absurd w
not_deletable (object ms) m h q = let z : ◌≡◌ {A = ℕ} 0 1 = cc in let w : ⊥ = omega arith in absurd w

an_extension : (t : Tree) (m : ℕ) → head_of t ≡ Ok (Scalar m) → code (kind t) ≡ 6 → (b : Bytes) × (t ≡ extension b)
an_extension null m h q = let w : ⊥ = omega arith in absurd w
an_extension (boolean true) m h q = let w : ⊥ = omega arith in absurd w
an_extension (boolean false) m h q = let w : ⊥ = omega arith in absurd w
an_extension (number b) m h q = let w : ⊥ = omega arith in absurd w
an_extension (string b) m h q = let w : ⊥ = omega arith in absurd w
an_extension (extension b) m h q = (b, refl)
an_extension (array ts) m h q = let z : ◌≡◌ {A = ℕ} 0 1 = cc in let w : ⊥ = omega arith in absurd w
an_extension (object ms) m h q = let z : ◌≡◌ {A = ℕ} 0 1 = cc in let w : ⊥ = omega arith in absurd w

extension_stays : (p : List Step) (b : Bytes) → delete p (extension b) ≡ extension b
extension_stays [] b = refl
extension_stays (s ∷ p) b = refl

container_deletable : (t : Tree) → ((m : ℕ) → head_of t ≡ Ok (Scalar m) → ⊥) → deletable t ≡ gives t
container_deletable null q = absurd (q 0 refl)
container_deletable (boolean x) q = absurd (q 0 refl)
container_deletable (number b) q = absurd (q 0 refl)
container_deletable (string b) q = absurd (q 0 refl)
container_deletable (extension b) q = refl
container_deletable (array ts) q = refl
container_deletable (object ms) q = refl

delete_is : (p : List Step) (t u : Tree) → deletable t ≡ gives u → delete_by p t ≡ gives (Some (delete p u))
unfolding delete_by ◌>>=◌
delete_is p t u e = rw e

delete_refused : (p : List Step) (t : Tree) (r : Refusal) → deletable t ≡ refused r → delete_by p t ≡ refused r
unfolding delete_by ◌>>=◌
delete_refused p t r e = rw e

-- An empty path deletes nothing.
no_steps : (path : Bytes) (n : ℕ) (t : Tree) → n ≡ 0 → delete (steps_in path n) t ≡ t
unfolding parts_at
no_steps path n t z = rw z (deleted_whole t)

-- What is left where the path finds an item.
remains_encoded : (s : Bytes) (p : List Step) (t v : Tree) → nested 64 s ≡ gives t → (length p ≡ 0 → ⊥) → look_up p t ≡ Some v
    → remains_of s p ≡ encode (delete p t)
unfolding remains_of
remains_encoded s [] t v e z f = absurd (z refl)
remains_encoded s (q ∷ p) t v e z f =
    let i = then_some (step_into q t) (look_up p) v f in
    let k : kind (anew (step_into q t then remains p) q t) ≡ Container = anew_kind (step_into q t then remains p) q t ∙ inside_container q t i.0 i.1 in
    let d : delete (q ∷ p) t ≡ anew (step_into q t then remains p) q t = rw f in
    rw (e, d) (sym (container_encode (anew (step_into q t then remains p) q t) (payload (anew (step_into q t then remains p) q t)) (rw k)))

abbrev On : Bytes → Bytes → ℕ → Ending → Bytes → Bytes → Type 0
On a path room e o o' = EndedIn e o o' (on_path delete_by a path room)

module _ {a path : Bytes} where
  pub delete_left : BothOctets a path → {o : Bytes} (room : ℕ) {c : Result (Unit {0}) Refusal} → c ≡ checked (read a) → {x : Refusal} → c ≡ Err x
      → On a path room (Err x) o o
  delete_left s {o} room {c} hc {x} q = path_left delete_by a path o room x (refused_as (read a) c x hc q)

  pub delete_path : TargetRead a path → {o : Bytes} (room : ℕ) {k : Result ℕ Refusal} → k ≡ steps_told (path_of path) → {x : Refusal} → k ≡ Err x
      → On a path room (Err x) o o
  delete_path s {o} room hk q =
      path_path delete_by a path o room (target s).0 (target s).1.reads (path_refused path hk q)

  module _ {n : ℕ} (s : StepsCounted a path n) where
    abbrev t : Tree
    t = (target s.before).0

    known_target : Known a t
    known_target = (target s.before).1

    -- The record as it came.
    stays : (u : Tree) → deletable t ≡ gives u → delete (steps_in path n) u ≡ t
        → {e : Ending} {o o' : Bytes} (room : ℕ) → EndedIn e o o' (into room a) → On a path room e o o'
    stays u d q {e} {o} {o'} room w =
        path_done delete_by a path o room t known_target.reads (steps_in path n) (steps_are s) t
        (delete_is (steps_in path n) t u d ∙ ap (λ (x : Tree). gives (Some x)) q)
        e o' (in_as _ a (encode t) (sym known_target.bytes) w)

    -- A scalar: `v` is the code of its entry.
    module _ {m : ℕ} (q : header a ≡ Ok (Scalar m)) {w v : ℕ} (hw : w ≡ entry_at a 0) (hv : v ≡ code_of w) where
      head : head_of t ≡ Ok (Scalar m)
      head = sym known_target.head ∙ q

      code_is : v ≡ code (kind t)
      code_is =
          let e : scalar t ≡ a = scalar_encode t m head ∙ known_target.bytes in
          let l : length (payload t) < 2 ^ 28 =
          omega (arith, ap length e, known_target.short, record_of_length (2 ^ 29) (part t ∷ []), length-append (payload t) []) in
          hv ∙ ap code_of hw ∙ ap (λ (x : Bytes). code_of (entry_at x 0)) (sym e) ∙ scalar_entry t l

      pub delete_extension : v ≡ 6 → {e : Ending} {o o' : Bytes} (room : ℕ) → EndedIn e o o' (into room a) → On a path room e o o'
      delete_extension z =
          let x = an_extension t m head (sym code_is ∙ z) in
          stays t (ap deletable x.1 ∙ ap gives (sym x.1))
          (ap (delete (steps_in path n)) x.1 ∙ extension_stays (steps_in path n) x.0 ∙ sym x.1)

      pub delete_kind : (v ≡ 6 → ⊥) → {o : Bytes} (room : ℕ) → On a path room (Err Kind) o o
      delete_kind z {o} room =
          path_edit delete_by a path o room t known_target.reads (steps_in path n) (steps_are s) Kind
          (delete_refused (steps_in path n) t Kind (not_deletable t m head (λ e. z (code_is ∙ e))))

  -- A container.
  module _ {n : ℕ} (s : ContainerMet a path n) where
    allowed : deletable (t s.before) ≡ gives (t s.before)
    allowed = container_deletable (t s.before) (λ m e. s.container m ((known_target s.before).head ∙ e))

    pub delete_whole : n ≡ 0 → {e : Ending} {o o' : Bytes} (room : ℕ) → EndedIn e o o' (into room a) → On a path room e o o'
    delete_whole z = stays s.before (t s.before) allowed (no_steps path n (t s.before) z)

  module _ {n : ℕ} {r : Option ItemAt} (s : Searched a path n r) where
    abbrev counted : StepsCounted a path n
    counted = s.before.before

    pub delete_none : r ≡ None → {e : Ending} {o o' : Bytes} (room : ℕ) → EndedIn e o o' (into room a) → On a path room e o o'
    delete_none q = stays counted (t counted) (allowed s.before) (deleted_missing (steps_in path n) (t counted) (searched_none s q))

    reads : nested 64 a ≡ gives (t counted)
    reads = nested_read a (t counted) (known_target counted).reads s.before.container

    pub delete_finds : {x : ItemAt} → r ≡ Some x → (v : Tree) × (finding a (steps_in path n) ≡ Some v)
    delete_finds q = let item = searched_item s q in (item.0, search_is a (t counted) (look_up (steps_in path n)) reads ∙ item.1)

    pub delete_found : {x : ItemAt} → r ≡ Some x → (n ≡ 0 → ⊥) → {e : Ending} {o o' : Bytes} (room : ℕ)
        → EndedIn e o o' (into room (remains_of a (steps_in path n))) → On a path room e o o'
    delete_found q z {e} {o} {o'} room w =
        let item = searched_item s q in
        path_done delete_by a path o room (t counted) (known_target counted).reads (steps_in path n) (steps_are counted)
        (delete (steps_in path n) (t counted)) (delete_is (steps_in path n) (t counted) (t counted) (allowed s.before)) e o'
        (in_as _ (remains_of a (steps_in path n)) (encode (delete (steps_in path n) (t counted)))
        (remains_encoded a (steps_in path n) (t counted) item.0 reads (λ y. z (sym (steps_length path n) ∙ y)) item.1) w)
