-- Concat, number by number in document 01's order, as the code decides; and what it hands on to the writers.
use Prim.Native.Nat.{ℕ, ◌≤◌}
use native.Mathlib.Omega.{arith}
use mathlib.Core.Path.{◌≡◌, refl, ap, sym, ◌∙◌}
use lib.ListN.{length}
use Rattle.layout.specs.Bytes.{Bytes, Octets}
use Rattle.layout.specs.Read.{header, nested, read}
use Rattle.layout.specs.Answer.{gives}
use Rattle.layout.specs.Tree.{Tree}
use Rattle.layout.specs.Check.{checked, nesting}
use Rattle.layout.specs.Room.{EndedIn}
use Rattle.layout.specs.declared.refusal.Refusal.{Refusal}
use Rattle.layout.specs.declared.util.Header.{Header}
use Rattle.layout.specs.declared.util.Header.TheVariants.{Object, Scalar}
use Rattle.layout.proofs.Nestings.{readable_gives}
use Rattle.builders.specs.Build.{on_two}
use Rattle.builders.proofs.Knowns.{known, BothOctets, nested_gives, nested_refused}
use Rattle.builders.proofs.Twos.{two_left, two_right}
use Rattle.edits.specs.Concat.{concat}
use Rattle.edits.specs.Joining.{NoPair}
use Rattle.edits.specs.Merge.{Objects}
use Rattle.edits.proofs.Descents.{container_ready}
use Rattle.std.specs.Prelude.{Ok, Err, Result, Bool}

-- A readable object.
object_ready : (s : Bytes) (n : ℕ) → Octets s → checked (read s) ≡ Ok tt → header s ≡ Ok (Object n)
    → (length s ≤ 65536) × (checked (nested 64 s) ≡ Ok tt)
object_ready s n o c h =
    let w = readable_gives (read s) (Ok tt) (sym c) refl in
    container_ready s w.0 (known s w.0 o w.1) (λ k e. no_scalar k (sym h ∙ e))
  where
    no_scalar : (k : ℕ) → ◌≡◌ {A = Result Header Refusal} (Ok (Object n)) (Ok (Scalar k)) → ⊥
    no_scalar k e = let z : ◌≡◌ {A = ℕ} 0 1 = cc in omega arith

-- What the checks so far have shown of the two records, one record for each check passed.
pub record LeftNests (l r : Bytes) : Type 0 where
  pub octets : BothOctets l r
  pub left : (y : Refusal) → nesting (read l) ≡ Err y → ⊥

pub record BothNest (l r : Bytes) : Type 0 where
  pub before : LeftNests l r
  pub right : (y : Refusal) → nesting (read r) ≡ Err y → ⊥

-- What the writer of an array asks.
abbrev Items : Bytes → Bytes → Bool → Bool → Type 0
Items l r x z = (nesting (read l) ≡ Ok x) × (nesting (read r) ≡ Ok z) × NoPair (header l) (header r)

module _ {l r : Bytes} where
  pub left_refused : BothOctets l r → {o : Bytes} (room : ℕ) {x : Result Bool Refusal} → x ≡ nesting (read l) → {y : Refusal} → x ≡ Err y
      → EndedIn (Err y) o o (on_two concat l r room)
  left_refused s {o} room {x} hx {y} q = two_left concat l r o room y (nested_refused (read l) x y hx q)

  module _ (s : LeftNests l r) where
    left_gives : (t : Tree) × (read l ≡ gives t)
    left_gives = nested_gives (read l) (nesting (read l)) refl s.left

    pub right_refused : {o : Bytes} (room : ℕ) {z : Result Bool Refusal} → z ≡ nesting (read r) → {y : Refusal} → z ≡ Err y
        → EndedIn (Err y) o o (on_two concat l r room)
    right_refused {o} room {z} hz {y} q =
        two_right concat l r o room left_gives.0 left_gives.1 y (nested_refused (read r) z y hz q)

  module _ (s : BothNest l r) where
    left_readable : checked (read l) ≡ Ok tt
    left_readable = ap checked (left_gives s.before).1

    right_readable : checked (read r) ≡ Ok tt
    right_readable = ap checked (nested_gives (read r) (nesting (read r)) refl s.right).1

    pub left_other : {x z : Bool} → nesting (read l) ≡ Ok x → nesting (read r) ≡ Ok z
        → {g : Result Header Refusal} → g ≡ header l → ((m : ℕ) → g ≡ Ok (Object m) → ⊥) → Items l r x z
    left_other hx hz hg q = (hx, hz, λ m n e f. q m (hg ∙ e))

    pub right_other : {x z : Bool} → nesting (read l) ≡ Ok x → nesting (read r) ≡ Ok z
        → {k : Result Header Refusal} → k ≡ header r → ((n : ℕ) → k ≡ Ok (Object n) → ⊥) → Items l r x z
    right_other hx hz hk q = (hx, hz, λ m n e f. q n (hk ∙ f))

    pub two_objects : {m n : ℕ} → header l ≡ Ok (Object m) → header r ≡ Ok (Object n) → Objects l m r n
    two_objects {m} {n} el er =
        let a = object_ready l m s.before.octets.left left_readable el in
        let b = object_ready r n s.before.octets.right right_readable er in
        record {
          left_readable = a.1;
          right_readable = b.1;
          left_short = a.0;
          right_short = b.0;
          left_object = el;
          right_object = er;
        }
