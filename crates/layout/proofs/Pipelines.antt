-- An edit on bytes, step by step: document 01's order of numbers is the order of these laws.
use Prim.Native.Nat.{ℕ, ◌≤◌}
use native.Mathlib.Omega.{arith}
use mathlib.Core.Path.{◌≡◌, refl}
use mathlib.Core.Bool.{Bool, true, false, not, cond}
use lib.Dec.{T, ltb, nltb→le}
use lib.ListN.{length}
use Rattle.layout.specs.Bytes.{Bytes}
use Rattle.layout.specs.Answer.{Answer, gives, refused, ◌>>=◌}
use Rattle.layout.specs.Tree.{Tree}
use Rattle.layout.specs.Encode.{encode}
use Rattle.layout.specs.Read.{read}
use Rattle.layout.specs.Ended.{result, refusal, into}
use Rattle.layout.specs.Room.{EndedIn, Fits}
use Rattle.layout.specs.Pipeline.{found, written, on_record}
use Rattle.layout.specs.declared.refusal.Refusal.{Refusal}
use Rattle.layout.specs.declared.refusal.Refusal.TheVariants.{Buffer}
use Rattle.layout.proofs.Patches.{in_refused, into_fits}
use Rattle.std.specs.Prelude.{Ok, Err, Some, None, Option}
use Rattle.layout.specs.Ended.{Ending}

-- An edit that always finds something.
pub found_written : (room : ℕ) (m : Answer Tree) → found room (m >>= λ v. gives (Some v)) ≡ written room m
unfolding ◌>>=◌
found_written room (gives t) = refl
found_written room (refused x) = refl

found_fits : (room : ℕ) (m : Answer (Option Tree)) → Fits room (found room m)
found_fits room (gives None) = tt
found_fits room (gives (Some t)) = into_fits room (encode t)
found_fits room (refused x) = tt

-- A result, and what it is the record of; it goes into the room.
into_result : (room : ℕ) (x b : Bytes) → into room x ≡ result b → (b ≡ x) × (length b ≤ room)
unfolding into
into_result room x b = go (ltb room (length x)) (nltb→le room (length x))
  where
    go : (t : Bool) → (T (not t) → length x ≤ room) → cond t (refusal Buffer) (result x) ≡ result b → (b ≡ x) × (length b ≤ room)
    go true h q = let z : ◌≡◌ {A = ℕ} 0 1 = cc in let w : ⊥ = omega arith in absurd w
    go false h q = let e : b ≡ x = cc in (e, rw e (h tt))

pub found_result : (room : ℕ) (m : Answer (Option Tree)) (b : Bytes) → found room m ≡ result b
    → (v : Tree) × (m ≡ gives (Some v)) × (b ≡ encode v) × (length b ≤ room)
found_result room (refused r) b e = let z : ◌≡◌ {A = ℕ} 0 1 = cc in let w : ⊥ = omega arith in absurd w
found_result room (gives None) b e = let z : ◌≡◌ {A = ℕ} 0 1 = cc in let w : ⊥ = omega arith in absurd w
found_result room (gives (Some v)) b e = let i = into_result room (encode v) b e in (v, refl, i.0, i.1)

pub written_result : (room : ℕ) (m : Answer Tree) (b : Bytes) → written room m ≡ result b
    → (v : Tree) × (m ≡ gives v) × (b ≡ encode v) × (length b ≤ room)
written_result room (refused r) b e = let z : ◌≡◌ {A = ℕ} 0 1 = cc in let w : ⊥ = omega arith in absurd w
written_result room (gives v) b e = let i = into_result room (encode v) b e in (v, refl, i.0, i.1)

module _ {P : Type 0} (beside : Bytes → Answer P) (edit : Tree → P → Answer (Option Tree)) (target other : Bytes) (room : ℕ) where
  pub on_record_is : on_record beside edit target other room ≡ found room (read target >>= λ t. beside other >>= λ p. edit t p)
  unfolding on_record
  on_record_is = refl

  -- A result goes into the room.
  pub record_fits : Fits room (on_record beside edit target other room)
  unfolding on_record
  record_fits = found_fits room (read target >>= λ t. beside other >>= λ p. edit t p)

  module _ (o : Bytes) where
    -- The record is refused.
    pub record_first : (x : Refusal) → read target ≡ refused x → EndedIn (Err x) o o (on_record beside edit target other room)
    unfolding on_record
    record_first x e = in_refused o _ x (rw e)

    module _ (t : Tree) (ht : read target ≡ gives t) where
      -- What stands beside it is.
      pub record_second : (x : Refusal) → beside other ≡ refused x → EndedIn (Err x) o o (on_record beside edit target other room)
      unfolding on_record
      record_second x e = in_refused o _ x (rw (ht, e))

      module _ (p : P) (hp : beside other ≡ gives p) where
        -- What the edit says of the two.
        pub record_given : (m : Answer (Option Tree)) → edit t p ≡ m → on_record beside edit target other room ≡ found room m
        unfolding on_record
        record_given m e = rw (ht, hp, e)

        pub record_edit : (x : Refusal) → edit t p ≡ refused x → EndedIn (Err x) o o (on_record beside edit target other room)
        record_edit x e = in_refused o _ x (record_given (refused x) e)

        pub record_absent : edit t p ≡ gives None → EndedIn (Ok None) o o (on_record beside edit target other room)
        record_absent e = rw (record_given (gives None) e) (record { answer = refl; bytes = refl })

        pub record_done : (v : Tree) → edit t p ≡ gives (Some v) → (e : Ending) (o' : Bytes) → EndedIn e o o' (into room (encode v))
            → EndedIn e o o' (on_record beside edit target other room)
        record_done v q e o' h = rw (record_given (gives (Some v)) q) h
