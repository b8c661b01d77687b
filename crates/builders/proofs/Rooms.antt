-- Room for a result: 9 by the length, then 10, then the result.
use Prim.Native.Nat.{ℕ, ◌<◌, ◌≤◌}
use native.Mathlib.Omega.{arith}
use native.Mathlib.Decide.{dec_le}
use mathlib.Core.Path.{◌≡◌, refl, sym, ◌∙◌}
use lib.ListN.{length}
use borrow.Author.Tests.{lt-ltb, le-ltb}
use Rattle.layout.specs.Bytes.{Bytes}
use Rattle.layout.specs.Patch.{patch}
use Rattle.layout.specs.Room.{EndedIn}
use Rattle.layout.specs.declared.refusal.Refusal.{Refusal}
use Rattle.layout.specs.declared.refusal.Refusal.TheVariants.{Result as NoResult, Buffer}
use Rattle.layout.proofs.Patches.{in_short, in_full}
use Rattle.builders.specs.Room.{room_for, sized}
use Rattle.std.specs.Prelude.{Ok, Err, Some, Result}

module _ (len room : ℕ) where
  pub room_long : 65536 < len → Err NoResult ≡ room_for len room
  unfolding room_for
  room_long h = rw (lt-ltb 65536 len h)

  module _ (l : len ≤ 65536) where
    pub room_short : room < len → Err Buffer ≡ room_for len room
    unfolding room_for
    room_short h = rw (le-ltb 65536 len l, lt-ltb room len h)

    pub room_serves : len ≤ room → Ok tt ≡ room_for len room
    unfolding room_for
    room_serves h = rw (le-ltb 65536 len l, le-ltb room len h)

-- What the test says of a result `b`.
module _ (b o : Bytes) (room n : ℕ) (e : n ≡ length b) (r : Result (Unit {0}) Refusal) (hr : r ≡ room_for n room) where
  pub sized_refused : (x : Refusal) → r ≡ Err x → EndedIn (Err x) o o (sized room b)
  unfolding sized
  sized_refused x q = by_length (dec_le n 65536) (dec_le n room)
    where
      same : (y : Refusal) → Err y ≡ room_for n room → y ≡ x
      same y h = let z : Err y ≡ Err x = h ∙ sym hr ∙ q in cc

      by_length : Dec (n ≤ 65536) → Dec (n ≤ room) → EndedIn (Err x) o o (sized room b)
      by_length (no k) d =
          rw (lt-ltb 65536 (length b) (omega arith), same NoResult (room_long n room (omega arith))) (record { answer = refl; bytes = refl })
      by_length (yes k) (no j) =
          rw (le-ltb 65536 (length b) (omega arith), ← same Buffer (room_short n room k (omega arith))) (in_short b o room (omega arith))
      by_length (yes k) (yes j) =
          let z : Ok tt ≡ Err x = room_serves n room k j ∙ sym hr ∙ q in
          let w : ◌≡◌ {A = ℕ} 0 1 = cc in
          let v : ⊥ = omega arith in
          absurd v

  pub sized_done : (o' : Bytes) → r ≡ Ok tt → o' ≡ patch o 0 b → EndedIn (Ok (Some n)) o o' (sized room b)
  unfolding sized
  sized_done o' q p = by_length (dec_le n 65536) (dec_le n room)
    where
      never : (y : Refusal) → Err y ≡ room_for n room → ⊥
      never y h = let z : Err y ≡ Ok tt = h ∙ sym hr ∙ q in let w : ◌≡◌ {A = ℕ} 0 1 = cc in omega arith

      by_length : Dec (n ≤ 65536) → Dec (n ≤ room) → EndedIn (Ok (Some n)) o o' (sized room b)
      by_length (no k) d = absurd (never NoResult (room_long n room (omega arith)))
      by_length (yes k) (no j) = absurd (never Buffer (room_short n room k (omega arith)))
      by_length (yes k) (yes j) = rw (le-ltb 65536 (length b) (omega arith)) (in_full b o room o' n (omega arith) e p)
