-- The law of an outline: a readable record is short.
use Prim.Native.Nat.{ℕ, ◌≤◌}
use mathlib.Core.Path.{◌≡◌, refl}
use mathlib.Core.Bool.{Bool, true, false}
use native.Mathlib.Omega.{arith}
use borrow.Author.Tests.{leb-true, leb-false}
use lib.Dec.{leb}
use lib.ListN.{length}
use Rattle.layout.specs.Bytes.{Bytes}
use Rattle.layout.specs.Read.{read}
use Rattle.layout.specs.Check.{checked}
use Rattle.layout.proofs.Checks.{read_long}
use Rattle.std.specs.Prelude.{Ok, Result}
use Rattle.layout.specs.declared.refusal.Refusal.{Refusal}

pub readable_short : (s : Bytes) (c : Result (Unit {0}) Refusal) → c ≡ checked (read s) → c ≡ Ok tt → length s ≤ 65536
readable_short s c hc q = by_test (leb (length s) 65536) refl
  where
    by_test : (b : Bool) → leb (length s) 65536 ≡ b → length s ≤ 65536
    by_test true t = leb-true (length s) 65536 t
    by_test false t =
        let l = read_long s (leb-false (length s) 65536 t) in
        let z : ◌≡◌ {A = ℕ} 0 1 = cc in
        absurd (omega arith)
