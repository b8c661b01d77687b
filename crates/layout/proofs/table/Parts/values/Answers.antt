-- `layout::table::Parts::values` meets its contract.
use Prim.Native.Nat.{◌+◌}
use native.Mathlib.Omega.{arith}
use native.Mathlib.Nat.{sub-zero}
use mathlib.Core.Path.{ap}
use Rattle.layout.specs.Left.{placed_from}
use Rattle.layout.specs.declared.parts.PartAt.{PartAt}
use Rattle.layout.proofs.Pieces.{nth_is}
use Rattle.layout.proofs.Walks.{lengths_le}
use Rattle.layout.proofs.table.Parts.values.Goals as goal

pub invariant_of-result : goal.invariant_of-result
invariant_of-result c =
    let n = c.args.n in
    record { bounded = rw (c.place_after.ensures, c.first_part.ensures, sub-zero n) (omega (arith, c.requires, lengths_le c.args.s.now 0 n)) }

pub returns : goal.returns
returns c =
    let n = c.args.n in
    ap (λ (p : PartAt). placed_from c.args.s.now p n) (nth_is c.args.s.now (n + n) n _ _ c.first_part.ensures c.place_after.ensures)
