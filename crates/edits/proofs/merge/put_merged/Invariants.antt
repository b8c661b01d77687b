-- `edits::merge::put_merged` meets its contract.
use Prim.Native.Nat.{◌+◌, ◌≤◌}
use Rattle.edits.proofs.Merges.{Merging}
use Rattle.edits.proofs.merge.put_merged.Given as goal

abbrev pub invariant-loop : goal.invariant-loop
invariant-loop l = (l.counter ≤ l.m + l.n) × (l.m + l.n ≤ 16384) × Merging l.left l.m l.right l.n l.initial.out l.initial.at l.out l.l l.r l.at l.counter
