-- `layout::writer::put_each` meets its contract. The loop keeps that the bytes so far are stored.
use mathlib.Core.Path.{◌≡◌}
use lib.ListN.{take}
use Rattle.layout.specs.Patch.{patch}
use Rattle.layout.proofs.writer.put_each.Given as goal

abbrev pub invariant-loop-i : goal.invariant-loop-i
invariant-loop-i l = l.out ≡ patch l.initial.out l.at (take l.i l.bytes)
