-- `layout::number::read_be` meets its contract. The loop keeps that the value is what the bytes so far write.
use Prim.Native.Nat.{◌^◌, ◌<◌}
use mathlib.Core.Path.{◌≡◌}
use lib.ListN.{take}
use Rattle.layout.specs.Bytes.{be_value}
use Rattle.layout.proofs.number.read_be.Given as goal

abbrev pub invariant-loop-b : goal.invariant-loop-b
invariant-loop-b l = (l.value ≡ be_value (take l.b-index l.s)) × (l.value < 256 ^ l.b-index)
