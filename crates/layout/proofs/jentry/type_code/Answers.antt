-- `layout::jentry::type_code` meets its contract.
use lib.Bits.{and_mask}
use Prim.Native.Nat.{◌/◌, ◌^◌}
use Rattle.layout.specs.Entry.{code_of}
use Rattle.layout.proofs.jentry.type_code.Goals as goal

pub returns : goal.returns
unfolding code_of
returns c = and_mask (c.args.encoded / 2 ^ 28) 3
