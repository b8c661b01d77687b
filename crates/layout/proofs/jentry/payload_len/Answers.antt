-- `layout::jentry::payload_len` meets its contract.
use lib.Bits.{and_mask}
use Rattle.layout.specs.Entry.{length_of}
use Rattle.layout.proofs.jentry.payload_len.Goals as goal

pub returns : goal.returns
unfolding length_of
returns c = and_mask c.args.encoded 28
