-- `layout::util::header_len` meets its contract.
use lib.Bits.{and_mask}
use Rattle.layout.specs.Entry.{count_of}
use Rattle.layout.proofs.util.header_len.Goals as goal

pub returns : goal.returns
unfolding count_of
returns c = and_mask c.args.header 29
