-- `layout::util::header_type` meets its contract.
use native.Mathlib.Omega.{arith}
use Rattle.layout.specs.Entry.{sort_of}
use Rattle.layout.proofs.util.header_type.Goals as goal

pub returns : goal.returns
unfolding sort_of
returns c = omega arith
