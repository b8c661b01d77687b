-- `layout::util::read_part` meets its contract.
use native.Mathlib.Omega.{arith}
use Rattle.layout.specs.Bytes.{word_at}
use Rattle.layout.proofs.Fields.{word_from}
use Rattle.layout.proofs.Patterns.{part_word_out}
use Rattle.layout.proofs.util.read_part.Goals as goal

pub returns-then-s-at : goal.returns-then-s-at
unfolding word_at
returns-then-s-at c = (part_word_out c.args.s.now c.args.at 4 (omega arith)).0

pub returns : goal.returns
returns c = word_from _ _ _ _ _ _ _ c.from_be_bytes.ensures c.byte.ensures c.byte-2.ensures c.byte-3.ensures c.byte-4.ensures
