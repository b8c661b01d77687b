-- `layout::number::uint_width` meets its contract.
use native.Mathlib.Omega.{arith}
use borrow.Author.Tests.{lt-ltb, le-ltb}
use Rattle.layout.specs.Number.{uint_width}
use Rattle.layout.proofs.number.uint_width.Goals as goal

pub returns-in-0-to-255 : goal.returns-in-0-to-255
unfolding uint_width
returns-in-0-to-255 c = rw (lt-ltb c.args.v 256 (omega arith))

pub returns-in-256-to-65535 : goal.returns-in-256-to-65535
unfolding uint_width
returns-in-256-to-65535 c = rw (le-ltb c.args.v 256 (omega arith), lt-ltb c.args.v 65536 (omega arith))

pub returns-in-65536-to-4294967295 : goal.returns-in-65536-to-4294967295
unfolding uint_width
returns-in-65536-to-4294967295 c =
    rw (le-ltb c.args.v 256 (omega arith), le-ltb c.args.v 65536 (omega arith), lt-ltb c.args.v 4294967296 (omega arith))

pub returns-in_default : goal.returns-in_default
unfolding uint_width
returns-in_default c =
    rw (le-ltb c.args.v 256 (omega arith), le-ltb c.args.v 65536 (omega arith), le-ltb c.args.v 4294967296 (omega arith))
