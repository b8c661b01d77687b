-- `values::members::Members::new` meets its contract.
use Prim.Native.Nat.{◌+◌}
use Rattle.layout.specs.Parts.{first_part, nth_part}
use Rattle.values.specs.Alike.{first}
use Rattle.values.proofs.Besides.{beside_from}
use Rattle.values.proofs.members.Members.new.Goals as goal

pub returns : goal.returns
unfolding first
returns c =
    let n = c.args.n in
    rw (c.names.ensures, c.values.ensures) (beside_from c.args.bytes.now (first_part (n + n)) (nth_part c.args.bytes.now (n + n) n) n)
