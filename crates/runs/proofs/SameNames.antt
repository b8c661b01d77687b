-- A member whose name is the one that is looked for.
use Rattle.std.proofs.Common.{◌≡◌, sym, subst}
use Rattle.layout.specs.Bytes.{Bytes}
use Rattle.layout.specs.Tree.{Tree, Members, member}
use Rattle.builders.specs.Order.{find}
use Rattle.edits.proofs.Deletes.{find_first}
use Rattle.std.specs.Prelude.{Some}

pub find_same : (n m : Bytes) (t : Tree) (ms : Members) → n ≡ m → find n (member m t ms) ≡ Some t
find_same n m t ms e = subst (λ (k : Bytes). find k (member m t ms) ≡ Some t) (sym e) (find_first m t ms)
