-- `builders::join::Piece::count` meets its contract.
use Rattle.builders.proofs.Joins.{few}
use Rattle.builders.proofs.join.Piece.count.Goals as goal

pub returns-clause-few : goal.returns-clause-few
returns-clause-few c = rw c.given_count.ensures (few _ _ c.args.self.now.lies)
