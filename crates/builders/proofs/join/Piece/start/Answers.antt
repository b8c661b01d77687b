-- `builders::join::Piece::start` meets its contract.
use native.Mathlib.Omega.{arith}
use Rattle.builders.proofs.Joins.{start_table, start_whole}
use Rattle.builders.proofs.join.Piece.start.Goals as goal

pub overflow_mul-result : goal.overflow_mul-result
overflow_mul-result c = omega (arith, start_table _ _ c.in-Table.is, c.args.self.now.lies)

pub overflow_add-result : goal.overflow_add-result
overflow_add-result c = omega (arith, start_table _ _ c.in-Table.is, c.args.self.now.lies)

pub returns-in-Table : goal.returns-in-Table
returns-in-Table c = start_table _ _ c.in-Table.is

pub returns-in-Whole : goal.returns-in-Whole
returns-in-Whole c = start_whole _ c.in-Whole.is
