-- `builders::join::Piece::put_jentries` meets its contract.
use native.Mathlib.Omega.{arith}
use Rattle.builders.proofs.Joins.{start_table, entries_table, entries_whole}
use Rattle.builders.proofs.join.Piece.put_jentries.Goals as goal

pub overflow_mul-n : goal.overflow_mul-n
overflow_mul-n c = omega (arith, start_table _ _ c.in-Table.is, c.args.self.now.lies)

pub returns-in-Table : goal.returns-in-Table
returns-in-Table c = entries_table _ _ _ _ _ _ _ c.in-Table.is c.slice.ensures c.copy.ensures

pub returns-in-Whole : goal.returns-in-Whole
returns-in-Whole c =
    entries_whole _ _ _ _ _ _ c.in-Whole.is (omega (arith, c.args.self.now.lies)) c.encoded.ensures c.put_u32.ensures
