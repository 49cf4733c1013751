use Rattle.std.proofs.Common.{arith}
use Rattle.rules.proofs.Walks.{passing_of, passing-none}
use Rattle.table.proofs.SegmentTable.pass.Goals as goal

pub returns-then-from-source_count : goal.returns-then-from-source_count
returns-then-from-source_count g c = passing-none _ _ _ (omega arith) c.no_end.ensures

pub returns : goal.returns
returns g c = passing_of _ _ _ (omega arith) (rw c.source.ensures at c.pass.ensures)
