use Rattle.std.proofs.Common.{sym}
use Rattle.table.proofs.Checks.{fine-front}
use Rattle.table.proofs.SegmentTable.check_in_order.Goals as goal

pub check_segments-requires-clause-fine : goal.check_segments-requires-clause-fine
check_segments-requires-clause-fine g c = fine-front _ (sym c.in_ok-front_refusal.ensures)
