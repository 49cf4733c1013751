use Rattle.std.proofs.Common.{arith, ◌≤◌, length}
use Rattle.table_text.specs.Read.{work_needed}
use Rattle.table_text.proofs.Rooms.{enough}
use Rattle.table_text.proofs.staging.stage.Goals as goal

pub document-requires-clause-room : goal.document-requires-clause-room
document-requires-clause-room c =
    let fits : work_needed (length c.args.text.now) ≤ length c.args.work.now = omega (arith, c.if-work-work_needed.false, c.work_needed.ensures) in
    (enough _ _ fits).text

pub stage_lists-requires-clause-room : goal.stage_lists-requires-clause-room
stage_lists-requires-clause-room c =
    let fits : work_needed (length c.args.text.now) ≤ length c.args.work.now = omega (arith, c.if-work-work_needed.false, c.work_needed.ensures) in
    omega (arith, (enough _ _ fits).least)
