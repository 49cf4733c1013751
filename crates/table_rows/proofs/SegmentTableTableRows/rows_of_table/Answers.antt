use Rattle.std.proofs.lemmas.Result.{err_from_is_err_and}
use Rattle.table_rows.proofs.Written.{rows-refused}
use Rattle.table_rows.proofs.SegmentTableTableRows.rows_of_table.Goals as goal

pub returns-in_err-accepted : goal.returns-in_err-accepted
returns-in_err-accepted g c =
    let p = err_from_is_err_and c.from_residual.result c.from_residual.ensures.1 in rw (p.1, p.2) (rows-refused _ _ _ c.in_err-accepted.ensures)

pub returns : goal.returns
returns g c = rw c.in_ok-accepted.ensures.0 at c.rows_of_table.ensures
