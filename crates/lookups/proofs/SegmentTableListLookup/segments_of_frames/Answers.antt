use Rattle.std.proofs.lemmas.Result.{err_from_is_err_and}
use Rattle.lookups.proofs.Answers.{list-refused}
use Rattle.lookups.proofs.SegmentTableListLookup.segments_of_frames.Goals as goal

pub returns-in_err-accepted : goal.returns-in_err-accepted
returns-in_err-accepted g c =
    let p = err_from_is_err_and c.from_residual.result c.from_residual.ensures.1 in rw (p.1, p.2) (list-refused _ _ _ c.in_err-accepted.ensures)

pub returns : goal.returns
returns g c = rw c.in_ok-accepted.ensures.0 at c.segments_of_frames.ensures
