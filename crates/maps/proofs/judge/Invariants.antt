use Rattle.std.proofs.Common.{◌≡◌, ◌+◌, ◌-◌, ◌≤◌, length}
use Rattle.slices.proofs.Ranges.{run}
use Rattle.std.specs.Prelude.{Ok}
use Rattle.std.specs.Result.{result_and}
use Rattle.rows.specs.Rows.{total}
use Rattle.rows.specs.Lent.{row_at, rows}
use Rattle.maps.specs.Answers.{first_bad}
use Rattle.maps.proofs.judge.Given as goal

abbrev pub invariant-loop-i : goal.invariant-loop-i
invariant-loop-i l =
    record {
      within : l.i ≤ length l.shifts;
      left :
          result_and
          (first_bad l.next l.i (run (row_at l.words l.shifts) l.i (length l.shifts - l.i)))
          (Ok (l.next + total (run (row_at l.words l.shifts) l.i (length l.shifts - l.i))))
          ≡ result_and (first_bad 0 0 (rows l.words l.shifts)) (Ok (total (rows l.words l.shifts)));
    }
