use Rattle.std.proofs.Common.{◌≡◌, ◌+◌, ◌-◌, ◌<◌, ◌≤◌, length}
use Rattle.slices.proofs.Ranges.{run}
use Rattle.conditions.specs.Conditions.{max_u64}
use Rattle.rows.specs.Rows.{merge, merge_into}
use Rattle.rows.specs.Lent.{row_at, rows}
use Rattle.maps.proofs.FrameMap.count_merge.Given as goal

abbrev pub invariant-loop-i : goal.invariant-loop-i
invariant-loop-i l =
    record {
      within : l.i ≤ length l.self.shifts.now;
      fewer : l.done < l.i;
      fits : l.current.first + l.current.count ≤ max_u64;
      left :
          l.done + length (merge_into l.current (run (row_at l.self.words.now l.self.shifts.now) l.i (length l.self.shifts.now - l.i)))
          ≡ length (merge (rows l.self.words.now l.self.shifts.now));
    }
