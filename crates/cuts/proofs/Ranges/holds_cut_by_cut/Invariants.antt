use Rattle.std.proofs.Common.{◌≡◌, ◌≤◌, leb, length}
use Rattle.rows.specs.Lent.{rows}
use Rattle.cuts.specs.Answers.{range_at, ranges_of, cuts_of, concat}
use Rattle.cuts.proofs.Rows.{rest}
use Rattle.cuts.proofs.Ranges.holds_cut_by_cut.Given as goal

abbrev pub invariant-loop-k : goal.invariant-loop-k
invariant-loop-k l =
    record {
      within : l.k ≤ l.n;
      same :
          leb (length (rest (rows l.self.map.words.now l.self.map.shifts.now) (range_at l.self.ranges.now) l.k l.n)) l.left
          ≡ leb (length (concat (cuts_of (rows l.self.map.words.now l.self.map.shifts.now) (ranges_of l.self.ranges.now)))) l.room;
    }
