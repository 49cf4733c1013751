use Rattle.std.proofs.Common.{◌≡◌, ◌≤◌, ◌++◌, map, length, take, drop}
use Rattle.rows.specs.Lent.{rows}
use Rattle.maps.proofs.Written.{Written}
use Rattle.cuts.specs.Answers.{range_at, ranges_of, cuts_of, concat}
use Rattle.cuts.proofs.Rows.{rest}
use Rattle.cuts.proofs.Ranges.write.Given as goal

abbrev pub invariant-loop-k : goal.invariant-loop-k
invariant-loop-k l =
    record {
      within : l.k ≤ l.n;
      written :
          Written (concat (cuts_of (rows l.self.map.words.now l.self.map.shifts.now) (ranges_of l.self.ranges.now)))
          (rest (rows l.self.map.words.now l.self.map.shifts.now) (range_at l.self.ranges.now) l.k l.n)
          l.fn.out_words l.fn.out_shifts l.out_words l.out_shifts l.done;
      counted : l.counts ≡ take l.k (map length (cuts_of (rows l.self.map.words.now l.self.map.shifts.now) (ranges_of l.self.ranges.now))) ++ drop l.k l.fn.counts;
    }
