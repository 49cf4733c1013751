use Rattle.std.proofs.Common.{◌≡◌, ◌-◌, ◌≤◌}
use Rattle.slices.proofs.Ranges.{run}
use Rattle.refusal.specs.Refusals.{first_refused}
use Rattle.cuts.specs.Answers.{range_at, range_refusal, ranges_refusal}
use Rattle.cuts.proofs.refuse_ranges.Given as goal

abbrev pub invariant-loop-k : goal.invariant-loop-k
invariant-loop-k l =
    record {
      within : l.k ≤ l.n;
      left : first_refused (range_refusal l.frames) l.k (run (range_at l.ranges) l.k (l.n - l.k)) ≡ ranges_refusal l.frames l.ranges;
    }
