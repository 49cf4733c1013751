use Rattle.std.proofs.Common.{◌≡◌, ◌-◌, ◌≤◌}
use Rattle.std.specs.List.{list_any}
use Rattle.slices.proofs.Ranges.{run}
use Rattle.rules.specs.Rules.{bad_segment}
use Rattle.rules.specs.Records.{nth}
use Rattle.table.proofs.SegmentTable.has_bad_flag.Given as goal

abbrev pub invariant-loop-k : goal.invariant-loop-k
invariant-loop-k g l = (l.k ≤ l.count) × (list_any bad_segment (run (nth l.self.segments) l.k (l.count - l.k)) ≡ list_any bad_segment l.self.segments)
