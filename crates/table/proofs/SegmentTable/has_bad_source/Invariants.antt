use Rattle.std.proofs.Common.{◌≡◌, ◌-◌, ◌≤◌, length}
use Rattle.std.specs.List.{list_any}
use Rattle.slices.proofs.Ranges.{run}
use Rattle.rules.specs.Rules.{bad_source}
use Rattle.table.proofs.Checks.{nth_source}
use Rattle.table.proofs.SegmentTable.has_bad_source.Given as goal

abbrev pub invariant-loop-k : goal.invariant-loop-k
invariant-loop-k g l =
    let t = l.self in
    (l.k ≤ l.count)
    × (list_any (bad_source (length t.text)) (run (nth_source t.sources) l.k (l.count - l.k)) ≡ list_any (bad_source (length t.text)) t.sources)
