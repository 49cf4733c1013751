use Rattle.std.proofs.Common.{◌≡◌, ◌-◌, ◌≤◌}
use Rattle.slices.proofs.Ranges.{run}
use Rattle.refusal.specs.Refusals.{first_refused}
use Rattle.rules.specs.Rules.{source_refusal}
use Rattle.table.proofs.Checks.{nth_source}
use Rattle.table.proofs.SegmentTable.first_refused_source.Given as goal

abbrev pub invariant-loop-k : goal.invariant-loop-k
invariant-loop-k g l =
    let t = l.self in
    (l.k ≤ l.count)
    × (first_refused (source_refusal t.log t.text) l.k (run (nth_source t.sources) l.k (l.count - l.k)) ≡ first_refused (source_refusal t.log t.text) 0 t.sources)
