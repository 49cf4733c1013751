use Rattle.std.proofs.Common.{◌≡◌, ◌-◌, ◌≤◌, length}
use Rattle.std.specs.List.{list_any}
use Rattle.slices.proofs.Ranges.{run}
use Rattle.refusal.specs.Refusals.{first_refused}
use Rattle.rules.specs.Rules.{bad_source, source_refusal}
use Rattle.table.proofs.Checks.{nth_source}
use Rattle.table.proofs.SegmentTable.has_fine_sources.Given as goal

abbrev pub invariant-loop-k : goal.invariant-loop-k
invariant-loop-k g l =
    let t = l.self in
    (l.k ≤ l.count)
    × (list_any (bad_source (length t.text)) (run (nth_source t.sources) l.k (l.count - l.k)) ≡ list_any (bad_source (length t.text)) t.sources)
    × (first_refused (source_refusal t.log t.text) l.k (run (nth_source t.sources) l.k (l.count - l.k)) ≡ first_refused (source_refusal t.log t.text) 0 t.sources)
