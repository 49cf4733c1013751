use Rattle.std.proofs.Common.{◌≡◌, ◌-◌}
use Rattle.slices.proofs.Ranges.{run}
use Rattle.refusal.specs.Refusals.{first_refused}
use Rattle.rules.specs.Records.{nth}
use Rattle.judge.specs.Judge.{start_refusal}
use Rattle.judge.proofs.first_start.Given as goal

abbrev pub invariant-loop-k : goal.invariant-loop-k
invariant-loop-k g l =
    let v = g.V.Timeline.shown l.video in
    let segments = l.accepted.table.now.segments in
    first_refused (start_refusal v) l.k (run (nth segments) l.k (l.count - l.k)) ≡ first_refused (start_refusal v) 0 segments
