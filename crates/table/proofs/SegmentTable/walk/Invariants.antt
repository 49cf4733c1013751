use Rattle.std.proofs.Common.{ℕ, ◌≡◌, ◌≤◌, ◌<◌}
use Rattle.rules.specs.Walks.{end_before}
use Rattle.table.specs.FirstWalk.{FineAt}
use Rattle.table.proofs.SegmentTable.walk.Given as goal

abbrev pub invariant-loop-k : goal.invariant-loop-k
invariant-loop-k g l =
    let t = l.self in
    (l.k ≤ l.count) × (l.previous ≡ end_before t.segments l.k) × ((j : ℕ) → j < l.k → FineAt t.sources t.segments j)
