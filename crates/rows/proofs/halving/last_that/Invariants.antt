use Rattle.std.proofs.Common.{ℕ, ◌+◌, ◌≤◌, ◌<◌, true, false}
use Rattle.rows.proofs.halving.last_that.Given as goal

-- number `at` has begun, or is the first; where others follow the ones that are left, one after `at` and up to the
-- first of those has not
abbrev pub invariant-loop-left : goal.invariant-loop-left
invariant-loop-left g l = record {
  some : 0 < l.left;
  within : l.at + l.left ≤ l.n;
  low : 0 < l.at → goal.F-post g l.begun l.at true;
  high : l.at + l.left < l.n → (j : ℕ) × (l.at < j) × (j ≤ l.at + l.left) × goal.F-post g l.begun j false;
}

abbrev pub decreases-loop-left : goal.decreases-loop-left
decreases-loop-left g l = l.left
