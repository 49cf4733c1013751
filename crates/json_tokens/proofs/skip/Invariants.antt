use Rattle.std.proofs.Common.{◌≡◌, ◌-◌, length}
use Rattle.json_tokens.specs.Text.{blanks}
use Rattle.json_tokens.proofs.skip.Given as goal

-- the run from k on ends where that from i on does
abbrev pub invariant-loop-k : goal.invariant-loop-k
invariant-loop-k l = blanks l.text l.k ≡ blanks l.text l.fn.i

abbrev pub decreases-loop-k : goal.decreases-loop-k
decreases-loop-k l = length l.text - l.k
