use Rattle.std.proofs.Common.{◌≡◌, ◌-◌, length}
use Rattle.json_tokens.specs.Text.{digits}
use Rattle.json_tokens.proofs.digits.Given as goal

-- the run from k on ends where that from i on does
abbrev pub invariant-loop-k : goal.invariant-loop-k
invariant-loop-k l = digits l.text l.k ≡ digits l.text l.fn.i

abbrev pub decreases-loop-k : goal.decreases-loop-k
decreases-loop-k l = length l.text - l.k
