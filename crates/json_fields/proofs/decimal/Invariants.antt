use Rattle.std.proofs.Common.{◌≡◌, ◌-◌, ◌≤◌}
use Rattle.json_tokens.specs.Numbers.{decimal}
use Rattle.json_fields.specs.Whole.{span}
use Rattle.json_fields.proofs.decimal.Given as goal

-- the digits from k on, after those before it, are the whole number; and it goes only upwards
abbrev pub invariant-loop-k : goal.invariant-loop-k
invariant-loop-k l = (decimal l.n (span l.text l.k l.to) ≡ decimal 0 (span l.text l.fn.from l.to)) × (l.from ≤ l.k)

abbrev pub decreases-loop-k : goal.decreases-loop-k
decreases-loop-k l = l.to - l.k
