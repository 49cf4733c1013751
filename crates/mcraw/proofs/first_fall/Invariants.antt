use Rattle.std.proofs.Common.{◌≡◌, ◌-◌, drop}
use Rattle.refusal.specs.Refusals.{first_refused}
use Rattle.mcraw.specs.Mcraw.{falls, gaps, fall_of}
use Rattle.mcraw.proofs.first_fall.Given as goal

-- the first refused of the intervals that are left is that of all
abbrev pub invariant-loop-i : goal.invariant-loop-i
invariant-loop-i l = first_refused falls l.i (drop (l.i - 1) (gaps l.timestamps)) ≡ fall_of l.timestamps
