use Rattle.std.proofs.Common.{◌≡◌, ◌-◌, ◌++◌, take, drop}
use Rattle.mcraw.specs.Mcraw.{gaps}
use Rattle.mcraw.proofs.write_intervals.Given as goal

-- the first i - 1 intervals are written
abbrev pub invariant-loop-i : goal.invariant-loop-i
invariant-loop-i l = l.out ≡ take (l.i - 1) (gaps l.timestamps) ++ drop (l.i - 1) l.fn.out
