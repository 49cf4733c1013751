use Rattle.std.proofs.Common.{◌≡◌, ◌++◌, take, drop}
use Rattle.mcraw.specs.Mcraw.{starts_of}
use Rattle.mcraw.proofs.write_starts.Given as goal

-- the first i starts are written
abbrev pub invariant-loop-i : goal.invariant-loop-i
invariant-loop-i l = l.starts ≡ take l.i (starts_of l.timestamps) ++ drop l.i l.fn.starts
