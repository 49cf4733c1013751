use Rattle.std.proofs.Common.{take}
use Rattle.std.specs.Fmt.{HasWritten, IsPlainFormatter}
use Rattle.time_lines.specs.Lines.{start_lines}
use Rattle.time_lines.proofs.StartsDisplay.fmt.Given as goal

abbrev pub invariant-loop-start : goal.invariant-loop-start
invariant-loop-start g l =
    IsPlainFormatter l.initial.f → HasWritten g.W.Write.write_str_gives l.initial.f (start_lines (take l.start-index l.start-items)) l.f
