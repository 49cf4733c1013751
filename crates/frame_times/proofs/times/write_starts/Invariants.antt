use Rattle.std.proofs.Common.{◌≡◌, map, take}
use Rattle.slices.specs.Slices.{laid}
use Rattle.frame_times.specs.Frames.{moved_time}
use Rattle.frame_times.proofs.times.write_starts.Given as goal

-- the first i starts are written
abbrev pub invariant-loop-i : goal.invariant-loop-i
invariant-loop-i l = l.starts ≡ laid (map (moved_time l.fn.origin l.fn.empty) (take l.i l.fn.times)) l.fn.starts
