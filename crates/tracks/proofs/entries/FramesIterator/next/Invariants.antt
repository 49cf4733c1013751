use Rattle.std.proofs.Common.{◌≡◌, length}
use Rattle.tracks.specs.Walking.{runs_left, frames_left}
use Rattle.tracks.proofs.entries.FramesIterator.next.Given as goal

-- what is left to walk is what was left at first
abbrev pub invariant-loop-self : goal.invariant-loop-self
invariant-loop-self l = frames_left l.self ≡ frames_left l.fn.self

abbrev pub decreases-loop-self : goal.decreases-loop-self
decreases-loop-self l = length (runs_left l.self.after)
