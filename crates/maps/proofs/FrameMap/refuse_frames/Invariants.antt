use Rattle.std.proofs.Common.{◌≡◌, ◌-◌, ◌≤◌, length}
use Rattle.slices.proofs.Ranges.{run}
use Rattle.refusal.specs.Refusals.{first_refused}
use Rattle.maps.specs.Origins.{frame_refusal}
use Rattle.maps.proofs.Many.{nth}
use Rattle.maps.proofs.FrameMap.refuse_frames.Given as goal

abbrev pub invariant-loop-k : goal.invariant-loop-k
invariant-loop-k l =
    record {
      within : l.k ≤ length l.frames;
      left :
          first_refused (frame_refusal l.self.frames) l.k (run (nth l.frames) l.k (length l.frames - l.k))
          ≡ first_refused (frame_refusal l.self.frames) 0 l.frames;
    }
