use Rattle.std.proofs.Common.{length}
use Rattle.refusal.proofs.First.{first-hit}
use Rattle.maps.specs.Origins.{frame_refusal}
use Rattle.maps.proofs.Many.{nth, past-refused}
use Rattle.maps.proofs.FrameMap.refuse_frames.Goals as goal

pub returns-then-self-frames : goal.returns-then-self-frames
returns-then-self-frames c =
    let l = c.loop-k in
    let n = length c.args.frames.now in
    rw c.at.ensures
    (first-hit (frame_refusal c.args.self.frames) (nth c.args.frames.now) l.k n c.loop-k-test.true (past-refused _ _ c.if-self-frames.true) l.invariant.left)
