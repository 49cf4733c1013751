use Rattle.lookups.proofs.Answers.{list-short, list_written}
use Rattle.lookups.proofs.AcceptedListLookup.segments_of_frames.Goals as goal

pub returns-then-out-frames : goal.returns-then-out-frames
returns-then-out-frames g c = rw c.at.ensures (list-short _ _ _ c.args.self.now.checked c.if-out-frames.true)

pub returns : goal.returns
returns g c = list_written _ _ _ c.args.self.now.checked c.if-out-frames.false c.write_indices.ensures
