use Rattle.differ.proofs.Differing.{differing}
use Rattle.differ.proofs.tables_of_one_video.Goals as goal

pub returns : goal.returns
returns c = differing c.accepted_tables_fit_their_video.ensures c.accepted_tables_fit_their_recording.ensures
