use Rattle.judge.proofs.Meaning.{recorded}
use Rattle.judge.proofs.accepted_tables_fit_their_recording.Goals as goal

pub returns : goal.returns
returns c = recorded
