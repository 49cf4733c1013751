use Rattle.judge.proofs.Meaning.{validated}
use Rattle.judge.proofs.accepted_tables_fit_their_video.Goals as goal

pub returns : goal.returns
returns c = validated
