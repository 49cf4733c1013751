use Rattle.table_text.proofs.Judged.{staged_answers}
use Rattle.table_text.proofs.laws.a_staged_table_answers_as_the_table.Goals as goal

pub returns : goal.returns
returns c = staged_answers
