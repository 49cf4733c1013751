use Rattle.table_text.proofs.Back.{table_back}
use Rattle.table_text.proofs.laws.the_written_words_are_the_table.Goals as goal

pub returns : goal.returns
returns c = table_back
