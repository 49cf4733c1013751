use Rattle.table_rows.proofs.Mapped.{mapped}
use Rattle.table_rows.proofs.accepted_rows_are_a_map.Goals as goal

pub returns : goal.returns
returns c = mapped
