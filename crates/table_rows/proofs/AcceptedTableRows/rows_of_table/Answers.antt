use Rattle.std.proofs.Common.{ap, ◌∙◌, map}
use Rattle.slices.specs.Slices.{laid}
use Rattle.rows.specs.Lent.{words_of}
use Rattle.rules.specs.Records.{Table}
use Rattle.table_rows.specs.Rows.{row_of}
use Rattle.table_rows.proofs.Written.{rows-small, rows_written}
use Rattle.table_rows.proofs.AcceptedTableRows.rows_of_table.Goals as goal

pub returns-then-out_words-n : goal.returns-then-out_words-n
returns-then-out_words-n g c = rw c.at.ensures (rows-small _ _ _ c.args.self.now.checked c.segment_count-n.ensures c.if-out_words-n.true)

pub returns : goal.returns
returns g c = rows_written _ _ _ c.args.self.now.checked c.segment_count-n.ensures c.if-out_words-n.false
    (c.write_words.ensures ∙ ap (λ (t : Table). laid (words_of (map row_of t.segments)) c.args.out_words.now) c.table.view_is) c.write_shifts.ensures
