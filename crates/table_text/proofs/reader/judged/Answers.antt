use Rattle.table_text.proofs.Judged.{judged_is}
use Rattle.table_text.proofs.reader.judged.Goals as goal

pub returns : goal.returns
returns c = judged_is c.args.text.now c.args.room c.args.staged c.table.result c.if-room-staged.false c.table.ensures c.check.ensures
