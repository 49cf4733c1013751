use Rattle.table_text.proofs.Records.{span-some, span-none}
use Rattle.table_text.proofs.puts.span_at.Goals as goal

pub returns-in-Some : goal.returns-in-Some
returns-in-Some c = span-some c.args.at c.in-Some.end _ _ c.in-Some.ensures c.saturating_sub.ensures

pub returns-in-None : goal.returns-in-None
returns-in-None c = span-none c.args.at _ c.in-None.ensures
