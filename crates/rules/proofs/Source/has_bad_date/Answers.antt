use Rattle.std.proofs.Common.{arith}
use Rattle.rules.proofs.Dates.{date-none}
use Rattle.rules.proofs.Source.has_bad_date.Goals as goal
use borrow.Author.Tests.{eq-eqb}

pub returns-then-at-text : goal.returns-then-at-text
returns-then-at-text c =
    simp (eq-eqb _ _ c.if-self-ne1.false, date-none c.args.text.now c.args.self.from c.args.self.size (omega arith))
