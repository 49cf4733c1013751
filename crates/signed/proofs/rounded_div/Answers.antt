use Rattle.signed.proofs.Quotients.{below, above}
use Rattle.signed.proofs.rounded_div.Goals as goal

pub returns-then-dividend-lt0 : goal.returns-then-dividend-lt0
returns-then-dividend-lt0 c = (below c.args.dividend c.args.divisor c.requires.0 c.requires.1 c.requires.2 c.ranges.dividend c.if-dividend-lt0.true).is

pub returns-else-dividend-lt0 : goal.returns-else-dividend-lt0
returns-else-dividend-lt0 c = (above c.args.dividend c.args.divisor c.requires.0 c.requires.1 c.requires.2 c.ranges.dividend c.if-dividend-lt0.false).is
