use Rattle.std.proofs.Common.{arith}
use Rattle.boxes.proofs.Sizes.{short, plain}
use Rattle.boxes.proofs.size.header_at.Goals as goal

pub returns-then-left-lt8 : goal.returns-then-left-lt8
returns-then-left-lt8 c = short _ _ (omega arith)

pub returns : goal.returns
returns c = plain _ _ (omega arith) (omega arith) c.be32-size.ensures (omega arith) (omega arith) c.be32.ensures
