use Rattle.std.proofs.Common.{arith}
use Rattle.json_fields.proofs.Decimals.{digit-on, digit-large, digits-end}
use Rattle.json_fields.proofs.decimal.Goals as goal

pub returns-then-d-n : goal.returns-then-d-n
returns-then-d-n c =
    digit-large c.args.text.now c.args.to c.loop-k.n c.loop-k.k c.loop-k.invariant.0 c.loop-k-test.true c.requires.1 (omega arith)

pub loop-k-preserved : goal.loop-k-preserved
loop-k-preserved c =
    (digit-on c.args.text.now c.args.to c.loop-k.n c.loop-k.k c.loop-k.invariant.0 c.loop-k-test.true c.requires.1, omega arith)

pub returns : goal.returns
returns c =
    digits-end c.args.text.now c.args.to c.loop-k.n c.loop-k.k c.loop-k.invariant.0 c.loop-k-test.false (omega arith)
