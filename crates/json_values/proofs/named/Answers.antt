use Rattle.std.proofs.Common.{◌∙◌}
use Rattle.json_values.proofs.Leaves.{named_none, named-torn, named-on}
use Rattle.json_values.proofs.named.Goals as goal

pub returns-in_err-e : goal.returns-in_err-e
returns-in_err-e c = c.from_residual.ensures ∙ named_none c.args.text.now c.args.at c.in_err-e.ensures

pub returns-then-byte_at-ne58 : goal.returns-then-byte_at-ne58
returns-then-byte_at-ne58 c =
    named-torn c.args.text.now c.args.at c.in_ok-e.e c.skip-k.result c.byte_at.result c.in_ok-e.ensures c.skip-k.ensures c.byte_at.ensures
    c.if-byte_at-ne58.true

pub returns : goal.returns
returns c =
    named-on c.args.text.now c.args.at c.in_ok-e.e c.skip-k.result c.byte_at.result c.skip.result c.in_ok-e.ensures c.skip-k.ensures c.byte_at.ensures
    c.if-byte_at-ne58.false c.skip.ensures
