use Rattle.std.proofs.Common.{rules, arith}
use Rattle.steps.proofs.Digits.{more, at-least, all}
use Rattle.steps.proofs.from_digits.Goals as goal

pub returns-in_err-number : goal.returns-in_err-number
returns-in_err-number c =
    let turn = c.loop-digit in
    let least = at-least c.args.digits.now turn.digit-index turn.number turn.invariant.2 c.loop-digit-test.true in
    search (rules, least)

pub loop-digit-preserved : goal.loop-digit-preserved
loop-digit-preserved c =
    let turn = c.loop-digit in
    let more = more c.args.digits.now turn.digit-index turn.number turn.invariant.2 c.loop-digit-test.true in
    search (rules, more)

pub returns : goal.returns
returns c =
    let end = c.loop-digit in
    let all = all c.args.digits.now end.digit-index end.number end.invariant.2 (omega arith) in
    search (rules, all)
