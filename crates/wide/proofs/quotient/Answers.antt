use Rattle.std.proofs.Common.{◌^◌}
use Rattle.wide.proofs.Division.{both_words, quotient_is}
use Rattle.wide.proofs.quotient.Goals as goal

pub returns : goal.returns
returns c =
    let upper = c.next_word-upper in
    let lower = c.next_word-lower in
    quotient_is _ lower.result.rest
    (both_words (2 ^ 64) c.args.dividend.high c.args.dividend.low c.args.divisor upper.result.quotient upper.result.rest lower.result.quotient lower.result.rest upper.ensures.0 lower.ensures.0)
    lower.ensures.1
