use Rattle.std.proofs.Common.{◌∙◌, sym, arith}
use Rattle.json_tokens.proofs.Strings.{string-none, string-start, chars-close, chars-bad, chars-on, chars-out, chars-plain, char-falls}
use Rattle.json_tokens.proofs.string.Goals as goal

pub returns-then-byte_at-ne34 : goal.returns-then-byte_at-ne34
returns-then-byte_at-ne34 c = string-none c.args.text.now c.args.at (λ e. c.if-byte_at-ne34.true (c.byte_at.ensures ∙ e))

pub loop-i-init : goal.loop-i-init
loop-i-init c = string-start c.args.text.now c.args.at (sym c.byte_at.ensures ∙ c.if-byte_at-ne34.false)

pub loop-i-preserved-then-is_plain : goal.loop-i-preserved-then-is_plain
loop-i-preserved-then-is_plain c = chars-plain c.args.text.now c.loop-i.i (sym c.is_plain.ensures ∙ c.if-is_plain.true) c.loop-i.invariant

pub returns-then-b-eq34 : goal.returns-then-b-eq34
returns-then-b-eq34 c = chars-close c.args.text.now c.loop-i.i c.if-b-eq34.true c.loop-i.invariant

pub returns-in_err-e : goal.returns-in_err-e
returns-in_err-e c = c.from_residual.ensures ∙ chars-bad c.args.text.now c.loop-i.i c.if-b-eq34.false c.in_err-e.ensures c.loop-i.invariant

pub loop-i-smaller : goal.loop-i-smaller
loop-i-smaller c = omega (arith, char-falls c.args.text.now c.loop-i.i _ c.in_ok-e.e c.in_ok-e.ensures, c.loop-i-test.true)

pub loop-i-preserved : goal.loop-i-preserved
loop-i-preserved c =
    chars-on c.args.text.now c.loop-i.i c.if-b-eq34.false _ c.in_ok-e.e c.in_ok-e.ensures c.loop-i.invariant

pub returns : goal.returns
returns c = chars-out c.args.text.now c.loop-i.i c.loop-i-test.false c.loop-i.invariant
