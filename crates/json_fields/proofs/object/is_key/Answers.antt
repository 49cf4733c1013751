use Rattle.std.proofs.Common.{◌∙◌, sym, arith}
use Rattle.json_tokens.proofs.Strings.{char-falls}
use Rattle.json_fields.proofs.Keys.{key-not, key-start, key-close, key-long, key-bad, key-other, key-on, key-out}
use Rattle.json_fields.proofs.object.is_key.Goals as goal

pub returns-then-byte_at-ne34 : goal.returns-then-byte_at-ne34
returns-then-byte_at-ne34 c =
    key-not c.args.text.now c.args.at c.args.key.now (λ e. c.if-byte_at-ne34.true (c.byte_at.ensures ∙ e))

pub loop-i-init : goal.loop-i-init
loop-i-init c =
    (key-start c.args.text.now c.args.at c.args.key.now (sym c.byte_at.ensures ∙ c.if-byte_at-ne34.false), omega arith)

pub returns-then-byte_at-eq34 : goal.returns-then-byte_at-eq34
returns-then-byte_at-eq34 c =
    key-close c.args.text.now c.loop-i.i c.args.key.now c.loop-i.k c.loop-i.invariant.0 (sym c.byte_at-in-loop-i.ensures ∙ c.if-byte_at-eq34.true) c.loop-i.invariant.1

pub returns-then-k-key : goal.returns-then-k-key
returns-then-k-key c =
    key-long c.args.text.now c.loop-i.i c.args.key.now c.loop-i.k c.loop-i.invariant.0 (λ z. c.if-byte_at-eq34.false (c.byte_at-in-loop-i.ensures ∙ z)) c.if-k-key.true

pub returns-in_default : goal.returns-in_default
returns-in_default c =
    key-bad c.args.text.now c.loop-i.i c.args.key.now c.loop-i.k c.loop-i.invariant.0 (λ z. c.if-byte_at-eq34.false (c.byte_at-in-loop-i.ensures ∙ z)) c.in_default.ensures

pub returns-then-u-key : goal.returns-then-u-key
returns-then-u-key c =
    key-other c.args.text.now c.loop-i.i c.args.key.now c.loop-i.k c.loop-i.invariant.0 (λ z. c.if-byte_at-eq34.false (c.byte_at-in-loop-i.ensures ∙ z)) c.in-Some.u c.in-Some.e (c.in-Some.ensures) c.if-k-key.false c.if-u-key.true

pub loop-i-smaller : goal.loop-i-smaller
loop-i-smaller c =
    omega (arith, char-falls c.args.text.now c.loop-i.i c.in-Some.u c.in-Some.e (c.in-Some.ensures), c.loop-i-test.true)

pub loop-i-preserved : goal.loop-i-preserved
loop-i-preserved c =
    (key-on c.args.text.now c.loop-i.i c.args.key.now c.loop-i.k c.loop-i.invariant.0 (λ z. c.if-byte_at-eq34.false (c.byte_at-in-loop-i.ensures ∙ z)) c.in-Some.u c.in-Some.e (c.in-Some.ensures) c.if-k-key.false c.if-u-key.false, omega arith)

pub returns : goal.returns
returns c =
    key-out c.args.text.now c.loop-i.i c.args.key.now c.loop-i.k c.loop-i.invariant.0 c.loop-i-test.false
