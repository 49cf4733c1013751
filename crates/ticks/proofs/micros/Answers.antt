use Rattle.std.proofs.Common.{ℕ, ap, ◌∙◌, arith}
use Rattle.signed.specs.Signed.{as_i64, with_sign}
use Rattle.signed.proofs.Ranges.{far}
use Rattle.wide.specs.Value.{value, number}
use Rattle.ticks.proofs.Microseconds.{micros-none, micros-is}
use Rattle.ticks.proofs.micros.Goals as goal

pub returns-then-scale-eq0 : goal.returns-then-scale-eq0
returns-then-scale-eq0 c = micros-none (number c.args.ticks) c.args.scale c.if-scale-eq0.true

pub returns-then-time-ne0 : goal.returns-then-time-ne0
returns-then-time-ne0 c =
    let t = c.args.ticks in
    let q = c.quotient-time.result in
    far t.negative (value q) (omega arith)
    ∙ micros-is t.negative (value t.magnitude) c.args.scale (value c.times.result) (value c.add.result) (value q) c.if-scale-eq0.false c.times.ensures c.add.ensures c.quotient-time.ensures

pub returns : goal.returns
returns c =
    let t = c.args.ticks in
    let q = c.quotient-time.result in
    c.with_sign.ensures
    ∙ ap (λ (n : ℕ). as_i64 (with_sign t.negative n)) (omega arith)
    ∙ micros-is t.negative (value t.magnitude) c.args.scale (value c.times.result) (value c.add.result) (value q) c.if-scale-eq0.false c.times.ensures c.add.ensures c.quotient-time.ensures
