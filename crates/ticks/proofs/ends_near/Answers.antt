use Rattle.std.proofs.Common.{◌≡◌, Bool, true, false, refl, sym, ap, ◌∙◌}
use mathlib.Core.Bool.{beq}
use mir.Syntax.{w64}
use mir.Val.{SFits}
use Rattle.std.specs.Prelude.{ℤ, pos, nat_abs, ◌+ℤ◌, ◌*ℤ◌}
use Rattle.std.specs.Int.Signed.{lt_z}
use Rattle.signed.proofs.Bits.{read, reads}
use Rattle.ticks.proofs.Nearness.{compared, near-beside-is, near-across-is}
use Rattle.ticks.proofs.ends_near.Goals as goal

-- the test on signs, of the number as it was passed
test-is : (us : ℤ) (neg b t : Bool) → SFits w64 us → b ≡ lt_z (read us) (pos 0) → beq b neg ≡ t
    → beq (lt_z us (pos 0)) neg ≡ t
test-is us neg b t f e h = sym (ap (λ (s : Bool). beq s neg) (e ∙ ap (λ (z : ℤ). lt_z z (pos 0)) (reads f))) ∙ h

pub returns-then-end_us-end : goal.returns-then-end_us-end
returns-then-end_us-end c =
    let a = c.args in
    near-beside-is _
    (compared c.unsigned_abs.type_inv c.requires.1 c.requires.0 (c.unsigned_abs.ensures.value ∙ ap nat_abs (reads c.ranges.end_us))
    c.product.ensures c.times-a.ensures c.times-b.ensures
    (c.allowed-allowance.ensures.is ∙ ap (λ (z : ℤ). pos 2 *ℤ z *ℤ pos 1000000 +ℤ pos a.scale) (reads c.ranges.nominal))
    c.allowed-allowance.ensures.plus_lt c.allowed-allowance.ensures.minus_lt)
    (test-is a.end_us a.end.negative _ true c.ranges.end_us refl c.if-end_us-end.true) c.near_beside.ensures

pub returns : goal.returns
returns c =
    let a = c.args in
    near-across-is _
    (compared c.unsigned_abs.type_inv c.requires.1 c.requires.0 (c.unsigned_abs.ensures.value ∙ ap nat_abs (reads c.ranges.end_us))
    c.product.ensures c.times-a.ensures c.times-b.ensures
    (c.allowed-allowance.ensures.is ∙ ap (λ (z : ℤ). pos 2 *ℤ z *ℤ pos 1000000 +ℤ pos a.scale) (reads c.ranges.nominal))
    c.allowed-allowance.ensures.plus_lt c.allowed-allowance.ensures.minus_lt)
    (test-is a.end_us a.end.negative _ false c.ranges.end_us refl c.if-end_us-end.false) c.near_across.ensures
