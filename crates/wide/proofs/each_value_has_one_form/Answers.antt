use Rattle.std.specs.Prelude.{◌≡◌}
use Rattle.std.proofs.Common.{arith}
use Rattle.wide.proofs.each_value_has_one_form.Goals as goal

pub returns : goal.returns
returns c a b f g e =
    let h : a.high ≡ b.high = omega arith in
    let l : a.low ≡ b.low = omega arith in
    λ i. record { high = h i; low = l i }
