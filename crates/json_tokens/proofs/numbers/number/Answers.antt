use Rattle.std.proofs.Common.{◌+◌, ◌∙◌, ap, length, arith}
use Rattle.json_tokens.specs.Numbers.{int_end}
use Rattle.json_tokens.proofs.Reaches.{reached, int-reach, frac-reach}
use Rattle.json_tokens.proofs.Small.{number-no-int, number-no-frac, number-exp}
use Rattle.json_tokens.proofs.numbers.number.Goals as goal

pub returns-in_err-d : goal.returns-in_err-d
returns-in_err-d c =
    c.from_residual.ensures ∙ number-no-int c.args.text.now c.args.at (c.in_err-d.ensures ∙ ap (int_end c.args.text.now) c.after_minus.ensures)

pub frac_end-requires : goal.frac_end-requires
frac_end-requires c =
    let h = reached (length c.args.text.now) (c.after_minus.result + 1) c.in_ok-d.d _ (int-reach c.args.text.now c.after_minus.result) c.in_ok-d.ensures in
    omega (arith, h.1, c.requires.0)

pub returns-in_err-f : goal.returns-in_err-f
returns-in_err-f c =
    c.from_residual-in_err-f.ensures
    ∙ number-no-frac c.args.text.now c.args.at c.in_ok-d.d (c.in_ok-d.ensures ∙ ap (int_end c.args.text.now) c.after_minus.ensures) c.in_err-f.ensures

pub exp_end-requires : goal.exp_end-requires
exp_end-requires c =
    let h = reached (length c.args.text.now) (c.after_minus.result + 1) c.in_ok-d.d _ (int-reach c.args.text.now c.after_minus.result) c.in_ok-d.ensures in
    let k = reached (length c.args.text.now) c.in_ok-d.d c.in_ok-f.f _ (frac-reach c.args.text.now c.in_ok-d.d h.1) c.in_ok-f.ensures in
    omega (arith, k.1, c.requires.0)

pub returns : goal.returns
returns c =
    c.exp_end.ensures
    ∙ number-exp c.args.text.now c.args.at c.in_ok-d.d c.in_ok-f.f (c.in_ok-d.ensures ∙ ap (int_end c.args.text.now) c.after_minus.ensures) c.in_ok-f.ensures
