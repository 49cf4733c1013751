use Rattle.std.proofs.Common.{arith, sym}
use Rattle.rules.proofs.Turns.{judged-fit}
use Rattle.rules.proofs.turn_of.Goals as goal

pub overflow_add-result : goal.overflow_add-result
overflow_add-result c = omega (arith, (judged-fit _ _ _ _ (sym c.in_ok-judge.ensures)).frame)

pub overflow_add-result-2 : goal.overflow_add-result-2
overflow_add-result-2 c = omega (arith, (judged-fit _ _ _ _ (sym c.in_ok-judge.ensures)).time)

pub overflow_add-result-3 : goal.overflow_add-result-3
overflow_add-result-3 c = omega (arith, (judged-fit _ _ _ _ (sym c.in_ok-judge.ensures)).capture)
