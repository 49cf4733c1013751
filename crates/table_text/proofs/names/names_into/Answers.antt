use Rattle.std.proofs.Common.{arith, refl}
use Rattle.table_text.proofs.Held.{few}
use Rattle.table_text.proofs.names.names_into.Goals as goal

pub overflow_mul-staged : goal.overflow_mul-staged
overflow_mul-staged c =
    let h = c.in_ok-staged.ensures.held c.in_ok-staged.staged refl in
    let f = few c.in_ok-staged.staged.sources c.in_ok-staged.staged.segments h.few in
    record { fits = omega (arith, f.0) }

pub put_names-requires-clause-within : goal.put_names-requires-clause-within
put_names-requires-clause-within c = (c.in_ok-staged.ensures.held c.in_ok-staged.staged refl).short
