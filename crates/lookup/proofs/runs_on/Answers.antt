use Rattle.std.proofs.Common.{rules, arith}
use Rattle.signed.proofs.Bits.{back}
use Rattle.rules.specs.Lookups.{segment_runs_on}
use Rattle.lookup.proofs.runs_on.Goals as goal

pub returns : goal.returns
unfolding segment_runs_on
returns c =
    let a = c.args in
    rw (c.same_shift-shifts.ensures, back a.previous.stamps.shift (omega arith), back a.segment.stamps.shift (omega arith)) (search rules)
