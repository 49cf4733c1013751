use Rattle.conditions.proofs.Tests.{called}
use Rattle.rules.proofs.Walks.{end-fits}
use Rattle.table.proofs.Checks.{flag-at, never-goes}
use Rattle.table.proofs.SegmentTable.refused_at.Goals as goal

pub returns-in-Ok : goal.returns-in-Ok
returns-in-Ok g c =
    let s = c.requires.stopped in
    absurd (s.refused (
      flag-at _ _ s.inside (called c.has_bad_flag.ensures c.if-has_bad_flag.false),
      never-goes _ _ _ (rw (c.end_before.ensures, c.segment.ensures) at (called c.turn_of.ensures c.in-Ok.is)),
    ))

pub end_before-requires-clause-fits : goal.end_before-requires-clause-fits
end_before-requires-clause-fits g c = λ j h. end-fits _ _ _ (c.requires.stopped.before j h).1
