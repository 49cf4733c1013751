use Rattle.std.proofs.Common.{rules, arith, w64}
use mir.Facts.{to_z_pos}
use Rattle.tracks.proofs.EntryLaws.{total-more, lay-fill}
use Rattle.tracks.proofs.tables.lay.Goals as goal

pub loop-run-preserved-then-sum-out : goal.loop-run-preserved-then-sum-out
loop-run-preserved-then-sum-out c =
    let h = c.loop-run.invariant in
    let e = c.in-Some.ensures.steps in
    (omega arith, omega (arith, total-more e), λ room. lay-fill _ h.2 e c.if-sum-out.true (c.fill.ensures.after (search rules)) (to_z_pos w64 {n = c.in-Some.run'.value} (omega arith)))
