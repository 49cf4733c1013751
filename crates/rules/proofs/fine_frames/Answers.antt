use Rattle.std.proofs.Common.{◌-◌, ◌≤◌, arith, sym}
use Rattle.conditions.proofs.Tests.{tf}
use Rattle.rules.proofs.Fine.{fine-frames, frames-fit, in_source}
use Rattle.rules.proofs.fine_frames.Goals as goal
use borrow.Author.Tests.{leb-true, le-leb}

pub returns-then-count-out_first : goal.returns-then-count-out_first
returns-then-count-out_first c = (λ e. tf (sym e), λ f. absurd (omega (arith, frames-fit f)))

pub returns-then-count-frames : goal.returns-then-count-frames
returns-then-count-frames c = (λ e. tf (sym e), λ f. absurd (omega (arith, in_source f)))

pub returns : goal.returns
returns c =
    let a = c.args in (
      λ e. let h : a.source_first ≤ a.frames - a.count = leb-true a.source_first (a.frames - a.count) e in
          fine-frames a.frames a.source_first a.count a.out_first a.before (λ z. omega arith) (omega arith) (omega arith) (omega arith) (omega arith),
      λ f. le-leb a.source_first (a.frames - a.count) (omega (arith, in_source f)),
    )
