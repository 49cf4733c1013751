use Rattle.std.proofs.Common.{ℕ, ◌<◌, length, ap, ◌∙◌, arith}
use Rattle.rules.specs.Walks.{walked, end_before}
use Rattle.rules.proofs.Walks.{walk_end}
use Rattle.table.specs.FirstWalk.{Passed, FineAt}
use Rattle.table.proofs.Checks.{segments-run, fine-more, flags-fine, walk-to}
use Rattle.table.proofs.SegmentTable.walk.Goals as goal
use mathlib.Core.Path.{refl}
use native.Mathlib.Numerals.{add-one}
use borrow.Author.Tests.{not-false, not-true}

pub loop-k-init : goal.loop-k-init
unfolding end_before
loop-k-init g c = (omega arith, c.no_end-previous.ensures, λ j h. absurd (omega arith))

pub returns-then-not-next : goal.returns-then-not-next
unfolding Passed
returns-then-not-next g c =
    let l = c.loop-k.invariant in
    let p = rw (c.segment.ensures, l.1) at (c.pass-next.ensures.1 (not-true _ c.if-not-next.true)) in
    record { inside = rw c.segment_count-count.ensures at c.loop-k-test.true; before = l.2; refused = λ f. p f.0 f.1 }

pub loop-k-preserved : goal.loop-k-preserved
unfolding end_before
loop-k-preserved g c =
    let l = c.loop-k.invariant in
    let p = rw (c.segment.ensures, l.1) at (c.pass-next.ensures.0 (not-false _ c.if-not-next.false)) in
    (omega arith, p.end ∙ rw add-one, fine-more _ _ _ l.2 (p.flagged, p.none))

pub returns : goal.returns
unfolding Passed
returns g c =
    let l = c.loop-k.invariant in
    let t = c.args.self.now in
    let k = c.loop-k.k in
    let h : (j : ℕ) → j < length t.segments → FineAt t.sources t.segments j = λ j b. l.2 j (omega (arith, c.segment_count-count.ensures, c.loop-k-test.false)) in
    record {
      flags = flags-fine _ (λ j b. (h j b).0);
      frames = rw l.1 (walk_end _ _ _ (walk-to t.sources t.segments k (omega (arith, c.segment_count-count.ensures, l.0)) l.2) (omega (arith, c.segment_count-count.ensures, c.loop-k-test.false)) ∙ ap (walked t.sources) (segments-run _ refl));
    }
