use Rattle.std.proofs.Common.{◌≡◌, ◌+◌, length, take, get_or, pos, arith, sym, ap, ◌∙◌}
use Rattle.std.proofs.lemmas.List.{get_or_default, length-take-le}
use Rattle.std.proofs.lemmas.List.Filters.{FiltersInPlace-more_set, FiltersInPlace-more_no, FiltersInPlace-all}
use Rattle.signed.proofs.Bits.{reads, back}
use Rattle.selection.specs.Keeping.{from_to}
use Rattle.selection.proofs.Keeping.{spare}
use Rattle.selection.proofs.keep.Goals.{then-low-x, else-low-x}
use Rattle.selection.proofs.keep.Goals as goal

pub loop-i-preserved : goal.loop-i-preserved
loop-i-preserved c =
    let l = c.loop-i in
    let x = get_or l.xs l.i (pos 0) in
    let e = back x (omega arith) in
    let is = get_or_default l.xs l.i (pos 0) x (omega arith) in
    elim c.if-low-x.branch [
      | then-low-x w ↦ rw (e, w.kept-is) (FiltersInPlace-more_set l.invariant (omega arith) (rw e at w.if-low-x.true) is)
      | else-low-x w ↦ rw (e, w.kept-is) (spare _ c.args.xs.now l.xs l.kept (l.i + 1) x (FiltersInPlace-more_no l.invariant (omega arith) (rw e at w.if-low-x.false) is) (omega arith))
    ]

pub returns : goal.returns
returns c =
    let l = c.loop-i in
    let kept : take l.kept l.xs ≡ from_to c.args.low c.args.high c.args.xs.now = rw (← reads c.ranges.low, ← reads c.ranges.high) (FiltersInPlace-all l.invariant (omega arith)) in
    (sym (length-take-le l.kept l.xs (omega arith)) ∙ ap length kept, kept)
