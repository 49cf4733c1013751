use Rattle.std.proofs.Common.{◌≡◌, ◌++◌, get_or, take, drop, pos, ◌+ℤ◌, arith, ◌∙◌}
use Rattle.std.proofs.Math.Seq.{take-length}
use Rattle.std.proofs.Math.ListN.{get_or-append}
use Rattle.signed.proofs.Bits.{back}
use Rattle.order.specs.Counts.{count_le}
use Rattle.selection.proofs.Selecting.{start, down, next, over, kept-turn, few-inside, sorted-few}
use Rattle.selection.proofs.select.Goals as goal

pub loop-low-init : goal.loop-low-init
loop-low-init c =
    let xs = c.args.xs.now in
    let begun = c.begin-begun in
    rw (back begun.result.low (omega arith), back begun.result.high (omega arith), take-length xs)
    (omega arith, start xs c.args.k c.requires begun.result (omega arith) (omega arith) begun.ensures)

pub returns-then-left-le-SMALL : goal.returns-then-left-le-SMALL
returns-then-left-le-SMALL c =
    let l = c.loop-low in
    let few = c.sort_small.new.xs in
    let at = few-inside l.invariant.1 in
    let here : get_or (few ++ drop l.left l.xs) l.rank (pos 0) ≡ get_or few l.rank (pos 0) =
    get_or-append few (drop l.left l.xs) (pos 0) l.rank (omega (arith, c.sort_small.auto.xs)) in
    back (get_or (few ++ drop l.left l.xs) l.rank (pos 0)) (omega arith) ∙ here ∙ rw c.sort_small.ensures (sorted-few l.invariant.1)

pub loop-low-smaller-then-up_to-below : goal.loop-low-smaller-then-up_to-below
loop-low-smaller-then-up_to-below c =
    let l = c.loop-low in
    let kept = c.keep-left in
    let k = kept-turn l.invariant.1 l.xs l.left l.invariant.0 (omega arith) kept.new.xs kept.result kept.auto.xs kept.ensures.0 kept.ensures.1 in
    let fewer = k.0 in
    omega arith

pub loop-low-preserved-then-up_to-below : goal.loop-low-preserved-then-up_to-below
loop-low-preserved-then-up_to-below c =
    let l = c.loop-low in
    let kept = c.keep-left in
    let k = kept-turn l.invariant.1 l.xs l.left l.invariant.0 (omega arith) kept.new.xs kept.result kept.auto.xs kept.ensures.0 kept.ensures.1 in
    (omega (arith, k.0, k.1, l.invariant.0), k.2)

pub loop-low-preserved-then-rank-count : goal.loop-low-preserved-then-rank-count
loop-low-preserved-then-rank-count c =
    let l = c.loop-low in
    let v = c.middle-value in
    let e = back v.result v.type_inv in
    let n : c.count_le-count.result ≡ count_le v.result (take l.left l.xs) = rw e at c.count_le-count.ensures in
    rw e (l.invariant.0, down l.invariant.1 v.result v.type_inv v.ensures.0 v.ensures.1 c.count_le-count.result n c.if-rank-count.true)

pub loop-low-preserved : goal.loop-low-preserved
loop-low-preserved c =
    let l = c.loop-low in
    let v = c.middle-value in
    let e = back v.result v.type_inv in
    let step = next l.invariant.1 v.result v.type_inv v.ensures.0 v.ensures.1 in
    let n : c.count_le-count.result ≡ count_le v.result (take l.left l.xs) = rw e at c.count_le-count.ensures in
    rw (e, back (v.result +ℤ pos 1) step.inside)
    (l.invariant.0, over l.invariant.1 v.result v.type_inv v.ensures.0 v.ensures.1 c.count_le-count.result n c.if-rank-count.false)
