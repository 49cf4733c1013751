use Rattle.std.proofs.Common.{◌<◌, length, get_or, set, pos, ◌-ℤ◌, arith, sym, ap, ◌∙◌}
use Rattle.signed.proofs.Bits.{back}
use Rattle.slices.proofs.Lists.{copy_more, copy-all}
use Rattle.mcraw.specs.Mcraw.{starts_of}
use Rattle.mcraw.proofs.Spans.{length-starts, start-at, start_fits}
use Rattle.mcraw.proofs.write_starts.Goals as goal

pub overflow_sub-starts : goal.overflow_sub-starts
overflow_sub-starts c =
    let l = c.loop-i in
    let timestamps = c.args.timestamps.now in
    let inside : l.i < length timestamps = c.loop-i-test.true in
    rw (back (get_or timestamps l.i (pos 0)) (omega arith), back (get_or timestamps 0 (pos 0)) (omega arith)) (record { sfits = start_fits timestamps l.i inside c.requires.1 })

pub loop-i-preserved : goal.loop-i-preserved
loop-i-preserved c =
    let l = c.loop-i in
    let timestamps = c.args.timestamps.now in
    let x = get_or timestamps l.i (pos 0) in
    let f = get_or timestamps 0 (pos 0) in
    let inside : l.i < length timestamps = c.loop-i-test.true in
    rw (back x (omega arith), back f (omega arith), back (x -ℤ f) (start_fits timestamps l.i inside c.requires.1))
    (ap (set l.starts l.i) (sym (start-at timestamps l.i inside))
    ∙ ap (λ t. set t l.i (get_or (starts_of timestamps) l.i (pos 0))) l.invariant
    ∙ copy_more (starts_of timestamps) c.args.starts.now l.i (pos 0) (omega (arith, length-starts timestamps)) (omega arith))

pub returns : goal.returns
returns c =
    let l = c.loop-i in
    let timestamps = c.args.timestamps.now in
    l.invariant ∙ copy-all (starts_of timestamps) c.args.starts.now l.i (omega (arith, length-starts timestamps))
