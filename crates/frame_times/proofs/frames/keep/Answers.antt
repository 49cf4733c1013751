use Rattle.std.proofs.Common.{◌∙◌, sym, arith}
use Rattle.frame_times.proofs.KeepLaws.{keep-start, taken, kept-turn, left-turn, keep-end}
use Rattle.frame_times.proofs.frames.keep.Goals as goal

pub loop-duration-init : goal.loop-duration-init
loop-duration-init c =
    let d = c.args.timing.durations in
    rw (c.into_iter-duration-iterator.ensures.into_iter_gives, c.frames-duration-items.ensures, c.frames-offsets.ensures) (keep-start d.entries d.payload.now c.requires.0)

pub loop-duration-preserved-then-in_edit : goal.loop-duration-preserved-then-in_edit
loop-duration-preserved-then-in_edit c =
    let l = c.loop-duration in
    let next = taken _ _ _ _ c.next-in-loop-duration.ensures.steps c.unwrap_or.ensures (omega (arith, c.unwrap_or.type_inv)) c.offset_wrap-wrap.ensures c.offset.ensures in
    rw c.with_frame-kept.ensures (kept-turn l.invariant (omega (arith, c.requires.1, l.auto.times)) c.in-Some.ensures.steps (omega arith) next (sym c.in_edit.ensures ∙ c.if-in_edit.true))

pub loop-duration-preserved : goal.loop-duration-preserved
loop-duration-preserved c =
    let l = c.loop-duration in
    let next = taken _ _ _ _ c.next-in-loop-duration.ensures.steps c.unwrap_or.ensures (omega (arith, c.unwrap_or.type_inv)) c.offset_wrap-wrap.ensures c.offset.ensures in
    left-turn l.invariant (omega (arith, c.requires.1, l.auto.times)) c.in-Some.ensures.steps (omega arith) next (sym c.in_edit.ensures ∙ c.if-in_edit.false)

pub returns : goal.returns
returns c = keep-end c.loop-duration.invariant c.in-None.ensures.steps.0
