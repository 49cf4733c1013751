use Rattle.std.proofs.Common.{◌≡◌, refl, Bool, false, ◌||◌, ℤ, pos, arith, sym, ◌∙◌}
use Rattle.conditions.proofs.Tests.{called, tf}
use Rattle.signed.proofs.Bits.{read, back}
use Rattle.rules.specs.Rules.{negative, stamp_times}
use Rattle.rules.specs.Walks.{out_of_time}
use Rattle.rules.proofs.Signs.{Plain, plain}
use Rattle.rules.proofs.Fine.{frames-fit, passes, stops}
use Rattle.rules.proofs.pass.Goals as goal
use borrow.Author.Tests.{not-false, not-true}

pub returns-then-not-fine_frames : goal.returns-then-not-fine_frames
returns-then-not-fine_frames c =
    let a = c.args in
    let e = a.segment.stamps in
    stops a.source a.previous a.segment.words e c.no_end.ensures (λ g z. tf (sym (c.fine_frames.ensures.1 z.frames) ∙ c.if-not-fine_frames.true))

pub returns-then-not-fine_shift : goal.returns-then-not-fine_shift
unfolding stamp_times
returns-then-not-fine_shift c =
    let a = c.args in
    let e = a.segment.stamps in
    stops a.source a.previous a.segment.words e c.no_end-then-not-fine_shift.ensures
    (λ g z. tf (sym ((rw (back e.shift (omega arith)) at c.fine_shift.ensures.1) (record { flagged = g; allowed = z.shift })) ∙ c.if-not-fine_shift.true))

pub returns-then-any_negative : goal.returns-then-any_negative
unfolding stamp_times
returns-then-any_negative c =
    let a = c.args in
    let e = a.segment.stamps in
    stops a.source a.previous a.segment.words e c.no_end-then-any_negative.ensures
    (λ g z. tf (sym (rw (back e.source_start (omega arith), back e.out_start (omega arith), back e.duration (omega arith), back e.source_capture_start (omega arith), back e.out_capture_start (omega arith), back e.capture_duration (omega arith)) at (called c.any_negative.ensures c.if-any_negative.true)) ∙ z.positive))

pub returns-then-not-fine_times : goal.returns-then-not-fine_times
unfolding stamp_times
returns-then-not-fine_times c =
    let a = c.args in
    let e = a.segment.stamps in
    let ea = rw (back e.source_start (omega arith)) at c.plain.ensures.0 in
    let eb = rw (back e.out_start (omega arith)) at c.plain-out_start.ensures.0 in
    let ec = rw (back e.duration (omega arith)) at c.plain-duration.ensures.0 in
    let ed = rw (back e.source_capture_start (omega arith)) at c.plain-2.ensures.0 in
    let ef = rw (back e.out_capture_start (omega arith)) at c.plain-out_capture_start.ensures.0 in
    let eg = rw (back e.capture_duration (omega arith)) at c.plain-capture_duration.ensures.0 in
    stops a.source a.previous a.segment.words e c.no_end-then-not-fine_times.ensures
    (λ g z. tf (sym (not-false _ (called c.fine_times.ensures c.if-not-fine_times.true)) ∙ (λ i. out_of_time a.previous (ea i) (eb i) (ec i) (ed i) (ef i) (eg i)) ∙ z.times))

-- none of six times is negative as it is read back: each isn't
six : {r : Bool} (a b c d e f : ℤ) → r ≡ ((negative (read a) || negative (read b)) || (negative (read c) || negative (read d)))
    || (negative (read e) || negative (read f)) → r ≡ false
    → Plain (record { source_start = read a; out_start = read b; duration = read c; source_capture_start = read d; out_capture_start = read e; capture_duration = read f; shift = pos 0 })
unfolding stamp_times
six a b c d e f h n = plain _ (called h n)

pub plain-out_start-requires : goal.plain-out_start-requires
plain-out_start-requires c =
    let a = c.args in
    (six a.segment.stamps.source_start a.segment.stamps.out_start a.segment.stamps.duration a.segment.stamps.source_capture_start a.segment.stamps.out_capture_start a.segment.stamps.capture_duration c.any_negative.ensures c.if-any_negative.false).out_start

pub plain-duration-requires : goal.plain-duration-requires
plain-duration-requires c =
    let a = c.args in
    (six a.segment.stamps.source_start a.segment.stamps.out_start a.segment.stamps.duration a.segment.stamps.source_capture_start a.segment.stamps.out_capture_start a.segment.stamps.capture_duration c.any_negative.ensures c.if-any_negative.false).duration

pub plain-out_capture_start-requires : goal.plain-out_capture_start-requires
plain-out_capture_start-requires c =
    let a = c.args in
    (six a.segment.stamps.source_start a.segment.stamps.out_start a.segment.stamps.duration a.segment.stamps.source_capture_start a.segment.stamps.out_capture_start a.segment.stamps.capture_duration c.any_negative.ensures c.if-any_negative.false).out_capture_start

pub plain-capture_duration-requires : goal.plain-capture_duration-requires
plain-capture_duration-requires c =
    let a = c.args in
    (six a.segment.stamps.source_start a.segment.stamps.out_start a.segment.stamps.duration a.segment.stamps.source_capture_start a.segment.stamps.out_capture_start a.segment.stamps.capture_duration c.any_negative.ensures c.if-any_negative.false).capture_duration

pub plain-requires : goal.plain-requires
plain-requires c =
    let a = c.args in
    (six a.segment.stamps.source_start a.segment.stamps.out_start a.segment.stamps.duration a.segment.stamps.source_capture_start a.segment.stamps.out_capture_start a.segment.stamps.capture_duration c.any_negative.ensures c.if-any_negative.false).source_start

pub plain-requires-2 : goal.plain-requires-2
plain-requires-2 c =
    let a = c.args in
    (six a.segment.stamps.source_start a.segment.stamps.out_start a.segment.stamps.duration a.segment.stamps.source_capture_start a.segment.stamps.out_capture_start a.segment.stamps.capture_duration c.any_negative.ensures c.if-any_negative.false).source_capture_start

pub overflow_add-result : goal.overflow_add-result
overflow_add-result c = omega (arith, frames-fit (c.fine_frames.ensures.0 c.if-not-fine_frames.false))

pub returns : goal.returns
unfolding stamp_times
returns c =
    let a = c.args in
    let e = a.segment.stamps in
    let n : (stamp_times e).negative ≡ false = rw (back e.source_start (omega arith), back e.out_start (omega arith), back e.duration (omega arith), back e.source_capture_start (omega arith), back e.out_capture_start (omega arith), back e.capture_duration (omega arith)) at (called c.any_negative.ensures c.if-any_negative.false) in (
      λ _. passes a.source a.previous a.segment.words e _ (c.fine_frames.ensures.0 c.if-not-fine_frames.false)
          (rw (back e.shift (omega arith)) at (c.fine_shift.ensures.0 c.if-not-fine_shift.false)) n
          (rw (back e.source_start (omega arith)) at c.plain.ensures.0) (rw (back e.out_start (omega arith)) at c.plain-out_start.ensures.0) (rw (back e.duration (omega arith)) at c.plain-duration.ensures.0)
          (rw (back e.source_capture_start (omega arith)) at c.plain-2.ensures.0) (rw (back e.out_capture_start (omega arith)) at c.plain-out_capture_start.ensures.0) (rw (back e.capture_duration (omega arith)) at c.plain-capture_duration.ensures.0)
          (not-true _ (called c.fine_times.ensures c.if-not-fine_times.false)) refl,
      λ z. tf z,
    )
