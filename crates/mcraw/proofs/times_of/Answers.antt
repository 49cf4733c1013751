use Rattle.std.proofs.Common.{length, w64, FitsSigned, arith, sym, ap, ◌∙◌, length-take}
use Rattle.std.proofs.lemmas.Bool.{or_parts}
use Rattle.std.specs.Prelude.{Ok, Err}
use borrow.Author.Tests.{ltb-false}
use Rattle.signed.proofs.Bits.{back}
use Rattle.mcraw.specs.Mcraw.{span, end, fall_of, times_of}
use Rattle.mcraw.proofs.Gaps.{no-fall}
use Rattle.mcraw.proofs.Spans.{gaps-fit}
use Rattle.signed.proofs.Ranges.{inside}
use Rattle.mcraw.proofs.Holds.{moves, span-held, end-held, end-lost}
use Rattle.mcraw.proofs.Answers.{late, timed}
use Rattle.mcraw.proofs.times_of.Goals as goal

pub middle_interval-nominal-requires : goal.middle_interval-nominal-requires
unfolding fall_of
middle_interval-nominal-requires c =
    let timestamps = c.args.timestamps.now in
    let sp = span-held timestamps c.checked_sub.result c.in-Some.span (omega arith) (omega arith) c.checked_sub.ensures c.in-Some.is in
    (omega arith, simp length-take (grind (arith, or_parts, ltb-false)), gaps-fit timestamps (no-fall timestamps 1 (sym c.in_ok-first_fall.ensures)) (inside (span timestamps) sp.0))

pub returns-in_default-checked_add : goal.returns-in_default-checked_add
returns-in_default-checked_add c =
    let timestamps = c.args.timestamps.now in
    let sp = span-held timestamps c.checked_sub.result c.in-Some.span (omega arith) (omega arith) c.checked_sub.ensures c.in-Some.is in
    let s-in : FitsSigned w64 c.in-Some.span = rw sp.1 (record { sfits = inside (span timestamps) sp.0 }) in
    let m = c.middle_interval-nominal in
    let m-in : FitsSigned w64 m.result = record { sfits = m.type_inv } in
    ap Err c.at-in_default-checked_add.ensures
    ∙ late timestamps c.args.room (length c.args.work.now) (omega arith) (omega arith) (sym c.in_ok-first_fall.ensures) sp.0 c.if-room-n.false
    (moves timestamps m.result m.ensures c.if-nominal-eq0.false)
    (end-lost timestamps c.in-Some.span m.result s-in m-in sp.1 m.ensures c.checked_add.result c.checked_add.ensures c.in_default-checked_add.is)

pub returns : goal.returns
unfolding times_of
returns c =
    let timestamps = c.args.timestamps.now in
    let sp = span-held timestamps c.checked_sub.result c.in-Some.span (omega arith) (omega arith) c.checked_sub.ensures c.in-Some.is in
    let s-in : FitsSigned w64 c.in-Some.span = rw sp.1 (record { sfits = inside (span timestamps) sp.0 }) in
    let m = c.middle_interval-nominal in
    let m-in : FitsSigned w64 m.result = record { sfits = m.type_inv } in
    let e = end-held timestamps c.in-Some.span m.result s-in m-in sp.1 m.ensures c.checked_add.result c.checked_add.ensures c.in-Some-checked_add.end c.in-Some-checked_add.is in
    (λ i. Ok (record { frames = length timestamps; scale = 1000000000; nominal = (back m.result m.type_inv ∙ m.ensures) i; end = (back c.in-Some-checked_add.end (rw e.1 (inside (end timestamps) e.0)) ∙ e.1) i }))
    ∙ timed timestamps c.args.room (length c.args.work.now) (omega arith) (omega arith) (sym c.in_ok-first_fall.ensures) sp.0 c.if-room-n.false
    (moves timestamps m.result m.ensures c.if-nominal-eq0.false) e.0
