use Rattle.std.proofs.Common.{◌-◌, ◌++◌, sym, arith, refl, subst, length, drop}
use borrow.Rule.Slice.PartMut.{put_mid}
use Rattle.std.proofs.lemmas.List.{length-take-le}
use Rattle.table_text.specs.declared.staging.Staged.{Staged}
use Rattle.table_text.specs.Layout.{Holds}
use Rattle.table_text.proofs.Held.{no-sources, no-segments, too-many, all-staged, same_staged, holds}
use Rattle.table_text.proofs.staging.stage_lists.Goals as goal

pub slice_bounds-sources_in-end-2 : goal.slice_bounds-sources_in-end-2
slice_bounds-sources_in-end-2 c = sym (length-take-le 3328 c.args.work.now (omega arith))

pub returns-in_default-clause-answer : goal.returns-in_default-clause-answer
returns-in_default-clause-answer c = rw c.at.ensures (no-sources c.args.text.now c.args.lists c.in_default.ensures.counted)

pub returns-in_default-segments_in-clause-answer : goal.returns-in_default-segments_in-clause-answer
returns-in_default-segments_in-clause-answer c =
    rw c.at-in_default-segments_in.ensures
    (no-segments c.args.text.now c.args.lists c.in-Some.sources c.in-Some.ensures.counted c.in_default-segments_in.ensures.counted)

pub returns-then-over_limit-clause-answer : goal.returns-then-over_limit-clause-answer
returns-then-over_limit-clause-answer c =
    rw c.at-then-over_limit.ensures
    (too-many c.args.text.now c.args.lists c.in-Some.sources c.in-Some.ensures.counted c.in-Some-segments_in.segments c.in-Some-segments_in.ensures.counted (sym c.if-over_limit.ensures))

pub returns-clause-answer : goal.returns-clause-answer
returns-clause-answer c =
    all-staged c.args.text.now c.args.lists c.in-Some.sources c.in-Some.ensures.counted c.in-Some-segments_in.segments c.in-Some-segments_in.ensures.counted (sym c.if-over_limit.ensures)

pub returns-clause-held : goal.returns-clause-held
returns-clause-held c = λ s e.
    let front = length-take-le 3328 c.args.work.now (omega arith) in
    let joined = c.sources_in.new.out ++ drop 3328 c.args.work.now in
    subst (λ (x : Staged). Holds c.args.text.now x (put_mid 3328 (length joined - 3328) joined c.segments_in.new.out)) (same_staged _ s e)
    (holds c.args.text.now c.args.lists c.in-Some.sources c.in-Some.ensures.counted c.in-Some-segments_in.segments c.in-Some-segments_in.ensures.counted
    c.args.work.now c.sources_in.new.out c.segments_in.new.out _ c.requires.room (omega (arith, front)) (sym c.if-over_limit.ensures) c.requires.within refl
    (λ fits. c.in-Some.ensures.staged c.in-Some.sources refl fits)
    (λ fits. c.in-Some-segments_in.ensures.laid c.in-Some-segments_in.segments refl fits) (omega (arith, front)))
