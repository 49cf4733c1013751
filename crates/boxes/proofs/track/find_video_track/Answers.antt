use Rattle.std.proofs.Common.{◌≡◌, ◌∙◌, sym, ap, arith}
use Rattle.boxes.specs.Boxes.{header_at}
use Rattle.boxes.specs.declared.Header.TheVariants.{Whole}
use Rattle.boxes.specs.declared.Walk.TheVariants.{Found}
use Rattle.boxes.proofs.Sizes.{lies}
use Rattle.boxes.proofs.Walks.{first_stops, first_found, first-passed}
use Rattle.boxes.proofs.Within.{walk-stays}
use Rattle.boxes.proofs.track.find_video_track.Goals as goal

pub is_video_track-requires : goal.is_video_track-requires
is_video_track-requires c = omega (arith, lies _ _ (sym c.in-Whole.is ∙ c.header_at-header.ensures))

pub loop-child-smaller : goal.loop-child-smaller
loop-child-smaller c = omega (arith, lies _ _ (sym c.in-Whole.is ∙ c.header_at-header.ensures))

pub loop-child-preserved : goal.loop-child-preserved
loop-child-preserved c =
    let e : Whole c.in-Whole.child ≡ header_at c.args.moov.now c.loop-child.at = sym c.in-Whole.is ∙ c.header_at-header.ensures in
    ((lies _ _ e).2, sym (first-passed _ _ _ e (sym c.is_video_track.ensures ∙ c.if-is_video_track.false)) ∙ c.loop-child.invariant.1)

pub returns-in_default-clause-first : goal.returns-in_default-clause-first
returns-in_default-clause-first c =
    c.stopped.ensures ∙ sym (first_stops _ _ _ c.header_at-header.ensures c.in_default.not-Whole) ∙ c.loop-child.invariant.1

pub returns-in_default-clause-stays : goal.returns-in_default-clause-stays
returns-in_default-clause-stays c =
    walk-stays _ _ (c.stopped.ensures ∙ sym (first_stops _ _ _ c.header_at-header.ensures c.in_default.not-Whole) ∙ c.loop-child.invariant.1)

pub returns-then-is_video_track-clause-first : goal.returns-then-is_video_track-clause-first
returns-then-is_video_track-clause-first c =
    ap Found c.payload.ensures
    ∙ sym (first_found _ _ _ (sym c.in-Whole.is ∙ c.header_at-header.ensures) (sym c.is_video_track.ensures ∙ c.if-is_video_track.true))
    ∙ c.loop-child.invariant.1

pub returns-then-is_video_track-clause-stays : goal.returns-then-is_video_track-clause-stays
returns-then-is_video_track-clause-stays c = rw c.payload.ensures (omega (arith, lies _ _ (sym c.in-Whole.is ∙ c.header_at-header.ensures)))
