use Rattle.std.proofs.Common.{arith, refl, ap, ◌∙◌, length}
use Rattle.table_text.proofs.Plans.{roomy}
use Rattle.table_text.proofs.reader.read_into.Goals as goal

pub judged-requires : goal.judged-requires
judged-requires c = c.in_ok-staged.ensures.held c.in_ok-staged.staged refl

pub put_sources-requires-clause-within : goal.put_sources-requires-clause-within
put_sources-requires-clause-within c = (c.in_ok-staged.ensures.held c.in_ok-staged.staged refl).short

pub put_sources-requires-clause-room : goal.put_sources-requires-clause-room
put_sources-requires-clause-room c =
    (roomy c.args.text.now _ c.in_ok-staged.staged c.in_ok-frames.frames c.stage.new.work
    (c.in_ok-staged.ensures.held c.in_ok-staged.staged refl) c.in_ok-frames.ensures).sources

pub put_sources-requires-clause-dates_room : goal.put_sources-requires-clause-dates_room
put_sources-requires-clause-dates_room c =
    (roomy c.args.text.now _ c.in_ok-staged.staged c.in_ok-frames.frames c.stage.new.work
    (c.in_ok-staged.ensures.held c.in_ok-staged.staged refl) c.in_ok-frames.ensures).dates

pub put_segments-requires-clause-room : goal.put_segments-requires-clause-room
put_segments-requires-clause-room c =
    let h = c.in_ok-staged.ensures.held c.in_ok-staged.staged refl in
    let fits = (roomy c.args.text.now _ c.in_ok-staged.staged c.in_ok-frames.frames c.stage.new.work h c.in_ok-frames.ensures).words in
    omega (arith, ap length (c.places.ensures ∙ h.at), h.segments, fits)

pub put_segments-requires-clause-stamps_room : goal.put_segments-requires-clause-stamps_room
put_segments-requires-clause-stamps_room c =
    let h = c.in_ok-staged.ensures.held c.in_ok-staged.staged refl in
    let fits = (roomy c.args.text.now _ c.in_ok-staged.staged c.in_ok-frames.frames c.stage.new.work h c.in_ok-frames.ensures).stamps in
    omega (arith, ap length (c.places.ensures ∙ h.at), h.segments, fits)
