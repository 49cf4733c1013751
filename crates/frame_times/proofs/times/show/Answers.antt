use Rattle.std.proofs.Common.{refl}
use Rattle.signed.proofs.Bits.{reads}
use Rattle.frame_times.proofs.ShowLaws.{showing, apart, shown-out, movable, shown-in}
use Rattle.frame_times.proofs.times.show.Goals as goal

pub overflow_sub-capped_at : goal.overflow_sub-capped_at
overflow_sub-capped_at c = apart (showing c.requires.able c.requires.some c.ranges.first c.ranges.last c.origin_of-origin.ensures c.capped_at.ensures)

pub returns-in_default : goal.returns-in_default
returns-in_default c =
    let h = showing c.requires.able c.requires.some c.ranges.first c.ranges.last c.origin_of-origin.ensures c.capped_at.ensures in
    rw (shown-out h c.args.scale c.args.nominal (rw h.end_is at c.in_default.ensures), c.at.ensures) record { answer = refl; starts = refl }

pub write_starts-requires-clause-all : goal.write_starts-requires-clause-all
write_starts-requires-clause-all c =
    let h = showing c.requires.able c.requires.some c.ranges.first c.ranges.last c.origin_of-origin.ensures c.capped_at.ensures in
    rw (h.o_is, h.empty_is) (movable h (rw h.end_is at c.in-Some.ensures.0))

pub returns : goal.returns
returns c =
    let h = showing c.requires.able c.requires.some c.ranges.first c.ranges.last c.origin_of-origin.ensures c.capped_at.ensures in
    let fits = rw h.end_is at c.in-Some.ensures.0 in
    let e = rw h.end_is at c.in-Some.ensures.1 in
    rw (shown-in h c.args.scale c.args.nominal fits, e, reads fits, reads c.ranges.nominal) record { answer = refl; starts = rw (h.o_is, h.empty_is) at c.write_starts.ensures }
