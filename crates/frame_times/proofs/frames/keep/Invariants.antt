use Rattle.std.proofs.Common.{map}
use Rattle.tracks.specs.Tables.{is_unsigned, offset_of}
use Rattle.tracks.specs.Walking.{frames_left}
use Rattle.frame_times.specs.Found.{frames_kept}
use Rattle.frame_times.proofs.KeepLaws.{Keeping}
use Rattle.frame_times.proofs.frames.keep.Given as goal

abbrev pub invariant-loop-duration : goal.invariant-loop-duration
invariant-loop-duration l =
    let offsets = map (offset_of (is_unsigned l.timing.standard l.timing.offsets.payload.now)) (frames_left l.offsets) in
    Keeping l.timing.edit (frames_kept l.timing) l.times (frames_left l.duration-iterator) offsets l.kept l.passed
