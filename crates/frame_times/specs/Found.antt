-- What the definitions see of the code's parts, tracks and timings: lists for slices, and what tables hold.
use Rattle.std.specs.Prelude.{ℕ, List, Result, Ok, Err}
use Rattle.refusal.specs.declared.Refusal.{Refusal}
use Rattle.tracks.specs.Tables.{durations, offsets}
use Rattle.frame_times.specs.declared.part.Part.{Part as PartOfCode}
use Rattle.frame_times.specs.declared.track.Track.{Track as TrackOfCode}
use Rattle.frame_times.specs.declared.track.Timing.{Timing}
use Rattle.frame_times.specs.Times.{Outcome, of_frames, Part, Track}
use Rattle.frame_times.specs.Frames.{Frame, frames_from, kept}

abbrev pub part_seen : PartOfCode → Part
part_seen part = record { base = part.base; bytes = part.bytes.now }

abbrev pub track_seen : TrackOfCode → Track
track_seen track = record {
  most_frames = track.most_frames;
  movie = track.movie;
  scale = track.scale;
  edts = track.edts.now;
  ctts = track.ctts.now;
  stts = track.stts.now;
}

-- an answer, its value seen
abbrev pub answer_seen : {A B : Type 0} → (A → B) → Result A Refusal → Result B Refusal
answer_seen seen (Ok value) = Ok (seen value)
answer_seen seen (Err refusal) = Err refusal

-- the frames that are kept, and the outcome of a timing
abbrev pub frames_kept : Timing → List Frame
frames_kept timing =
    kept timing.edit
    (frames_from 0 (durations timing.durations.entries timing.durations.payload.now)
    (offsets timing.standard timing.offsets.entries timing.offsets.payload.now))

abbrev pub times_of_timing : Timing → ℕ → Outcome
times_of_timing timing scale =
    of_frames scale timing.edit (durations timing.durations.entries timing.durations.payload.now)
    (offsets timing.standard timing.offsets.entries timing.offsets.payload.now)
