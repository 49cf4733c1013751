-- What the inner functions promise each other: what the pass over the frames tells, and how far from 0 its numbers lie.
use Rattle.std.specs.Prelude.{ℕ, ◌+◌, ◌≤◌, ◌<◌, ◌^◌, ◌≡◌, true, List, [], ◌∷◌, length, take, ℤ, ◌-ℤ◌, ◌≤ℤ◌, if◌then◌else◌, Result, FitsSigned, ◌==◌, int_le, unsigned_abs}
use Rattle.std.specs.List.{AllByRecursion}
use Rattle.std.specs.Int.{w64}
use Rattle.slices.specs.Slices.{laid}
use Rattle.tracks.specs.declared.Edit.{Edit}
use Rattle.tracks.specs.SoundEdits.{Sound}
use Rattle.ticks.specs.declared.FrameTimes.{FrameTimes}
use Rattle.refusal.specs.declared.Refusal.{Refusal}
use Rattle.frame_times.specs.declared.Kept.{Kept}
use Rattle.frame_times.specs.Times.{Outcome}
use Rattle.frame_times.specs.Frames.{Frame, in_edit, cts_of, last_of, capped, moved_time}

-- a decode or composition time, and where a frame ends
abbrev pub Near : ℤ → Type 0
Near time = unsigned_abs time ≤ 2 ^ 60

abbrev pub Ended : ℤ → Type 0
Ended time = unsigned_abs time ≤ 2 ^ 61

-- a frame that an edit keeps, of a track that has at most 2^24 of them
pub record Good (edit : Edit) (frame : Frame) : Type 0 where
  pub decode_near : frame.decode ≤ 2 ^ 56
  pub cts_near : Near frame.cts
  pub short : frame.duration < 2 ^ 32
  pub kept : in_edit edit frame.cts ≡ true

-- one kept frame more
abbrev pub kept_with : Kept → ℕ → ℤ → ℕ → Kept
kept_with kept decode cts duration =
    if kept.count == 0 then record { count = 1; first = decode; last = cts; last_duration = duration }
    else if int_le kept.last cts then
    record { count = kept.count + 1; first = kept.first; last = cts; last_duration = duration }
    else record { count = kept.count + 1; first = kept.first; last = kept.last; last_duration = kept.last_duration }

-- what is told of kept frames: when the first is decoded, and the last one's time and duration
abbrev pub Ends : List Frame → Kept → Type 0
Ends [] kept = Unit {0}
Ends (frame ∷ more) kept =
    (kept.first ≡ frame.decode) × (kept.last ≡ (last_of frame more).cts)
    × (kept.last_duration ≡ (last_of frame more).duration)

-- the frames that an edit keeps, their composition times at the front of a slice, and what is told of them
pub record Tallied (edit : Edit) (frames : List Frame) (kept : Kept) (times : List ℤ) : Type 0 where
  pub count : kept.count ≡ length frames
  pub front : take kept.count times ≡ cts_of frames
  pub ends : Ends frames kept
  pub good : AllByRecursion (Good edit) frames

-- a time that can be moved
abbrev pub Movable : ℤ → ℤ → ℤ → Type 0
Movable origin empty time = FitsSigned w64 (time -ℤ origin) × FitsSigned w64 (moved_time origin empty time)

-- kept times, none past the media end or the last one's end, with the first one's decode time
pub record Showable (times : List ℤ) (first last : ℤ) (edit : Edit) : Type 0 where
  pub sound : Sound edit
  pub near_times : AllByRecursion (λ time. Near time × (time ≤ℤ capped edit.end last)) times
  pub near_first : Near first
  pub near_last : Ended last

-- an outcome was answered: what is said is its answer, and its starts are laid over what was lent
pub record OutcomeAnswered (outcome : Outcome) (said : Result FrameTimes Refusal) (before after : List ℤ) : Type 0 where
  pub answer : said ≡ outcome.answer
  pub starts : after ≡ laid outcome.starts before
