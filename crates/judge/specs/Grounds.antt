-- RULES 6.2 AND 6.3 AS CONDITIONS: the refusals of a table by its video, 20 to 25, and by its recording, 30 to 35, in
-- testing order, after those of rules/specs/Grounds.antt. What `validate` and `check_mcraw` answer is proved right by
-- them: the contracts of `refusals_by_video_are_right` and `refusals_by_recording_are_right`. Products and times are
-- integers here, without bounds.
use Rattle.std.specs.Prelude.{ℕ, ◌-◌, ◌<◌, ◌^◌, ◌≡◌, List, [], ◌∷◌, ◌++◌, ◌⊎◌, ℤ, pos, neg_ℤ, ◌+ℤ◌, ◌-ℤ◌, ◌*ℤ◌, length, get_or, ◌<ℤ◌, ◌≤ℤ◌, unsigned_abs}
use Rattle.refusal.specs.declared.Reason.TheVariants as reason
use Rattle.signed.specs.Rounded.{rounded}
use Rattle.ticks.specs.Ticks.{largest_scale}
use Rattle.rules.specs.declared.Source.{Source}
use Rattle.rules.specs.Limits.{max_i64}
use Rattle.rules.specs.Records.{Table, segment, source_of, out_end, out_end_us}
use Rattle.rules.specs.Grounds.{Test, given, each, tests}
use Rattle.mcraw.specs.Mcraw.{most_timestamps, nanoseconds, starts_of, span, nominal, end}
use Rattle.judge.specs.declared.Video.{Video}
use Rattle.judge.specs.declared.Video.TheVariants.{Nothing, Constant, Times}
use Rattle.judge.specs.Video.{Shown, most_starts, shown_by}
use Rattle.judge.specs.Judge.{last_segment}

-- outside i64
abbrev pub Beyond : ℤ → Type 0
Beyond z = (z <ℤ neg_ℤ (pos (2 ^ 63))) ⊎ (pos max_i64 <ℤ z)

-- ---- a video
-- NoVideo (21): no video given
abbrev pub NoVideo : Video → Type 0
NoVideo Nothing = Unit
NoVideo (Constant frames numerator denominator) = ⊥
NoVideo (Times scale end nominal) = ⊥

-- TooLarge (20): a rate number or timescale over 4,294,967,295, or over 16,777,216 starts
abbrev pub TooLarge : Video → List ℤ → Type 0
TooLarge Nothing starts = ⊥
TooLarge (Constant frames numerator denominator) starts = (largest_scale < numerator) ⊎ (largest_scale < denominator)
TooLarge (Times scale end nominal) starts = (largest_scale < scale) ⊎ (most_starts < length starts)

-- OtherFrameCount (22): last out end isn't the video's frame count
abbrev pub OtherCount : Table → Shown → Type 0
OtherCount table shown = out_end (last_segment table.segments) ≡ shown.frames → ⊥

-- the time of segment k's first frame in µs (RULES 5.2): to the nearest whole number, halves away from zero
abbrev pub frame_us : Table → Shown → ℕ → ℤ
frame_us table shown k = rounded (shown.time (segment table k).words.out *ℤ pos 1000000) shown.scale

-- NoFrameTime (23): a segment's frame time can't be had: scale 0, or outside i64
abbrev pub NoTime : Table → Shown → ℕ → Type 0
NoTime table shown k = (shown.scale ≡ 0) ⊎ Beyond (frame_us table shown k)

-- OtherFrameTime (24): it differs from out_start
abbrev pub OtherStart : Table → Shown → ℕ → Type 0
OtherStart table shown k = frame_us table shown k ≡ (segment table k).stamps.out_start → ⊥

-- RULES 5.3, near: |2·end_us·scale - 2·end·1,000,000| <= 2·nominal·1,000,000 + scale
abbrev pub Near : Table → Shown → Type 0
Near table shown =
    pos (unsigned_abs
    (pos 2 *ℤ out_end_us (last_segment table.segments) *ℤ pos shown.scale -ℤ pos 2 *ℤ shown.end *ℤ pos 1000000))
    ≤ℤ (pos 2 *ℤ shown.nominal *ℤ pos 1000000 +ℤ pos shown.scale)

-- what refuses the start of segment k: 23 and 24
abbrev pub of_start : Table → Shown → ℕ → List Test
of_start table shown k =
    given (NoTime table shown k) reason.NoFrameTime k ∷ given (OtherStart table shown k) reason.OtherFrameTime k ∷ []

-- the tests of a video that is lent so, in testing order; EndNotNear (25): the end isn't near
abbrev pub video_tests : Table → Video → List ℤ → List Test
video_tests table video starts =
    given (NoVideo video) reason.NoVideo 0
    ∷ given (TooLarge video starts) reason.TooLarge 0
    ∷ given (OtherCount table (shown_by video starts)) reason.OtherFrameCount 0
    ∷ (each (of_start table (shown_by video starts)) 0 (length table.segments)
    ++ (given (Near table (shown_by video starts) → ⊥) reason.EndNotNear 0
    ∷ []))

-- ---- a recording
-- Falling (34): timestamps not ascending (equal neighbours are allowed); k is the later one of the pair
abbrev pub of_pair : List ℤ → ℕ → List Test
of_pair timestamps k = given (get_or timestamps k (pos 0) <ℤ get_or timestamps (k - 1) (pos 0)) reason.Falling k ∷ []

-- its own tests (RULES 9.2), with room for so many starts and intervals: 30, 31 (few), 34, 33 (span), 32, 31 (nominal),
-- 33 (end); any 31 is 35 here
abbrev pub times_tests : List ℤ → ℕ → ℕ → List Test
times_tests timestamps first_room second_room =
    given (most_timestamps < length timestamps) reason.TooLong 0
    ∷ given (length timestamps < 2) reason.NoRecordingTimes 0
    ∷ (each (of_pair timestamps) 1 (length timestamps - 1)
    ++ (given (Beyond (span timestamps)) reason.Outside 0
    ∷ given ((first_room < length timestamps) ⊎ (second_room < length timestamps)) reason.NoRoom 0
    ∷ given (nominal timestamps ≡ pos 0) reason.NoRecordingTimes 0
    ∷ given (Beyond (end timestamps)) reason.Outside 0
    ∷ []))

-- these, and then those of the video that its times are
abbrev pub timed_tests : Table → List ℤ → ℕ → ℕ → List Test
timed_tests table timestamps first_room second_room =
    times_tests timestamps first_room second_room
    ++ video_tests table (Times nanoseconds (end timestamps) (nominal timestamps)) (starts_of timestamps)

-- segment 0's source
abbrev pub first_source : Table → Source
first_source table = source_of table.sources (segment table 0)

-- one timestamp is a constant video of one frame at the frames a second of segment 0's source; any other recording is
-- judged by its times
abbrev pub recording_tests : Table → List ℤ → ℕ → ℕ → List Test
recording_tests table [] first_room second_room = timed_tests table [] first_room second_room
recording_tests table (first ∷ []) first_room second_room =
    video_tests table (Constant 1 (first_source table).numerator (first_source table).denominator) []
recording_tests table (first ∷ (second ∷ rest)) first_room second_room =
    timed_tests table (first ∷ (second ∷ rest)) first_room second_room

-- ---- judging a table checks it first
abbrev pub validate_tests : Table → Video → List ℤ → List Test
validate_tests table video starts = tests table ++ video_tests table video starts

abbrev pub mcraw_tests : Table → List ℤ → ℕ → ℕ → List Test
mcraw_tests table timestamps first_room second_room =
    tests table ++ recording_tests table timestamps first_room second_room
