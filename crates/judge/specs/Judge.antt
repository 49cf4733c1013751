-- RULES 6.2, 6.3: a table against its video, over records, and against a MotionCam recording.
use Rattle.std.specs.Prelude.{ℕ, ◌-◌, ◌≡◌, not, List, ℤ, length, get_or, Result, Ok, Err, Option, Some, None, ◌==◌, if◌then◌else◌}
use Rattle.std.specs.Ordering.{int_eq}
use Rattle.std.specs.Result.{result_and}
use Rattle.refusal.specs.declared.Reason.{Reason}
use Rattle.refusal.specs.declared.Reason.TheVariants as reason
use Rattle.refusal.specs.declared.Refusal.{Refusal}
use Rattle.refusal.specs.Refusals.{refused, first_refused}
use Rattle.slices.specs.Slices.{zeros}
use Rattle.ticks.specs.Ticks.{micros_of, ends_near}
use Rattle.rules.specs.declared.Source.{Source}
use Rattle.rules.specs.declared.Segment.{Segment}
use Rattle.rules.specs.Records.{Table, no_segment, source_of, out_end, out_end_us, frame_total}
use Rattle.rules.specs.Rules.{refusal}
use Rattle.ticks.specs.declared.FrameTimes.{FrameTimes}
use Rattle.mcraw.specs.Mcraw.{starts_of, mcraw_times}
use Rattle.judge.specs.Video.{Shown, constant, timed}

-- NoFrameTime (23): the time of the segment's first frame can't be had. OtherFrameTime (24): it differs from out_start
unfoldable pub starts_at : Option ℤ → ℤ → Result (Unit {0}) Reason
starts_at None out_start = Err reason.NoFrameTime
starts_at (Some time) out_start = if int_eq time out_start then Ok tt else Err reason.OtherFrameTime

unfoldable pub start_refusal : Shown → Segment → Result (Unit {0}) Reason
start_refusal shown segment = starts_at (micros_of (shown.time segment.words.out) shown.scale) segment.stamps.out_start

abbrev pub last_segment : List Segment → Segment
last_segment segments = get_or segments (length segments - 1) no_segment

-- of a video within its limits: 22, then 23 with 24 segment by segment, 25
abbrev pub timeline_refusal : List Segment → Shown → Result (Unit {0}) Refusal
timeline_refusal segments shown =
    if not (out_end (last_segment segments) == shown.frames) then refused reason.OtherFrameCount 0
    else result_and (first_refused (start_refusal shown) 0 segments)
    (if not (ends_near (out_end_us (last_segment segments)) shown.end shown.nominal shown.scale)
    then refused reason.EndNotNear 0
    else Ok tt)

-- NoVideo (21), TooLarge (20), and then these
unfoldable pub video_refusal : List Segment → Shown → Result (Unit {0}) Refusal
video_refusal segments shown =
    if not shown.given then refused reason.NoVideo 0
    else if shown.over then refused reason.TooLarge 0
    else timeline_refusal segments shown

-- a table against a video: the check's refusals first; accepted, the frame total
unfoldable pub validate_of : Table → Shown → Result ℕ Refusal
validate_of table shown =
    result_and (result_and (refusal table) (video_refusal table.segments shown)) (Ok (frame_total table.segments))

-- ---- a recording
-- one frame at the frames a second of segment 0's source
unfoldable pub single : List Source → List Segment → Shown
single sources segments =
    constant 1
    (source_of sources (get_or segments 0 no_segment)).numerator
    (source_of sources (get_or segments 0 no_segment)).denominator

-- Missing (31) of a recording's times is told as NoRecordingTimes (35), and other reasons stay
unfoldable pub recoded : Reason → Reason
recoded reason.Missing = reason.NoRecordingTimes
recoded why = why

-- by the times of more timestamps, or of none
unfoldable pub times_refusal : List Segment → List ℤ → Result FrameTimes Refusal → Result (Unit {0}) Refusal
times_refusal segments timestamps (Err said) = refused (recoded said.reason) said.index
times_refusal segments timestamps (Ok times) =
    video_refusal segments (timed (starts_of timestamps) times.scale times.end times.nominal)

-- one timestamp needs no room; the times of others have that of both working slices
unfoldable pub recording_refusal : List Source → List Segment → List ℤ → ℕ → ℕ → Result (Unit {0}) Refusal
recording_refusal sources segments timestamps first_room second_room =
    if length timestamps == 1 then video_refusal segments (single sources segments)
    else times_refusal segments timestamps (mcraw_times timestamps first_room second_room)

-- a table against a recording's timestamps, with so much room: the check's refusals first
unfoldable pub check_mcraw : Table → List ℤ → ℕ → ℕ → Result ℕ Refusal
check_mcraw table timestamps first_room second_room =
    result_and
    (result_and (refusal table) (recording_refusal table.sources table.segments timestamps first_room second_room))
    (Ok (frame_total table.segments))

-- the answer, and both working slices afterwards
pub record Settled (table : Table) (timestamps first_work second_work : List ℤ) (result : Result ℕ Refusal)
    (first_work' second_work' : List ℤ) : Type 0 where
  pub answer : result ≡ check_mcraw table timestamps (length first_work) (length second_work)
  pub first_cleared : first_work' ≡ zeros first_work
  pub second_cleared : second_work' ≡ zeros second_work
