-- Refusals 1 to 17 in the order of RULES 3.1, over records: nothing in this file knows how a table is lent. The words
-- after a reason are RULES 2.4's, in short.
use Rattle.std.specs.Prelude.{ℕ, suc, ◌+◌, List, [], ◌∷◌, Bool, true, false, not, ◌||◌, ◌&&◌, length, take, drop, ℤ, pos, Result, Ok, Err, ◌==◌, nat_lt, nat_le, int_lt, unsigned_abs, if◌then◌else◌}
use Rattle.std.specs.List.{list_any}
use Rattle.std.specs.Result.{result_and}
use Rattle.refusal.specs.declared.Reason.{Reason}
use Rattle.refusal.specs.declared.Reason.TheVariants as reason
use Rattle.refusal.specs.declared.Refusal.{Refusal}
use Rattle.refusal.specs.Refusals.{refused, indexed, first_refused}
use Rattle.conditions.specs.Conditions.{past, max_u64}
use Rattle.utc.specs.Utc.{utc_second}
use Rattle.rules.specs.declared.Source.{Source}
use Rattle.rules.specs.declared.Words.{Words}
use Rattle.rules.specs.declared.SixTimes.{SixTimes}
use Rattle.rules.specs.declared.Ends.{Ends}
use Rattle.rules.specs.Limits.{max_sources, max_segments, max_i64}
use Rattle.rules.specs.declared.Stamps.{Stamps}
use Rattle.rules.specs.declared.Segment.{Segment}
use Rattle.rules.specs.Records.{Table, source_of, frame_total}

-- Malformed (1): a flag or kind outside its set, or a present creation time whose range leaves the text
abbrev pub bad_words : ℕ → ℕ → ℕ → ℕ → ℕ → ℕ → Bool
bad_words text_length dated from size kind imu_known =
    (nat_lt 1 dated || nat_lt 2 kind) || (nat_lt 1 imu_known || (dated == 1 && past from size text_length))

-- the same of a source's record, and of a segment
unfoldable pub bad_source : ℕ → Source → Bool
bad_source text_length source = bad_words text_length source.dated source.from source.size source.kind source.imu_known

unfoldable pub bad_segment : Segment → Bool
bad_segment segment = nat_lt 1 segment.words.flag

-- Malformed, whole: also where lengths don't fit
unfoldable pub malformed : Table → Bool
malformed table =
    (table.uneven || list_any (bad_source (length table.text)) table.sources)
    || list_any bad_segment table.segments

-- OverLimit (2): over 256 sources or 512 segments
abbrev pub over_limit : ℕ → ℕ → Bool
over_limit sources segments = nat_lt max_sources sources || nat_lt max_segments segments

-- ZeroInSource (4): its frames, or a number of its frames a second, is 0
abbrev pub zero_in_source : ℕ → ℕ → ℕ → Bool
zero_in_source frames numerator denominator = (frames == 0 || numerator == 0) || denominator == 0

-- BadDate (5): its creation time fails the UTC rule
abbrev pub bad_date : List ℕ → ℕ → ℕ → ℕ → Bool
bad_date text dated from size = dated == 1 && not (utc_second (take size (drop from text)))

-- BadClock (6): its clock rate has a 0, or its modulus is 0
abbrev pub bad_clock : ℕ → ℕ → ℕ → ℕ → Bool
bad_clock kind ticks per modulus = not (kind == 0) && ((ticks == 0 || per == 0) || (kind == 2 && modulus == 0))

-- what refuses a source: 4 to 7; NoClock (7): a log is named and it has no clock
unfoldable pub source_refusal : Bool → List ℕ → Source → Result (Unit {0}) Reason
source_refusal log text source =
    if zero_in_source source.frames source.numerator source.denominator then Err reason.ZeroInSource
    else if bad_date text source.dated source.from source.size then Err reason.BadDate
    else if bad_clock source.kind source.ticks source.per source.modulus then Err reason.BadClock
    else if log && source.kind == 0 then Err reason.NoClock
    else Ok tt

-- below 0
abbrev pub negative : ℤ → Bool
negative number = int_lt number (pos 0)

-- a segment's times as numbers; the magnitudes are used only after 13, where none is negative
unfoldable pub stamp_times : Stamps → SixTimes
stamp_times stamps = record {
  negative =
      ((negative stamps.source_start || negative stamps.out_start)
      || (negative stamps.duration || negative stamps.source_capture_start))
      || (negative stamps.out_capture_start || negative stamps.capture_duration);
  source_start = unsigned_abs stamps.source_start;
  out_start = unsigned_abs stamps.out_start;
  duration = unsigned_abs stamps.duration;
  source_capture_start = unsigned_abs stamps.source_capture_start;
  out_capture_start = unsigned_abs stamps.out_capture_start;
  capture_duration = unsigned_abs stamps.capture_duration;
  back = negative stamps.shift;
  shift = unsigned_abs stamps.shift;
}

-- TooLate (14): a start plus its duration, or the capture pair, passes 2^63 - 1
abbrev pub too_late : ℕ → ℕ → ℕ → ℕ → Bool
too_late start duration capture capture_duration = past start duration max_i64 || past capture capture_duration max_i64

-- TimeGap (16): out_start or out_capture_start isn't the end before; the first is free
abbrev pub apart : Bool → ℕ → ℕ → ℕ → ℕ → Bool
apart some time capture out_start out_capture_start =
    some && (not (out_start == time) || not (out_capture_start == capture))

-- BadShift (17): a shift without clock, a clock without shift, or a modulus with the shift outside 0..modulus
abbrev pub bad_shift : ℕ → ℕ → ℕ → Bool → ℕ → Bool
bad_shift kind modulus flag back shift =
    ((kind == 0 && flag == 1) || (not (kind == 0) && flag == 0)) || (kind == 2 && (back || nat_le modulus shift))

-- what refuses a segment for its frames, 10 to 12, and then the rest
abbrev pub frames_or : ℕ → ℕ → ℕ → ℕ → Result (Unit {0}) Reason → Result (Unit {0}) Reason
frames_or frames source_first count out_first rest =
    if count == 0 then Err reason.NoFrames
    else if past out_first count max_u64 || past source_first count max_u64 then Err reason.FramesWrap
    else if past source_first count frames then Err reason.PastSource
    else rest

-- what refuses it for its times or where it begins, 13 to 16 and 14 again, and then the rest
abbrev pub times_or : Ends → ℕ → SixTimes → Result (Unit {0}) Reason → Result (Unit {0}) Reason
times_or previous out_first times rest =
    if times.negative then Err reason.NegativeTime
    else if too_late times.source_start times.duration times.source_capture_start times.capture_duration
    then Err reason.TooLate
    else if not (out_first == previous.frame) then Err reason.FrameGap
    else if apart previous.some previous.time previous.capture times.out_start times.out_capture_start
    then Err reason.TimeGap
    else if too_late times.out_start times.duration times.out_capture_start times.capture_duration
    then Err reason.TooLate
    else rest

-- what refuses a segment of this source, 10 to 17, after one that ends at `previous`, in the order of RULES 3.4
unfoldable pub judged : Source → Ends → Words → SixTimes → Result (Unit {0}) Reason
judged source previous words times =
    frames_or source.frames words.first words.count words.out
    (times_or previous words.out times
    (if bad_shift source.kind source.modulus words.flag times.back times.shift then Err reason.BadShift
    else Ok tt))

-- what refuses a segment, 9 to 17; NoSuchSource (9): it names no source of the table
unfoldable pub segment_refusal : List Source → Ends → Segment → Result (Unit {0}) Reason
segment_refusal sources previous segment =
    if nat_le (length sources) segment.words.source then Err reason.NoSuchSource
    else judged (source_of sources segment) previous segment.words (stamp_times segment.stamps)

-- before the first segment: frame 0, and no times
unfoldable pub start : Ends
start = record { some = false; frame = 0; time = 0; capture = 0 }

-- where a segment with these words and times ends
unfoldable pub ends_of : Words → SixTimes → Ends
ends_of words times = record {
  some = true;
  frame = words.out + words.count;
  time = times.out_start + times.duration;
  capture = times.out_capture_start + times.capture_duration;
}

-- where a segment ends
unfoldable pub ends : Segment → Ends
ends segment = ends_of segment.words (stamp_times segment.stamps)

-- what refuses the segments, 9 to 17, one after another from number i on, after one that ends at `previous`
unfoldable pub segments_from : List Source → ℕ → Ends → List Segment → Result (Unit {0}) Refusal
segments_from sources i previous [] = Ok tt
segments_from sources i previous (segment ∷ rest) =
    result_and (indexed i (segment_refusal sources previous segment))
    (segments_from sources (suc i) (ends segment) rest)

-- what comes before the segments, 1 to 8, where `bad` says whether the table is malformed and n segments are lent;
-- NoSources (3): no sources; NoSegments (8): no segments
unfoldable pub front_refusal : Bool → List ℕ → List Source → Bool → ℕ → Result (Unit {0}) Refusal
front_refusal log text sources bad n =
    if bad then refused reason.Malformed 0
    else if over_limit (length sources) n then refused reason.OverLimit 0
    else if length sources == 0 then refused reason.NoSources 0
    else result_and (first_refused (source_refusal log text) 0 sources)
    (if n == 0 then refused reason.NoSegments 0
    else Ok tt)

-- what refuses a table, 1 to 17
unfoldable pub refusal : Table → Result (Unit {0}) Refusal
refusal table =
    result_and (front_refusal table.log table.text table.sources (malformed table) (length table.segments))
    (segments_from table.sources 0 start table.segments)

-- the check of a table: a refusal, or the frame total
unfoldable pub check_of : Table → Result ℕ Refusal
check_of table = result_and (refusal table) (Ok (frame_total table.segments))
