-- What is asked of a table, RULES 4.1 to 4.5: the segment of a frame or of a time, and whether a segment continues the
-- one before. Each checks first.
use Rattle.std.specs.Prelude.{ℕ, ◌+◌, ◌-◌, min, Bool, ◌&&◌, ◌||◌, List, length, ℤ, Result, Ok, ◌==◌, nat_lt, nat_le, int_le}
use Rattle.std.specs.List.{count_by}
use Rattle.std.specs.Ordering.{int_eq}
use Rattle.std.specs.Result.{result_and}
use Rattle.refusal.specs.declared.Refusal.{Refusal}
use Rattle.rules.specs.declared.Segment.{Segment}
use Rattle.rules.specs.Records.{Table, segment, out_end, out_end_us}
use Rattle.rules.specs.Rules.{check_of}

-- the number of segments that have ended, at most the last index
unfoldable pub ended : (Segment → Bool) → List Segment → ℕ
ended is_over segments = min (count_by is_over segments) (length segments - 1)

-- a segment has ended where a frame is reached, and where a time is
abbrev pub over_by : ℕ → Segment → Bool
over_by frame segment = nat_le (out_end segment) frame

abbrev pub over_by_us : ℤ → Segment → Bool
over_by_us time segment = int_le (out_end_us segment) time

-- RULES 4.2, the Rust's segment_of_frame: the number of segments whose frames end at or before it
unfoldable pub segment_of_frame : Table → ℕ → Result ℕ Refusal
segment_of_frame table frame = result_and (check_of table) (Ok (ended (over_by frame) table.segments))

-- RULES 4.3, its segment_of_time_us: the same by the ends of times
unfoldable pub segment_of_time : Table → ℤ → Result ℕ Refusal
segment_of_time table time = result_and (check_of table) (Ok (ended (over_by_us time) table.segments))

-- shifts are equal: both absent, or both present and the same
abbrev pub same_shift : ℕ → ℤ → ℕ → ℤ → Bool
same_shift flag shift flag' shift' = flag == flag' && (flag == 0 || int_eq shift shift')

-- one segment continues another: the same source, source frames that run on, equal shifts
unfoldable pub segment_runs_on : Segment → Segment → Bool
segment_runs_on previous next =
    (previous.words.source == next.words.source && previous.words.first + previous.words.count == next.words.first)
    && same_shift previous.words.flag previous.stamps.shift next.words.flag next.stamps.shift

-- RULES 4.5, the Rust's continues: number k is that of a segment, not the first, and it continues the one before
unfoldable pub continues_at : Table → ℕ → Result Bool Refusal
continues_at table k =
    result_and (check_of table)
    (Ok ((nat_le 1 k && nat_lt k (length table.segments)) && segment_runs_on (segment table (k - 1)) (segment table k)))
