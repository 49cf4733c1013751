-- A table as records, whatever the layout in which it is lent, RULES 1.2 to 1.4. Source, Words, Stamps and Segment are
-- the structs of src/lib.rt, which says what each field is.
use Rattle.std.specs.Prelude.{ℕ, ◌+◌, Bool, List, [], ◌∷◌, get_or, ℤ, pos, ◌+ℤ◌}
use Rattle.rules.specs.declared.Source.{Source}
use Rattle.rules.specs.declared.Segment.{Segment}

-- a table; the Rust's SegmentTable
pub record Table : Type 0 where
  -- the slices' lengths are no whole number of records, or disagree; table/specs/Layout.antt and each layout say when
  pub uneven : Bool
  -- the table names a telemetry log
  pub log : Bool
  -- the bytes in which creation times lie
  pub text : List ℕ
  pub sources : List Source
  pub segments : List Segment

-- what a number past the last names, which no answer rests on
unfoldable pub no_source : Source
no_source = record {
  frames = 0;
  numerator = 0;
  denominator = 0;
  dated = 0;
  from = 0;
  size = 0;
  kind = 0;
  ticks = 0;
  per = 0;
  modulus = 0;
  file_size = 0;
  imu_known = 0;
  imu_origin = 0;
}

unfoldable pub no_segment : Segment
no_segment = record {
  words = record { source = 0; first = 0; count = 0; out = 0; flag = 0 };
  stamps = record {
    source_start = pos 0;
    out_start = pos 0;
    duration = pos 0;
    source_capture_start = pos 0;
    out_capture_start = pos 0;
    capture_duration = pos 0;
    shift = pos 0;
  };
}

-- element k of a list of segments
abbrev pub nth : List Segment → ℕ → Segment
nth segments k = get_or segments k no_segment

-- source number k, and segment number k
abbrev pub source : Table → ℕ → Source
source table k = get_or table.sources k no_source

abbrev pub segment : Table → ℕ → Segment
segment table k = get_or table.segments k no_segment

-- the source that a segment names
abbrev pub source_of : List Source → Segment → Source
source_of sources segment = get_or sources segment.words.source no_source

-- the output frame after its last; out_end_frame
abbrev pub out_end : Segment → ℕ
out_end segment = segment.words.out + segment.words.count

-- where it ends in the output; out_end_us, and the same of its capture times
abbrev pub out_end_us : Segment → ℤ
out_end_us segment = segment.stamps.out_start +ℤ segment.stamps.duration

abbrev pub capture_end_us : Segment → ℤ
capture_end_us segment = segment.stamps.out_capture_start +ℤ segment.stamps.capture_duration

-- how many frames some segments have
unfoldable pub frame_total : List Segment → ℕ
frame_total [] = 0
frame_total (segment ∷ rest) = segment.words.count + frame_total rest
