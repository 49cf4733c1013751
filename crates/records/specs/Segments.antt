-- The segment that a record is.
use Rattle.std.specs.Prelude.{if◌then◌else◌}
use Rattle.rules.specs.declared.Words.{Words}
use Rattle.rules.specs.declared.Stamps.{Stamps}
use Rattle.rules.specs.declared.Segment.{Segment}
use Rattle.records.specs.declared.TrimSegment.{TrimSegment}

abbrev pub words_of : TrimSegment → Words
words_of trim = record {
  source = trim.source;
  first = trim.src_first_frame;
  count = trim.frame_count;
  out = trim.out_first_frame;
  flag = if trim.shift_present then 1 else 0;
}

abbrev pub stamps_of : TrimSegment → Stamps
stamps_of trim = record {
  source_start = trim.src_start_us;
  out_start = trim.out_start_us;
  duration = trim.duration_us;
  source_capture_start = trim.src_capture_start_us;
  out_capture_start = trim.out_capture_start_us;
  capture_duration = trim.capture_duration_us;
  shift = trim.clock_shift;
}

abbrev pub segment_of : TrimSegment → Segment
segment_of trim = record { words = words_of trim; stamps = stamps_of trim }
