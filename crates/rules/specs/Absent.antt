-- Words on which no answer rests, RULES 1.5: those of an absent thing, and a source's size and origin. A table with
-- them set to 0, `stripped`, gets the same answers, so that two tables which differ only in them do.
use Rattle.std.specs.Prelude.{◌||◌, map, pos, ◌==◌, nat_lt, if◌then◌else◌}
use Rattle.rules.specs.declared.Source.{Source}
use Rattle.rules.specs.declared.Segment.{Segment}
use Rattle.rules.specs.Records.{Table}

-- without a source's size and origin, and without the flag that says whether it is known, where that is 0 or 1
abbrev pub unread_source : Source → Source
unread_source source = record source {
  file_size = 0;
  imu_known = if nat_lt 1 source.imu_known then source.imu_known else 0;
  imu_origin = 0;
}

abbrev pub unread : Table → Table
unread table = record table { sources = map unread_source table.sources }

-- nor offset and length of an absent creation time, rate and modulus of no clock, the modulus of a clock
-- without one
unfoldable pub stripped_source : Source → Source
stripped_source source = record (unread_source source) {
  from = if source.dated == 0 then 0 else source.from;
  size = if source.dated == 0 then 0 else source.size;
  ticks = if source.kind == 0 then 0 else source.ticks;
  per = if source.kind == 0 then 0 else source.per;
  modulus = if source.kind == 0 || source.kind == 1 then 0 else source.modulus;
}

-- the shift of a segment without one
unfoldable pub stripped_segment : Segment → Segment
stripped_segment segment = record segment {
  stamps = record segment.stamps { shift = if segment.words.flag == 0 then pos 0 else segment.stamps.shift };
}

-- a table with all these words set to 0
unfoldable pub stripped : Table → Table
stripped table = record table {
  sources = map stripped_source table.sources;
  segments = map stripped_segment table.segments;
}
