-- A table that stays in its text: its segments as a layout, its sources and the places of its segments staged in the
-- working room. Of a creation time the staged sources keep only whether the UTC rule passes it.
use Rattle.std.specs.Prelude.{ℕ, ◌*◌, ◌≤◌, ◌≡◌, false, List, map, take, drop, length, codes, if◌then◌else◌}
use Rattle.utc.specs.Utc.{utc_second}
use Rattle.rules.specs.declared.Source.{Source}
use Rattle.rules.specs.declared.Segment.{Segment}
use Rattle.rules.specs.Records.{Table}
use Rattle.rules.specs.Rules.{over_limit, check_of}
use Rattle.json_tokens.specs.Text.{most_text}
use Rattle.table_text.specs.declared.layout.TextSegments.{TextSegments}
use Rattle.table_text.specs.declared.lists.Lists.{Lists}
use Rattle.table_text.specs.declared.staging.Staged.{Staged}
use Rattle.table_text.specs.Lists.{places, original_in, segment_in, date_in}
use Rattle.table_text.specs.Tables.{dated_by, dates_in, all_sources}

-- the segments of a layout
abbrev pub segments_at : TextSegments → List Segment
segments_at layout = map (segment_in layout.text.now) layout.at.now

-- a creation time that passes the UTC rule
abbrev pub some_date : List ℕ
some_date = codes "2000-01-01T00:00:00Z"

-- a source whose creation time is all of that or none of it
abbrev pub staged_in : List ℕ → ℕ → Source
staged_in text at =
    dated_by (original_in text at) (original_in text at).created 0 (if utc_second (date_in text at) then 20 else 0)

-- the table of a text as it is staged
abbrev pub staged_table : List ℕ → Lists → Table
staged_table text lists = record {
  uneven = false;
  log = lists.log;
  text = some_date;
  sources = map (staged_in text) (places text lists.sources);
  segments = map (segment_in text) (places text lists.segments);
}

-- in the working room the places of segments stand behind the words of as many sources as there may be, 256
abbrev pub places_from : ℕ
places_from = 3328

-- and with as many places as there may be, 512, that is the least working room
abbrev pub least_work : ℕ
least_work = 3840

-- the working room holds what was staged of a text
pub record Holds (text : List ℕ) (staged : Staged) (work : List ℕ) : Type 0 where
  pub short : length text ≤ most_text
  pub room : least_work ≤ length work
  pub few : over_limit staged.sources staged.segments ≡ false
  pub sources : staged.sources ≡ length (places text staged.lists.sources)
  pub segments : staged.segments ≡ length (places text staged.lists.segments)
  pub dates : staged.dates ≡ length (dates_in text (places text staged.lists.sources))
  pub words : take (13 * staged.sources) work ≡ all_sources (map (staged_in text) (places text staged.lists.sources))
  pub at : take staged.segments (drop places_from work) ≡ places text staged.lists.segments

-- a source but for where its creation time lies
abbrev pub unplaced : Source → Source
unplaced source = record {
  frames = source.frames;
  numerator = source.numerator;
  denominator = source.denominator;
  dated = source.dated;
  from = 0;
  size = 0;
  kind = source.kind;
  ticks = source.ticks;
  per = source.per;
  modulus = source.modulus;
  file_size = source.file_size;
  imu_known = source.imu_known;
  imu_origin = source.imu_origin;
}

-- two tables that get the same check, with the same segments, and the same sources but for where their creation times lie
pub record AnswersAs (a b : Table) : Type 0 where
  pub check : check_of a ≡ check_of b
  pub log : a.log ≡ b.log
  pub sources : map unplaced a.sources ≡ map unplaced b.sources
  pub segments : a.segments ≡ b.segments
