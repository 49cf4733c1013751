-- The table that a text holds: creation times lie one after another in a text of their own, and words of absent things
-- are 0.
use Rattle.std.specs.Prelude.{ℕ, ◌+◌, ◌-◌, false, List, [], ◌∷◌, ◌++◌, map, length, Option, Some, None, unwrap_or, ℤ}
use Rattle.json_tokens.specs.Text.{end_of}
use Rattle.json_tokens.specs.Strings.{string_at}
use Rattle.rules.specs.declared.Source.{Source}
use Rattle.rules.specs.declared.Words.{Words}
use Rattle.rules.specs.declared.Stamps.{Stamps}
use Rattle.rules.specs.declared.Segment.{Segment}
use Rattle.rules.specs.Records.{Table}
use Rattle.table_fields.specs.declared.sources.Original.{Original}
use Rattle.table_text.specs.declared.lists.Lists.{Lists}
use Rattle.table_text.specs.Lists.{places, original_in, segment_in, date_in}

-- 1 of a number that is there, 0 of one that isn't
unfoldable pub known_of : Option ℕ → ℕ
known_of None = 0
known_of (Some n) = 1

-- a source without creation time, and one whose creation time is so many bytes from an offset on
unfoldable pub source_by : Original → ℕ → ℕ → ℕ → Source
source_by o dated from size = record {
  frames = o.rates.frames;
  numerator = o.rates.numerator;
  denominator = o.rates.denominator;
  dated = dated;
  from = from;
  size = size;
  kind = o.clock.kind;
  ticks = o.clock.ticks;
  per = o.clock.per;
  modulus = o.clock.modulus;
  file_size = o.file_size;
  imu_known = known_of o.imu_origin;
  imu_origin = unwrap_or o.imu_origin 0;
}

unfoldable pub dated_by : Original → Option ℕ → ℕ → ℕ → Source
dated_by o None from size = source_by o 0 0 0
dated_by o (Some at) from size = source_by o 1 from size

abbrev pub source_in : List ℕ → ℕ → ℕ → Source
source_in text from at = dated_by (original_in text at) (original_in text at).created from (length (date_in text at))

-- the sources at some offsets, whose creation times lie from an offset on
unfoldable pub sources_in : List ℕ → ℕ → List ℕ → List Source
sources_in text from [] = []
sources_in text from (at ∷ rest) = source_in text from at ∷ sources_in text (from + length (date_in text at)) rest

-- their creation times
unfoldable pub dates_in : List ℕ → List ℕ → List ℕ
dates_in text [] = []
dates_in text (at ∷ rest) = date_in text at ++ dates_in text rest

-- the string at an offset as two words, by the offset after it: where what stands between its quotation marks starts,
-- and how many bytes that is
unfoldable pub span_of : ℕ → Option ℕ → List ℕ
span_of at None = 0 ∷ 0 ∷ []
span_of at (Some e) = (at + 1) ∷ (e - (at + 2)) ∷ []

abbrev pub span_at : List ℕ → ℕ → List ℕ
span_at text at = span_of at (end_of (string_at text at))

-- the names of the sources at some offsets
unfoldable pub names_in : List ℕ → List ℕ → List ℕ
names_in text [] = []
names_in text (at ∷ rest) = span_at text (original_in text at).name ++ names_in text rest

-- the table
abbrev pub table_in : List ℕ → Lists → Table
table_in text lists = record {
  uneven = false;
  log = lists.log;
  text = dates_in text (places text lists.sources);
  sources = sources_in text 0 (places text lists.sources);
  segments = map (segment_in text) (places text lists.segments);
}

-- a source as thirteen words, a segment as five and seven
abbrev pub source_list : Source → List ℕ
source_list s =
    s.frames ∷ s.numerator ∷ s.denominator ∷ s.dated ∷ s.from ∷ s.size ∷ s.kind ∷ s.ticks ∷ s.per ∷ s.modulus
    ∷ s.file_size ∷ s.imu_known ∷ s.imu_origin ∷ []

abbrev pub words_list : Words → List ℕ
words_list w = w.source ∷ w.first ∷ w.count ∷ w.out ∷ w.flag ∷ []

abbrev pub stamps_list : Stamps → List ℤ
stamps_list t =
    t.source_start ∷ t.out_start ∷ t.duration ∷ t.source_capture_start ∷ t.out_capture_start ∷ t.capture_duration
    ∷ t.shift ∷ []

-- one after another
unfoldable pub all_sources : List Source → List ℕ
all_sources [] = []
all_sources (s ∷ rest) = source_list s ++ all_sources rest

unfoldable pub all_words : List Segment → List ℕ
all_words [] = []
all_words (s ∷ rest) = words_list s.words ++ all_words rest

unfoldable pub all_stamps : List Segment → List ℤ
all_stamps [] = []
all_stamps (s ∷ rest) = stamps_list s.stamps ++ all_stamps rest
