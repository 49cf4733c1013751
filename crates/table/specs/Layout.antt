-- How a table is lent, RULES 1.2 to 1.4, one record after another; and the records that such words hold.
use Rattle.std.specs.Prelude.{ℕ, ◌+◌, ◌*◌, ◌/◌, ◌%◌, Bool, not, ◌||◌, List, ◌⊎◌, ◌≡◌, get_or, length, ℤ, pos, map, ◌==◌}
use Rattle.std.specs.List.{range_with_len}
use Rattle.rules.specs.declared.Source.{Source}
use Rattle.rules.specs.declared.Words.{Words}
use Rattle.rules.specs.declared.Stamps.{Stamps}
use Rattle.rules.specs.declared.Segment.{Segment}
use Rattle.rules.specs.Records.{Table}

-- how many words a source has, and how many unsigned and signed ones a segment
abbrev pub source_words : ℕ
source_words = 13

abbrev pub segment_words : ℕ
segment_words = 5

abbrev pub segment_stamps : ℕ
segment_stamps = 7

-- source number k
abbrev pub source_at : List ℕ → ℕ → Source
source_at sources k = record {
  frames = get_or sources (k * source_words) 0;
  numerator = get_or sources (k * source_words + 1) 0;
  denominator = get_or sources (k * source_words + 2) 0;
  dated = get_or sources (k * source_words + 3) 0;
  from = get_or sources (k * source_words + 4) 0;
  size = get_or sources (k * source_words + 5) 0;
  kind = get_or sources (k * source_words + 6) 0;
  ticks = get_or sources (k * source_words + 7) 0;
  per = get_or sources (k * source_words + 8) 0;
  modulus = get_or sources (k * source_words + 9) 0;
  file_size = get_or sources (k * source_words + 10) 0;
  imu_known = get_or sources (k * source_words + 11) 0;
  imu_origin = get_or sources (k * source_words + 12) 0;
}

-- segment number k: its unsigned words, its signed words
abbrev pub words_at : List ℕ → ℕ → Words
words_at words k = record {
  source = get_or words (k * segment_words) 0;
  first = get_or words (k * segment_words + 1) 0;
  count = get_or words (k * segment_words + 2) 0;
  out = get_or words (k * segment_words + 3) 0;
  flag = get_or words (k * segment_words + 4) 0;
}

abbrev pub stamps_at : List ℤ → ℕ → Stamps
stamps_at stamps k = record {
  source_start = get_or stamps (k * segment_stamps) (pos 0);
  out_start = get_or stamps (k * segment_stamps + 1) (pos 0);
  duration = get_or stamps (k * segment_stamps + 2) (pos 0);
  source_capture_start = get_or stamps (k * segment_stamps + 3) (pos 0);
  out_capture_start = get_or stamps (k * segment_stamps + 4) (pos 0);
  capture_duration = get_or stamps (k * segment_stamps + 5) (pos 0);
  shift = get_or stamps (k * segment_stamps + 6) (pos 0);
}

abbrev pub segment_at : List ℕ → List ℤ → ℕ → Segment
segment_at words stamps k = record { words = words_at words k; stamps = stamps_at stamps k }

-- all sources, and all segments
unfoldable pub sources_of : List ℕ → List Source
sources_of sources = map (source_at sources) (range_with_len 0 (length sources / source_words))

unfoldable pub segments_of : List ℕ → List ℤ → List Segment
segments_of words stamps = map (segment_at words stamps) (range_with_len 0 (length words / segment_words))

-- so many words are no whole number of sources
abbrev pub uneven_sources : ℕ → Bool
uneven_sources words = not (words % source_words == 0)

-- the lengths of the segments' two slices aren't multiples of their records, or disagree
abbrev pub uneven_rows : ℕ → ℕ → Bool
uneven_rows words stamps =
    not (words % segment_words == 0)
    || (not (stamps % segment_stamps == 0) || not (words / segment_words == stamps / segment_stamps))

-- `uneven_sources` or `uneven_rows`, as one condition in the words of 1 (RULES 2.4); the audit claims that a table of
-- words is uneven exactly then
abbrev pub Uneven : ℕ → ℕ → ℕ → Type 0
Uneven sources words stamps =
    (sources % source_words ≡ 0 → ⊥) ⊎ (words % segment_words ≡ 0 → ⊥) ⊎ (stamps % segment_stamps ≡ 0 → ⊥)
    ⊎ (words / segment_words ≡ stamps / segment_stamps → ⊥)

-- the table that is lent with these segments, whose layout says whether it is uneven
abbrev pub table_with : List ℕ → Bool → List Segment → Bool → List ℕ → Table
table_with sources uneven segments log text = record {
  uneven = uneven_sources (length sources) || uneven;
  log = log;
  text = text;
  sources = sources_of sources;
  segments = segments;
}

-- and with them as rows of words
unfoldable pub table_of : List ℕ → List ℕ → List ℤ → Bool → List ℕ → Table
table_of sources words stamps log text =
    table_with sources (uneven_rows (length words) (length stamps)) (segments_of words stamps) log text
