-- What reading a table's text answers, and what it leaves in lent slices, by the value that RFC 8259 gives the text.
use Rattle.std.specs.Prelude.{ℕ, ◌+◌, ◌*◌, Bool, false, ◌||◌, List, [], ◌∷◌, ◌++◌, length, Option, Some, None, unwrap_or, Result, Ok, Err, nat_lt, ℤ, replicate, ◌≡◌}
use Rattle.std.specs.Prelude.{if◌then◌else◌}
use Rattle.slices.specs.Slices.{laid}
use Rattle.refusal.specs.declared.Reason.TheVariants as reason
use Rattle.refusal.specs.declared.Refusal.{Refusal}
use Rattle.refusal.specs.Refusals.{refused}
use Rattle.rules.specs.declared.Source.{Source}
use Rattle.rules.specs.Records.{Table}
use Rattle.rules.specs.Rules.{check_of}
use Rattle.table.specs.Layout.{source_words, segment_words, segment_stamps}
use Rattle.table_text.specs.declared.reader.Read.{Read}
use Rattle.table_text.specs.declared.reader.Room.{Room}
use Rattle.table_text.specs.Tables.{known_of, all_sources, all_words, all_stamps}
use Rattle.table_meaning.specs.Parsed.{ParsedSource, Parsed, parsing}

-- a source as a record, whose creation time lies from an offset on; words of absent things are 0
unfoldable pub source_with : ParsedSource → ℕ → ℕ → ℕ → Source
source_with o dated from size = record {
  frames = o.rates.frames;
  numerator = o.rates.numerator;
  denominator = o.rates.denominator;
  dated = dated;
  from = from;
  size = size;
  kind = o.clock.kind;
  ticks = o.clock.ticks;
  per = o.clock.per;
  modulus = o.clock.modulus;
  file_size = o.file_size;
  imu_known = known_of o.imu_origin;
  imu_origin = unwrap_or o.imu_origin 0;
}

unfoldable pub source_dated : ParsedSource → Option (List ℕ) → ℕ → Source
source_dated o None from = source_with o 0 0 0
source_dated o (Some bytes) from = source_with o 1 from (length bytes)

-- the bytes of its creation time
abbrev pub date_of : ParsedSource → List ℕ
date_of o = unwrap_or o.created []

-- creation times lie one after another in a text of their own
unfoldable pub sources_from : ℕ → List ParsedSource → List Source
sources_from from [] = []
sources_from from (o ∷ rest) = source_dated o o.created from ∷ sources_from (from + length (date_of o)) rest

unfoldable pub dates_of : List ParsedSource → List ℕ
dates_of [] = []
dates_of (o ∷ rest) = date_of o ++ dates_of rest

-- the table that is judged
abbrev pub table_from : Parsed → Table
table_from t = record {
  uneven = false;
  log = t.log;
  text = dates_of t.sources;
  sources = sources_from 0 t.sources;
  segments = t.segments;
}

-- what is answered, and what is written
pub record Written : Type 0 where
  pub read : Read
  pub sources : List ℕ
  pub words : List ℕ
  pub stamps : List ℤ
  pub dates : List ℕ

-- 32, index 0: too little room for the records, or for the creation times
abbrev pub short : Parsed → Room → Bool
short t room =
    (nat_lt room.sources (source_words * length t.sources) || nat_lt room.words (segment_words * length t.segments))
    || (nat_lt room.stamps (segment_stamps * length t.segments) || nat_lt room.dates (length (dates_of t.sources)))

-- 3 to 17, or what is written
unfoldable pub checked : Parsed → Result ℕ Refusal → Result Written Refusal
checked t (Ok frames) = Ok (record {
  read = record {
    frames = frames;
    sources = length t.sources;
    segments = length t.segments;
    dates = length (dates_of t.sources);
    log = t.log;
  };
  sources = all_sources (sources_from 0 t.sources);
  words = all_words t.segments;
  stamps = all_stamps t.segments;
  dates = dates_of t.sources;
})
checked t (Err refusal) = Err refusal

-- 32, index 0; 3 to 17
unfoldable pub written_by : Room → Result Parsed Refusal → Result Written Refusal
written_by room (Ok t) = if short t room then refused reason.NoRoom 0 else checked t (check_of (table_from t))
written_by room (Err refusal) = Err refusal

-- THE READING OF A TABLE'S TEXT: `parsing` refuses with 60, 32 (index 1), 61 to 64 and 2, then 32 (index 0), 3 to 17
abbrev pub reading : List ℕ → Room → Result Written Refusal
reading text room = written_by room (parsing text room.work)

-- the room that lent slices give
abbrev pub room_of : List ℕ → List ℕ → List ℤ → List ℕ → List ℕ → Room
room_of sources words stamps dates work = record {
  sources = length sources;
  words = length words;
  stamps = length stamps;
  dates = length dates;
  work = length work;
}

-- its answer
unfoldable pub answer_of : Result Written Refusal → Result Read Refusal
answer_of (Ok w) = Ok w.read
answer_of (Err refusal) = Err refusal

-- a lent slice after it: what is written over the first of those lent, or as it was
unfoldable pub left_of : {A : Type 0} → (Written → List A) → Result Written Refusal → List A → List A
left_of part (Ok w) lent = laid (part w) lent
left_of part (Err refusal) lent = lent

-- ALL THAT `read_table` PROMISES, of what is lent, the answer, and what the lent slices hold afterwards (primed)
pub record Reads (text sources words : List ℕ) (stamps : List ℤ) (dates work : List ℕ) (answer : Result Read Refusal)
    (sources' words' : List ℕ) (stamps' : List ℤ) (dates' work' : List ℕ) : Type 0 where
  pub answered : answer ≡ answer_of (reading text (room_of sources words stamps dates work))
  pub sources_left : sources' ≡ left_of (λ w. w.sources) (reading text (room_of sources words stamps dates work)) sources
  pub words_left : words' ≡ left_of (λ w. w.words) (reading text (room_of sources words stamps dates work)) words
  pub stamps_left : stamps' ≡ left_of (λ w. w.stamps) (reading text (room_of sources words stamps dates work)) stamps
  pub dates_left : dates' ≡ left_of (λ w. w.dates) (reading text (room_of sources words stamps dates work)) dates
  pub cleared : work' ≡ replicate (length work) 0
