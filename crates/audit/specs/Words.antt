-- A table as it is lent, the calls on it, and the rows that a call wrote: plain words for Claims and Examples.
use Rattle.std.specs.Prelude.{ℕ, ◌*◌, Bool, List, ℤ, take, Result}
use Rattle.refusal.specs.declared.Refusal.{Refusal}
use Rattle.rows.specs.declared.Row.{Row}
use Rattle.rows.specs.Lent.{rows}
use Rattle.rules.specs.Records.{Table}
use Rattle.table.specs.Layout.{table_of}
use Rattle.judge.specs.declared.Video.{Video}
use Rattle.records.specs.declared.TrimSegment.{TrimSegment}
use Rattle.records.specs.Records.{all_unsigned, all_signed}
use Rattle.audit.specs.Calls as calls

-- a table as it is lent: the words of its sources, the unsigned and the signed words of its segments, whether it names
-- a log, and the text of its creation times
pub record Lent : Type 0 where
  pub sources : List ℕ
  pub words : List ℕ
  pub stamps : List ℤ
  pub log : Bool
  pub text : List ℕ

-- the sources and segments that these words hold
abbrev pub table : Lent → Table
table lent = table_of lent.sources lent.words lent.stamps lent.log lent.text

-- a call that takes a table, of this one
abbrev pub on : {A : Type 1} → (List ℕ → List ℕ → List ℤ → Bool → List ℕ → A) → Lent → A
on call lent = call lent.sources lent.words lent.stamps lent.log lent.text

-- check, segment_of_frame, segment_of_time_us and continues of that table answer r; rows_of_table answers so and leaves
-- out_words' and out_shifts'
abbrev pub Check : Lent → Result ℕ Refusal → Type 0
Check lent answer = on calls.Check lent answer

abbrev pub SegmentOfFrame : Lent → ℕ → Result ℕ Refusal → Type 0
SegmentOfFrame lent frame answer = on calls.SegmentOfFrame lent frame answer

abbrev pub SegmentOfTimeUs : Lent → ℤ → Result ℕ Refusal → Type 0
SegmentOfTimeUs lent time answer = on calls.SegmentOfTimeUs lent time answer

abbrev pub Continues : Lent → ℕ → Result Bool Refusal → Type 0
Continues lent number answer = on calls.Continues lent number answer

abbrev pub RowsOfTable : Lent → List ℕ → List ℤ → Result ℕ Refusal → List ℕ → List ℤ → Type 0
RowsOfTable lent out_words out_shifts answer out_words' out_shifts' =
    on calls.RowsOfTable lent out_words out_shifts answer out_words' out_shifts'

-- segments_of_frames of that table, of a list of frames and the room for their segments, answers so and leaves out'
abbrev pub SegmentsOfFrames : Lent → List ℕ → List ℕ → Result ℕ Refusal → List ℕ → Type 0
SegmentsOfFrames lent frames out answer out' = on calls.SegmentsOfFrames lent frames out answer out'

-- validate of that table, of a video and the starts that are lent beside it, answers so; check_mcraw, of timestamps and
-- two working slices, answers so and leaves first_work' and second_work'
abbrev pub Validate : Lent → Video → List ℤ → Result ℕ Refusal → Type 0
Validate lent video starts answer = on calls.Validate lent video starts answer

abbrev pub CheckMcraw : Lent → List ℤ → List ℤ → List ℤ → Result ℕ Refusal → List ℤ → List ℤ → Type 0
CheckMcraw lent timestamps first_work second_work answer first_work' second_work' =
    on calls.CheckMcraw lent timestamps first_work second_work answer first_work' second_work'

-- the table whose segments are a list of records, lent as words: of each record, in order, its five unsigned and its
-- seven signed ones
abbrev pub in_words : List ℕ → List ℕ → List TrimSegment → Bool → Lent
in_words sources text records log =
    record { sources = sources; words = all_unsigned records; stamps = all_signed records; log = log; text = text }

-- the map of k rows that a call wrote over out_words and out_shifts
abbrev pub map_written : ℕ → List ℕ → List ℤ → List Row
map_written count out_words out_shifts = rows (take (5 * count) out_words) (take count out_shifts)

-- the library's call answers something, of which this is told
pub record Tells {A : Type 0} (Answers : A → Type 0) (Is : A → Type 0) : Type 0 where
  pub answer : A
  pub given : Answers answer
  pub told : Is answer
