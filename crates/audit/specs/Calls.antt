-- Made by tools/calls: of each public call its promise. First, with a capital, its clause in the source's own words,
-- of plain lists and numbers; a part of the caller's bytes stays a reference, and `X·of` is the clause's X where the
-- quotation has that name. Then the same as a promise: of the arguments (a.0 is the first, a.1.0 the second), the
-- result z and the exit e. That the call asks nothing and keeps both is proved in src/library.rt.
use Rattle.std.specs.Prelude.{ℕ, Bool, List, ◌≡◌, ℤ, Result}
use Rattle.std.specs.Borrow.{Bor}
use Rattle.audit.specs.Promise.{Promise}
use Rattle.boxes.specs.Boxes.{box_size, children_at}
use Rattle.boxes.specs.Places.{PartAt, child_place, find_box_place, table_text_place}
use Rattle.boxes.specs.declared.BoxAt.{BoxAt}
use Rattle.boxes.specs.declared.BoxSize.{BoxSize as BoxSize·of}
use Rattle.boxes.specs.declared.Place.{Place}
use Rattle.cuts.specs.Answers.{Cuts as Cuts·of}
use Rattle.frame_times.specs.Times.{MoovAnswers}
use Rattle.json_strings.specs.Reading.{StringInto as StringInto·of}
use Rattle.judge.specs.Judge.{Settled, validate_of}
use Rattle.judge.specs.Video.{shown_by}
use Rattle.judge.specs.declared.Video.{Video}
use Rattle.lookups.specs.Indices.{Indexing}
use Rattle.maps.specs.Answers.{Cut as Cut·of, Join as Join·of, Merge as Merge·of, Trace}
use Rattle.maps.specs.Origins.{Traces}
use Rattle.mcraw.specs.Mcraw.{McrawAnswers}
use Rattle.records.specs.Records.{locate}
use Rattle.records.specs.declared.TrimSegment.{TrimSegment}
use Rattle.refusal.specs.declared.Refusal.{Refusal}
use Rattle.rows.specs.declared.Origin.{Origin as Origin·of}
use Rattle.rules.specs.Lookups.{continues_at, segment_of_frame, segment_of_time}
use Rattle.rules.specs.Rules.{check_of}
use Rattle.std.specs.Result.{result_ok}
use Rattle.table.specs.Layout.{table_of}
use Rattle.table_meaning.specs.Answer.{Reads}
use Rattle.table_meaning.specs.Names.{NamesRead}
use Rattle.table_rows.specs.Rows.{Rowed}
use Rattle.table_text.specs.declared.reader.Read.{Read}
use Rattle.ticks.specs.Ticks.{ticks_to_us}
use Rattle.ticks.specs.declared.FrameTimes.{FrameTimes}
use Rattle.utc.specs.Utc.{utc_second}
use Rattle.ticks.specs.contracts.ticks_to_us as ticks-to-us·
use Rattle.utc.specs.contracts.is_utc_second as is-utc-second·
use Rattle.table.specs.contracts.check as check·
use Rattle.lookup.specs.contracts.segment_of_frame as segment-of-frame·
use Rattle.lookup.specs.contracts.segment_of_time_us as segment-of-time-us·
use Rattle.lookup.specs.contracts.continues as continues·
use Rattle.table_rows.specs.contracts.rows_of_table as rows-of-table·
use Rattle.lookups.specs.contracts.segments_of_frames as segments-of-frames·
use Rattle.judge.specs.contracts.validate as validate·
use Rattle.judge.specs.contracts.check_mcraw as check-mcraw·
use Rattle.boxes.specs.contracts.box_size as box-size·
use Rattle.boxes.specs.contracts.children as children·
use Rattle.boxes.specs.contracts.child_place as child-place·
use Rattle.boxes.specs.contracts.child as child·
use Rattle.boxes.specs.contracts.find_box_place as find-box-place·
use Rattle.boxes.specs.contracts.find_box as find-box·
use Rattle.boxes.specs.contracts.table_text_place as table-text-place·
use Rattle.boxes.specs.contracts.table_text as table-text·
use Rattle.frame_times.specs.contracts.video_frame_times_of_moov as video-frame-times-of-moov·
use Rattle.mcraw.specs.contracts.mcraw_times as mcraw-times·
use Rattle.maps.specs.contracts.cut as cut·
use Rattle.maps.specs.contracts.merge as merge·
use Rattle.maps.specs.contracts.join as join·
use Rattle.maps.specs.contracts.origin as origin·
use Rattle.maps.specs.contracts.origins as origins·
use Rattle.cuts.specs.contracts.cuts as cuts·
use Rattle.records.specs.contracts.segment_of_frame_records as segment-of-frame-records·
use Rattle.table_meaning.specs.contracts.read_table as read-table·
use Rattle.table_meaning.specs.contracts.source_names as source-names·
use Rattle.json_strings.specs.contracts.reading.string_into as string-into·

-- ticks::ticks_to_us: ticks_to_us(ticks, scale) answers ans
abbrev pub TicksToUs : ℤ → ℕ → Result ℤ Refusal → Type 0
TicksToUs ticks scale ans = ans ≡ ticks_to_us ticks scale

abbrev pub ticks-to-us : Promise
ticks-to-us = record {
  types = ticks-to-us·.ended;
  Learnt = λ κs a z e. TicksToUs a.0 a.1.0 z;
}

-- utc::is_utc_second: is_utc_second(bytes) answers ans
abbrev pub IsUtcSecond : List ℕ → Bool → Type 0
IsUtcSecond bytes ans = ans ≡ utc_second bytes

abbrev pub is-utc-second : Promise
is-utc-second = record {
  types = is-utc-second·.ended;
  Learnt = λ κs a z e. IsUtcSecond a.0.now z;
}

-- table::check: check(sources, words, stamps, log, text) answers ans
abbrev pub Check : List ℕ → List ℕ → List ℤ → Bool → List ℕ → Result ℕ Refusal → Type 0
Check sources words stamps log text ans = ans ≡ check_of (table_of sources words stamps log text)

abbrev pub check : Promise
check = record {
  types = check·.ended;
  Learnt = λ κs a z e. Check a.0.now a.1.0.now a.1.1.0.now a.1.1.1.0 a.1.1.1.1.0.now z;
}

-- lookup::segment_of_frame: segment_of_frame(sources, words, stamps, log, text, frame) answers ans
abbrev pub SegmentOfFrame : List ℕ → List ℕ → List ℤ → Bool → List ℕ → ℕ → Result ℕ Refusal → Type 0
SegmentOfFrame sources words stamps log text frame ans =
    ans ≡ segment_of_frame (table_of sources words stamps log text) frame

abbrev pub segment-of-frame : Promise
segment-of-frame = record {
  types = segment-of-frame·.ended;
  Learnt = λ κs a z e. SegmentOfFrame a.0.now a.1.0.now a.1.1.0.now a.1.1.1.0 a.1.1.1.1.0.now a.1.1.1.1.1.0 z;
}

-- lookup::segment_of_time_us: segment_of_time_us(sources, words, stamps, log, text, time) answers ans
abbrev pub SegmentOfTimeUs : List ℕ → List ℕ → List ℤ → Bool → List ℕ → ℤ → Result ℕ Refusal → Type 0
SegmentOfTimeUs sources words stamps log text time ans =
    ans ≡ segment_of_time (table_of sources words stamps log text) time

abbrev pub segment-of-time-us : Promise
segment-of-time-us = record {
  types = segment-of-time-us·.ended;
  Learnt = λ κs a z e. SegmentOfTimeUs a.0.now a.1.0.now a.1.1.0.now a.1.1.1.0 a.1.1.1.1.0.now a.1.1.1.1.1.0 z;
}

-- lookup::continues: continues(sources, words, stamps, log, text, number) answers ans
abbrev pub Continues : List ℕ → List ℕ → List ℤ → Bool → List ℕ → ℕ → Result Bool Refusal → Type 0
Continues sources words stamps log text number ans = ans ≡ continues_at (table_of sources words stamps log text) number

abbrev pub continues : Promise
continues = record {
  types = continues·.ended;
  Learnt = λ κs a z e. Continues a.0.now a.1.0.now a.1.1.0.now a.1.1.1.0 a.1.1.1.1.0.now a.1.1.1.1.1.0 z;
}

-- table_rows::rows_of_table: rows_of_table(sources, words, stamps, log, text, out_words, out_shifts) answers ans,
-- and leaves out_words', out_shifts'
abbrev pub RowsOfTable : List ℕ → List ℕ → List ℤ → Bool → List ℕ → List ℕ → List ℤ → Result ℕ Refusal → List ℕ → List ℤ
    → Type 0
RowsOfTable sources words stamps log text out_words out_shifts ans out_words' out_shifts' =
    Rowed (table_of sources words stamps log text) out_words out_shifts ans out_words' out_shifts'

abbrev pub rows-of-table : Promise
rows-of-table = record {
  types = rows-of-table·.ended;
  Learnt = λ κs a z e. RowsOfTable a.0.now a.1.0.now a.1.1.0.now a.1.1.1.0 a.1.1.1.1.0.now a.1.1.1.1.1.0.now
      a.1.1.1.1.1.1.0.now z e.1.1.1.1.1.0.now e.1.1.1.1.1.1.0.now;
}

-- lookups::segments_of_frames: segments_of_frames(sources, words, stamps, log, text, frames, out) answers ans, and
-- leaves out'
abbrev pub SegmentsOfFrames : List ℕ → List ℕ → List ℤ → Bool → List ℕ → List ℕ → List ℕ → Result ℕ Refusal → List ℕ
    → Type 0
SegmentsOfFrames sources words stamps log text frames out ans out' =
    Indexing (table_of sources words stamps log text) frames out ans out'

abbrev pub segments-of-frames : Promise
segments-of-frames = record {
  types = segments-of-frames·.ended;
  Learnt = λ κs a z e. SegmentsOfFrames a.0.now a.1.0.now a.1.1.0.now a.1.1.1.0 a.1.1.1.1.0.now a.1.1.1.1.1.0.now
      a.1.1.1.1.1.1.0.now z e.1.1.1.1.1.1.0.now;
}

-- judge::validate: validate(sources, words, stamps, log, text, video, starts) answers ans
abbrev pub Validate : List ℕ → List ℕ → List ℤ → Bool → List ℕ → Video → List ℤ → Result ℕ Refusal → Type 0
Validate sources words stamps log text video starts ans =
    ans ≡ validate_of (table_of sources words stamps log text) (shown_by video starts)

abbrev pub validate : Promise
validate = record {
  types = validate·.ended;
  Learnt = λ κs a z e. Validate a.0.now a.1.0.now a.1.1.0.now a.1.1.1.0 a.1.1.1.1.0.now a.1.1.1.1.1.0
      a.1.1.1.1.1.1.0.now z;
}

-- judge::check_mcraw: check_mcraw(sources, words, stamps, log, text, timestamps, first_work, second_work) answers
-- ans, and leaves first_work', second_work'
abbrev pub CheckMcraw : List ℕ → List ℕ → List ℤ → Bool → List ℕ → List ℤ → List ℤ → List ℤ → Result ℕ Refusal → List ℤ
    → List ℤ → Type 0
CheckMcraw sources words stamps log text timestamps first_work second_work ans first_work' second_work' =
    Settled (table_of sources words stamps log text) timestamps first_work second_work ans first_work' second_work'

abbrev pub check-mcraw : Promise
check-mcraw = record {
  types = check-mcraw·.ended;
  Learnt = λ κs a z e. CheckMcraw a.0.now a.1.0.now a.1.1.0.now a.1.1.1.0 a.1.1.1.1.0.now a.1.1.1.1.1.0.now
      a.1.1.1.1.1.1.0.now a.1.1.1.1.1.1.1.0.now z e.1.1.1.1.1.1.0.now e.1.1.1.1.1.1.1.0.now;
}

-- boxes::box_size: box_size(«data», remaining) answers ans
abbrev pub BoxSize : List ℕ → ℕ → Result BoxSize·of Refusal → Type 0
BoxSize «data» remaining ans = ans ≡ box_size «data» remaining

abbrev pub box-size : Promise
box-size = record {
  types = box-size·.ended;
  Learnt = λ κs a z e. BoxSize a.0.now a.1.0 z;
}

-- boxes::children: children(payload, at) answers ans
abbrev pub Children : List ℕ → ℕ → Result BoxAt Refusal → Type 0
Children payload at ans = ans ≡ children_at payload at

abbrev pub children : Promise
children = record {
  types = children·.ended;
  Learnt = λ κs a z e. Children a.0.now a.1.0 z;
}

-- boxes::child_place: child_place(payload, kind) answers ans
abbrev pub ChildPlace : List ℕ → ℕ → Result Place Refusal → Type 0
ChildPlace payload kind ans = ans ≡ child_place payload kind

abbrev pub child-place : Promise
child-place = record {
  types = child-place·.ended;
  Learnt = λ κs a z e. ChildPlace a.0.now a.1.0 z;
}

-- boxes::child: child(payload, kind) answers ans
abbrev pub Child : Bor (List ℕ) → ℕ → Bor (List ℕ) → Type 0
Child payload kind ans = PartAt payload (result_ok (child_place payload.now kind)) ans

abbrev pub child : Promise
child = record {
  types = child·.ended;
  Learnt = λ κs a z e. Child a.0 a.1.0 z;
}

-- boxes::find_box_place: find_box_place(bytes, start, end, kind, text_types) answers ans
abbrev pub FindBoxPlace : List ℕ → ℕ → ℕ → ℕ → Bool → Result Place Refusal → Type 0
FindBoxPlace bytes start end kind text_types ans = ans ≡ find_box_place bytes start end kind text_types

abbrev pub find-box-place : Promise
find-box-place = record {
  types = find-box-place·.ended;
  Learnt = λ κs a z e. FindBoxPlace a.0.now a.1.0 a.1.1.0 a.1.1.1.0 a.1.1.1.1.0 z;
}

-- boxes::find_box: find_box(bytes, start, end, kind, text_types) answers ans
abbrev pub FindBox : Bor (List ℕ) → ℕ → ℕ → ℕ → Bool → Bor (List ℕ) → Type 0
FindBox bytes start end kind text_types ans =
    PartAt bytes (result_ok (find_box_place bytes.now start end kind text_types)) ans

abbrev pub find-box : Promise
find-box = record {
  types = find-box·.ended;
  Learnt = λ κs a z e. FindBox a.0 a.1.0 a.1.1.0 a.1.1.1.0 a.1.1.1.1.0 z;
}

-- boxes::table_text_place: table_text_place(file) answers ans
abbrev pub TableTextPlace : List ℕ → Result Place Refusal → Type 0
TableTextPlace file ans = ans ≡ table_text_place file

abbrev pub table-text-place : Promise
table-text-place = record {
  types = table-text-place·.ended;
  Learnt = λ κs a z e. TableTextPlace a.0.now z;
}

-- boxes::table_text: table_text(file) answers ans
abbrev pub TableText : Bor (List ℕ) → Bor (List ℕ) → Type 0
TableText file ans = PartAt file (result_ok (table_text_place file.now)) ans

abbrev pub table-text : Promise
table-text = record {
  types = table-text·.ended;
  Learnt = λ κs a z e. TableText a.0 z;
}

-- frame_times::video_frame_times_of_moov: video_frame_times_of_moov(moov, standard, starts, first_work, second_work)
-- answers ans, and leaves starts', first_work', second_work'
abbrev pub VideoFrameTimesOfMoov : List ℕ → Bool → List ℤ → List ℤ → List ℤ → Result FrameTimes Refusal → List ℤ
    → List ℤ → List ℤ → Type 0
VideoFrameTimesOfMoov moov standard starts first_work second_work ans starts' first_work' second_work' =
    MoovAnswers standard moov starts first_work second_work ans starts' first_work' second_work'

abbrev pub video-frame-times-of-moov : Promise
video-frame-times-of-moov = record {
  types = video-frame-times-of-moov·.ended;
  Learnt = λ κs a z e. VideoFrameTimesOfMoov a.0.now a.1.0 a.1.1.0.now a.1.1.1.0.now a.1.1.1.1.0.now z e.1.1.0.now
      e.1.1.1.0.now e.1.1.1.1.0.now;
}

-- mcraw::mcraw_times: mcraw_times(timestamps, starts, work) answers ans, and leaves starts', work'
abbrev pub McrawTimes : List ℤ → List ℤ → List ℤ → Result FrameTimes Refusal → List ℤ → List ℤ → Type 0
McrawTimes timestamps starts work ans starts' work' = McrawAnswers timestamps starts work ans starts' work'

abbrev pub mcraw-times : Promise
mcraw-times = record {
  types = mcraw-times·.ended;
  Learnt = λ κs a z e. McrawTimes a.0.now a.1.0.now a.1.1.0.now z e.1.0.now e.1.1.0.now;
}

-- maps::cut: cut(words, shifts, start, end, out_words, out_shifts) answers ans, and leaves out_words', out_shifts'
abbrev pub Cut : List ℕ → List ℤ → ℕ → ℕ → List ℕ → List ℤ → Result ℕ Refusal → List ℕ → List ℤ → Type 0
Cut words shifts start end out_words out_shifts ans out_words' out_shifts' =
    Cut·of words shifts start end out_words out_shifts ans out_words' out_shifts'

abbrev pub cut : Promise
cut = record {
  types = cut·.ended;
  Learnt = λ κs a z e. Cut a.0.now a.1.0.now a.1.1.0 a.1.1.1.0 a.1.1.1.1.0.now a.1.1.1.1.1.0.now z e.1.1.1.1.0.now
      e.1.1.1.1.1.0.now;
}

-- maps::merge: merge(words, shifts, out_words, out_shifts) answers ans, and leaves out_words', out_shifts'
abbrev pub Merge : List ℕ → List ℤ → List ℕ → List ℤ → Result ℕ Refusal → List ℕ → List ℤ → Type 0
Merge words shifts out_words out_shifts ans out_words' out_shifts' =
    Merge·of words shifts out_words out_shifts ans out_words' out_shifts'

abbrev pub merge : Promise
merge = record {
  types = merge·.ended;
  Learnt = λ κs a z e. Merge a.0.now a.1.0.now a.1.1.0.now a.1.1.1.0.now z e.1.1.0.now e.1.1.1.0.now;
}

-- maps::join: join(words, shifts, second_words, second_shifts, out_words, out_shifts) answers ans, and leaves
-- out_words', out_shifts'
abbrev pub Join : List ℕ → List ℤ → List ℕ → List ℤ → List ℕ → List ℤ → Result ℕ Refusal → List ℕ → List ℤ → Type 0
Join words shifts second_words second_shifts out_words out_shifts ans out_words' out_shifts' =
    Join·of words shifts second_words second_shifts out_words out_shifts ans out_words' out_shifts'

abbrev pub join : Promise
join = record {
  types = join·.ended;
  Learnt = λ κs a z e. Join a.0.now a.1.0.now a.1.1.0.now a.1.1.1.0.now a.1.1.1.1.0.now a.1.1.1.1.1.0.now z
      e.1.1.1.1.0.now e.1.1.1.1.1.0.now;
}

-- maps::origin: origin(words, shifts, frame) answers ans
abbrev pub Origin : List ℕ → List ℤ → ℕ → Result Origin·of Refusal → Type 0
Origin words shifts frame ans = Trace words shifts frame ans

abbrev pub origin : Promise
origin = record {
  types = origin·.ended;
  Learnt = λ κs a z e. Origin a.0.now a.1.0.now a.1.1.0 z;
}

-- maps::origins: origins(words, shifts, frames, out) answers ans, and leaves out'
abbrev pub Origins : List ℕ → List ℤ → List ℕ → List Origin·of → Result ℕ Refusal → List Origin·of → Type 0
Origins words shifts frames out ans out' = Traces words shifts frames out ans out'

abbrev pub origins : Promise
origins = record {
  types = origins·.ended;
  Learnt = λ κs a z e. Origins a.0.now a.1.0.now a.1.1.0.now a.1.1.1.0.now z e.1.1.1.0.now;
}

-- cuts::cuts: cuts(words, shifts, ranges, out_words, out_shifts, counts) answers ans, and leaves out_words',
-- out_shifts', counts'
abbrev pub Cuts : List ℕ → List ℤ → List ℕ → List ℕ → List ℤ → List ℕ → Result ℕ Refusal → List ℕ → List ℤ → List ℕ
    → Type 0
Cuts words shifts ranges out_words out_shifts counts ans out_words' out_shifts' counts' =
    Cuts·of words shifts ranges out_words out_shifts counts ans out_words' out_shifts' counts'

abbrev pub cuts : Promise
cuts = record {
  types = cuts·.ended;
  Learnt = λ κs a z e. Cuts a.0.now a.1.0.now a.1.1.0.now a.1.1.1.0.now a.1.1.1.1.0.now a.1.1.1.1.1.0.now z
      e.1.1.1.0.now e.1.1.1.1.0.now e.1.1.1.1.1.0.now;
}

-- records::segment_of_frame_records: segment_of_frame_records(sources, text, records, log, frame) answers ans
abbrev pub SegmentOfFrameRecords : List ℕ → List ℕ → List TrimSegment → Bool → ℕ → Result ℕ Refusal → Type 0
SegmentOfFrameRecords sources text records log frame ans = ans ≡ locate sources text records log frame

abbrev pub segment-of-frame-records : Promise
segment-of-frame-records = record {
  types = segment-of-frame-records·.ended;
  Learnt = λ κs a z e. SegmentOfFrameRecords a.0.now a.1.0.now a.1.1.0.now a.1.1.1.0 a.1.1.1.1.0 z;
}

-- table_meaning::read_table: read_table(text, sources, words, stamps, dates, work) answers ans, and leaves sources',
-- words', stamps', dates', work'
abbrev pub ReadTable : List ℕ → List ℕ → List ℕ → List ℤ → List ℕ → List ℕ → Result Read Refusal → List ℕ → List ℕ
    → List ℤ → List ℕ → List ℕ → Type 0
ReadTable text sources words stamps dates work ans sources' words' stamps' dates' work' =
    Reads text sources words stamps dates work ans sources' words' stamps' dates' work'

abbrev pub read-table : Promise
read-table = record {
  types = read-table·.ended;
  Learnt = λ κs a z e. ReadTable a.0.now a.1.0.now a.1.1.0.now a.1.1.1.0.now a.1.1.1.1.0.now a.1.1.1.1.1.0.now z
      e.1.0.now e.1.1.0.now e.1.1.1.0.now e.1.1.1.1.0.now e.1.1.1.1.1.0.now;
}

-- table_meaning::source_names: source_names(text, out, work) answers ans, and leaves out', work'
abbrev pub SourceNames : List ℕ → List ℕ → List ℕ → Result ℕ Refusal → List ℕ → List ℕ → Type 0
SourceNames text out work ans out' work' = NamesRead text out work ans out' work'

abbrev pub source-names : Promise
source-names = record {
  types = source-names·.ended;
  Learnt = λ κs a z e. SourceNames a.0.now a.1.0.now a.1.1.0.now z e.1.0.now e.1.1.0.now;
}

-- json_strings::reading::string_into: string_into(text, at, out) answers ans, and leaves out'
abbrev pub StringInto : List ℕ → ℕ → List ℕ → Result ℕ Refusal → List ℕ → Type 0
StringInto text at out ans out' = StringInto·of text at out ans out'

abbrev pub string-into : Promise
string-into = record {
  types = string-into·.ended;
  Learnt = λ κs a z e. StringInto a.0.now a.1.0 a.1.1.0.now z e.1.1.0.now;
}
