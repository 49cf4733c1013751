-- Made by tools/calls: of each call for C its promise. First, with a capital, its clause in the source's own words,
-- of plain lists and numbers; a part of the caller's bytes stays a reference, and `X·of` is the clause's X where the
-- quotation has that name. Then the same as a promise: of the arguments (a.0 is the first, a.1.0 the second), the
-- result z and the exit e. That the call asks nothing and keeps both is proved in src/exports.rt.
use Rattle.std.specs.Prelude.{ℕ, Bool, List, ◌≡◌, ℤ}
use Rattle.audit.specs.Promise.{Promise}
use Rattle.boxes.specs.Boxes.{box_size, children_at}
use Rattle.boxes.specs.Places.{child_place, find_box_place, table_text_place}
use Rattle.judge.specs.Judge.{validate_of}
use Rattle.judge.specs.Video.{constant, nothing, timed}
use Rattle.records.specs.Records.{locate}
use Rattle.records.specs.declared.TrimSegment.{TrimSegment}
use Rattle.rows.specs.declared.Origin.{Origin as Origin·of}
use Rattle.rules.specs.Lookups.{continues_at, segment_of_frame, segment_of_time}
use Rattle.rules.specs.Rules.{check_of}
use Rattle.segment_table.specs.Texts.{NamesTold, ReadTold, StringTold}
use Rattle.segment_table.specs.Written.{CutTold, CutsTold, IndexingTold, JoinTold, JudgedTold, McrawTold, MergeTold, MoovTold, OriginsTold, RowedTold, origin_of}
use Rattle.table.specs.Layout.{table_of}
use Rattle.ticks.specs.Ticks.{ticks_to_us}
use Rattle.told.specs.Told.{box_words, itself, origin_words, place_words, size_words, told, unsaid, yes_or_no}
use Rattle.told.specs.declared.texts.TableRead.{TableRead}
use Rattle.utc.specs.Utc.{utc_second}
use Rattle.segment_table.specs.contracts.clock.st_is_utc_second as st-is-utc-second·
use Rattle.segment_table.specs.contracts.clock.st_ticks_to_us as st-ticks-to-us·
use Rattle.segment_table.specs.contracts.cutting.st_cut as st-cut·
use Rattle.segment_table.specs.contracts.cutting.st_cuts as st-cuts·
use Rattle.segment_table.specs.contracts.cutting.st_join as st-join·
use Rattle.segment_table.specs.contracts.cutting.st_merge as st-merge·
use Rattle.segment_table.specs.contracts.cutting.st_origin as st-origin·
use Rattle.segment_table.specs.contracts.cutting.st_origins as st-origins·
use Rattle.segment_table.specs.contracts.judging.st_validate_no_video as st-validate-no-video·
use Rattle.segment_table.specs.contracts.judging.st_validate_constant as st-validate-constant·
use Rattle.segment_table.specs.contracts.judging.st_validate_times as st-validate-times·
use Rattle.segment_table.specs.contracts.judging.st_check_mcraw as st-check-mcraw·
use Rattle.segment_table.specs.contracts.listed.st_segment_of_frame_records as st-segment-of-frame-records·
use Rattle.segment_table.specs.contracts.recordings.st_mcraw_times as st-mcraw-times·
use Rattle.segment_table.specs.contracts.recordings.st_video_frame_times_of_moov as st-video-frame-times-of-moov·
use Rattle.segment_table.specs.contracts.tables.st_check as st-check·
use Rattle.segment_table.specs.contracts.tables.st_segment_of_frame as st-segment-of-frame·
use Rattle.segment_table.specs.contracts.tables.st_segments_of_frames as st-segments-of-frames·
use Rattle.segment_table.specs.contracts.tables.st_segment_of_time_us as st-segment-of-time-us·
use Rattle.segment_table.specs.contracts.tables.st_continues as st-continues·
use Rattle.segment_table.specs.contracts.tables.st_rows_of_table as st-rows-of-table·
use Rattle.segment_table.specs.contracts.texts.st_read_table as st-read-table·
use Rattle.segment_table.specs.contracts.texts.st_source_names as st-source-names·
use Rattle.segment_table.specs.contracts.texts.st_json_string as st-json-string·
use Rattle.segment_table.specs.contracts.walk.st_box_size as st-box-size·
use Rattle.segment_table.specs.contracts.walk.st_children as st-children·
use Rattle.segment_table.specs.contracts.walk.st_child as st-child·
use Rattle.segment_table.specs.contracts.walk.st_find_box as st-find-box·
use Rattle.segment_table.specs.contracts.walk.st_table_text as st-table-text·

-- segment_table::clock::st_is_utc_second: st_is_utc_second(bytes) answers ans
abbrev pub StIsUtcSecond : List ℕ → Bool → Type 0
StIsUtcSecond bytes ans = ans ≡ utc_second bytes

abbrev pub st-is-utc-second : Promise
st-is-utc-second = record {
  types = st-is-utc-second·.ended;
  Learnt = λ κs a z e. StIsUtcSecond a.0.now z;
}

-- segment_table::clock::st_ticks_to_us: st_ticks_to_us(ticks, scale, us, index) answers ans, and leaves us', index'
abbrev pub StTicksToUs : ℤ → ℕ → ℤ → ℕ → ℕ → ℤ → ℕ → Type 0
StTicksToUs ticks scale us index ans us' index' = (ans, us', index') ≡ told itself (ticks_to_us ticks scale) us

abbrev pub st-ticks-to-us : Promise
st-ticks-to-us = record {
  types = st-ticks-to-us·.ended;
  Learnt = λ κs a z e. StTicksToUs a.0 a.1.0 a.1.1.0.now a.1.1.1.0.now z e.1.1.0.now e.1.1.1.0.now;
}

-- segment_table::cutting::st_cut: st_cut(words, shifts, start, end, out_words, out_shifts, rows, index) answers ans,
-- and leaves out_words', out_shifts', rows', index'
abbrev pub StCut : List ℕ → List ℤ → ℕ → ℕ → List ℕ → List ℤ → ℕ → ℕ → ℕ → List ℕ → List ℤ → ℕ → ℕ → Type 0
StCut words shifts start end out_words out_shifts rows index ans out_words' out_shifts' rows' index' =
    CutTold words shifts start end out_words out_shifts rows ans out_words' out_shifts' rows' index'

abbrev pub st-cut : Promise
st-cut = record {
  types = st-cut·.ended;
  Learnt = λ κs a z e. StCut a.0.now a.1.0.now a.1.1.0 a.1.1.1.0 a.1.1.1.1.0.now a.1.1.1.1.1.0.now a.1.1.1.1.1.1.0.now
      a.1.1.1.1.1.1.1.0.now z e.1.1.1.1.0.now e.1.1.1.1.1.0.now e.1.1.1.1.1.1.0.now e.1.1.1.1.1.1.1.0.now;
}

-- segment_table::cutting::st_cuts: st_cuts(words, shifts, ranges, out_words, out_shifts, counts, rows, index)
-- answers ans, and leaves out_words', out_shifts', counts', rows', index'
abbrev pub StCuts : List ℕ → List ℤ → List ℕ → List ℕ → List ℤ → List ℕ → ℕ → ℕ → ℕ → List ℕ → List ℤ → List ℕ → ℕ → ℕ
    → Type 0
StCuts words shifts ranges out_words out_shifts counts rows index ans out_words' out_shifts' counts' rows' index' =
    CutsTold words shifts ranges out_words out_shifts counts rows ans out_words' out_shifts' counts' rows' index'

abbrev pub st-cuts : Promise
st-cuts = record {
  types = st-cuts·.ended;
  Learnt = λ κs a z e. StCuts a.0.now a.1.0.now a.1.1.0.now a.1.1.1.0.now a.1.1.1.1.0.now a.1.1.1.1.1.0.now
      a.1.1.1.1.1.1.0.now a.1.1.1.1.1.1.1.0.now z e.1.1.1.0.now e.1.1.1.1.0.now e.1.1.1.1.1.0.now e.1.1.1.1.1.1.0.now
      e.1.1.1.1.1.1.1.0.now;
}

-- segment_table::cutting::st_join: st_join(words, shifts, second_words, second_shifts, out_words, out_shifts, rows,
-- index) answers ans, and leaves out_words', out_shifts', rows', index'
abbrev pub StJoin : List ℕ → List ℤ → List ℕ → List ℤ → List ℕ → List ℤ → ℕ → ℕ → ℕ → List ℕ → List ℤ → ℕ → ℕ → Type 0
StJoin words shifts second_words second_shifts out_words out_shifts rows index ans out_words' out_shifts' rows' index' =
    JoinTold words shifts second_words second_shifts out_words out_shifts rows ans out_words' out_shifts' rows' index'

abbrev pub st-join : Promise
st-join = record {
  types = st-join·.ended;
  Learnt = λ κs a z e. StJoin a.0.now a.1.0.now a.1.1.0.now a.1.1.1.0.now a.1.1.1.1.0.now a.1.1.1.1.1.0.now
      a.1.1.1.1.1.1.0.now a.1.1.1.1.1.1.1.0.now z e.1.1.1.1.0.now e.1.1.1.1.1.0.now e.1.1.1.1.1.1.0.now
      e.1.1.1.1.1.1.1.0.now;
}

-- segment_table::cutting::st_merge: st_merge(words, shifts, out_words, out_shifts, rows, index) answers ans, and
-- leaves out_words', out_shifts', rows', index'
abbrev pub StMerge : List ℕ → List ℤ → List ℕ → List ℤ → ℕ → ℕ → ℕ → List ℕ → List ℤ → ℕ → ℕ → Type 0
StMerge words shifts out_words out_shifts rows index ans out_words' out_shifts' rows' index' =
    MergeTold words shifts out_words out_shifts rows ans out_words' out_shifts' rows' index'

abbrev pub st-merge : Promise
st-merge = record {
  types = st-merge·.ended;
  Learnt = λ κs a z e. StMerge a.0.now a.1.0.now a.1.1.0.now a.1.1.1.0.now a.1.1.1.1.0.now a.1.1.1.1.1.0.now z
      e.1.1.0.now e.1.1.1.0.now e.1.1.1.1.0.now e.1.1.1.1.1.0.now;
}

-- segment_table::cutting::st_origin: st_origin(words, shifts, frame, source, source_frame, flag, shift, index)
-- answers ans, and leaves source', source_frame', flag', shift', index'
abbrev pub StOrigin : List ℕ → List ℤ → ℕ → ℕ → ℕ → ℕ → ℤ → ℕ → ℕ → ℕ → ℕ → ℕ → ℤ → ℕ → Type 0
StOrigin words shifts frame source source_frame flag shift index ans source' source_frame' flag' shift' index' =
    (ans, (source', source_frame', flag', shift'), index')
    ≡ told origin_words (origin_of words shifts frame) (source, source_frame, flag, shift)

abbrev pub st-origin : Promise
st-origin = record {
  types = st-origin·.ended;
  Learnt = λ κs a z e. StOrigin a.0.now a.1.0.now a.1.1.0 a.1.1.1.0.now a.1.1.1.1.0.now a.1.1.1.1.1.0.now
      a.1.1.1.1.1.1.0.now a.1.1.1.1.1.1.1.0.now z e.1.1.1.0.now e.1.1.1.1.0.now e.1.1.1.1.1.0.now e.1.1.1.1.1.1.0.now
      e.1.1.1.1.1.1.1.0.now;
}

-- segment_table::cutting::st_origins: st_origins(words, shifts, frames, out_origins, written, index) answers ans,
-- and leaves out_origins', written', index'
abbrev pub StOrigins : List ℕ → List ℤ → List ℕ → List Origin·of → ℕ → ℕ → ℕ → List Origin·of → ℕ → ℕ → Type 0
StOrigins words shifts frames out_origins written index ans out_origins' written' index' =
    OriginsTold words shifts frames out_origins written ans out_origins' written' index'

abbrev pub st-origins : Promise
st-origins = record {
  types = st-origins·.ended;
  Learnt = λ κs a z e. StOrigins a.0.now a.1.0.now a.1.1.0.now a.1.1.1.0.now a.1.1.1.1.0.now a.1.1.1.1.1.0.now z
      e.1.1.1.0.now e.1.1.1.1.0.now e.1.1.1.1.1.0.now;
}

-- segment_table::judging::st_validate_no_video: st_validate_no_video(sources, segments, stamps, log, text, index)
-- answers ans, and leaves index'
abbrev pub StValidateNoVideo : List ℕ → List ℕ → List ℤ → Bool → List ℕ → ℕ → ℕ → ℕ → Type 0
StValidateNoVideo sources segments stamps log text index ans index' =
    (ans, tt, index') ≡ told unsaid (validate_of (table_of sources segments stamps log text) nothing) tt

abbrev pub st-validate-no-video : Promise
st-validate-no-video = record {
  types = st-validate-no-video·.ended;
  Learnt = λ κs a z e. StValidateNoVideo a.0.now a.1.0.now a.1.1.0.now a.1.1.1.0 a.1.1.1.1.0.now a.1.1.1.1.1.0.now z
      e.1.1.1.1.1.0.now;
}

-- segment_table::judging::st_validate_constant: st_validate_constant(sources, segments, stamps, log, text,
-- video_frames, numerator, denominator, frames, index) answers ans, and leaves frames', index'
abbrev pub StValidateConstant : List ℕ → List ℕ → List ℤ → Bool → List ℕ → ℕ → ℕ → ℕ → ℕ → ℕ → ℕ → ℕ → ℕ → Type 0
StValidateConstant sources segments stamps log text video_frames numerator denominator frames index ans frames' index' =
    (ans, frames', index')
    ≡ told itself
    (validate_of (table_of sources segments stamps log text) (constant video_frames numerator denominator)) frames

abbrev pub st-validate-constant : Promise
st-validate-constant = record {
  types = st-validate-constant·.ended;
  Learnt = λ κs a z e. StValidateConstant a.0.now a.1.0.now a.1.1.0.now a.1.1.1.0 a.1.1.1.1.0.now a.1.1.1.1.1.0
      a.1.1.1.1.1.1.0 a.1.1.1.1.1.1.1.0 a.1.1.1.1.1.1.1.1.0.now a.1.1.1.1.1.1.1.1.1.0.now z e.1.1.1.1.1.1.1.1.0.now
      e.1.1.1.1.1.1.1.1.1.0.now;
}

-- segment_table::judging::st_validate_times: st_validate_times(sources, segments, stamps, log, text, scale, starts,
-- end, nominal, frames, index) answers ans, and leaves frames', index'
abbrev pub StValidateTimes : List ℕ → List ℕ → List ℤ → Bool → List ℕ → ℕ → List ℤ → ℤ → ℤ → ℕ → ℕ → ℕ → ℕ → ℕ → Type 0
StValidateTimes sources segments stamps log text scale starts end nominal frames index ans frames' index' =
    (ans, frames', index')
    ≡ told itself (validate_of (table_of sources segments stamps log text) (timed starts scale end nominal)) frames

abbrev pub st-validate-times : Promise
st-validate-times = record {
  types = st-validate-times·.ended;
  Learnt = λ κs a z e. StValidateTimes a.0.now a.1.0.now a.1.1.0.now a.1.1.1.0 a.1.1.1.1.0.now a.1.1.1.1.1.0
      a.1.1.1.1.1.1.0.now a.1.1.1.1.1.1.1.0 a.1.1.1.1.1.1.1.1.0 a.1.1.1.1.1.1.1.1.1.0.now a.1.1.1.1.1.1.1.1.1.1.0.now z
      e.1.1.1.1.1.1.1.1.1.0.now e.1.1.1.1.1.1.1.1.1.1.0.now;
}

-- segment_table::judging::st_check_mcraw: st_check_mcraw(sources, segments, stamps, log, text, timestamps,
-- first_work, second_work, frames, index) answers ans, and leaves first_work', second_work', frames', index'
abbrev pub StCheckMcraw : List ℕ → List ℕ → List ℤ → Bool → List ℕ → List ℤ → List ℤ → List ℤ → ℕ → ℕ → ℕ → List ℤ
    → List ℤ → ℕ → ℕ → Type 0
StCheckMcraw sources segments stamps log text timestamps first_work second_work frames index ans first_work'
    second_work' frames' index' = JudgedTold (table_of sources segments stamps log text) timestamps first_work
    second_work frames ans first_work' second_work' frames' index'

abbrev pub st-check-mcraw : Promise
st-check-mcraw = record {
  types = st-check-mcraw·.ended;
  Learnt = λ κs a z e. StCheckMcraw a.0.now a.1.0.now a.1.1.0.now a.1.1.1.0 a.1.1.1.1.0.now a.1.1.1.1.1.0.now
      a.1.1.1.1.1.1.0.now a.1.1.1.1.1.1.1.0.now a.1.1.1.1.1.1.1.1.0.now a.1.1.1.1.1.1.1.1.1.0.now z e.1.1.1.1.1.1.0.now
      e.1.1.1.1.1.1.1.0.now e.1.1.1.1.1.1.1.1.0.now e.1.1.1.1.1.1.1.1.1.0.now;
}

-- segment_table::listed::st_segment_of_frame_records: st_segment_of_frame_records(sources, text, records, log,
-- frame, segment, index) answers ans, and leaves segment', index'
abbrev pub StSegmentOfFrameRecords : List ℕ → List ℕ → List TrimSegment → Bool → ℕ → ℕ → ℕ → ℕ → ℕ → ℕ → Type 0
StSegmentOfFrameRecords sources text records log frame segment index ans segment' index' =
    (ans, segment', index') ≡ told itself (locate sources text records log frame) segment

abbrev pub st-segment-of-frame-records : Promise
st-segment-of-frame-records = record {
  types = st-segment-of-frame-records·.ended;
  Learnt = λ κs a z e. StSegmentOfFrameRecords a.0.now a.1.0.now a.1.1.0.now a.1.1.1.0 a.1.1.1.1.0 a.1.1.1.1.1.0.now
      a.1.1.1.1.1.1.0.now z e.1.1.1.1.1.0.now e.1.1.1.1.1.1.0.now;
}

-- segment_table::recordings::st_mcraw_times: st_mcraw_times(timestamps, starts, work, frames, scale, nominal, end,
-- index) answers ans, and leaves starts', work', frames', scale', nominal', end', index'
abbrev pub StMcrawTimes : List ℤ → List ℤ → List ℤ → ℕ → ℕ → ℤ → ℤ → ℕ → ℕ → List ℤ → List ℤ → ℕ → ℕ → ℤ → ℤ → ℕ
    → Type 0
StMcrawTimes timestamps starts work frames scale nominal end index ans starts' work' frames' scale' nominal' end' index'
    = McrawTold timestamps starts work frames scale nominal end ans starts' work' frames' scale' nominal' end' index'

abbrev pub st-mcraw-times : Promise
st-mcraw-times = record {
  types = st-mcraw-times·.ended;
  Learnt = λ κs a z e. StMcrawTimes a.0.now a.1.0.now a.1.1.0.now a.1.1.1.0.now a.1.1.1.1.0.now a.1.1.1.1.1.0.now
      a.1.1.1.1.1.1.0.now a.1.1.1.1.1.1.1.0.now z e.1.0.now e.1.1.0.now e.1.1.1.0.now e.1.1.1.1.0.now e.1.1.1.1.1.0.now
      e.1.1.1.1.1.1.0.now e.1.1.1.1.1.1.1.0.now;
}

-- segment_table::recordings::st_video_frame_times_of_moov: st_video_frame_times_of_moov(moov, standard, starts,
-- first_work, second_work, frames, scale, nominal, end, index) answers ans, and leaves starts', first_work',
-- second_work', frames', scale', nominal', end', index'
abbrev pub StVideoFrameTimesOfMoov : List ℕ → Bool → List ℤ → List ℤ → List ℤ → ℕ → ℕ → ℤ → ℤ → ℕ → ℕ → List ℤ → List ℤ
    → List ℤ → ℕ → ℕ → ℤ → ℤ → ℕ → Type 0
StVideoFrameTimesOfMoov moov standard starts first_work second_work frames scale nominal end index ans starts'
    first_work' second_work' frames' scale' nominal' end' index' = MoovTold standard moov starts first_work second_work
    frames scale nominal end ans starts' first_work' second_work' frames' scale' nominal' end' index'

abbrev pub st-video-frame-times-of-moov : Promise
st-video-frame-times-of-moov = record {
  types = st-video-frame-times-of-moov·.ended;
  Learnt = λ κs a z e. StVideoFrameTimesOfMoov a.0.now a.1.0 a.1.1.0.now a.1.1.1.0.now a.1.1.1.1.0.now a.1.1.1.1.1.0.now
      a.1.1.1.1.1.1.0.now a.1.1.1.1.1.1.1.0.now a.1.1.1.1.1.1.1.1.0.now a.1.1.1.1.1.1.1.1.1.0.now z e.1.1.0.now
      e.1.1.1.0.now e.1.1.1.1.0.now e.1.1.1.1.1.0.now e.1.1.1.1.1.1.0.now e.1.1.1.1.1.1.1.0.now e.1.1.1.1.1.1.1.1.0.now
      e.1.1.1.1.1.1.1.1.1.0.now;
}

-- segment_table::tables::st_check: st_check(sources, segments, stamps, log, text, frames, index) answers ans, and
-- leaves frames', index'
abbrev pub StCheck : List ℕ → List ℕ → List ℤ → Bool → List ℕ → ℕ → ℕ → ℕ → ℕ → ℕ → Type 0
StCheck sources segments stamps log text frames index ans frames' index' =
    (ans, frames', index') ≡ told itself (check_of (table_of sources segments stamps log text)) frames

abbrev pub st-check : Promise
st-check = record {
  types = st-check·.ended;
  Learnt = λ κs a z e. StCheck a.0.now a.1.0.now a.1.1.0.now a.1.1.1.0 a.1.1.1.1.0.now a.1.1.1.1.1.0.now
      a.1.1.1.1.1.1.0.now z e.1.1.1.1.1.0.now e.1.1.1.1.1.1.0.now;
}

-- segment_table::tables::st_segment_of_frame: st_segment_of_frame(sources, segments, stamps, log, text, frame,
-- segment, index) answers ans, and leaves segment', index'
abbrev pub StSegmentOfFrame : List ℕ → List ℕ → List ℤ → Bool → List ℕ → ℕ → ℕ → ℕ → ℕ → ℕ → ℕ → Type 0
StSegmentOfFrame sources segments stamps log text frame segment index ans segment' index' =
    (ans, segment', index') ≡ told itself (segment_of_frame (table_of sources segments stamps log text) frame) segment

abbrev pub st-segment-of-frame : Promise
st-segment-of-frame = record {
  types = st-segment-of-frame·.ended;
  Learnt = λ κs a z e. StSegmentOfFrame a.0.now a.1.0.now a.1.1.0.now a.1.1.1.0 a.1.1.1.1.0.now a.1.1.1.1.1.0
      a.1.1.1.1.1.1.0.now a.1.1.1.1.1.1.1.0.now z e.1.1.1.1.1.1.0.now e.1.1.1.1.1.1.1.0.now;
}

-- segment_table::tables::st_segments_of_frames: st_segments_of_frames(sources, segments, stamps, log, text, frames,
-- out_segments, written, index) answers ans, and leaves out_segments', written', index'
abbrev pub StSegmentsOfFrames : List ℕ → List ℕ → List ℤ → Bool → List ℕ → List ℕ → List ℕ → ℕ → ℕ → ℕ → List ℕ → ℕ → ℕ
    → Type 0
StSegmentsOfFrames sources segments stamps log text frames out_segments written index ans out_segments' written' index'
    = IndexingTold (table_of sources segments stamps log text) frames out_segments written ans out_segments' written'
    index'

abbrev pub st-segments-of-frames : Promise
st-segments-of-frames = record {
  types = st-segments-of-frames·.ended;
  Learnt = λ κs a z e. StSegmentsOfFrames a.0.now a.1.0.now a.1.1.0.now a.1.1.1.0 a.1.1.1.1.0.now a.1.1.1.1.1.0.now
      a.1.1.1.1.1.1.0.now a.1.1.1.1.1.1.1.0.now a.1.1.1.1.1.1.1.1.0.now z e.1.1.1.1.1.1.0.now e.1.1.1.1.1.1.1.0.now
      e.1.1.1.1.1.1.1.1.0.now;
}

-- segment_table::tables::st_segment_of_time_us: st_segment_of_time_us(sources, segments, stamps, log, text, time,
-- segment, index) answers ans, and leaves segment', index'
abbrev pub StSegmentOfTimeUs : List ℕ → List ℕ → List ℤ → Bool → List ℕ → ℤ → ℕ → ℕ → ℕ → ℕ → ℕ → Type 0
StSegmentOfTimeUs sources segments stamps log text time segment index ans segment' index' =
    (ans, segment', index') ≡ told itself (segment_of_time (table_of sources segments stamps log text) time) segment

abbrev pub st-segment-of-time-us : Promise
st-segment-of-time-us = record {
  types = st-segment-of-time-us·.ended;
  Learnt = λ κs a z e. StSegmentOfTimeUs a.0.now a.1.0.now a.1.1.0.now a.1.1.1.0 a.1.1.1.1.0.now a.1.1.1.1.1.0
      a.1.1.1.1.1.1.0.now a.1.1.1.1.1.1.1.0.now z e.1.1.1.1.1.1.0.now e.1.1.1.1.1.1.1.0.now;
}

-- segment_table::tables::st_continues: st_continues(sources, segments, stamps, log, text, segment, answer, index)
-- answers ans, and leaves answer', index'
abbrev pub StContinues : List ℕ → List ℕ → List ℤ → Bool → List ℕ → ℕ → ℕ → ℕ → ℕ → ℕ → ℕ → Type 0
StContinues sources segments stamps log text segment answer index ans answer' index' =
    (ans, answer', index') ≡ told yes_or_no (continues_at (table_of sources segments stamps log text) segment) answer

abbrev pub st-continues : Promise
st-continues = record {
  types = st-continues·.ended;
  Learnt = λ κs a z e. StContinues a.0.now a.1.0.now a.1.1.0.now a.1.1.1.0 a.1.1.1.1.0.now a.1.1.1.1.1.0
      a.1.1.1.1.1.1.0.now a.1.1.1.1.1.1.1.0.now z e.1.1.1.1.1.1.0.now e.1.1.1.1.1.1.1.0.now;
}

-- segment_table::tables::st_rows_of_table: st_rows_of_table(sources, segments, stamps, log, text, out_words,
-- out_shifts, rows, index) answers ans, and leaves out_words', out_shifts', rows', index'
abbrev pub StRowsOfTable : List ℕ → List ℕ → List ℤ → Bool → List ℕ → List ℕ → List ℤ → ℕ → ℕ → ℕ → List ℕ → List ℤ → ℕ
    → ℕ → Type 0
StRowsOfTable sources segments stamps log text out_words out_shifts rows index ans out_words' out_shifts' rows' index' =
    RowedTold (table_of sources segments stamps log text) out_words out_shifts rows ans out_words' out_shifts' rows'
    index'

abbrev pub st-rows-of-table : Promise
st-rows-of-table = record {
  types = st-rows-of-table·.ended;
  Learnt = λ κs a z e. StRowsOfTable a.0.now a.1.0.now a.1.1.0.now a.1.1.1.0 a.1.1.1.1.0.now a.1.1.1.1.1.0.now
      a.1.1.1.1.1.1.0.now a.1.1.1.1.1.1.1.0.now a.1.1.1.1.1.1.1.1.0.now z e.1.1.1.1.1.0.now e.1.1.1.1.1.1.0.now
      e.1.1.1.1.1.1.1.0.now e.1.1.1.1.1.1.1.1.0.now;
}

-- segment_table::texts::st_read_table: st_read_table(text, sources, segments, stamps, dates, work, read, index)
-- answers ans, and leaves sources', segments', stamps', dates', work', read', index'
abbrev pub StReadTable : List ℕ → List ℕ → List ℕ → List ℤ → List ℕ → List ℕ → TableRead → ℕ → ℕ → List ℕ → List ℕ
    → List ℤ → List ℕ → List ℕ → TableRead → ℕ → Type 0
StReadTable text sources segments stamps dates work read index ans sources' segments' stamps' dates' work' read' index'
    = ReadTold text sources segments stamps dates work read ans sources' segments' stamps' dates' work' read' index'

abbrev pub st-read-table : Promise
st-read-table = record {
  types = st-read-table·.ended;
  Learnt = λ κs a z e. StReadTable a.0.now a.1.0.now a.1.1.0.now a.1.1.1.0.now a.1.1.1.1.0.now a.1.1.1.1.1.0.now
      a.1.1.1.1.1.1.0.now a.1.1.1.1.1.1.1.0.now z e.1.0.now e.1.1.0.now e.1.1.1.0.now e.1.1.1.1.0.now e.1.1.1.1.1.0.now
      e.1.1.1.1.1.1.0.now e.1.1.1.1.1.1.1.0.now;
}

-- segment_table::texts::st_source_names: st_source_names(text, names, work, count, index) answers ans, and leaves
-- names', work', count', index'
abbrev pub StSourceNames : List ℕ → List ℕ → List ℕ → ℕ → ℕ → ℕ → List ℕ → List ℕ → ℕ → ℕ → Type 0
StSourceNames text names work count index ans names' work' count' index' =
    NamesTold text names work count ans names' work' count' index'

abbrev pub st-source-names : Promise
st-source-names = record {
  types = st-source-names·.ended;
  Learnt = λ κs a z e. StSourceNames a.0.now a.1.0.now a.1.1.0.now a.1.1.1.0.now a.1.1.1.1.0.now z e.1.0.now e.1.1.0.now
      e.1.1.1.0.now e.1.1.1.1.0.now;
}

-- segment_table::texts::st_json_string: st_json_string(text, at, out, length, index) answers ans, and leaves out',
-- length', index'
abbrev pub StJsonString : List ℕ → ℕ → List ℕ → ℕ → ℕ → ℕ → List ℕ → ℕ → ℕ → Type 0
StJsonString text at out length index ans out' length' index' = StringTold text at out length ans out' length' index'

abbrev pub st-json-string : Promise
st-json-string = record {
  types = st-json-string·.ended;
  Learnt = λ κs a z e. StJsonString a.0.now a.1.0 a.1.1.0.now a.1.1.1.0.now a.1.1.1.1.0.now z e.1.1.0.now e.1.1.1.0.now
      e.1.1.1.1.0.now;
}

-- segment_table::walk::st_box_size: st_box_size(«data», remaining, size, header, index) answers ans, and leaves
-- size', header', index'
abbrev pub StBoxSize : List ℕ → ℕ → ℕ → ℕ → ℕ → ℕ → ℕ → ℕ → ℕ → Type 0
StBoxSize «data» remaining size header index ans size' header' index' =
    (ans, (size', header'), index') ≡ told size_words (box_size «data» remaining) (size, header)

abbrev pub st-box-size : Promise
st-box-size = record {
  types = st-box-size·.ended;
  Learnt = λ κs a z e. StBoxSize a.0.now a.1.0 a.1.1.0.now a.1.1.1.0.now a.1.1.1.1.0.now z e.1.1.0.now e.1.1.1.0.now
      e.1.1.1.1.0.now;
}

-- segment_table::walk::st_children: st_children(payload, at, kind, start, length, next, index) answers ans, and
-- leaves kind', start', length', next', index'
abbrev pub StChildren : List ℕ → ℕ → ℕ → ℕ → ℕ → ℕ → ℕ → ℕ → ℕ → ℕ → ℕ → ℕ → ℕ → Type 0
StChildren payload at kind start length next index ans kind' start' length' next' index' =
    (ans, (kind', start', length', next'), index') ≡ told box_words (children_at payload at) (kind, start, length, next)

abbrev pub st-children : Promise
st-children = record {
  types = st-children·.ended;
  Learnt = λ κs a z e. StChildren a.0.now a.1.0 a.1.1.0.now a.1.1.1.0.now a.1.1.1.1.0.now a.1.1.1.1.1.0.now
      a.1.1.1.1.1.1.0.now z e.1.1.0.now e.1.1.1.0.now e.1.1.1.1.0.now e.1.1.1.1.1.0.now e.1.1.1.1.1.1.0.now;
}

-- segment_table::walk::st_child: st_child(payload, kind, start, length, index) answers ans, and leaves start',
-- length', index'
abbrev pub StChild : List ℕ → ℕ → ℕ → ℕ → ℕ → ℕ → ℕ → ℕ → ℕ → Type 0
StChild payload kind start length index ans start' length' index' =
    (ans, (start', length'), index') ≡ told place_words (child_place payload kind) (start, length)

abbrev pub st-child : Promise
st-child = record {
  types = st-child·.ended;
  Learnt = λ κs a z e. StChild a.0.now a.1.0 a.1.1.0.now a.1.1.1.0.now a.1.1.1.1.0.now z e.1.1.0.now e.1.1.1.0.now
      e.1.1.1.1.0.now;
}

-- segment_table::walk::st_find_box: st_find_box(bytes, from, to, kind, text_types, start, length, index) answers
-- ans, and leaves start', length', index'
abbrev pub StFindBox : List ℕ → ℕ → ℕ → ℕ → Bool → ℕ → ℕ → ℕ → ℕ → ℕ → ℕ → ℕ → Type 0
StFindBox bytes from to kind text_types start length index ans start' length' index' =
    (ans, (start', length'), index') ≡ told place_words (find_box_place bytes from to kind text_types) (start, length)

abbrev pub st-find-box : Promise
st-find-box = record {
  types = st-find-box·.ended;
  Learnt = λ κs a z e. StFindBox a.0.now a.1.0 a.1.1.0 a.1.1.1.0 a.1.1.1.1.0 a.1.1.1.1.1.0.now a.1.1.1.1.1.1.0.now
      a.1.1.1.1.1.1.1.0.now z e.1.1.1.1.1.0.now e.1.1.1.1.1.1.0.now e.1.1.1.1.1.1.1.0.now;
}

-- segment_table::walk::st_table_text: st_table_text(file, start, length, index) answers ans, and leaves start',
-- length', index'
abbrev pub StTableText : List ℕ → ℕ → ℕ → ℕ → ℕ → ℕ → ℕ → ℕ → Type 0
StTableText file start length index ans start' length' index' =
    (ans, (start', length'), index') ≡ told place_words (table_text_place file) (start, length)

abbrev pub st-table-text : Promise
st-table-text = record {
  types = st-table-text·.ended;
  Learnt = λ κs a z e. StTableText a.0.now a.1.0.now a.1.1.0.now a.1.1.1.0.now z e.1.0.now e.1.1.0.now e.1.1.1.0.now;
}
