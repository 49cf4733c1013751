-- Made by tools/calls: each call's code, run in any model of the language, meets its promise as it is quoted. The proof is the theorem that the toolchain has of the function, as it stands.
use seplogic.Ra.Ura.{Ura}
use prog.Model.{Model}
use prog.Wired.{Wired}
use contract.Running.{Running}
use denote.Triple.Spec.{Meets}
use types.Logic.{Logic}
use Rattle.audit.specs.Face as calls
use Rattle.audit.specs.Promised.{promised}
use Rattle.segment_table.proofs.clock.st_is_utc_second.Symbol as st-is-utc-second·symbol
use Rattle.segment_table.proofs.clock.st_is_utc_second.Met as st-is-utc-second·met
use Rattle.segment_table.proofs.clock.st_ticks_to_us.Symbol as st-ticks-to-us·symbol
use Rattle.segment_table.proofs.clock.st_ticks_to_us.Met as st-ticks-to-us·met
use Rattle.segment_table.proofs.cutting.st_cut.Symbol as st-cut·symbol
use Rattle.segment_table.proofs.cutting.st_cut.Met as st-cut·met
use Rattle.segment_table.proofs.cutting.st_cuts.Symbol as st-cuts·symbol
use Rattle.segment_table.proofs.cutting.st_cuts.Met as st-cuts·met
use Rattle.segment_table.proofs.cutting.st_join.Symbol as st-join·symbol
use Rattle.segment_table.proofs.cutting.st_join.Met as st-join·met
use Rattle.segment_table.proofs.cutting.st_merge.Symbol as st-merge·symbol
use Rattle.segment_table.proofs.cutting.st_merge.Met as st-merge·met
use Rattle.segment_table.proofs.cutting.st_origin.Symbol as st-origin·symbol
use Rattle.segment_table.proofs.cutting.st_origin.Met as st-origin·met
use Rattle.segment_table.proofs.cutting.st_origins.Symbol as st-origins·symbol
use Rattle.segment_table.proofs.cutting.st_origins.Met as st-origins·met
use Rattle.segment_table.proofs.judging.st_validate_no_video.Symbol as st-validate-no-video·symbol
use Rattle.segment_table.proofs.judging.st_validate_no_video.Met as st-validate-no-video·met
use Rattle.segment_table.proofs.judging.st_validate_constant.Symbol as st-validate-constant·symbol
use Rattle.segment_table.proofs.judging.st_validate_constant.Met as st-validate-constant·met
use Rattle.segment_table.proofs.judging.st_validate_times.Symbol as st-validate-times·symbol
use Rattle.segment_table.proofs.judging.st_validate_times.Met as st-validate-times·met
use Rattle.segment_table.proofs.judging.st_check_mcraw.Symbol as st-check-mcraw·symbol
use Rattle.segment_table.proofs.judging.st_check_mcraw.Met as st-check-mcraw·met
use Rattle.segment_table.proofs.listed.st_segment_of_frame_records.Symbol as st-segment-of-frame-records·symbol
use Rattle.segment_table.proofs.listed.st_segment_of_frame_records.Met as st-segment-of-frame-records·met
use Rattle.segment_table.proofs.recordings.st_mcraw_times.Symbol as st-mcraw-times·symbol
use Rattle.segment_table.proofs.recordings.st_mcraw_times.Met as st-mcraw-times·met
use Rattle.segment_table.proofs.recordings.st_video_frame_times_of_moov.Symbol as st-video-frame-times-of-moov·symbol
use Rattle.segment_table.proofs.recordings.st_video_frame_times_of_moov.Met as st-video-frame-times-of-moov·met
use Rattle.segment_table.proofs.tables.st_check.Symbol as st-check·symbol
use Rattle.segment_table.proofs.tables.st_check.Met as st-check·met
use Rattle.segment_table.proofs.tables.st_segment_of_frame.Symbol as st-segment-of-frame·symbol
use Rattle.segment_table.proofs.tables.st_segment_of_frame.Met as st-segment-of-frame·met
use Rattle.segment_table.proofs.tables.st_segments_of_frames.Symbol as st-segments-of-frames·symbol
use Rattle.segment_table.proofs.tables.st_segments_of_frames.Met as st-segments-of-frames·met
use Rattle.segment_table.proofs.tables.st_segment_of_time_us.Symbol as st-segment-of-time-us·symbol
use Rattle.segment_table.proofs.tables.st_segment_of_time_us.Met as st-segment-of-time-us·met
use Rattle.segment_table.proofs.tables.st_continues.Symbol as st-continues·symbol
use Rattle.segment_table.proofs.tables.st_continues.Met as st-continues·met
use Rattle.segment_table.proofs.tables.st_rows_of_table.Symbol as st-rows-of-table·symbol
use Rattle.segment_table.proofs.tables.st_rows_of_table.Met as st-rows-of-table·met
use Rattle.segment_table.proofs.texts.st_read_table.Symbol as st-read-table·symbol
use Rattle.segment_table.proofs.texts.st_read_table.Met as st-read-table·met
use Rattle.segment_table.proofs.texts.st_source_names.Symbol as st-source-names·symbol
use Rattle.segment_table.proofs.texts.st_source_names.Met as st-source-names·met
use Rattle.segment_table.proofs.texts.st_json_string.Symbol as st-json-string·symbol
use Rattle.segment_table.proofs.texts.st_json_string.Met as st-json-string·met
use Rattle.segment_table.proofs.walk.st_box_size.Symbol as st-box-size·symbol
use Rattle.segment_table.proofs.walk.st_box_size.Met as st-box-size·met
use Rattle.segment_table.proofs.walk.st_children.Symbol as st-children·symbol
use Rattle.segment_table.proofs.walk.st_children.Met as st-children·met
use Rattle.segment_table.proofs.walk.st_child.Symbol as st-child·symbol
use Rattle.segment_table.proofs.walk.st_child.Met as st-child·met
use Rattle.segment_table.proofs.walk.st_find_box.Symbol as st-find-box·symbol
use Rattle.segment_table.proofs.walk.st_find_box.Met as st-find-box·met
use Rattle.segment_table.proofs.walk.st_table_text.Symbol as st-table-text·symbol
use Rattle.segment_table.proofs.walk.st_table_text.Met as st-table-text·met

module _ {M : Type 1} (𝓤 : Ura M) (𝓛 : Logic 𝓤) (𝓜 : Model 𝓤 𝓛.H) (𝓡 : Running 𝓤 𝓛.H 𝓜) where
  pub st-is-utc-second-quoted : Wired 𝓡.env st-is-utc-second·symbol.code → Meets 𝓛 calls.st-is-utc-second.types.signature (𝓡.run (𝓡.env st-is-utc-second·symbol.name)) (promised calls.st-is-utc-second 𝓛)
  st-is-utc-second-quoted = st-is-utc-second·met.met 𝓤 𝓛 𝓜 𝓡

  pub st-ticks-to-us-quoted : Wired 𝓡.env st-ticks-to-us·symbol.code → Meets 𝓛 calls.st-ticks-to-us.types.signature (𝓡.run (𝓡.env st-ticks-to-us·symbol.name)) (promised calls.st-ticks-to-us 𝓛)
  st-ticks-to-us-quoted = st-ticks-to-us·met.met 𝓤 𝓛 𝓜 𝓡

  pub st-cut-quoted : Wired 𝓡.env st-cut·symbol.code → Meets 𝓛 calls.st-cut.types.signature (𝓡.run (𝓡.env st-cut·symbol.name)) (promised calls.st-cut 𝓛)
  st-cut-quoted = st-cut·met.met 𝓤 𝓛 𝓜 𝓡

  pub st-cuts-quoted : Wired 𝓡.env st-cuts·symbol.code → Meets 𝓛 calls.st-cuts.types.signature (𝓡.run (𝓡.env st-cuts·symbol.name)) (promised calls.st-cuts 𝓛)
  st-cuts-quoted = st-cuts·met.met 𝓤 𝓛 𝓜 𝓡

  pub st-join-quoted : Wired 𝓡.env st-join·symbol.code → Meets 𝓛 calls.st-join.types.signature (𝓡.run (𝓡.env st-join·symbol.name)) (promised calls.st-join 𝓛)
  st-join-quoted = st-join·met.met 𝓤 𝓛 𝓜 𝓡

  pub st-merge-quoted : Wired 𝓡.env st-merge·symbol.code → Meets 𝓛 calls.st-merge.types.signature (𝓡.run (𝓡.env st-merge·symbol.name)) (promised calls.st-merge 𝓛)
  st-merge-quoted = st-merge·met.met 𝓤 𝓛 𝓜 𝓡

  pub st-origin-quoted : Wired 𝓡.env st-origin·symbol.code → Meets 𝓛 calls.st-origin.types.signature (𝓡.run (𝓡.env st-origin·symbol.name)) (promised calls.st-origin 𝓛)
  st-origin-quoted = st-origin·met.met 𝓤 𝓛 𝓜 𝓡

  pub st-origins-quoted : Wired 𝓡.env st-origins·symbol.code → Meets 𝓛 calls.st-origins.types.signature (𝓡.run (𝓡.env st-origins·symbol.name)) (promised calls.st-origins 𝓛)
  st-origins-quoted = st-origins·met.met 𝓤 𝓛 𝓜 𝓡

  pub st-validate-no-video-quoted : Wired 𝓡.env st-validate-no-video·symbol.code → Meets 𝓛 calls.st-validate-no-video.types.signature (𝓡.run (𝓡.env st-validate-no-video·symbol.name)) (promised calls.st-validate-no-video 𝓛)
  st-validate-no-video-quoted = st-validate-no-video·met.met 𝓤 𝓛 𝓜 𝓡

  pub st-validate-constant-quoted : Wired 𝓡.env st-validate-constant·symbol.code → Meets 𝓛 calls.st-validate-constant.types.signature (𝓡.run (𝓡.env st-validate-constant·symbol.name)) (promised calls.st-validate-constant 𝓛)
  st-validate-constant-quoted = st-validate-constant·met.met 𝓤 𝓛 𝓜 𝓡

  pub st-validate-times-quoted : Wired 𝓡.env st-validate-times·symbol.code → Meets 𝓛 calls.st-validate-times.types.signature (𝓡.run (𝓡.env st-validate-times·symbol.name)) (promised calls.st-validate-times 𝓛)
  st-validate-times-quoted = st-validate-times·met.met 𝓤 𝓛 𝓜 𝓡

  pub st-check-mcraw-quoted : Wired 𝓡.env st-check-mcraw·symbol.code → Meets 𝓛 calls.st-check-mcraw.types.signature (𝓡.run (𝓡.env st-check-mcraw·symbol.name)) (promised calls.st-check-mcraw 𝓛)
  st-check-mcraw-quoted = st-check-mcraw·met.met 𝓤 𝓛 𝓜 𝓡

  pub st-segment-of-frame-records-quoted : Wired 𝓡.env st-segment-of-frame-records·symbol.code → Meets 𝓛 calls.st-segment-of-frame-records.types.signature (𝓡.run (𝓡.env st-segment-of-frame-records·symbol.name)) (promised calls.st-segment-of-frame-records 𝓛)
  st-segment-of-frame-records-quoted = st-segment-of-frame-records·met.met 𝓤 𝓛 𝓜 𝓡

  pub st-mcraw-times-quoted : Wired 𝓡.env st-mcraw-times·symbol.code → Meets 𝓛 calls.st-mcraw-times.types.signature (𝓡.run (𝓡.env st-mcraw-times·symbol.name)) (promised calls.st-mcraw-times 𝓛)
  st-mcraw-times-quoted = st-mcraw-times·met.met 𝓤 𝓛 𝓜 𝓡

  pub st-video-frame-times-of-moov-quoted : Wired 𝓡.env st-video-frame-times-of-moov·symbol.code → Meets 𝓛 calls.st-video-frame-times-of-moov.types.signature (𝓡.run (𝓡.env st-video-frame-times-of-moov·symbol.name)) (promised calls.st-video-frame-times-of-moov 𝓛)
  st-video-frame-times-of-moov-quoted = st-video-frame-times-of-moov·met.met 𝓤 𝓛 𝓜 𝓡

  pub st-check-quoted : Wired 𝓡.env st-check·symbol.code → Meets 𝓛 calls.st-check.types.signature (𝓡.run (𝓡.env st-check·symbol.name)) (promised calls.st-check 𝓛)
  st-check-quoted = st-check·met.met 𝓤 𝓛 𝓜 𝓡

  pub st-segment-of-frame-quoted : Wired 𝓡.env st-segment-of-frame·symbol.code → Meets 𝓛 calls.st-segment-of-frame.types.signature (𝓡.run (𝓡.env st-segment-of-frame·symbol.name)) (promised calls.st-segment-of-frame 𝓛)
  st-segment-of-frame-quoted = st-segment-of-frame·met.met 𝓤 𝓛 𝓜 𝓡

  pub st-segments-of-frames-quoted : Wired 𝓡.env st-segments-of-frames·symbol.code → Meets 𝓛 calls.st-segments-of-frames.types.signature (𝓡.run (𝓡.env st-segments-of-frames·symbol.name)) (promised calls.st-segments-of-frames 𝓛)
  st-segments-of-frames-quoted = st-segments-of-frames·met.met 𝓤 𝓛 𝓜 𝓡

  pub st-segment-of-time-us-quoted : Wired 𝓡.env st-segment-of-time-us·symbol.code → Meets 𝓛 calls.st-segment-of-time-us.types.signature (𝓡.run (𝓡.env st-segment-of-time-us·symbol.name)) (promised calls.st-segment-of-time-us 𝓛)
  st-segment-of-time-us-quoted = st-segment-of-time-us·met.met 𝓤 𝓛 𝓜 𝓡

  pub st-continues-quoted : Wired 𝓡.env st-continues·symbol.code → Meets 𝓛 calls.st-continues.types.signature (𝓡.run (𝓡.env st-continues·symbol.name)) (promised calls.st-continues 𝓛)
  st-continues-quoted = st-continues·met.met 𝓤 𝓛 𝓜 𝓡

  pub st-rows-of-table-quoted : Wired 𝓡.env st-rows-of-table·symbol.code → Meets 𝓛 calls.st-rows-of-table.types.signature (𝓡.run (𝓡.env st-rows-of-table·symbol.name)) (promised calls.st-rows-of-table 𝓛)
  st-rows-of-table-quoted = st-rows-of-table·met.met 𝓤 𝓛 𝓜 𝓡

  pub st-read-table-quoted : Wired 𝓡.env st-read-table·symbol.code → Meets 𝓛 calls.st-read-table.types.signature (𝓡.run (𝓡.env st-read-table·symbol.name)) (promised calls.st-read-table 𝓛)
  st-read-table-quoted = st-read-table·met.met 𝓤 𝓛 𝓜 𝓡

  pub st-source-names-quoted : Wired 𝓡.env st-source-names·symbol.code → Meets 𝓛 calls.st-source-names.types.signature (𝓡.run (𝓡.env st-source-names·symbol.name)) (promised calls.st-source-names 𝓛)
  st-source-names-quoted = st-source-names·met.met 𝓤 𝓛 𝓜 𝓡

  pub st-json-string-quoted : Wired 𝓡.env st-json-string·symbol.code → Meets 𝓛 calls.st-json-string.types.signature (𝓡.run (𝓡.env st-json-string·symbol.name)) (promised calls.st-json-string 𝓛)
  st-json-string-quoted = st-json-string·met.met 𝓤 𝓛 𝓜 𝓡

  pub st-box-size-quoted : Wired 𝓡.env st-box-size·symbol.code → Meets 𝓛 calls.st-box-size.types.signature (𝓡.run (𝓡.env st-box-size·symbol.name)) (promised calls.st-box-size 𝓛)
  st-box-size-quoted = st-box-size·met.met 𝓤 𝓛 𝓜 𝓡

  pub st-children-quoted : Wired 𝓡.env st-children·symbol.code → Meets 𝓛 calls.st-children.types.signature (𝓡.run (𝓡.env st-children·symbol.name)) (promised calls.st-children 𝓛)
  st-children-quoted = st-children·met.met 𝓤 𝓛 𝓜 𝓡

  pub st-child-quoted : Wired 𝓡.env st-child·symbol.code → Meets 𝓛 calls.st-child.types.signature (𝓡.run (𝓡.env st-child·symbol.name)) (promised calls.st-child 𝓛)
  st-child-quoted = st-child·met.met 𝓤 𝓛 𝓜 𝓡

  pub st-find-box-quoted : Wired 𝓡.env st-find-box·symbol.code → Meets 𝓛 calls.st-find-box.types.signature (𝓡.run (𝓡.env st-find-box·symbol.name)) (promised calls.st-find-box 𝓛)
  st-find-box-quoted = st-find-box·met.met 𝓤 𝓛 𝓜 𝓡

  pub st-table-text-quoted : Wired 𝓡.env st-table-text·symbol.code → Meets 𝓛 calls.st-table-text.types.signature (𝓡.run (𝓡.env st-table-text·symbol.name)) (promised calls.st-table-text 𝓛)
  st-table-text-quoted = st-table-text·met.met 𝓤 𝓛 𝓜 𝓡
