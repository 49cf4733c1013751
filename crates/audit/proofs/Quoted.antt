-- Made by tools/calls: each call's code, run in any model of the language, meets its promise as it is quoted. The proof is the theorem that the toolchain has of the function, as it stands.
use seplogic.Ra.Ura.{Ura}
use prog.Model.{Model}
use prog.Wired.{Wired}
use contract.Running.{Running}
use denote.Triple.Spec.{Meets}
use types.Logic.{Logic}
use Rattle.audit.specs.Calls as calls
use Rattle.audit.specs.Promised.{promised}
use Rattle.ticks.proofs.ticks_to_us.Symbol as ticks-to-us·symbol
use Rattle.ticks.proofs.ticks_to_us.Met as ticks-to-us·met
use Rattle.utc.proofs.is_utc_second.Symbol as is-utc-second·symbol
use Rattle.utc.proofs.is_utc_second.Met as is-utc-second·met
use Rattle.table.proofs.check.Symbol as check·symbol
use Rattle.table.proofs.check.Met as check·met
use Rattle.lookup.proofs.segment_of_frame.Symbol as segment-of-frame·symbol
use Rattle.lookup.proofs.segment_of_frame.Met as segment-of-frame·met
use Rattle.lookup.proofs.segment_of_time_us.Symbol as segment-of-time-us·symbol
use Rattle.lookup.proofs.segment_of_time_us.Met as segment-of-time-us·met
use Rattle.lookup.proofs.continues.Symbol as continues·symbol
use Rattle.lookup.proofs.continues.Met as continues·met
use Rattle.table_rows.proofs.rows_of_table.Symbol as rows-of-table·symbol
use Rattle.table_rows.proofs.rows_of_table.Met as rows-of-table·met
use Rattle.lookups.proofs.segments_of_frames.Symbol as segments-of-frames·symbol
use Rattle.lookups.proofs.segments_of_frames.Met as segments-of-frames·met
use Rattle.judge.proofs.validate.Symbol as validate·symbol
use Rattle.judge.proofs.validate.Met as validate·met
use Rattle.judge.proofs.check_mcraw.Symbol as check-mcraw·symbol
use Rattle.judge.proofs.check_mcraw.Met as check-mcraw·met
use Rattle.boxes.proofs.box_size.Symbol as box-size·symbol
use Rattle.boxes.proofs.box_size.Met as box-size·met
use Rattle.boxes.proofs.children.Symbol as children·symbol
use Rattle.boxes.proofs.children.Met as children·met
use Rattle.boxes.proofs.child_place.Symbol as child-place·symbol
use Rattle.boxes.proofs.child_place.Met as child-place·met
use Rattle.boxes.proofs.child.Symbol as child·symbol
use Rattle.boxes.proofs.child.Met as child·met
use Rattle.boxes.proofs.find_box_place.Symbol as find-box-place·symbol
use Rattle.boxes.proofs.find_box_place.Met as find-box-place·met
use Rattle.boxes.proofs.find_box.Symbol as find-box·symbol
use Rattle.boxes.proofs.find_box.Met as find-box·met
use Rattle.boxes.proofs.table_text_place.Symbol as table-text-place·symbol
use Rattle.boxes.proofs.table_text_place.Met as table-text-place·met
use Rattle.boxes.proofs.table_text.Symbol as table-text·symbol
use Rattle.boxes.proofs.table_text.Met as table-text·met
use Rattle.frame_times.proofs.video_frame_times_of_moov.Symbol as video-frame-times-of-moov·symbol
use Rattle.frame_times.proofs.video_frame_times_of_moov.Met as video-frame-times-of-moov·met
use Rattle.mcraw.proofs.mcraw_times.Symbol as mcraw-times·symbol
use Rattle.mcraw.proofs.mcraw_times.Met as mcraw-times·met
use Rattle.maps.proofs.cut.Symbol as cut·symbol
use Rattle.maps.proofs.cut.Met as cut·met
use Rattle.maps.proofs.merge.Symbol as merge·symbol
use Rattle.maps.proofs.merge.Met as merge·met
use Rattle.maps.proofs.join.Symbol as join·symbol
use Rattle.maps.proofs.join.Met as join·met
use Rattle.maps.proofs.origin.Symbol as origin·symbol
use Rattle.maps.proofs.origin.Met as origin·met
use Rattle.maps.proofs.origins.Symbol as origins·symbol
use Rattle.maps.proofs.origins.Met as origins·met
use Rattle.cuts.proofs.cuts.Symbol as cuts·symbol
use Rattle.cuts.proofs.cuts.Met as cuts·met
use Rattle.records.proofs.segment_of_frame_records.Symbol as segment-of-frame-records·symbol
use Rattle.records.proofs.segment_of_frame_records.Met as segment-of-frame-records·met
use Rattle.table_meaning.proofs.read_table.Symbol as read-table·symbol
use Rattle.table_meaning.proofs.read_table.Met as read-table·met
use Rattle.table_meaning.proofs.source_names.Symbol as source-names·symbol
use Rattle.table_meaning.proofs.source_names.Met as source-names·met
use Rattle.json_strings.proofs.reading.string_into.Symbol as string-into·symbol
use Rattle.json_strings.proofs.reading.string_into.Met as string-into·met

module _ {M : Type 1} (𝓤 : Ura M) (𝓛 : Logic 𝓤) (𝓜 : Model 𝓤 𝓛.H) (𝓡 : Running 𝓤 𝓛.H 𝓜) where
  pub ticks-to-us-quoted : Wired 𝓡.env ticks-to-us·symbol.code → Meets 𝓛 calls.ticks-to-us.types.signature (𝓡.run (𝓡.env ticks-to-us·symbol.name)) (promised calls.ticks-to-us 𝓛)
  ticks-to-us-quoted = ticks-to-us·met.met 𝓤 𝓛 𝓜 𝓡

  pub is-utc-second-quoted : Wired 𝓡.env is-utc-second·symbol.code → Meets 𝓛 calls.is-utc-second.types.signature (𝓡.run (𝓡.env is-utc-second·symbol.name)) (promised calls.is-utc-second 𝓛)
  is-utc-second-quoted = is-utc-second·met.met 𝓤 𝓛 𝓜 𝓡

  pub check-quoted : Wired 𝓡.env check·symbol.code → Meets 𝓛 calls.check.types.signature (𝓡.run (𝓡.env check·symbol.name)) (promised calls.check 𝓛)
  check-quoted = check·met.met 𝓤 𝓛 𝓜 𝓡

  pub segment-of-frame-quoted : Wired 𝓡.env segment-of-frame·symbol.code → Meets 𝓛 calls.segment-of-frame.types.signature (𝓡.run (𝓡.env segment-of-frame·symbol.name)) (promised calls.segment-of-frame 𝓛)
  segment-of-frame-quoted = segment-of-frame·met.met 𝓤 𝓛 𝓜 𝓡

  pub segment-of-time-us-quoted : Wired 𝓡.env segment-of-time-us·symbol.code → Meets 𝓛 calls.segment-of-time-us.types.signature (𝓡.run (𝓡.env segment-of-time-us·symbol.name)) (promised calls.segment-of-time-us 𝓛)
  segment-of-time-us-quoted = segment-of-time-us·met.met 𝓤 𝓛 𝓜 𝓡

  pub continues-quoted : Wired 𝓡.env continues·symbol.code → Meets 𝓛 calls.continues.types.signature (𝓡.run (𝓡.env continues·symbol.name)) (promised calls.continues 𝓛)
  continues-quoted = continues·met.met 𝓤 𝓛 𝓜 𝓡

  pub rows-of-table-quoted : Wired 𝓡.env rows-of-table·symbol.code → Meets 𝓛 calls.rows-of-table.types.signature (𝓡.run (𝓡.env rows-of-table·symbol.name)) (promised calls.rows-of-table 𝓛)
  rows-of-table-quoted = rows-of-table·met.met 𝓤 𝓛 𝓜 𝓡

  pub segments-of-frames-quoted : Wired 𝓡.env segments-of-frames·symbol.code → Meets 𝓛 calls.segments-of-frames.types.signature (𝓡.run (𝓡.env segments-of-frames·symbol.name)) (promised calls.segments-of-frames 𝓛)
  segments-of-frames-quoted = segments-of-frames·met.met 𝓤 𝓛 𝓜 𝓡

  pub validate-quoted : Wired 𝓡.env validate·symbol.code → Meets 𝓛 calls.validate.types.signature (𝓡.run (𝓡.env validate·symbol.name)) (promised calls.validate 𝓛)
  validate-quoted = validate·met.met 𝓤 𝓛 𝓜 𝓡

  pub check-mcraw-quoted : Wired 𝓡.env check-mcraw·symbol.code → Meets 𝓛 calls.check-mcraw.types.signature (𝓡.run (𝓡.env check-mcraw·symbol.name)) (promised calls.check-mcraw 𝓛)
  check-mcraw-quoted = check-mcraw·met.met 𝓤 𝓛 𝓜 𝓡

  pub box-size-quoted : Wired 𝓡.env box-size·symbol.code → Meets 𝓛 calls.box-size.types.signature (𝓡.run (𝓡.env box-size·symbol.name)) (promised calls.box-size 𝓛)
  box-size-quoted = box-size·met.met 𝓤 𝓛 𝓜 𝓡

  pub children-quoted : Wired 𝓡.env children·symbol.code → Meets 𝓛 calls.children.types.signature (𝓡.run (𝓡.env children·symbol.name)) (promised calls.children 𝓛)
  children-quoted = children·met.met 𝓤 𝓛 𝓜 𝓡

  pub child-place-quoted : Wired 𝓡.env child-place·symbol.code → Meets 𝓛 calls.child-place.types.signature (𝓡.run (𝓡.env child-place·symbol.name)) (promised calls.child-place 𝓛)
  child-place-quoted = child-place·met.met 𝓤 𝓛 𝓜 𝓡

  pub child-quoted : Wired 𝓡.env child·symbol.code → Meets 𝓛 calls.child.types.signature (𝓡.run (𝓡.env child·symbol.name)) (promised calls.child 𝓛)
  child-quoted = child·met.met 𝓤 𝓛 𝓜 𝓡

  pub find-box-place-quoted : Wired 𝓡.env find-box-place·symbol.code → Meets 𝓛 calls.find-box-place.types.signature (𝓡.run (𝓡.env find-box-place·symbol.name)) (promised calls.find-box-place 𝓛)
  find-box-place-quoted = find-box-place·met.met 𝓤 𝓛 𝓜 𝓡

  pub find-box-quoted : Wired 𝓡.env find-box·symbol.code → Meets 𝓛 calls.find-box.types.signature (𝓡.run (𝓡.env find-box·symbol.name)) (promised calls.find-box 𝓛)
  find-box-quoted = find-box·met.met 𝓤 𝓛 𝓜 𝓡

  pub table-text-place-quoted : Wired 𝓡.env table-text-place·symbol.code → Meets 𝓛 calls.table-text-place.types.signature (𝓡.run (𝓡.env table-text-place·symbol.name)) (promised calls.table-text-place 𝓛)
  table-text-place-quoted = table-text-place·met.met 𝓤 𝓛 𝓜 𝓡

  pub table-text-quoted : Wired 𝓡.env table-text·symbol.code → Meets 𝓛 calls.table-text.types.signature (𝓡.run (𝓡.env table-text·symbol.name)) (promised calls.table-text 𝓛)
  table-text-quoted = table-text·met.met 𝓤 𝓛 𝓜 𝓡

  pub video-frame-times-of-moov-quoted : Wired 𝓡.env video-frame-times-of-moov·symbol.code → Meets 𝓛 calls.video-frame-times-of-moov.types.signature (𝓡.run (𝓡.env video-frame-times-of-moov·symbol.name)) (promised calls.video-frame-times-of-moov 𝓛)
  video-frame-times-of-moov-quoted = video-frame-times-of-moov·met.met 𝓤 𝓛 𝓜 𝓡

  pub mcraw-times-quoted : Wired 𝓡.env mcraw-times·symbol.code → Meets 𝓛 calls.mcraw-times.types.signature (𝓡.run (𝓡.env mcraw-times·symbol.name)) (promised calls.mcraw-times 𝓛)
  mcraw-times-quoted = mcraw-times·met.met 𝓤 𝓛 𝓜 𝓡

  pub cut-quoted : Wired 𝓡.env cut·symbol.code → Meets 𝓛 calls.cut.types.signature (𝓡.run (𝓡.env cut·symbol.name)) (promised calls.cut 𝓛)
  cut-quoted = cut·met.met 𝓤 𝓛 𝓜 𝓡

  pub merge-quoted : Wired 𝓡.env merge·symbol.code → Meets 𝓛 calls.merge.types.signature (𝓡.run (𝓡.env merge·symbol.name)) (promised calls.merge 𝓛)
  merge-quoted = merge·met.met 𝓤 𝓛 𝓜 𝓡

  pub join-quoted : Wired 𝓡.env join·symbol.code → Meets 𝓛 calls.join.types.signature (𝓡.run (𝓡.env join·symbol.name)) (promised calls.join 𝓛)
  join-quoted = join·met.met 𝓤 𝓛 𝓜 𝓡

  pub origin-quoted : Wired 𝓡.env origin·symbol.code → Meets 𝓛 calls.origin.types.signature (𝓡.run (𝓡.env origin·symbol.name)) (promised calls.origin 𝓛)
  origin-quoted = origin·met.met 𝓤 𝓛 𝓜 𝓡

  pub origins-quoted : Wired 𝓡.env origins·symbol.code → Meets 𝓛 calls.origins.types.signature (𝓡.run (𝓡.env origins·symbol.name)) (promised calls.origins 𝓛)
  origins-quoted = origins·met.met 𝓤 𝓛 𝓜 𝓡

  pub cuts-quoted : Wired 𝓡.env cuts·symbol.code → Meets 𝓛 calls.cuts.types.signature (𝓡.run (𝓡.env cuts·symbol.name)) (promised calls.cuts 𝓛)
  cuts-quoted = cuts·met.met 𝓤 𝓛 𝓜 𝓡

  pub segment-of-frame-records-quoted : Wired 𝓡.env segment-of-frame-records·symbol.code → Meets 𝓛 calls.segment-of-frame-records.types.signature (𝓡.run (𝓡.env segment-of-frame-records·symbol.name)) (promised calls.segment-of-frame-records 𝓛)
  segment-of-frame-records-quoted = segment-of-frame-records·met.met 𝓤 𝓛 𝓜 𝓡

  pub read-table-quoted : Wired 𝓡.env read-table·symbol.code → Meets 𝓛 calls.read-table.types.signature (𝓡.run (𝓡.env read-table·symbol.name)) (promised calls.read-table 𝓛)
  read-table-quoted = read-table·met.met 𝓤 𝓛 𝓜 𝓡

  pub source-names-quoted : Wired 𝓡.env source-names·symbol.code → Meets 𝓛 calls.source-names.types.signature (𝓡.run (𝓡.env source-names·symbol.name)) (promised calls.source-names 𝓛)
  source-names-quoted = source-names·met.met 𝓤 𝓛 𝓜 𝓡

  pub string-into-quoted : Wired 𝓡.env string-into·symbol.code → Meets 𝓛 calls.string-into.types.signature (𝓡.run (𝓡.env string-into·symbol.name)) (promised calls.string-into 𝓛)
  string-into-quoted = string-into·met.met 𝓤 𝓛 𝓜 𝓡
