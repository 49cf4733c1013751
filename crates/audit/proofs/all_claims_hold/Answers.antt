use Rattle.audit.proofs.Audited.{audited}
use Rattle.audit.proofs.all_claims_hold.Goals as goal

pub returns : goal.returns
returns c = audited (record {
  own-number = c.numbers_are_reasons_own.ensures.own;
  number-above = c.numbers_are_reasons_own.ensures.above;
  demands = c.maps_meet_the_demands.ensures;
  laws = c.calls_keep_origins.ensures;
  cuts = c.each_cut_is_one_cut.ensures;
  origins = c.each_origin_is_one_origin.ensures;
  refusals = c.refusals_are_right.ensures;
  by-video = c.refusals_by_video_are_right.ensures;
  by-recording = c.refusals_by_recording_are_right.ensures;
  mapped = c.accepted_rows_are_a_map.ensures;
  one-video = c.tables_of_one_video.ensures;
  stopping = c.stops_at_a_bad_header.ensures;
  dividing = c.only_divides.ensures;
  by-text = c.refusals_of_texts_are_right.ensures;
  written = c.written_tables_are_accepted.ensures;
  named = c.names_stand_in_their_text.ensures;
  modes = c.both_readings_agree.ensures;
})
