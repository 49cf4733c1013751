use Rattle.std.specs.Prelude.{refl}
use Rattle.conditions.specs.Conditions.{past}
use Rattle.refusal.specs.Refusals.{first_refused}
use Rattle.utc.specs.Utc.{utc_second}
use Rattle.rules.specs.Records.{no_source, no_segment, frame_total}
use Rattle.rules.specs.Rules.{bad_source, bad_segment, malformed, source_refusal, stamp_times, judged, segment_refusal, start, ends_of, ends, segments_from, front_refusal, refusal, check_of}
use Rattle.rules.specs.Lookups.{ended, segment_of_frame, segment_of_time, segment_runs_on, continues_at}
use Rattle.table.specs.Layout.{sources_of, segments_of, table_of}
use Rattle.lookup.proofs.worked_examples_hold.Goals as goal

pub returns : goal.returns
unfolding past first_refused utc_second no_source no_segment frame_total bad_source bad_segment malformed source_refusal stamp_times judged segment_refusal start ends_of ends segments_from front_refusal refusal check_of ended segment_of_frame segment_of_time segment_runs_on continues_at sources_of segments_of table_of
returns c = (refl, refl)
