use Rattle.std.specs.Prelude.{refl}
use Rattle.conditions.specs.Conditions.{past}
use Rattle.refusal.specs.Refusals.{first_refused}
use Rattle.ticks.specs.Ticks.{micros_of, ends_near}
use Rattle.order.specs.Order.{insert, sorted}
use Rattle.rules.specs.Records.{no_source, no_segment, frame_total}
use Rattle.rules.specs.Rules.{bad_source, bad_segment, malformed, source_refusal, stamp_times, judged, segment_refusal, start, ends_of, ends, segments_from, front_refusal, refusal}
use Rattle.table.specs.Layout.{sources_of, segments_of, table_of}
use Rattle.mcraw.specs.Mcraw.{gaps, starts_of, span, nominal, end, fall_of, refusal_of, times_of}
use Rattle.mcraw.specs.Mcraw as mcraw
use Rattle.judge.specs.Video.{shown_by}
use Rattle.judge.specs.Judge.{starts_at, start_refusal, video_refusal, validate_of, single, recoded, times_refusal, recording_refusal, check_mcraw}
use Rattle.judge.proofs.worked_examples_hold.Goals as goal

pub returns : goal.returns
unfolding past first_refused micros_of ends_near no_source no_segment frame_total bad_source bad_segment malformed source_refusal stamp_times judged segment_refusal start ends_of ends segments_from front_refusal refusal sources_of segments_of table_of shown_by starts_at start_refusal video_refusal validate_of insert sorted gaps starts_of span nominal end fall_of refusal_of times_of mcraw.mcraw_times single recoded times_refusal recording_refusal check_mcraw
returns c = (refl, refl)
