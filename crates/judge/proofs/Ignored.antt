-- Words of absent things are ignored where a table is judged, too. Assumes nothing.
use Prim.Native.Nat.{ℕ, ◌-◌}
use mathlib.Core.Path.{◌≡◌, refl, sym, ap, ◌∙◌}
use mathlib.Core.List.{List, map}
use lib.IntN.{ℤ}
use lib.ListN.{length, get_or, length-map}
use Rattle.std.specs.Prelude.{Result, Ok, Err}
use Rattle.std.specs.Result.{result_and}
use Rattle.refusal.specs.declared.Refusal.{Refusal}
use Rattle.rules.specs.declared.Source.{Source}
use Rattle.rules.specs.declared.Segment.{Segment}
use Rattle.rules.specs.Records.{Table, no_segment, source_of}
use Rattle.rules.specs.Absent.{stripped_source, stripped_segment, stripped}
use Rattle.rules.proofs.Ignored.{first-map, source-at, segment-at, total-stripped, refusal-stripped}
use Rattle.ticks.specs.declared.FrameTimes.{FrameTimes}
use Rattle.mcraw.specs.Mcraw.{starts_of, mcraw_times}
use Rattle.judge.specs.Video.{Shown, constant, timed}
use Rattle.judge.specs.Judge.{start_refusal, last_segment, video_refusal, validate_of, single, times_refusal, recording_refusal, check_mcraw}

last-stripped : (segments : List Segment)
    → last_segment (map stripped_segment segments) ≡ stripped_segment (last_segment segments)
last-stripped segments = ap (λ (n : ℕ). get_or (map stripped_segment segments) (n - 1) no_segment) (length-map segments stripped_segment) ∙ segment-at segments (length segments - 1)

start-stripped : (v : Shown) (e : Segment) → start_refusal v (stripped_segment e) ≡ start_refusal v e
unfolding start_refusal stripped_segment
start-stripped v e = refl

video-stripped : (segments : List Segment) (v : Shown)
    → video_refusal (map stripped_segment segments) v ≡ video_refusal segments v
unfolding video_refusal stripped_segment
video-stripped segments v = rw (last-stripped segments, first-map (start_refusal v) stripped_segment 0 segments (start-stripped v))

-- the rate of segment 0's source
source-stripped : (sources : List Source) (segments : List Segment) → source_of (map stripped_source sources)
    (get_or (map stripped_segment segments) 0 no_segment)
    ≡ stripped_source (source_of sources (get_or segments 0 no_segment))
unfolding stripped_segment
source-stripped sources segments = ap (source_of (map stripped_source sources)) (segment-at segments 0) ∙ source-at sources (get_or segments 0 no_segment).words.source

single-stripped : (sources : List Source) (segments : List Segment)
    → single (map stripped_source sources) (map stripped_segment segments) ≡ single sources segments
unfolding single stripped_source
single-stripped sources segments = ap (λ (s : Source). constant 1 s.numerator s.denominator) (source-stripped sources segments)

times-stripped : (segments : List Segment) (timestamps : List ℤ) (r : Result FrameTimes Refusal)
    → times_refusal (map stripped_segment segments) timestamps r ≡ times_refusal segments timestamps r
unfolding times_refusal
times-stripped segments timestamps (Err refusal) = refl
times-stripped segments timestamps (Ok times) = video-stripped segments (timed (starts_of timestamps) times.scale times.end times.nominal)

recording-stripped : (sources : List Source) (segments : List Segment) (timestamps : List ℤ) (a b : ℕ)
    → recording_refusal (map stripped_source sources) (map stripped_segment segments) timestamps a b ≡ recording_refusal sources segments timestamps a b
unfolding recording_refusal
recording-stripped sources segments timestamps a b = rw (single-stripped sources segments, video-stripped segments (single sources segments), times-stripped segments timestamps (mcraw_times timestamps a b))

-- of every table: its answer is that of the stripped one
pub validate-stripped : (v : Shown) (t : Table) → validate_of t v ≡ validate_of (stripped t) v
unfolding validate_of stripped
validate-stripped v t = λ i. result_and (result_and (refusal-stripped t i) (sym (video-stripped t.segments v) i)) (Ok (sym (total-stripped t.segments) i))

pub mcraw-stripped : (timestamps : List ℤ) (a b : ℕ) (t : Table)
    → check_mcraw t timestamps a b ≡ check_mcraw (stripped t) timestamps a b
unfolding check_mcraw stripped
mcraw-stripped timestamps a b t = λ i. result_and (result_and (refusal-stripped t i) (sym (recording-stripped t.sources t.segments timestamps a b) i)) (Ok (sym (total-stripped t.segments) i))
