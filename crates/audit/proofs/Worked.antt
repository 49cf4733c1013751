-- The numbers, by computation. Assumes nothing.
use Prim.Native.Nat.{ℕ, ◌*◌, ◌<◌}
use Rattle.std.specs.List.{AllByRecursion}
use native.Mathlib.Omega.{arith}
use mathlib.Core.List.{List}
use mathlib.Core.Path.{◌≡◌, refl, sym, ◌∙◌, ap, ap₂, subst}
use lib.IntN.{ℤ}
use lib.ListN.{take, length}
use Rattle.conditions.specs.Conditions.{past}
use Rattle.std.specs.Prelude.{Result}
use Rattle.refusal.specs.declared.Refusal.{Refusal}
use Rattle.refusal.specs.Refusals.{first_refused}
use Rattle.slices.specs.Slices.{laid}
use Rattle.rows.specs.declared.Row.{Row}
use Rattle.rows.specs.Lent.{rows}
use Rattle.utc.specs.Utc.{utc_second}
use Rattle.ticks.specs.Ticks.{micros_of, us_of, ticks_to_us, ends_near, media_ticks}
use Rattle.order.specs.Order.{insert, sorted, taken_first, mode}
use Rattle.boxes.specs.Boxes.{size_of, header_at, boxes_from, boxes_at, first_such}
use Rattle.tracks.specs.Tables.{entries_from}
use Rattle.frame_times.specs.Frames.{frames_from, kept, last_of}
use Rattle.frame_times.specs.Times.{placed, shown, of_kept, times_of_moov as moov_times}
use Rattle.rules.specs.declared.Words.{Words}
use Rattle.rules.specs.Records.{Table, no_source, no_segment, segment, frame_total}
use Rattle.rules.specs.Rules.{bad_source, bad_segment, malformed, source_refusal, stamp_times, judged, segment_refusal, start, ends_of, ends, segments_from, front_refusal, refusal, check_of}
use Rattle.rules.specs.Lookups.{ended, segment_of_frame, segment_of_time}
use Rattle.table.specs.Layout.{sources_of, segments_of, table_of}
use Rattle.table_rows.specs.Rows.{row_of, rows_of, rows_refusal}
use Rattle.lookups.specs.Indices.{indices_of, indices_refusal}
use Rattle.judge.specs.Video.{shown_by}
use Rattle.judge.specs.Judge.{starts_at, start_refusal, video_refusal, validate_of, single, recording_refusal, check_mcraw}
use Rattle.maps.specs.Answers.{first_bad}
use Rattle.cuts.specs.Answers.{cuts_of, concat}
use Rattle.ticks.specs.declared.FrameTimes.{FrameTimes}
use Rattle.mcraw.specs.Mcraw.{gaps, starts_of, span, nominal, end, fall_of, refusal_of, times_of, mcraw_times, starts_written, McrawAnswers}
use Rattle.differ.specs.Differ.{SameFrames}
use Rattle.audit.specs.Examples.{Holds, examples}

-- what was written over room for k rows
wrote : (k : ℕ) {w ou : List ℕ} {z os : List ℤ} (are : List Row) → ou ≡ w → os ≡ z
    → rows (take (5 * k) w) (take k z) ≡ are → rows (take (5 * k) ou) (take k os) ≡ are
wrote k are p q e = ap₂ (λ (x : List ℕ) (y : List ℤ). rows (take (5 * k) x) (take k y)) p q ∙ e

-- where a recording's frames start
pub started : {timestamps starts work starts' work' : List ℤ} {r : Result FrameTimes Refusal}
    → McrawAnswers timestamps starts work r starts' work'
    → starts' ≡ laid (starts_written (mcraw_times timestamps (length starts) (length work)) timestamps) starts
started {timestamps} {starts} p = p.laid_out ∙ ap (λ (x : Result FrameTimes Refusal). laid (starts_written x timestamps) starts) p.answer

-- tables of one segment, whose words agree
alone : {t u : Table} → length t.segments ≡ 1 → length u.segments ≡ 1 → (segment t 0).words ≡ (segment u 0).words
    → SameFrames t u
alone {t} {u} p q e = record {
  many = p ∙ sym q;
  first = λ k h. ap (λ (w : Words). w.first) (at k h);
  count = λ k h. ap (λ (w : Words). w.count) (at k h);
  out = λ k h. ap (λ (w : Words). w.out) (at k h);
}
  where
    at : (k : ℕ) → k < length t.segments → (segment t k).words ≡ (segment u k).words
    at k h = subst (λ (j : ℕ). (segment t j).words ≡ (segment u j).words) (omega (arith, p)) e

pub all_hold : AllByRecursion Holds examples
unfolding past first_refused utc_second micros_of us_of ticks_to_us ends_near starts_at start_refusal video_refusal validate_of single recording_refusal check_mcraw shown_by media_ticks insert sorted taken_first mode size_of header_at boxes_from boxes_at first_such entries_from frames_from kept last_of placed shown of_kept moov_times no_source no_segment frame_total bad_source bad_segment malformed source_refusal stamp_times judged segment_refusal start ends_of ends segments_from front_refusal refusal check_of ended segment_of_frame segment_of_time sources_of segments_of table_of row_of rows_of rows_refusal first_bad indices_of indices_refusal cuts_of concat gaps starts_of span nominal end fall_of refusal_of times_of mcraw_times starts_written
all_hold = (λ r p. p, (λ r p. p, (λ r p. p, (λ r p. p, (λ r p. p, (λ r p. p, (λ r p. p, (λ r p. p, (λ r p. p, (λ r p. p, (λ r p. p, (λ r p. p, (λ r p. p, (λ r p. p, (λ r p. p, (λ r p. p, (λ r p. p, (λ r p. p, (λ r p. p, (λ r p. p, (λ r ou os p. (p.answer, wrote 2 _ p.words p.shifts refl), (λ r ou os p. (p.answer, wrote 2 _ p.words p.shifts refl), (λ r ou os p. (p.answer, wrote 2 _ p.words p.shifts refl), (λ r ou os p. (p.answer, wrote 2 _ p.words p.shifts refl), (λ r starts' a' b' p. (p.answer, p.starts), (λ r starts' a' b' p. (p.answer, p.starts), (λ r starts' a' b' p. (p.answer, p.starts), (λ r starts' a' b' p. (p.answer, p.starts), (λ r starts' work' p. (p.answer, started p), (λ r p. p, (λ r p. p, (λ r ou os p. (p.answer, wrote 3 _ p.words p.shifts refl), (λ r ou os p. (p.answer, wrote 3 _ p.words p.shifts refl), (λ r ou os p. (p.answer, wrote 3 _ p.words p.shifts refl), (λ r ou os p. (p.answer, wrote 3 _ p.words p.shifts refl), (λ r p. p, (λ r p. p, (λ r p. p, (λ r ou os p. (p.answer, wrote 2 _ p.words p.shifts refl), (λ r ou os p. (p.answer, wrote 2 _ p.words p.shifts refl), (λ r ou os p. (p.answer, wrote 4 _ p.words p.shifts refl), (λ r ou os p. (p.answer, wrote 3 _ p.words p.shifts refl), (λ r ou os p. (p.answer, wrote 2 _ p.words p.shifts refl), (λ r ou os p. (p.answer, wrote 1 _ p.words p.shifts refl), (λ r ou os p. (p.answer, wrote 2 _ p.words p.shifts refl), (λ r ou os p. (p.answer, wrote 2 _ p.words p.shifts refl), (((λ r p. p), (λ r p. p), alone refl refl refl, refl, refl), (((λ r p. p), (λ r p. p), alone refl refl refl, refl, refl), (((λ r p. p), (λ r p. p), alone refl refl refl, refl, refl), (λ r a b p. p.answer, (λ r a b p. p.answer, (λ r out p. (p.answer, p.indices), (λ r out p. (p.answer, p.indices), (λ r out p. (p.answer, p.indices), (λ r starts' a' b' p. (p.answer, p.starts), (λ r starts' a' b' p. (p.answer, p.starts), (λ r starts' a' b' p. (p.answer, p.starts), (λ r starts' a' b' p. (p.answer, p.starts), (λ r starts' a' b' p. (p.answer, p.starts), (λ r starts' a' b' p. (p.answer, p.starts), (λ r starts' a' b' p. (p.answer, p.starts), (λ r starts' a' b' p. (p.answer, p.starts), (λ r starts' a' b' p. (p.answer, p.starts), (λ r starts' a' b' p. (p.answer, p.starts), (λ r ou os cs p. (p.placed.answer, wrote 4 _ p.placed.words p.placed.shifts refl, p.counted), (λ r ou os cs p. (p.placed.answer, wrote 3 _ p.placed.words p.placed.shifts refl, p.counted), (λ r ou os cs p. (p.placed.answer, wrote 0 _ p.placed.words p.placed.shifts refl, p.counted), (λ r ou os cs p. p.placed.answer, (λ r ou os cs p. p.placed.answer, (λ r ou os cs p. p.placed.answer, (λ r p. p, (λ r p. p, (λ r p. p, (λ r p. p, (λ r starts' work' p. (p.answer, started p), (λ r p. p, (λ r out p. (p.answer, p.origins), (λ r out p. (p.answer, p.origins), (λ r out p. (p.answer, p.origins), (λ r out p. (p.answer, p.origins), tt))))))))))))))))))))))))))))))))))))))))))))))))))))))))))))))))))))))))))))))))
