-- A check answers what specs/Grounds.antt says: it refuses with the first condition that holds, in testing order, and
-- accepts where none does. Assumes nothing.
use Prim.Native.Nat.{ℕ, zero, suc, ◌+◌, ◌<◌}
use native.Mathlib.Numerals.{add-one}
use Rattle.slices.proofs.Ranges.{run}
use native.Mathlib.Nat.{add-zero, zero-add}
use native.Mathlib.Omega.{arith}
use mathlib.Core.Path.{◌≡◌, refl, sym, ap, ◌∙◌, subst}
use mathlib.Core.Bool.{Bool, true, false, not}
use mathlib.Core.List.{List, [], ◌∷◌, append_assoc}
use lib.ListN.{length, get_or, take, drop}
use lib.Dec.{eqb}
use lib.IntN.{ℤ, pos, nat_abs}
use lib.Signed.{◌<ℤ◌}
use Rattle.std.specs.Prelude.{Ok}
use Rattle.conditions.specs.Conditions.{max_u64}
use Rattle.conditions.proofs.Tests.{tf}
use Rattle.refusal.specs.declared.Reason.TheVariants as reason
use Rattle.utc.specs.Utc.{utc_second}
use Rattle.rules.specs.declared.Ends.{Ends}
use Rattle.rules.specs.Limits.{max_sources, max_segments}
use Rattle.rules.specs.declared.Segment.{Segment}
use Rattle.rules.specs.Records.{Table, no_source, no_segment, source, segment, source_of, frame_total}
use Rattle.rules.specs.Rules.{negative, apart, bad_source, bad_segment, malformed, source_refusal, stamp_times, judged, segment_refusal, start, ends_of, ends, segments_from, front_refusal, refusal, check_of}
use Rattle.rules.specs.Grounds.{Test, given, BadWords, Malformed, OverLimit, of_source, of_segment, each, tests, Rightly, FrameGap, TimeGap, Negative}
use Rattle.rules.proofs.Signs.{Plain, plain}
use Rattle.rules.proofs.Turns.{judged-fit}
use Rattle.rules.proofs.Walks.{not-refused}
use Rattle.rules.proofs.Conditions.{Finds, Agrees, link, front, append, record-first, first-agrees, right}
use Rattle.rules.proofs.Says.{Says, is, isnt, equal, less, most, passes, either, both, unless, three, some, below, late, gap, outside}

-- a list is the run of its records
pub as-run : {A : Type 0} (d : A) (l : List A) → run (λ k. get_or l k d) 0 (length l) ≡ l
as-run {A} d l = go l 0 (λ k. get_or l k d) (λ k. ap (λ (j : ℕ). get_or l j d) (zero-add k))
  where
    go : (m : List A) (i : ℕ) (f : ℕ → A) → ((k : ℕ) → f (i + k) ≡ get_or m k d) → run f i (length m) ≡ m
    go [] i f q = refl
    go (a ∷ m) i f q = λ j. head j ∷ go m (i + 1) f (λ k. ap f (omega arith) ∙ q (suc k)) j
      where
        head : f i ≡ a
        head = ap f (sym (add-zero i)) ∙ q 0

-- ---- a source
source-finds : (t : Table) (k : ℕ) → Finds k (source_refusal t.log t.text (source t k)) (of_source t k)
unfolding source_refusal Finds
source-finds t k =
    let s = source t k in
    link reason.ZeroInSource k _ _ (three (either (either (equal s.frames 0) (equal s.numerator 0)) (equal s.denominator 0)))
    λ _. link reason.BadDate k _ _ (both (equal s.dated 1) (isnt (utc_second (take s.size (drop s.from t.text)))))
    λ _. link reason.BadClock k _ _ (both (unless (equal s.kind 0)) (three (either (either (equal s.ticks 0) (equal s.per 0)) (both (equal s.kind 2) (equal s.modulus 0)))))
    λ _. link reason.NoClock k _ _ (both (is t.log) (equal s.kind 0))
    λ _. tt

-- ---- a segment
-- all its six tests, and 13
negatives : (e : Segment) → Says (stamp_times e.stamps).negative (Negative e)
unfolding stamp_times
negatives e =
    let n : (z : ℤ) → Says (negative z) (z <ℤ pos 0) = λ z. below z (pos 0) in
    three (either
    (either (either (n e.stamps.source_start) (n e.stamps.out_start)) (either (n e.stamps.duration) (n e.stamps.source_capture_start)))
    (either (n e.stamps.out_capture_start) (n e.stamps.capture_duration)))

untrue : (b : Bool) {C : Type 0} → Says b C → (C → ⊥) → b ≡ false
untrue true s f = absurd (f (s.holds refl))
untrue false s f = refl

-- what the walk has come with to segment k
Prev : Table → ℕ → Ends → Type 0
Prev t zero previous = previous ≡ start
Prev t (suc k) previous = (previous ≡ ends (segment t k)) × Plain (segment t k).stamps

frame-gap : (t : Table) (k : ℕ) (previous : Ends) → Prev t k previous
    → Says (not (eqb (segment t k).words.out previous.frame)) (FrameGap t k)
unfolding Prev start ends ends_of
frame-gap t zero previous p = rw p (unless (equal (segment t 0).words.out 0))
frame-gap t (suc k) previous p = rw p.0 (unless (equal (segment t (suc k)).words.out ((segment t k).words.out + (segment t k).words.count)))

time-gap : (t : Table) (k : ℕ) (previous : Ends) → Prev t k previous → Plain (segment t k).stamps
    → Says (apart previous.some previous.time previous.capture (nat_abs (segment t k).stamps.out_start) (nat_abs (segment t k).stamps.out_capture_start)) (TimeGap t k)
unfolding Prev start ends ends_of stamp_times
time-gap t zero previous p q = rw p (record { holds = λ e. tf (sym e); fails = λ e x. x })
time-gap t (suc k) previous p q =
    rw p.0
    (either
    (gap (segment t k).stamps.out_start (segment t k).stamps.duration (segment t (suc k)).stamps.out_start p.1.out_start p.1.duration q.out_start)
    (gap (segment t k).stamps.out_capture_start (segment t k).stamps.capture_duration (segment t (suc k)).stamps.out_capture_start p.1.out_capture_start p.1.capture_duration q.out_capture_start))

segment-finds : (t : Table) (k : ℕ) (previous : Ends) → Prev t k previous
    → Finds k (segment_refusal t.sources previous (segment t k)) (of_segment t k)
unfolding segment_refusal judged stamp_times Finds
segment-finds t k previous v =
    let w = (segment t k).words in
    let e = (segment t k).stamps in
    let s = source_of t.sources (segment t k) in
    link reason.NoSuchSource k _ _ (most (length t.sources) w.source)
    λ _. link reason.NoFrames k _ _ (equal w.count 0)
    λ _. link reason.FramesWrap k _ _ (either (passes w.out w.count max_u64) (passes w.first w.count max_u64))
    λ _. link reason.PastSource k _ _ (passes w.first w.count s.frames)
    λ _. link reason.NegativeTime k _ _ (negatives (segment t k))
    λ f. let p = plain (segment t k).stamps (untrue _ (negatives (segment t k)) f) in
    link reason.TooLate k _ _ (either (late e.source_start e.duration p.source_start p.duration) (late e.source_capture_start e.capture_duration p.source_capture_start p.capture_duration))
    λ _. link reason.FrameGap k _ _ (frame-gap t k previous v)
    λ _. link reason.TimeGap k _ _ (time-gap t k previous v p)
    λ _. link reason.TooLate k _ _ (either (late e.out_start e.duration p.out_start p.duration) (late e.out_capture_start e.capture_duration p.out_capture_start p.capture_duration))
    λ _. link reason.BadShift k _ _ (three (either
    (either (both (equal s.kind 0) (equal w.flag 1)) (both (unless (equal s.kind 0)) (equal w.flag 0)))
    (both (equal s.kind 2) (outside e.shift s.modulus))))
    λ _. tt

segments-agree : (t : Table) (m i : ℕ) (previous : Ends) → Prev t i previous
    → Agrees (segments_from t.sources i previous (run (segment t) i m)) (each (of_segment t) i m)
unfolding segments_from Agrees Prev
segments-agree t zero i previous p = tt
segments-agree t (suc m) i previous p =
    rw add-one (record-first (segment_refusal t.sources previous (segment t i)) i _ (of_segment t i) (each (of_segment t) (suc i) m) (segment-finds t i previous p)
    (λ z. segments-agree t m (suc i) (ends (segment t i)) (refl, plain (segment t i).stamps (judged-fit _ _ _ _ (not-refused _ _ _ z).1).positive)))

-- ---- the whole
malformed-says : (t : Table) → Says (malformed t) (Malformed t)
unfolding malformed bad_source bad_segment
malformed-says t =
    three (either
    (either (is t.uneven) (some _ (BadWords t.text) no_source t.sources
    (λ s. three (either (either (less 1 s.dated) (less 2 s.kind)) (either (less 1 s.imu_known) (both (equal s.dated 1) (passes s.from s.size (length t.text))))))))
    (some _ (λ (e : Segment). 1 < e.words.flag) no_segment t.segments (λ e. less 1 e.words.flag)))

pub agrees : (t : Table) → Agrees (refusal t) (tests t)
unfolding refusal front_refusal Prev Agrees
agrees t =
    let segments = rw (as-run no_segment t.segments) at (segments-agree t (length t.segments) 0 start refl) in
    let none : Agrees (Ok tt) [] = tt in
    let sources = first-agrees (source_refusal t.log t.text) no_source (of_source t) 0 t.sources (λ k b. subst (λ (j : ℕ). Finds j (source_refusal t.log t.text (source t k)) (of_source t j)) (sym (zero-add k)) (source-finds t k)) in
    let eight = front reason.NoSegments 0 _ _ (equal (length t.segments) 0) none in
    let head = front reason.Malformed 0 _ _ (malformed-says t)
    (front reason.OverLimit 0 _ _ (either (less max_sources (length t.sources)) (less max_segments (length t.segments)))
    (front reason.NoSources 0 _ _ (equal (length t.sources) 0)
    (append _ _ _ _ sources eight))) in
    subst (λ (l : List Test). Agrees (refusal t) (given (Malformed t) reason.Malformed 0 ∷ given (OverLimit t) reason.OverLimit 0 ∷ given (length t.sources ≡ 0) reason.NoSources 0 ∷ l))
    (append_assoc (each (of_source t) 0 (length t.sources)) (given (length t.segments ≡ 0) reason.NoSegments 0 ∷ []) (each (of_segment t) 0 (length t.segments)))
    (append _ _ _ _ head segments)

-- of every table
pub rightly : (t : Table) → Rightly (check_of t) (tests t) (frame_total t.segments)
unfolding check_of
rightly t = right (refusal t) (tests t) (frame_total t.segments) (agrees t)
