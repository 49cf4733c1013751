-- What `validate` and `check_mcraw` answer is right by the conditions of specs/Grounds.antt, in testing order. Assumes
-- nothing.
use Prim.Native.Nat.{ℕ, suc, ◌+◌, ◌-◌, ◌<◌}
use Rattle.std.proofs.lemmas.Bool.Decides.{Decides-int_eq}
use Rattle.std.specs.Ordering.{int_eq}
use native.Mathlib.Nat.{zero-add}
use native.Mathlib.Omega.{arith}
use mathlib.Core.Path.{◌≡◌, refl, sym, ap, ◌∙◌, subst}
use mathlib.Core.Bool.{Bool, true, false, not, ◌||◌}
use mathlib.Core.List.{List, [], ◌∷◌, ◌++◌}
use lib.Dec.{eqb}
use lib.IntN.{ℤ, pos, negsuc}
use lib.ListN.{length, get_or}
use lib.Signed.{lt_z, ◌<ℤ◌}
use borrow.Author.Tests.{ne_eqb}
use Rattle.std.specs.Prelude.{Result, Ok, Err, None, if◌then◌else◌}
use Rattle.std.specs.Result.{result_and}
use Rattle.conditions.proofs.Tests.{decide, tf}
use Rattle.refusal.specs.declared.Reason.{Reason}
use Rattle.refusal.specs.declared.Reason.TheVariants as reason
use Rattle.refusal.specs.declared.Refusal.{Refusal}
use Rattle.refusal.specs.Refusals.{refused, first_refused}
use Rattle.signed.specs.Signed.{as_i64, is_outside}
use Rattle.ticks.specs.Ticks.{largest_scale, micros_of, ends_near}
use Rattle.rules.specs.Limits.{max_i64}
use Rattle.rules.specs.declared.Segment.{Segment}
use Rattle.rules.specs.Records.{Table, no_segment, segment, out_end, out_end_us, frame_total}
use Rattle.rules.specs.Grounds.{Test, given, each, Rightly}
use Rattle.rules.proofs.Says.{Says, equal, less, either, unless, below, no-more}
use Rattle.rules.proofs.Conditions.{Finds, Agrees, link, front, append, first-agrees, right}
use Rattle.rules.proofs.Exact.{agrees}
use Rattle.mcraw.specs.Mcraw.{most_timestamps, nanoseconds, gaps, falls, fall_of, span, nominal, end, starts_of, refusal_of, times_of, mcraw_times}
use Rattle.mcraw.proofs.Gaps.{length-gaps, gap_at, less-below}
use Rattle.judge.specs.declared.Video.{Video}
use Rattle.judge.specs.declared.Video.TheVariants.{Nothing, Constant, Times}
use Rattle.judge.specs.Video.{Shown, most_starts, timed, shown_by}
use Rattle.judge.specs.Judge.{starts_at, start_refusal, last_segment, video_refusal, validate_of, single, recoded, times_refusal, recording_refusal, check_mcraw}
use Rattle.judge.specs.Grounds.{Beyond, NoVideo, TooLarge, frame_us, Near, of_start, video_tests, of_pair, times_tests, timed_tests, first_source, recording_tests, validate_tests, mcraw_tests}

-- ---- integers
same : (a b : ℤ) → Says (int_eq a b) (a ≡ b)
same a b = record { holds = (Decides-int_eq a b).0; fails = λ e q. tf (sym ((Decides-int_eq a b).1 q) ∙ e) }

-- no i64 is z
beyond : (z : ℤ) → Says (is_outside z) (Beyond z)
beyond z = either (below z (negsuc max_i64)) (below (pos max_i64) z)

-- ---- a video
not-given : (video : Video) (starts : List ℤ) → Says (not (shown_by video starts).given) (NoVideo video)
unfolding shown_by
not-given Nothing starts = record { holds = λ e. tt; fails = λ e x. tf e }
not-given (Constant frames numerator denominator) starts = record { holds = λ e. tf (sym e); fails = λ e x. x }
not-given (Times scale end nominal) starts = record { holds = λ e. tf (sym e); fails = λ e x. x }

too_large : (video : Video) (starts : List ℤ) → Says (shown_by video starts).over (TooLarge video starts)
unfolding shown_by
too_large Nothing starts = record { holds = λ e. tf (sym e); fails = λ e x. x }
too_large (Constant frames numerator denominator) starts = either (less largest_scale numerator) (less largest_scale denominator)
too_large (Times scale end nominal) starts = either (less largest_scale scale) (less most_starts (length starts))

-- NoFrameTime and then OtherFrameTime, as a chain of tests
chain : (us out : ℤ) (s : ℕ) → starts_at (if eqb s 0 then None else as_i64 us) out
    ≡ (if eqb s 0 || is_outside us then Err reason.NoFrameTime else if not (int_eq us out) then Err reason.OtherFrameTime else Ok tt)
unfolding starts_at
chain us out s =
    decide (eqb s 0) (λ e. rw e)
    (λ e. decide (is_outside us) (λ q. rw (e, q)) (λ q. rw (e, q) (turned (int_eq us out))))
  where
    turned : (b : Bool)
        → ◌≡◌ {A = Result (Unit {0}) Reason} (if b then Ok tt else Err reason.OtherFrameTime)
        (if not b then Err reason.OtherFrameTime else Ok tt)
    turned true = refl
    turned false = refl

module _ (t : Table) (v : Shown) where
  start-finds : (k : ℕ) → Finds k (start_refusal v (segment t k)) (of_start t v k)
  unfolding start_refusal micros_of Finds
  start-finds k =
      subst (λ (r : Result (Unit {0}) Reason). Finds k r (of_start t v k)) (sym (chain (frame_us t v k) (segment t k).stamps.out_start v.scale))
      (link reason.NoFrameTime k _ _ (either (equal v.scale 0) (beyond (frame_us t v k)))
      λ _. link reason.OtherFrameTime k _ _ (unless (same (frame_us t v k) (segment t k).stamps.out_start))
      λ _. tt)

  starts-agree : Agrees (first_refused (start_refusal v) 0 t.segments) (each (of_start t v) 0 (length t.segments))
  starts-agree =
      first-agrees (start_refusal v) no_segment (of_start t v) 0 t.segments
      (λ k b. subst (λ (j : ℕ). Finds j (start_refusal v (segment t k)) (of_start t v j)) (sym (zero-add k)) (start-finds k))

  near : Says (ends_near (out_end_us (last_segment t.segments)) v.end v.nominal v.scale) (Near t v)
  unfolding ends_near
  near = no-more _ _

video-agrees : (t : Table) (video : Video) (starts : List ℤ)
    → Agrees (video_refusal t.segments (shown_by video starts)) (video_tests t video starts)
unfolding video_refusal Agrees
video-agrees t video starts =
    let v = shown_by video starts in
    let none : Agrees (Ok tt) [] = tt in
    front reason.NoVideo 0 _ _ (not-given video starts)
    (front reason.TooLarge 0 _ _ (too_large video starts)
    (front reason.OtherFrameCount 0 _ _ (unless (equal (out_end (last_segment t.segments)) v.frames))
    (append _ _ _ _ (starts-agree t v) (front reason.EndNotNear 0 _ _ (unless (near t v)) none))))

-- of every table and video
pub validated_rightly : (t : Table) (video : Video) (starts : List ℤ)
    → Rightly (validate_of t (shown_by video starts)) (validate_tests t video starts) (frame_total t.segments)
unfolding validate_of
validated_rightly t video starts = right _ _ (frame_total t.segments) (append _ _ _ _ (agrees t) (video-agrees t video starts))

-- ---- a recording
-- the refusal of its times, as the judge gives it
recode : Result (Unit {0}) Refusal → Result (Unit {0}) Refusal
recode (Ok u) = Ok u
recode (Err r) = refused (recoded r.reason) r.index

front-recoded : {b : Bool} {C : Type 0} (n : Reason) (i : ℕ) (rest : Result (Unit {0}) Refusal) (l : List Test)
    → Says b C → Agrees (recode rest) l
    → Agrees (recode (if b then refused n i else rest)) (given C (recoded n) i ∷ l)
unfolding recode
front-recoded {b} {C} n i rest l s k = subst (λ (r : Result (Unit {0}) Refusal). Agrees r (given C (recoded n) i ∷ l)) (sym (go b)) (front (recoded n) i (recode rest) l s k)
  where
    go : (b : Bool) → recode (if b then refused n i else rest) ≡ (if b then refused (recoded n) i else recode rest)
    go true = refl
    go false = refl

append-recoded : (r s : Result (Unit {0}) Refusal) (l m : List Test) → Agrees (recode r) l → Agrees (recode s) m
    → Agrees (recode (result_and r s)) (l ++ m)
unfolding recode
append-recoded r s l m x y = subst (λ (q : Result (Unit {0}) Refusal). Agrees q (l ++ m)) (sym (go r)) (append (recode r) (recode s) l m x y)
  where
    go : (r : Result (Unit {0}) Refusal) → recode (result_and r s) ≡ result_and (recode r) (recode s)
    go (Ok u) = refl
    go (Err e) = refl

-- the pairs of timestamps, by their intervals
pair-finds : (timestamps : List ℤ) (i : ℕ) → 0 < i → i < length timestamps
    → Finds i (falls (get_or (gaps timestamps) (i - 1) (pos 0))) (of_pair timestamps i)
unfolding Finds
pair-finds timestamps i p h =
    let y = get_or timestamps i (pos 0) in
    let x = get_or timestamps (i - 1) (pos 0) in
    let e : lt_z (get_or (gaps timestamps) (i - 1) (pos 0)) (pos 0) ≡ lt_z y x = ap (λ (g : ℤ). lt_z g (pos 0)) (gap_at timestamps i p h) ∙ less-below y x in
    link reason.Falling i _ _ (subst (λ (b : Bool). Says b (y <ℤ x)) (sym e) (below y x)) λ _. tt

falls-agree : (timestamps : List ℤ) → Agrees (fall_of timestamps) (each (of_pair timestamps) 1 (length timestamps - 1))
unfolding fall_of
falls-agree timestamps =
    subst (λ (n : ℕ). Agrees (first_refused falls 1 (gaps timestamps)) (each (of_pair timestamps) 1 n)) (length-gaps timestamps)
    (first-agrees falls (pos 0) (of_pair timestamps) 1 (gaps timestamps)
    (λ k b.
    let e : 1 + k - 1 ≡ k = omega arith in
    subst (λ (j : ℕ). Finds (1 + k) (falls (get_or (gaps timestamps) j (pos 0))) (of_pair timestamps (1 + k))) e (pair-finds timestamps (1 + k) (omega arith) (omega (arith, length-gaps timestamps)))))

falls-stay : (i : ℕ) (l : List ℤ) → recode (first_refused falls i l) ≡ first_refused falls i l
unfolding first_refused recode recoded
falls-stay i [] = refl
falls-stay i (g ∷ l) = decide (lt_z g (pos 0)) (λ e. rw e) (λ e. rw e (falls-stay (suc i) l))

times-agree : (timestamps : List ℤ) (a b : ℕ) → Agrees (recode (refusal_of timestamps a b)) (times_tests timestamps a b)
unfolding refusal_of recode recoded fall_of Agrees
times-agree timestamps a b =
    let none : Agrees (recode (Ok tt)) [] = tt in
    front-recoded reason.TooLong 0 _ _ (less most_timestamps (length timestamps))
    (front-recoded reason.Missing 0 _ _ (less (length timestamps) 2)
    (append-recoded (fall_of timestamps) _ _ _ (subst (λ (r : Result (Unit {0}) Refusal). Agrees r (each (of_pair timestamps) 1 (length timestamps - 1))) (sym (falls-stay 1 (gaps timestamps))) (falls-agree timestamps))
    (front-recoded reason.Outside 0 _ _ (beyond (span timestamps))
    (front-recoded reason.NoRoom 0 _ _ (either (less a (length timestamps)) (less b (length timestamps)))
    (front-recoded reason.Missing 0 _ _ (same (nominal timestamps) (pos 0))
    (front-recoded reason.Outside 0 _ _ (beyond (end timestamps)) none))))))

-- the times, and then the video that they are
joined : (segments : List Segment) (timestamps : List ℤ) (r : Result (Unit {0}) Refusal)
    → times_refusal segments timestamps (result_and r (Ok (times_of timestamps))) ≡ result_and (recode r) (video_refusal segments (timed (starts_of timestamps) nanoseconds (end timestamps) (nominal timestamps)))
unfolding times_refusal times_of recode
joined segments timestamps (Ok u) = refl
joined segments timestamps (Err r) = refl

timed-agrees : (t : Table) (timestamps : List ℤ) (a b : ℕ)
    → Agrees (times_refusal t.segments timestamps (mcraw_times timestamps a b)) (timed_tests t timestamps a b)
unfolding mcraw_times shown_by
timed-agrees t timestamps a b =
    subst (λ (r : Result (Unit {0}) Refusal). Agrees r (timed_tests t timestamps a b)) (sym (joined t.segments timestamps (refusal_of timestamps a b)))
    (append _ _ _ _ (times-agree timestamps a b) (video-agrees t (Times nanoseconds (end timestamps) (nominal timestamps)) (starts_of timestamps)))

recording-agrees : (t : Table) (timestamps : List ℤ) (a b : ℕ)
    → Agrees (recording_refusal t.sources t.segments timestamps a b) (recording_tests t timestamps a b)
unfolding recording_refusal single shown_by
recording-agrees t [] a b = timed-agrees t [] a b
recording-agrees t (x ∷ []) a b = video-agrees t (Constant 1 (first_source t).numerator (first_source t).denominator) []
recording-agrees t (x ∷ (y ∷ l)) a b = rw (ne_eqb (suc (suc (length l))) 1 (λ q. omega arith)) (timed-agrees t (x ∷ (y ∷ l)) a b)

-- of every table and recording
pub recorded_rightly : (t : Table) (timestamps : List ℤ) (a b : ℕ)
    → Rightly (check_mcraw t timestamps a b) (mcraw_tests t timestamps a b) (frame_total t.segments)
unfolding check_mcraw
recorded_rightly t timestamps a b = right _ _ (frame_total t.segments) (append _ _ _ _ (agrees t) (recording-agrees t timestamps a b))
