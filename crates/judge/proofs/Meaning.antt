-- A table is accepted for a video exactly where it fits it, and for a recording exactly where it is recorded. Nothing
-- else meets the promises. Assumes nothing.
use mathlib.Core.Path.{◌≡◌, refl, sym, ap, ◌∙◌, subst}
use Rattle.std.proofs.lemmas.Bool.Decides.{Decides-int_eq}
use Rattle.std.specs.Ordering.{int_eq}
use mathlib.Core.Bool.{Bool, true, false}
use mathlib.Core.List.{List}
use mathlib.Core.Logic.{inl, inr, ⊎_elim, ◌↔◌}
use Prim.Native.Nat.{ℕ, ◌<◌}
use native.Mathlib.Omega.{arith}
use borrow.Author.Tests.{eqb-true, eqb-false, eq-eqb, ne_eqb, not-false}
use lib.Dec.{T, eqb}
use lib.IntN.{ℤ, pos, nat_abs, ◌+ℤ◌, ◌-ℤ◌, ◌*ℤ◌}
use lib.ListN.{length}
use lib.Signed.{◌≤ℤ◌, le_z_yes}
use Rattle.std.specs.Prelude.{Result, Ok, Err, Option, Some, None}
use Rattle.std.specs.Result.{result_and}
use Rattle.conditions.proofs.Tests.{decide, tf}
use Rattle.refusal.specs.declared.Reason.{Reason}
use Rattle.refusal.specs.declared.Reason.TheVariants as reason
use Rattle.refusal.specs.declared.Refusal.{Refusal}
use Rattle.refusal.proofs.Chains.{if-ok, and-ok, ok-of}
use Rattle.refusal.proofs.First.{none-refused, refuses-none}
use Rattle.signed.specs.Signed.{as_i64}
use Rattle.signed.specs.Rounded.{rounded}
use Rattle.signed.specs.Fits.{I64}
use Rattle.signed.proofs.Ranges.{is_some, held}
use Rattle.ticks.specs.Ticks.{micros_of, ends_near}
use Rattle.ticks.proofs.Microseconds.{micros-none, micros-some}
use Rattle.rules.specs.Records.{Table, no_segment, segment, out_end, out_end_us, frame_total}
use Rattle.rules.specs.Rules.{refusal, check_of}
use Rattle.rules.proofs.Accepted.{Accepted, accepted}
use Rattle.ticks.specs.declared.FrameTimes.{FrameTimes}
use Rattle.mcraw.specs.Mcraw.{nanoseconds, starts_of, nominal, end, refusal_of, times_of, mcraw_times}
use Rattle.judge.specs.Video.{Shown, timed}
use Rattle.judge.specs.Judge.{starts_at, start_refusal, last_segment, video_refusal, validate_of, single, times_refusal, recording_refusal, check_mcraw}
use Rattle.judge.specs.Means.{Fits, Recorded}

-- a segment that starts at its first frame's time
starts-right : (h : Option ℤ) (out : ℤ) → starts_at h out ≡ Ok tt → h ≡ Some out
unfolding starts_at
starts-right None out e = absurd (grind arith)
starts-right (Some us) out e = decide (int_eq us out) (λ t. ap Some ((Decides-int_eq us out).0 t)) (λ t. let z : ◌≡◌ {A = Result (Unit {0}) Reason} (Err reason.OtherFrameTime) (Ok tt) = sym (rw t) ∙ e in absurd (grind arith))

right-starts : (out : ℤ) → starts_at (Some out) out ≡ Ok tt
unfolding starts_at
right-starts out = rw ((Decides-int_eq out out).1 refl)

-- a time that is had, in microseconds
time-had : (z : ℤ) (s : ℕ) (us : ℤ) → micros_of z s ≡ Some us → (0 < s) × (us ≡ rounded (z *ℤ pos 1000000) s)
time-had z s us e =
    decide (eqb s 0)
    (λ t. let q : None ≡ Some us = micros-none z s (eqb-true s 0 t) ∙ e in let n : ◌≡◌ {A = ℕ} 0 1 = cc in absurd (omega arith))
    (λ t.
    let f = eqb-false s 0 t in
    (omega arith, (held (rounded (z *ℤ pos 1000000) s) us (micros-some z s f ∙ e)).1))

had-time : (z : ℤ) (s : ℕ) (us : ℤ) → 0 < s → I64 us → us ≡ rounded (z *ℤ pos 1000000) s → micros_of z s ≡ Some us
had-time z s us p h e =
    sym (micros-some z s (λ q. absurd (omega arith))) ∙ ap as_i64 (sym e) ∙ sym (is_some us h)

-- the inequality, and its test
near-so : (us e m : ℤ) (s : ℕ) → ends_near us e m s ≡ true
    → pos (nat_abs (pos 2 *ℤ us *ℤ pos s -ℤ pos 2 *ℤ e *ℤ pos 1000000)) ≤ℤ (pos 2 *ℤ m *ℤ pos 1000000 +ℤ pos s)
unfolding ends_near
near-so us e m s h = le_z_yes {a = pos (nat_abs (pos 2 *ℤ us *ℤ pos s -ℤ pos 2 *ℤ e *ℤ pos 1000000))} {b = pos 2 *ℤ m *ℤ pos 1000000 +ℤ pos s} (yes (ends_near us e m s) h)
  where
    yes : (b : Bool) → b ≡ true → T b
    yes true h = tt
    yes false h = tf (sym h)

so-near : (us e m : ℤ) (s : ℕ)
    → pos (nat_abs (pos 2 *ℤ us *ℤ pos s -ℤ pos 2 *ℤ e *ℤ pos 1000000)) ≤ℤ (pos 2 *ℤ m *ℤ pos 1000000 +ℤ pos s)
    → ends_near us e m s ≡ true
unfolding ends_near
so-near us e m s h = so (ends_near us e m s) h.le
  where
    so : (b : Bool) → T b → b ≡ true
    so true h = refl
    so false h = absurd h

-- a check, and then the rest
both : (t : Table) (N : ℕ)
    (rest : Result (Unit {0}) Refusal) → (result_and (result_and (refusal t) rest) (Ok (frame_total t.segments)) ≡ Ok N)
    ↔ ((check_of t ≡ Ok N) × (rest ≡ Ok tt))
unfolding check_of
both t N rest = (
  λ e. let f = ok-of (result_and (refusal t) rest) _ N e in let o = and-ok (refusal t) rest tt f.0 in (rw o.0 (ap Ok f.1), o.1),
  λ h. let f = ok-of (refusal t) _ N h.0 in rw (f.0, h.1) (ap Ok f.1),
)

module _ (t : Table) (v : Shown) (N : ℕ) where
  -- of an accepted table
  start_fits : Accepted t N → (k : ℕ) → k < length t.segments → I64 (segment t k).stamps.out_start
  start_fits g k h =
      let e = (g.segments k h).out-time in
      subst I64 (sym e.start) (omega (arith, e.fits))

  fits-video : check_of t ≡ Ok N → video_refusal t.segments v ≡ Ok tt → Fits t v N
  unfolding video_refusal start_refusal ends_near
  fits-video q h =
      let g = accepted t N q in
      let a = if-ok _ _ _ _ h in
      let b = if-ok _ _ _ _ a.1 in
      let c = if-ok _ _ _ _ b.1 in
      let d = and-ok _ _ _ c.1 in
      let e = if-ok _ _ _ _ d.1 in
      let last = eqb-true (out_end (last_segment t.segments)) v.frames (not-false _ c.0) in
      let had : (k : ℕ) → k < length t.segments → micros_of (v.time (segment t k).words.out) v.scale ≡ Some (segment t k).stamps.out_start
      = λ k i. starts-right _ _ (none-refused (start_refusal v) 0 t.segments no_segment d.0 k i) in
      record {
        checked = q;
        given = not-false _ a.0;
        in_limits = b.0;
        first = g.first;
        next = λ k i. (g.follows k i).frame;
        some = λ k i. (g.segments k i).some;
        last = last;
        frames = sym g.last ∙ last;
        scaled = (time-had _ _ _ (had 0 g.some-segments)).0;
        starts = λ k i. (time-had _ _ _ (had k i)).1;
        near = near-so (out_end_us (last_segment t.segments)) v.end v.nominal v.scale (not-false _ e.0);
      }

  video-fits : Fits t v N → video_refusal t.segments v ≡ Ok tt
  unfolding video_refusal start_refusal
  video-fits h =
      let g = accepted t N h.checked in
      let right : (k : ℕ) → k < length t.segments → start_refusal v (segment t k) ≡ Ok tt
      = λ k i. ap (λ (x : Option ℤ). starts_at x (segment t k).stamps.out_start) (had-time _ _ _ h.scaled (start_fits g k i) (h.starts k i)) ∙ right-starts _ in
      simp (h.given, h.in_limits, eq-eqb _ _ h.last, refuses-none (start_refusal v) 0 t.segments no_segment right, so-near (out_end_us (last_segment t.segments)) v.end v.nominal v.scale h.near)

  pub validated : (validate_of t v ≡ Ok N) ↔ Fits t v N
  unfolding validate_of
  validated = (
    (λ e. let a = (both t N (video_refusal t.segments v)).0 e in fits-video a.0 a.1),
    (λ h. (both t N (video_refusal t.segments v)).1 (h.checked, video-fits h)),
  )

-- a recording's times that leave nothing refused
module _ (t : Table) (timestamps : List ℤ) (a b N : ℕ) where
  times-fit : (r : Result FrameTimes Refusal) → mcraw_times timestamps a b ≡ r → check_of t ≡ Ok N
      → times_refusal t.segments timestamps r ≡ Ok tt
      → (refusal_of timestamps a b ≡ Ok tt) × Fits t (timed (starts_of timestamps) nanoseconds (end timestamps) (nominal timestamps)) N
  unfolding times_refusal mcraw_times times_of
  times-fit (Err refusal) e q h = absurd (grind arith)
  times-fit (Ok times) e q h =
      let o = ok-of (refusal_of timestamps a b) (times_of timestamps) times e in
      (o.0, subst (λ (x : FrameTimes). Fits t (timed (starts_of timestamps) x.scale x.end x.nominal) N) (sym o.1) (fits-video t (timed (starts_of timestamps) times.scale times.end times.nominal) N q h))

  fits-recording : check_of t ≡ Ok N → recording_refusal t.sources t.segments timestamps a b ≡ Ok tt
      → Recorded t timestamps a b N
  unfolding recording_refusal
  fits-recording q h =
      decide (eqb (length timestamps) 1)
      (λ y. inl (eqb-true (length timestamps) 1 y, fits-video t (single t.sources t.segments) N q (sym (rw y) ∙ h)))
      (λ y. inr (let f = times-fit (mcraw_times timestamps a b) refl q (sym (rw y) ∙ h) in (eqb-false (length timestamps) 1 y, f.0, f.1)))

  recording-fits : Recorded t timestamps a b N
      → (check_of t ≡ Ok N) × (recording_refusal t.sources t.segments timestamps a b ≡ Ok tt)
  unfolding recording_refusal times_refusal mcraw_times times_of
  recording-fits =
      ⊎_elim
      (λ h. (h.1.checked, rw (eq-eqb (length timestamps) 1 h.0) (video-fits t (single t.sources t.segments) N h.1)))
      (λ h. (h.2.checked, rw (ne_eqb (length timestamps) 1 h.0, h.1) (video-fits t (timed (starts_of timestamps) nanoseconds (end timestamps) (nominal timestamps)) N h.2)))

  pub recorded : (check_mcraw t timestamps a b ≡ Ok N) ↔ Recorded t timestamps a b N
  unfolding check_mcraw
  recorded = (
    (λ e. let c = (both t N (recording_refusal t.sources t.segments timestamps a b)).0 e in fits-recording c.0 c.1),
    (λ h. (both t N (recording_refusal t.sources t.segments timestamps a b)).1 (recording-fits h)),
  )
