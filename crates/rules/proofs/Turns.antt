-- A segment's turn: where none of 10 to 17 refuses it, its sums fit. Assumes nothing.
use Prim.Native.Nat.{◌+◌, ◌≤◌}
use Rattle.std.proofs.lemmas.Bool.{or_parts}
use native.Mathlib.Omega.{arith}
use mathlib.Core.Path.{◌≡◌}
use mathlib.Core.Bool.{false, ◌||◌}
use lib.Dec.{eqb}
use Rattle.std.specs.Prelude.{Ok, Err, if◌then◌else◌}
use Rattle.std.specs.Result.{result_and}
use borrow.Author.Tests.{eqb-true, not-false}
use Rattle.conditions.specs.Conditions.{past, max_u64}
use Rattle.conditions.proofs.Sums.{past-not}
use Rattle.refusal.specs.declared.Reason.TheVariants as reason
use Rattle.refusal.proofs.Chains.{if-ok}
use Rattle.rules.specs.declared.Source.{Source}
use Rattle.rules.specs.declared.Words.{Words}
use Rattle.rules.specs.declared.SixTimes.{SixTimes}
use Rattle.rules.specs.declared.Ends.{Ends}
use Rattle.rules.specs.Limits.{max_i64}
use Rattle.rules.specs.Rules.{too_late, apart, bad_shift, frames_or, times_or, judged}
use Rattle.rules.specs.Walks.{FineFrames, out_of_time}

-- what refuses a segment in parts, as code goes through them
pub judged_parts : (s : Source) (previous : Ends) (w : Words) (t : SixTimes) → judged s previous w t
    ≡ result_and (frames_or s.frames w.first w.count w.out (Ok tt)) (result_and (times_or previous w.out t (Ok tt)) (if bad_shift s.kind s.modulus w.flag t.back t.shift then Err reason.BadShift else Ok tt))
unfolding judged
judged_parts s previous w t = grind arith

-- what a walk takes from a segment that none of 10 to 17 refuses: no time is negative, it begins where the one before
-- ends, and its ends fit
pub record Fit (previous : Ends) (w : Words) (t : SixTimes) : Type 0 where
  pub positive : t.negative ≡ false
  pub chained : w.out ≡ previous.frame
  pub frame : w.out + w.count ≤ max_u64
  pub time : t.out_start + t.duration ≤ max_i64
  pub capture : t.out_capture_start + t.capture_duration ≤ max_i64

pub judged-fit : (s : Source) (previous : Ends) (w : Words) (t : SixTimes) → judged s previous w t ≡ Ok tt
    → Fit previous w t
unfolding judged
judged-fit s previous w t e =
    let c11 = if-ok _ _ _ _ (if-ok _ _ _ _ e).1 in
    let c13 = if-ok _ _ _ _ (if-ok _ _ _ _ c11.1).1 in
    let c15 = if-ok _ _ _ _ (if-ok _ _ _ _ c13.1).1 in
    let c14 = if-ok _ _ _ _ (if-ok _ _ _ _ c15.1).1 in
    let late = or_parts (past t.out_start t.duration max_i64) (past t.out_capture_start t.capture_duration max_i64) c14.0 in
    record {
      positive = c13.0;
      chained = eqb-true w.out previous.frame (not-false (eqb w.out previous.frame) c15.0);
      frame = past-not _ _ _ (or_parts (past w.out w.count max_u64) (past w.first w.count max_u64) c11.0).0;
      time = past-not _ _ _ late.0;
      capture = past-not _ _ _ late.1;
    }

-- and its tests, one by one
pub record Tested (s : Source) (previous : Ends) (w : Words) (t : SixTimes) : Type 0 where
  pub frames : FineFrames s.frames w.first w.count w.out previous.frame
  pub positive : t.negative ≡ false
  pub times : out_of_time previous t.source_start t.out_start t.duration t.source_capture_start t.out_capture_start t.capture_duration ≡ false
  pub shift : bad_shift s.kind s.modulus w.flag t.back t.shift ≡ false

pub judged-tested : (s : Source) (previous : Ends) (w : Words) (t : SixTimes) → judged s previous w t ≡ Ok tt
    → Tested s previous w t
unfolding judged
judged-tested s previous w t e =
    let c10 = if-ok _ _ _ _ e in
    let c11 = if-ok _ _ _ _ c10.1 in
    let c12 = if-ok _ _ _ _ c11.1 in
    let c13 = if-ok _ _ _ _ c12.1 in
    let c14 = if-ok _ _ _ _ c13.1 in
    let c15 = if-ok _ _ _ _ c14.1 in
    let c16 = if-ok _ _ _ _ c15.1 in
    let out = if-ok _ _ _ _ c16.1 in
    record {
      frames = record { some = c10.0; fits = c11.0; inside = c12.0; next = c15.0 };
      positive = c13.0;
      times = λ i. c16.0 i || (c14.0 i || out.0 i);
      shift = (if-ok _ _ _ _ out.1).0;
    }

-- none of 10 to 17 refuses
pub judged-fine : (s : Source) (previous : Ends) (w : Words) (t : SixTimes)
    → FineFrames s.frames w.first w.count w.out previous.frame → t.negative ≡ false
    → apart previous.some previous.time previous.capture t.out_start t.out_capture_start || (too_late t.source_start t.duration t.source_capture_start t.capture_duration || too_late t.out_start t.duration t.out_capture_start t.capture_duration) ≡ false
    → bad_shift s.kind s.modulus w.flag t.back t.shift ≡ false → judged s previous w t ≡ Ok tt
unfolding judged
judged-fine s previous w t f n l b =
    let x = or_parts (apart previous.some previous.time previous.capture t.out_start t.out_capture_start) (too_late t.source_start t.duration t.source_capture_start t.capture_duration || too_late t.out_start t.duration t.out_capture_start t.capture_duration) l in
    let y = or_parts (too_late t.source_start t.duration t.source_capture_start t.capture_duration) (too_late t.out_start t.duration t.out_capture_start t.capture_duration) x.1 in
    rw (f.some, f.fits, f.inside, n, y.0, f.next, x.0, y.1, b)
