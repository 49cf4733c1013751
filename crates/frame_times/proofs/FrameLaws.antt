-- The frames of a track, those that are kept, and the last of them. Assumes nothing.
use Rattle.std.specs.Prelude.{if◌then◌else◌, Option, None, Some}
use Rattle.std.specs.List.{AllByRecursion}
use Rattle.std.proofs.lemmas.Int.{ints, clamps}
use mathlib.Core.Path.{◌≡◌, refl, sym}
use mathlib.Core.Bool.{Bool, true, false}
use mathlib.Core.List.{List, [], ◌∷◌}
use Prim.Native.Nat.{ℕ, ◌<◌}
use native.Mathlib.Omega.{arith}
use lib.ListN.{length}
use lib.IntN.{ℤ, pos}
use lib.Signed.{le_z, ◌≤ℤ◌, ≤ℤ_refl}
use Rattle.conditions.proofs.Tests.{either, tf}
use Rattle.refusal.specs.declared.Reason.TheVariants as reason
use Rattle.tracks.specs.declared.Edit.{Edit}
use Rattle.tracks.specs.SoundEdits.{Sound}
use Rattle.order.specs.Order.{sorted, mode}
use Rattle.order.proofs.Sorted.{all-sorted, asc-sorted}
use Rattle.order.proofs.Mode.{mode-sorted}
use Rattle.frame_times.specs.Frames.{Frame, before_end, cts_of, last_of, end_of, capped}
use Rattle.frame_times.specs.KeptFrames.{Near, Good, Showable}
use Rattle.frame_times.specs.Times.{no_times, shown, of_kept}

-- the last of kept frames: it is one of them, and no time is past its own
pub last-is : (e : Edit) (f : Frame) (fs : List Frame) → AllByRecursion (Good e) (f ∷ fs)
    → Good e (last_of f fs) × AllByRecursion (λ x. x ≤ℤ (last_of f fs).cts) (cts_of (f ∷ fs))
unfolding last_of
last-is e f [] a = (a.0, (≤ℤ_refl f.cts, tt))
last-is e f (g ∷ fs) a =
    either (λ h. Good e (last_of h fs) × AllByRecursion (λ x. x ≤ℤ (last_of h fs).cts) (cts_of (f ∷ g ∷ fs))) (le_z f.cts g.cts)
    (λ p. let r = last-is e g fs a.1 in (r.0, (omega (arith, ints, r.1.0), r.1)))
    (λ p. let r = last-is e f fs (a.0, a.1.1) in (r.0, (r.1.0, (omega (arith, ints, r.1.0), r.1.1))))

-- a time before the media end, and not past the last one's end
before-top : (end : Option ℤ) (in_time : Bool) (last c : ℤ) → (if in_time then before_end end c else false) ≡ true
    → c ≤ℤ last → c ≤ℤ capped end last
before-top None t last c p h = h
before-top (Some end) true last c p h = omega (arith, ints, clamps)
before-top (Some end) false last c p h = tf (sym p)

under-top : (e : Edit) (l last : ℤ) (fs : List Frame) → l ≤ℤ last → AllByRecursion (Good e) fs
    → AllByRecursion (λ x. x ≤ℤ l) (cts_of fs) → AllByRecursion (λ x. Near x × (x ≤ℤ capped e.end last)) (cts_of fs)
under-top e l last [] h a b = tt
under-top e l last (f ∷ fs) h a b = ((a.0.cts_near, before-top e.end (le_z e.time f.cts) last f.cts a.0.kept (omega (arith, ints, b.0))), under-top e l last fs h a.1 b.1)

-- ---- kept frames: when the first is decoded, and where the last ends
abbrev pub first_decode : List Frame → ℤ
first_decode [] = pos 0
first_decode (f ∷ fs) = pos f.decode

abbrev pub last_end : List Frame → ℤ
last_end [] = pos 0
last_end (f ∷ fs) = end_of (last_of f fs)

-- what `show` asks
pub showable : (e : Edit) (fs : List Frame) → 0 < length fs → AllByRecursion (Good e) fs → Sound e
    → Showable (sorted (cts_of fs)) (first_decode fs) (last_end fs) e
showable e [] h a s = absurd (omega arith)
showable e (f ∷ fs) h a s =
    let l = last-is e f fs a in
    record {
      sound = s;
      near_times = all-sorted _ (cts_of (f ∷ fs)) (under-top e (last_of f fs).cts (end_of (last_of f fs)) (f ∷ fs) (omega (arith, ints)) a l.1);
      near_first = omega (arith, ints, a.0.decode_near);
      near_last = omega (arith, ints, l.0.cts_near, l.0.short);
    }

-- ---- the answers
module _ (scale : ℕ) (nominal : ℤ) (e : Edit) where
  pub none_kept : (fs : List Frame) → length fs ≡ 0 → of_kept scale nominal e fs ≡ no_times reason.Missing
  unfolding of_kept
  none_kept [] h = refl
  none_kept (f ∷ fs) h = absurd (omega arith)

  pub low-nominal : (fs : List Frame) → le_z nominal (pos 0) ≡ true
      → of_kept scale nominal e fs ≡ no_times reason.Missing
  unfolding of_kept
  low-nominal [] h = refl
  low-nominal (f ∷ fs) h = rw h refl

  pub some-shown : (fs : List Frame) → 0 < length fs → le_z nominal (pos 0) ≡ false
      → of_kept scale nominal e fs ≡ shown scale nominal e (first_decode fs) (last_end fs) (sorted (cts_of fs))
  unfolding of_kept
  some-shown [] h k = absurd (omega arith)
  some-shown (f ∷ fs) h k = rw k refl

-- the most frequent of no durations, and of sorted ones
pub mode-none : (l : List ℤ) → length l ≡ 0 → pos 0 ≡ mode l
unfolding mode
mode-none [] h = refl
mode-none (x ∷ l) h = absurd (omega arith)

pub ruleset modes = (mode-none, mode-sorted, asc-sorted)
