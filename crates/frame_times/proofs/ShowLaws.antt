-- Why the test of the end is the test of every start: no kept time is above the end, and none is far from 0. Assumes
-- nothing.
use Rattle.std.specs.Prelude.{Option, None, Some, IfSome, Ok}
use Rattle.std.specs.List.{list_any, AllByRecursion}
use Rattle.std.proofs.lemmas.Int.{ints, clamps}
use Rattle.std.proofs.lemmas.List.{map_more}
use mathlib.Core.Path.{◌≡◌, refl, sym, ap, ◌∙◌}
use mathlib.Core.Bool.{true, false}
use mathlib.Core.List.{List, [], ◌∷◌, map}
use Prim.Native.Nat.{ℕ, ◌+◌, ◌≤◌, ◌<◌}
use native.Mathlib.Omega.{arith}
use lib.ListN.{length, get_or, take, set, length-map, length-take}
use lib.IntN.{ℤ, pos, ◌+ℤ◌, ◌-ℤ◌}
use mir.Syntax.{w64}
use mir.Val.{SFits}
use Rattle.conditions.proofs.Tests.{either, decide}
use Rattle.refusal.specs.declared.Reason.TheVariants as reason
use Rattle.signed.specs.Signed.{is_outside}
use Rattle.signed.proofs.Bits.{read, reads}
use Rattle.signed.proofs.Ranges.{not_outside, inside}
use Rattle.slices.specs.Slices.{laid}
use Rattle.slices.proofs.Every.{all-at, all-weaken}
use Rattle.slices.proofs.Laid.{set-laid}
use Rattle.tracks.specs.declared.Edit.{Edit}
use Rattle.tracks.specs.SoundEdits.{EditTicks}
use Rattle.frame_times.specs.Frames.{capped, time_origin, moved_time}
use Rattle.frame_times.specs.KeptFrames.{Near, Ended, Showable, Movable}
use Rattle.frame_times.specs.Times.{placed, shown, no_times}

-- ---- placing starts, one after the other, as the code adds them up
module _ (o d : ℤ) (times : List ℤ) (i : ℕ) (fo : SFits w64 o) (fd : SFits w64 d) (fx : SFits w64 (get_or times i (pos 0))) (m : AllByRecursion (Movable o d) times) (h : i < length times) where
  at : Movable o d (get_or times i (pos 0))
  at = all-at _ times i (pos 0) m h

  pub start_fits : SFits w64 (read (read (get_or times i (pos 0)) -ℤ read o) +ℤ read d)
  start_fits = omega (arith, ints, at.0, at.1)

  pub place_more : (out₀ out : List ℤ) → length times ≤ length out₀
      → out ≡ laid (map (moved_time (read o) (read d)) (take i times)) out₀
      → set out i (read (read (read (get_or times i (pos 0)) -ℤ read o) +ℤ read d)) ≡ laid (map (moved_time (read o) (read d)) (take (i + 1) times)) out₀
  place_more out₀ out k e =
      let f = moved_time (read o) (read d) in
      let q : read (read (read (get_or times i (pos 0)) -ℤ read o) +ℤ read d) ≡ f (get_or times i (pos 0)) = omega (arith, ints, at.0, at.1) in
      let n : length (map f (take i times)) ≡ i = simp (length-map, length-take) (omega arith) in
      rw (e, q, map_more f times i (pos 0) h) (ap (λ j. set (laid (map f (take i times)) out₀) j (f (get_or times i (pos 0)))) (sym n) ∙ set-laid (map f (take i times)) out₀ _ (omega arith))

-- ---- the answer
none_out : (o d : ℤ) (l : List ℤ) → AllByRecursion (Movable o d) l
    → list_any is_outside (map (moved_time o d) l) ≡ false
none_out o d [] h = refl
none_out o d (x ∷ l) h = rw (not_outside (moved_time o d x) h.0.1.sfits) (none_out o d l h.1)

near-top : (end : Option ℤ) (last : ℤ) → IfSome end EditTicks → Ended last → Ended (capped end last)
near-top None last t k = k
near-top (Some end) last t k = omega (arith, ints, clamps)

module _ (times : List ℤ) (first last : ℤ) (e : Edit) where
  abbrev pub org : ℤ
  org = time_origin e (get_or times 0 (pos 0)) first

  -- the end that is tested
  abbrev pub end : ℤ
  end = moved_time org e.empty (capped e.end last)

  -- the origin and the capped end, as the code has them
  pub record Showing (o cap : ℤ) : Type 0 where
    pub able : Showable times first last e
    pub near : Near org
    pub near_cap : Ended (capped e.end last)
    pub o_is : read o ≡ org
    pub cap_is : read cap ≡ capped e.end last
    pub empty_is : read e.empty ≡ e.empty
    pub end_is : read (read cap -ℤ read o) +ℤ read e.empty ≡ end

module _ {times : List ℤ} {first last : ℤ} {e : Edit} {o cap : ℤ} where
  pub showing : Showable times first last e → 0 < length times → SFits w64 first → SFits w64 last
      → o ≡ time_origin e (read (get_or times 0 (pos 0))) (read first) → cap ≡ capped e.end (read last)
      → Showing times first last e o cap
  showing s some ff lf oe ce =
      let least : Near (get_or times 0 (pos 0)) = (all-at _ times 0 (pos 0) s.near_times some).0 in
      let l : SFits w64 (get_or times 0 (pos 0)) = omega (arith, ints, least) in
      let oi : o ≡ org times first last e = oe ∙ (λ i. time_origin e (reads l i) (reads ff i)) in
      let ci : cap ≡ capped e.end last = ce ∙ ap (capped e.end) (reads lf) in
      let on : Near (org times first last e) = either Near e.edited (λ p. omega (arith, ints, clamps, least, s.near_first)) (λ p. omega (arith, ints)) in
      let cn = near-top e.end last s.sound.end s.near_last in
      record {
        able = s;
        near = on;
        near_cap = cn;
        o_is = omega (arith, ints, oi, on);
        cap_is = omega (arith, ints, ci, cn);
        empty_is = omega (arith, ints, s.sound.empty);
        end_is = omega (arith, ints, oi, on, ci, cn, s.sound.empty);
      }

  module _ (h : Showing times first last e o cap) where
    pub apart : SFits w64 (read cap -ℤ read o)
    apart = omega (arith, ints, h.o_is, h.near, h.cap_is, h.near_cap)

    pub shown-out : (scale : ℕ) (nominal : ℤ) → ¬ (SFits w64 (end times first last e))
        → shown scale nominal e first last times ≡ no_times reason.Outside
    unfolding shown placed
    shown-out scale nominal n =
        let out : is_outside (end times first last e) ≡ true = decide (is_outside (end times first last e)) (λ t. t) (λ f. absurd (n (record { sfits = inside (end times first last e) f }))) in
        rw out refl

    pub movable : SFits w64 (end times first last e) → AllByRecursion (Movable (org times first last e) e.empty) times
    movable fits =
        all-weaken _ (Movable (org times first last e) e.empty) times
        (λ x m. (omega (arith, ints, h.near, m.0), omega (arith, ints, h.near, h.near_cap, m.0, m.1, h.able.sound.empty, fits)))
        h.able.near_times

    pub shown-in : (scale : ℕ) (nominal : ℤ) → SFits w64 (end times first last e)
        → shown scale nominal e first last times
        ≡ record { answer = Ok (record { frames = length times; scale = scale; nominal = nominal; end = end times first last e }); starts = map (moved_time (org times first last e) e.empty) times }
    unfolding shown placed
    shown-in scale nominal fits =
        rw (not_outside (end times first last e) fits.sfits, none_out (org times first last e) e.empty times (movable fits), length-map times (moved_time (org times first last e) e.empty)) refl
