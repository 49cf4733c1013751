-- How far two tables of one video may differ. Assumes nothing.
use mathlib.Core.Path.{◌≡◌, refl, sym, ap, ◌∙◌, subst}
use mathlib.Core.List.{List, [], ◌∷◌}
use mathlib.Core.Logic.{⊎_elim, ◌↔◌}
use Prim.Native.Nat.{ℕ, suc, ◌-◌, ◌≤◌, ◌<◌}
use native.Mathlib.Omega.{arith}
use lib.IntN.{ℤ, pos, ◌-ℤ◌, ◌*ℤ◌}
use lib.ListN.{length}
use Rattle.signed.specs.Rounded.{rounded}
use Rattle.std.specs.Prelude.{Ok}
use Rattle.rules.specs.Records.{Table, segment, out_end, out_end_us}
use Rattle.rules.proofs.Accepted.{Accepted, accepted}
use Rattle.rules.proofs.Search.{frames-ordered}
use Rattle.mcraw.specs.Mcraw.{nanoseconds, nominal}
use Rattle.judge.specs.Video.{Shown, shown_by}
use Rattle.judge.specs.Judge.{last_segment, validate_of, single, check_mcraw, Settled}
use Rattle.judge.specs.Means.{Fits, Recorded}
use Rattle.judge.specs.Grounds.{Near, first_source}
use Rattle.differ.specs.Differ.{SameFrames, Alike, SameFps, Differing}
use Rattle.differ.proofs.Distances.{last-near, duration-is, time-0, near-rates}

-- ---- two tables whose starts agree, and which both end near the end of a video
module _ (t u : Table) (v : Shown) {M N : ℕ} (p : Accepted t M) (q : Accepted u N) (many : length t.segments ≡ length u.segments)
    (starts : (k : ℕ) → k < length t.segments → (segment t k).stamps.out_start ≡ (segment u k).stamps.out_start) where
  durations : (k : ℕ) → suc k < length t.segments → (segment t k).stamps.duration ≡ (segment u k).stamps.duration
  durations k h =
      let j : suc k < length u.segments = subst (λ (n : ℕ). suc k < n) many h in
      duration-is (segment t k).stamps.out_start _ _ (p.follows k h).time
      ∙ (λ i. starts (suc k) h i -ℤ starts k (omega arith) i)
      ∙ sym (duration-is (segment u k).stamps.out_start _ _ (q.follows k j).time)

  last-start : (last_segment t.segments).stamps.out_start ≡ (last_segment u.segments).stamps.out_start
  last-start =
      starts (length t.segments - 1) (omega (arith, p.some-segments))
      ∙ ap (λ (n : ℕ). (segment u (n - 1)).stamps.out_start) many

  from-starts : Near t v → Near u v → Alike t u v.scale v.nominal
  from-starts h k = record {
    starts = starts;
    durations = durations;
    last = last-near _ _ _ _ (pos 2 *ℤ v.end *ℤ pos 1000000) _ v.scale last-start
        (p.segments (length t.segments - 1) (omega (arith, p.some-segments))).out-time
        (q.segments (length u.segments - 1) (omega (arith, q.some-segments))).out-time
        h k;
  }

-- ---- one video
same-video : (t u : Table) (v : Shown) (M N : ℕ) → Fits t v M → Fits u v N → SameFrames t u
    → Alike t u v.scale v.nominal
same-video t u v M N f g s =
    from-starts t u v (accepted t M f.checked) (accepted u N g.checked) s.many
    (λ k h.
    f.starts k h
    ∙ ap (λ (o : ℕ). rounded (v.time o *ℤ pos 1000000) v.scale) (s.out k h)
    ∙ sym (g.starts k (subst (λ (n : ℕ). k < n) s.many h)))
    f.near g.near

-- ---- a recording of one timestamp
-- every segment starts at frame 0, since there is one frame
only-frame : (t : Table) (N : ℕ) → Accepted t N → N ≡ 1 → (k : ℕ) → k < length t.segments → (segment t k).words.out ≡ 0
only-frame t N p e k h =
    let n = p.some-segments in
    let r : out_end (segment t k) ≤ out_end (segment t (length t.segments - 1)) = (frames-ordered p).rising k (length t.segments - 1) (omega arith) (omega arith) in
    omega (arith, p.last, (p.segments k h).some)

module _ (t u : Table) (M N : ℕ) (f : Fits t (single t.sources t.segments) M) (g : Fits u (single u.sources u.segments) N)
    (s : SameFrames t u) (r : SameFps (first_source t) (first_source u)) where
  p : Accepted t M
  p = accepted t M f.checked

  q : Accepted u N
  q = accepted u N g.checked

  same-frame : Alike t u (first_source t).numerator (pos (first_source t).denominator)
  unfolding single
  same-frame =
      let named = (q.segments 0 q.some-segments).named in
      let last = (q.segments (length u.segments - 1) (omega (arith, q.some-segments))).out-time in
      from-starts t u (single t.sources t.segments) p q s.many
      (λ k h.
      let j : k < length u.segments = subst (λ (n : ℕ). k < n) s.many h in
      f.starts k h
      ∙ time-0 _ (first_source t).denominator (first_source t).numerator (only-frame t M p f.frames k h) f.scaled
      ∙ sym (g.starts k j ∙ time-0 _ (first_source u).denominator (first_source u).numerator (only-frame u N q g.frames k j) g.scaled))
      f.near
      (near-rates (out_end_us (last_segment u.segments)) _ (first_source t).numerator (first_source t).denominator (first_source u).numerator (first_source u).denominator
      last.sum (q.sources (segment u 0).words.source named).denominator r g.near)

-- ---- a recording
several : (t u : Table) (timestamps : List ℤ) (a b c d M N : ℕ) → 1 < length timestamps → Recorded t timestamps a b M
    → Recorded u timestamps c d N → SameFrames t u → Alike t u nanoseconds (nominal timestamps)
several t u timestamps a b c d M N h =
    ⊎_elim (λ f. absurd (omega (arith, f.0)))
    (λ f. ⊎_elim (λ g. absurd (omega (arith, g.0))) (λ g. same-video t u _ M N f.2 g.2))

one : (t u : Table) (x : ℤ) (a b c d M N : ℕ) → Recorded t (x ∷ []) a b M → Recorded u (x ∷ []) c d N → SameFrames t u
    → SameFps (first_source t) (first_source u)
    → Alike t u (first_source t).numerator (pos (first_source t).denominator)
one t u x a b c d M N =
    ⊎_elim (λ f. ⊎_elim (λ g. same-frame t u M N f.1 g.1) (λ g. absurd (g.0 refl)))
    (λ f. absurd (f.0 refl))

-- of the judge's calls, by what it means that they accept
pub differing : ((t : Table) (v : Shown) (N : ℕ) → (validate_of t v ≡ Ok N) ↔ Fits t v N)
    → ((t : Table) (timestamps : List ℤ) (a b N : ℕ) → (check_mcraw t timestamps a b ≡ Ok N) ↔ Recorded t timestamps a b N)
    → Differing (λ (t : Table). t) (λ t video starts r. r ≡ validate_of t (shown_by video starts)) Settled
unfolding shown_by
differing fit recorded = record {
  constant = λ t u frames numerator denominator M N s s' x y. same-video t u _ M N (fits t _ x) (fits u _ y);
  times = λ t u scale end nominal starts M N x y. same-video t u _ M N (fits t _ x) (fits u _ y);
  recording = λ t u timestamps a b a' b' c d c' d' M N h x y. several t u timestamps _ _ _ _ M N h (holds t x) (holds u y);
  one_timestamp = λ t u z a b a' b' c d c' d' M N x y. one t u z _ _ _ _ M N (holds t x) (holds u y);
}
  where
    fits : (t : Table) (v : Shown) {N : ℕ} → Ok N ≡ validate_of t v → Fits t v N
    fits t v x = (fit t v _).0 (sym x)

    holds : (t : Table) {timestamps a b a' b' : List ℤ} {N : ℕ} → Settled t timestamps a b (Ok N) a' b'
        → Recorded t timestamps (length a) (length b) N
    holds t x = (recorded t _ _ _ _).0 (sym x.answer)
