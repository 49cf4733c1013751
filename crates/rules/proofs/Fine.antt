-- Tests of sources and segments that nothing refuses. Assumes nothing.
use Prim.Native.Nat.{ℕ, ◌+◌, ◌≤◌}
use Rattle.std.proofs.lemmas.Bool.{or_parts}
use mathlib.Core.Path.{◌≡◌, sym, ap, ◌∙◌}
use mathlib.Core.Bool.{Bool, true, false, not, ◌||◌}
use mathlib.Core.List.{List}
use lib.Dec.{eqb, ltb}
use lib.ListN.{length}
use lib.IntN.{nat_abs}
use Rattle.std.specs.Prelude.{Ok}
use borrow.Author.Tests.{eq-eqb, ne_eqb, eqb-true, not-true, not-false}
use Rattle.conditions.specs.Conditions.{past, max_u64}
use Rattle.conditions.proofs.Tests.{tf}
use Rattle.conditions.proofs.Sums.{not-past, past-not}
use Rattle.refusal.specs.Refusals.{first_refused}
use Rattle.rules.specs.declared.Source.{Source}
use Rattle.rules.specs.declared.Words.{Words}
use Rattle.rules.specs.declared.Ends.{Ends}
use Rattle.rules.specs.declared.Stamps.{Stamps}
use Rattle.rules.specs.Rules.{bad_source, source_refusal, over_limit, front_refusal, stamp_times, start, ends_of}
use Rattle.rules.specs.Walks.{FineFrames, FineShift, out_of_time, Passes, Passing, FineSource}
use Rattle.rules.proofs.Turns.{judged-fine, Tested, judged-tested}

pub fine-frames : (frames first count out before : ℕ) → (count ≡ 0 → ⊥) → out ≡ before → out + count ≤ max_u64
    → first + count ≤ max_u64 → first + count ≤ frames
    → FineFrames frames first count out before
fine-frames frames first count out before a b c d e = record {
  some = ne_eqb count 0 a;
  fits = rw (not-past out count max_u64 c) (not-past first count max_u64 d);
  inside = not-past first count frames e;
  next = ap not (eq-eqb out before b);
}

pub frames-fit : {frames first count out before : ℕ} → FineFrames frames first count out before → out + count ≤ max_u64
frames-fit {frames} {first} {count} {out} f = past-not out count max_u64 (or_parts (past out count max_u64) (past first count max_u64) f.fits).0

-- what one of the tests would find, where it doesn't hold
module _ {frames first count out before : ℕ} (f : FineFrames frames first count out before) where
  pub in_source : first + count ≤ frames
  in_source = past-not first count frames f.inside

-- what has no end isn't passed
pub not-passed : {X : Type 0} {r : Ends} → r ≡ start → r.some ≡ true → X
unfolding start
not-passed e h = tf (sym h ∙ ap (λ (x : Ends). x.some) e)

-- a segment whose tests all hold, of its times as numbers
pub passes : (s : Source) (previous : Ends) (w : Words) (e : Stamps) (to : Ends) {a b c d f g : ℕ}
    → FineFrames s.frames w.first w.count w.out previous.frame → FineShift s.kind s.modulus w.flag e.shift → (stamp_times e).negative ≡ false
    → a ≡ nat_abs e.source_start → b ≡ nat_abs e.out_start → c ≡ nat_abs e.duration → d ≡ nat_abs e.source_capture_start → f ≡ nat_abs e.out_capture_start → g ≡ nat_abs e.capture_duration
    → out_of_time previous a b c d f g ≡ false → to ≡ record { some = true; frame = w.out + w.count; time = b + c; capture = f + g } → Passes s previous w e to
unfolding stamp_times ends_of
passes s previous w e to h k n ea eb ec ed ef eg l r = record {
  flagged = k.flagged;
  none = judged-fine s previous w (stamp_times e) h n (sym (λ i. out_of_time previous (ea i) (eb i) (ec i) (ed i) (ef i) (eg i)) ∙ l) k.allowed;
  end = r ∙ (λ i. record { some = true; frame = w.out + w.count; time = eb i + ec i; capture = ef i + eg i });
}

-- a segment that has no end, for one of its tests
pub stops : (s : Source) (previous : Ends) (w : Words) (e : Stamps) {to : Ends} → to ≡ start
    → (ltb 1 w.flag ≡ false → Tested s previous w (stamp_times e) → ⊥) → Passing s previous w e to
stops s previous w e n h = (not-passed n, λ _. record { refused = λ f z. h f (judged-tested s previous w (stamp_times e) z); end = n })

-- a source without creation time and clock
pub plain-source : (log : Bool) (text : List ℕ) (s : Source) → (not (eqb s.dated 0) || not (eqb s.kind 0)) || ltb 1 s.imu_known ≡ false
    → log ≡ false
    → (s.frames ≡ 0 → ⊥) → (s.numerator ≡ 0 → ⊥) → not (eqb s.denominator 0) ≡ true → FineSource log text s
unfolding bad_source source_refusal
plain-source log text s e l a b c =
    let y = or_parts (not (eqb s.dated 0) || not (eqb s.kind 0)) (ltb 1 s.imu_known) e in
    let x = or_parts (not (eqb s.dated 0)) (not (eqb s.kind 0)) y.0 in
    let d : s.dated ≡ 0 = eqb-true s.dated 0 (not-false (eqb s.dated 0) x.0) in
    let k : s.kind ≡ 0 = eqb-true s.kind 0 (not-false (eqb s.kind 0) x.1) in
    record {
      words = rw (d, k, y.1);
      none = rw (ne_eqb s.frames 0 a, ne_eqb s.numerator 0 b, not-true (eqb s.denominator 0) c, d, k, l);
    }

-- none of 2 to 8 refuses
pub front-none : (log : Bool) (text : List ℕ) (sources : List Source) (n : ℕ) → over_limit (length sources) n ≡ false
    → eqb (length sources) 0 || eqb n 0 ≡ false
    → Ok tt ≡ first_refused (source_refusal log text) 0 sources → front_refusal log text sources false n ≡ Ok tt
unfolding front_refusal
front-none log text sources n o e f =
    let x = or_parts (eqb (length sources) 0) (eqb n 0) e in
    rw (o, x.0, ← f, x.1)
