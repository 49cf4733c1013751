-- The walk over the segments of any layout: a turn that goes on, one that stops, and the end; and how a check is put
-- together. Assumes nothing.
use Prim.Native.Nat.{ℕ, ◌+◌, ◌-◌, ◌≤◌, ◌<◌, zero-le}
use Rattle.slices.proofs.Ranges.{run, run-cons, run-nil}
use native.Mathlib.Nat.{sub-zero, zero-add}
use native.Mathlib.Numerals.{add-one}
use native.Mathlib.Omega.{arith}
use mathlib.Core.Path.{◌≡◌, sym, ap, ◌∙◌}
use mathlib.Core.List.{List}
use lib.ListN.{length}
use borrow.Author.Tests.{le-leb, lt-leb, leb-false}
use Rattle.std.specs.Prelude.{Ok, Err}
use Rattle.std.specs.Result.{result_and}
use Rattle.conditions.proofs.Tests.{tf}
use Rattle.refusal.specs.declared.Reason.{Reason}
use Rattle.refusal.specs.declared.Reason.TheVariants as reason
use Rattle.refusal.specs.declared.Refusal.{Refusal}
use Rattle.refusal.specs.Refusals.{refused, indexed}
use Rattle.refusal.proofs.Chains.{if-ok, ok-of, err-of}
use Rattle.rules.specs.declared.Source.{Source}
use Rattle.rules.specs.declared.Ends.{Ends}
use Rattle.rules.specs.declared.Segment.{Segment}
use Rattle.rules.specs.Records.{Table, source_of, frame_total}
use Rattle.rules.specs.Rules.{bad_segment, stamp_times, judged, segment_refusal, start, ends_of, ends, segments_from, malformed, front_refusal, refusal, check_of}
use Rattle.rules.specs.Walks.{turned, turn_of, walked, Passes, Passing, PassesOf, PassingOf, Walk, EndFits}
use Rattle.rules.proofs.Turns.{judged-fit}

-- no refusal of 9 to 17: the source is there, and 10 to 17 don't refuse
pub not-refused : (sources : List Source) (previous : Ends) (e : Segment) → segment_refusal sources previous e ≡ Ok tt
    → (e.words.source < length sources) × (judged (source_of sources e) previous e.words (stamp_times e.stamps) ≡ Ok tt)
unfolding segment_refusal
not-refused sources previous e q =
    let s = if-ok _ _ _ _ q in
    (leb-false (length sources) e.words.source s.0, s.1)

-- a segment that nothing refuses goes on from its end
pub turn_on : (sources : List Source) (previous : Ends) (e : Segment) {next : Ends} → PassesOf sources previous e next
    → turn_of sources previous e ≡ Ok next
unfolding turn_of
turn_on sources previous e p = rw (p.none, p.end)

-- its end fits
pub end-fits : (sources : List Source) (previous : Ends) (e : Segment) → segment_refusal sources previous e ≡ Ok tt
    → EndFits e
end-fits sources previous e q =
    let f = judged-fit _ _ _ _ (not-refused sources previous e q).1 in
    record { frame = f.frame; time = omega (arith, f.time); capture = omega (arith, f.capture) }

-- the segment begins where the one before ends
next-frame : (sources : List Source) (previous : Ends) (e : Segment) → segment_refusal sources previous e ≡ Ok tt
    → (ends e).frame ≡ previous.frame + e.words.count
unfolding ends ends_of
next-frame sources previous e q = ap (λ (n : ℕ). n + e.words.count) (judged-fit _ _ _ _ (not-refused sources previous e q).1).chained

module _ (sources : List Source) (f : ℕ → Segment) (m : ℕ) where
  pub walk_start : Walk sources f m 0 start
  unfolding start
  walk_start = record { inside = zero-le; same = rw sub-zero; frames = rw (sub-zero, zero-add) }

  module _ {k : ℕ} {previous : Ends} (w : Walk sources f m k previous) where
    walk-cons : k < m → segments_from sources k previous (run f k (m - k))
        ≡ result_and (indexed k (segment_refusal sources previous (f k))) (segments_from sources (k + 1) (ends (f k)) (run f (k + 1) (m - (k + 1))))
    unfolding segments_from
    walk-cons h = ap (segments_from sources k previous) (run-cons f k m h) ∙ rw add-one

    total-cons : k < m → frame_total (run f k (m - k)) ≡ (f k).words.count + frame_total (run f (k + 1) (m - (k + 1)))
    unfolding frame_total
    total-cons h = ap frame_total (run-cons f k m h)

    pub walk-go : {next : Ends} → k < m → turn_of sources previous (f k) ≡ Ok next → Walk sources f m (k + 1) next
    unfolding turn_of
    walk-go {next} h e =
        let z = ok-of _ _ _ e in
        let n = next-frame sources previous (f k) z.0 in
        let c = total-cons h in
        let w' : Walk sources f m (k + 1) (ends (f k)) = record {
          inside = omega arith;
          same = sym (walk-cons h ∙ rw z.0) ∙ w.same;
          frames = omega (arith, w.frames);
        } in
        rw z.1 at w'

    pub walk-stop : {why : Reason} → k < m → turn_of sources previous (f k) ≡ Err why
        → refused why k ≡ walked sources (run f 0 m)
    unfolding turn_of walked
    walk-stop {why} h e =
        let q : segments_from sources 0 start (run f 0 m) ≡ refused why k = sym w.same ∙ walk-cons h ∙ rw (err-of _ _ _ e) in
        rw q

    pub walk_end : m ≤ k → Ok previous.frame ≡ walked sources (run f 0 m)
    unfolding walked segments_from frame_total
    walk_end h =
        let q : segments_from sources 0 start (run f 0 m) ≡ Ok tt = sym w.same ∙ ap (segments_from sources k previous) (run-nil f k m h) in
        let c : frame_total (run f k (m - k)) ≡ 0 = ap frame_total (run-nil f k m h) in
        rw q (ap Ok (omega (arith, w.frames)))

-- the source that a segment names
module _ (sources : List Source) (previous : Ends) (e : Segment) where
  -- what nothing refuses of a source that is there, nothing refuses
  pub passes_of : {to : Ends} → e.words.source < length sources
      → Passes (source_of sources e) previous e.words e.stamps to → PassesOf sources previous e to
  unfolding bad_segment segment_refusal ends
  passes_of h p = record { flagged = p.flagged; none = rw (lt-leb (length sources) e.words.source h) p.none; end = p.end }

  pub turn-none : length sources ≤ e.words.source → Err reason.NoSuchSource ≡ turn_of sources previous e
  unfolding turn_of segment_refusal
  turn-none h = rw (le-leb (length sources) e.words.source h)

  pub turn-some : e.words.source < length sources
      → turned (source_of sources e) previous e.words (stamp_times e.stamps) ≡ turn_of sources previous e
  unfolding turn_of turned segment_refusal ends
  turn-some h = rw (lt-leb (length sources) e.words.source h)

  -- what the walk that only asks whether nothing refuses finds of a segment
  pub passing_of : {to : Ends} → e.words.source < length sources
      → Passing (source_of sources e) previous e.words e.stamps to → PassingOf sources previous e to
  unfolding bad_segment
  passing_of h p = (λ z. passes_of h (p.0 z), λ z f q. (p.1 z).refused f (not-refused sources previous e q).1)

  pub passing-none : {to : Ends} → length sources ≤ e.words.source → to ≡ start → PassingOf sources previous e to
  unfolding segment_refusal start
  passing-none h s =
      (λ z. tf (sym z ∙ ap (λ (x : Ends). x.some) s), λ z f q. let y : Err reason.NoSuchSource ≡ Ok tt = rw (le-leb (length sources) e.words.source h) at q in absurd (grind arith))

-- refusals 1 to 8 decide whether the segments are walked
module _ (t : Table) where
  pub check-stops : {r : Refusal} → front_refusal t.log t.text t.sources (malformed t) (length t.segments) ≡ Err r
      → Err r ≡ check_of t
  unfolding check_of refusal
  check-stops e = rw e

  pub check-goes : front_refusal t.log t.text t.sources (malformed t) (length t.segments) ≡ Ok tt
      → walked t.sources t.segments ≡ check_of t
  unfolding check_of refusal walked
  check-goes e = rw e
