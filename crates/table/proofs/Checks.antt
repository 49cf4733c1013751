-- How a check is put together: what the steps of front.rt and walk.rt find, and what refuses or accepts the table.
-- Assumes nothing.
use Prim.Native.Nat.{ℕ, zero, suc, ◌+◌, ◌-◌, ◌≤◌, ◌<◌, zero-le, suc-le-suc}
use Rattle.std.proofs.lemmas.Bool.{or_parts}
use Rattle.std.specs.List.{list_any}
use Rattle.slices.proofs.Ranges.{run, any-turn, any-hit, any-end}
use native.Mathlib.Numerals.{add-one}
use native.Mathlib.Nat.{sub-zero, le_of_suc-le-suc}
use native.Mathlib.Omega.{arith}
use mathlib.Core.Path.{◌≡◌, refl, sym, ap, ◌∙◌}
use mathlib.Core.Bool.{Bool, true, false, ◌||◌}
use mathlib.Core.List.{List, [], ◌∷◌}
use lib.ListN.{length, get_or}
use lib.Dec.{eqb}
use borrow.Author.Tests.{eqb-true, eqb-false}
use Rattle.std.specs.Prelude.{Ok, Err}
use Rattle.conditions.proofs.Tests.{decide}
use Rattle.refusal.specs.declared.Reason.{Reason}
use Rattle.refusal.specs.declared.Refusal.{Refusal}
use Rattle.refusal.specs.declared.Reason.TheVariants as reason
use Rattle.refusal.specs.Refusals.{refused}
use Rattle.refusal.proofs.Chains.{if-ok, ok-of}
use Rattle.refusal.proofs.First.{first-turn, first-hit, first-end}
use Rattle.rules.specs.declared.Source.{Source}
use Rattle.rules.specs.declared.Segment.{Segment}
use Rattle.rules.specs.Records.{Table, no_source, no_segment, nth, segment}
use Rattle.rules.specs.Rules.{bad_source, bad_segment, segment_refusal, start, ends, malformed, front_refusal, check_of}
use Rattle.rules.specs.declared.Ends.{Ends}
use Rattle.rules.specs.Walks.{turn_of, walked, Walk, end_before}
use Rattle.rules.proofs.Exact.{as-run}
use Rattle.rules.proofs.Walks.{turn_on, turn-none, turn-some, walk_start, walk-go, walk-stop, check-stops, check-goes}
use Rattle.table.specs.FirstWalk.{FineAt, FineFront, FineSegments, Stopped, front_of}

-- source k of a list, as `nth` has a segment
abbrev pub nth_source : List Source → ℕ → Source
nth_source l k = get_or l k no_source

-- where a walk over all of them begins
pub sources-whole : (l : List Source) {m : ℕ} → m ≡ length l → run (nth_source l) 0 (m - 0) ≡ l
sources-whole l e = rw (sub-zero, e) (as-run no_source l)

pub segments-whole : (l : List Segment) {m : ℕ} → m ≡ length l → run (nth l) 0 (m - 0) ≡ l
segments-whole l e = rw (sub-zero, e) (as-run no_segment l)

pub segments-run : (l : List Segment) {m : ℕ} → m ≡ length l → run (nth l) 0 m ≡ l
segments-run l e = rw e (as-run no_segment l)

-- a walk over segments that doesn't stop at one: nothing refuses it
pub never-goes : (sources : List Source) (previous : Ends) (e : Segment) {next : Ends}
    → turn_of sources previous e ≡ Ok next → segment_refusal sources previous e ≡ Ok tt
unfolding turn_of
never-goes sources previous e h = (ok-of _ _ _ h).0

pub flag-at : (l : List Segment) (k : ℕ) → k < length l → list_any bad_segment l ≡ false → bad_segment (nth l k) ≡ false
flag-at [] k h e = absurd (omega arith)
flag-at (x ∷ l) zero h e = (or_parts (bad_segment x) (list_any bad_segment l) e).0
flag-at (x ∷ l) (suc k) h e = flag-at l k (le_of_suc-le-suc h) (or_parts (bad_segment x) (list_any bad_segment l) e).1

-- one more of which neither holds
pub fine-more : (sources : List Source) (l : List Segment) (k : ℕ) → ((j : ℕ) → j < k → FineAt sources l j)
    → FineAt sources l k → (j : ℕ) → j < k + 1 → FineAt sources l j
fine-more sources l k h f j b = decide (eqb j k) (λ e. rw (eqb-true j k e) f) (λ e. h j (let n = eqb-false j k e in omega arith))

-- Malformed holds of none
pub flags-fine : (l : List Segment) → ((k : ℕ) → k < length l → bad_segment (nth l k) ≡ false)
    → list_any bad_segment l ≡ false
flags-fine [] h = refl
flags-fine (x ∷ l) h = rw (h 0 (suc-le-suc zero-le)) (flags-fine l (λ k b. h (suc k) (suc-le-suc b)))

-- the walk comes to a segment before which none is refused
module _ (sources : List Source) (l : List Segment) where
  pub walk-to : (k : ℕ) → k ≤ length l → ((j : ℕ) → j < k → FineAt sources l j)
      → Walk sources (nth l) (length l) k (end_before l k)
  unfolding end_before
  walk-to zero b h = walk_start sources (nth l) (length l)
  walk-to (suc k) b h =
      let f = h k (omega arith) in
      rw add-one at (walk-go sources (nth l) (length l) (walk-to k (omega arith) (λ j c. h j (omega arith))) (omega arith)
      (turn_on sources (end_before l k) (nth l k) (record { flagged = f.0; none = f.1; end = refl })))

pub before-zero : (l : List Segment) (k : ℕ) → k ≡ 0 → start ≡ end_before l k
unfolding end_before
before-zero l k e = rw e

pub before-more : (l : List Segment) (k : ℕ) → (k ≡ 0 → ⊥) → ends (nth l (k - 1)) ≡ end_before l k
unfolding end_before
before-more l k h = let e : suc (k - 1) ≡ k = omega arith in ap (end_before l) e

-- refusals 1 to 8 didn't come: the table isn't malformed
front-free : (log : Bool) (text : List ℕ) (sources : List Source) (bad : Bool) (n : ℕ)
    → front_refusal log text sources bad n ≡ Ok tt → bad ≡ false
unfolding front_refusal
front-free log text sources bad n e = (if-ok bad _ _ tt e).0

module _ (t : Table) where
  -- none of 1 to 8 refuses
  pub fine-front : front_of t ≡ Ok tt → FineFront t
  unfolding malformed
  fine-front h =
      let b = front-free t.log t.text t.sources (malformed t) (length t.segments) h in
      let q = or_parts (t.uneven || list_any (bad_source (length t.text)) t.sources) (list_any bad_segment t.segments) b in
      record {
        words = (or_parts t.uneven (list_any (bad_source (length t.text)) t.sources) q.0).1;
        none = sym (ap (λ (x : Bool). front_refusal t.log t.text t.sources x (length t.segments)) b) ∙ h;
      }

  -- Malformed refuses lengths
  pub check-uneven : t.uneven ≡ true → refused reason.Malformed 0 ≡ check_of t
  unfolding malformed front_refusal
  check-uneven e = check-stops t (rw e)

  -- refusals 1 to 8 decide
  pub check-refused : {r : Refusal} → front_of t ≡ Err r → Err r ≡ check_of t
  check-refused h = check-stops t h

  -- they refuse nothing, but 1 of segments may
  module _ (e : t.uneven ≡ false) (f : FineFront t) where
    fine : front_of t ≡ front_refusal t.log t.text t.sources (list_any bad_segment t.segments) (length t.segments)
    unfolding malformed
    fine = rw (e, f.words)

    pub check-accepted : {n : ℕ} → FineSegments t.sources t.segments n → Ok n ≡ check_of t
    check-accepted g = g.frames ∙ check-goes t (fine ∙ rw g.flags f.none)

    -- Malformed refuses a flag
    pub check-flagged : list_any bad_segment t.segments ≡ true → refused reason.Malformed 0 ≡ check_of t
    unfolding front_refusal
    check-flagged b = check-refused (fine ∙ rw b)

    -- what refuses the segment at which the walk stopped
    pub check-at : {k : ℕ} {why : Reason} → Stopped t.sources t.segments k → list_any bad_segment t.segments ≡ false
        → turn_of t.sources (end_before t.segments k) (segment t k) ≡ Err why → refused why k ≡ check_of t
    check-at s b h =
        walk-stop _ _ _ (walk-to _ _ _ (omega (arith, s.inside)) s.before) s.inside h
        ∙ ap (walked t.sources) (segments-run _ refl) ∙ check-goes t (fine ∙ rw b f.none)

-- what the loops over sources and segments take from a turn
pub ruleset loops = (sources-whole, segments-whole, any-turn, any-hit, any-end, first-turn, first-hit, first-end)

-- a segment's source is there or not; it is the first or not
pub ruleset turns = (turn-none, turn-some)

pub ruleset ends_before = (before-zero, before-more)

-- what the check's steps answer, and what refuses where the walk stopped
pub ruleset checks = (check-uneven, check-refused, check-accepted)

pub ruleset stops = (check-flagged, check-at)
