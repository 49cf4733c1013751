-- Of segments each of which begins where the one before it ends, the last that has begun, or the first, is the one that
-- is looked up: as many have ended as come before it, or it is the last. So for frames and for times. Assumes nothing.
use Prim.Native.Nat.{ℕ, suc, ◌+◌, ◌-◌, ◌≤◌, ◌<◌}
use native.Mathlib.Omega.{arith}
use mathlib.Core.Path.{◌≡◌, sym, ap, ◌∙◌}
use mathlib.Core.Bool.{Bool, true, false}
use mathlib.Core.List.{List}
use mathlib.Core.Logic.{⊎_elim}
use lib.Dec.{leb}
use lib.IntN.{ℤ, pos}
use lib.ListN.{length}
use lib.Signed.{le_z, ◌≤ℤ◌}
use Rattle.std.proofs.lemmas.Int.{ints}
use Rattle.conditions.proofs.Tests.{decide, tf, le-or-lt}
use Rattle.slices.proofs.Counts.{count-split}
use Rattle.rows.specs.Halving.{LastThat}
use Rattle.rules.specs.declared.Segment.{Segment}
use Rattle.rules.specs.Records.{Table, no_segment, nth, segment, out_end}
use Rattle.rules.specs.Lookups.{ended, over_by, over_by_us}
use Rattle.rules.specs.Walks.{Ordered}
use Rattle.lookup.proofs.Searchable.{Chained, Timed, start_us, end_us}

-- which have begun, and which have ended: one that isn't the first begins as the one before it ends, and those that
-- have ended come first
pub record InTurn (has : ℕ → Bool) (over : Segment → Bool) (l : List Segment) : Type 0 where
  pub next : (k : ℕ) → k + 1 < length l → has (k + 1) ≡ over (nth l k)
  pub ended-first : (i j : ℕ) → i ≤ j → j < length l → over (nth l j) ≡ true → over (nth l i) ≡ true

module _ {has : ℕ → Bool} {over : Segment → Bool} {l : List Segment} (o : InTurn has over l) where
  -- those before one that has begun have ended
  before : (r : ℕ) → r < length l → (0 < r → has r ≡ true) → (k : ℕ) → k < r → over (nth l k) ≡ true
  before r b e k h =
      let z : r - 1 + 1 ≡ r = omega arith in
      o.ended-first k (r - 1) (omega arith) (omega arith) (sym (o.next (r - 1) (omega arith)) ∙ rw z (e (omega arith)))

  -- those from one that has not ended on have not
  after : (r : ℕ) → over (nth l r) ≡ false → (k : ℕ) → r ≤ k → k < length l → over (nth l k) ≡ false
  after r e k h b = decide (over (nth l k)) (λ t. tf (sym (o.ended-first r k h b t) ∙ e)) (λ f. f)

  -- the last that has begun is the one that is looked up
  pub last-ended : {gives : ℕ → Bool → Type 0} {r : ℕ} → LastThat gives (length l) r
      → ((k : ℕ) (b : Bool) → k < length l → gives k b → b ≡ has k) → r ≡ ended over l
  unfolding ended
  last-ended {gives} {r} h says =
      decide (over (nth l r))
      (λ t.
      let w : length l ≡ r + 1 =
      ⊎_elim (λ (y : length l ≤ r + 1). omega (arith, h.within))
      (λ (y : r + 1 < length l). tf (sym t ∙ sym (o.next r y) ∙ sym (says (r + 1) false y (h.high y))))
      (le-or-lt (length l) (r + 1)) in
      let c = count-split over l no_segment (length l) (omega arith) (λ k b. o.ended-first k r (omega arith) h.within t) (λ k b d. absurd (omega arith)) in
      omega arith)
      (λ f.
      let c = count-split over l no_segment r (omega (arith, h.within)) (before r h.within (λ z. sym (says r true h.within (h.low z)))) (after r f) in
      omega (arith, h.within))

module _ {t : Table} where
  pub frames-in-turn : Chained t → (frame : ℕ)
      → InTurn (λ k. leb (segment t k).words.out frame) (over_by frame) t.segments
  frames-in-turn o frame = record {
    next = λ k b. ap (λ (x : ℕ). leb x frame) (o.chained k b);
    ended-first = λ i j h b e. let r = o.ends.rising i j h b in grind arith;
  }

  pub times-in-turn : Timed t → (time : ℤ)
      → InTurn (λ k. le_z (segment t k).stamps.out_start time) (over_by_us time) t.segments
  times-in-turn o time = record {
    next = λ k b. ap (λ (x : ℤ). le_z x time) (o.plain (k + 1) b ∙ ap pos (o.chained k b) ∙ sym (o.sum k (omega arith)));
    ended-first = λ i j h b e. let x = o.sum i (omega arith) in let y = o.sum j b in let r = o.ends.rising i j h b in grind (arith, ints);
  }

-- b is where they begin, e where they end
rise : (b e : ℕ → ℕ) {n top : ℕ} → Ordered e n top → ((k : ℕ) → k + 1 < n → b (k + 1) ≡ e k) → ((k : ℕ) → b k ≤ e k)
    → (i j : ℕ) → i ≤ j → j < n → b i ≤ b j
rise b e o c f i j h l =
    ⊎_elim
    (λ (z : suc i ≤ j).
    let y : j - 1 + 1 ≡ j = omega arith in
    omega (arith, ap b y, c (j - 1) (omega arith), f i, o.rising i (j - 1) (omega arith) (omega arith)))
    (λ (z : j < suc i). let y : j ≡ i = omega arith in omega (arith, ap b y))
    (le-or-lt (suc i) j)

module _ (t : Table) where
  pub outs-rise : Chained t → (i j : ℕ) → i ≤ j → j < length t.segments
      → (segment t i).words.out ≤ (segment t j).words.out
  outs-rise o = rise (λ k. (segment t k).words.out) (λ k. out_end (segment t k)) o.ends o.chained (λ k. omega arith)

  pub starts_rise : Timed t → (i j : ℕ) → i ≤ j → j < length t.segments
      → (segment t i).stamps.out_start ≤ℤ (segment t j).stamps.out_start
  starts_rise o i j h b =
      let x = o.plain i (omega arith) in
      let y = o.plain j b in
      let z = rise (λ k. start_us (segment t k)) (λ k. end_us (segment t k)) o.ends o.chained (λ k. omega arith) i j h b in
      omega (arith, ints)
