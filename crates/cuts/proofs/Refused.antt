-- The refusals of the cuts: what it says that a range, all ranges, or the whole chain isn't refused, and what each test
-- of the chain gives. Assumes nothing.
use Prim.Native.Nat.{ℕ, ◌*◌, ◌/◌, ◌%◌, ◌≤◌, ◌<◌}
use Rattle.std.proofs.lemmas.Bool.{and_parts}
use Rattle.std.proofs.lemmas.List.FromFn.{length-map-range_with_len, get_or-map-range_with_len}
use native.Mathlib.Nat.{zero-add}
use native.Mathlib.Omega.{arith}
use mathlib.Core.Bool.{true, false, ◌&&◌}
use mathlib.Core.List.{List}
use mathlib.Core.Path.{◌≡◌, sym, ◌∙◌, ap, refl}
use lib.IntN.{ℤ}
use lib.Dec.{ltb, leb, eqb}
use lib.ListN.{length, get_or, length-map}
use borrow.Author.Tests.{le-ltb, le-leb, lt-leb, eq-eqb, ne_eqb, ltb-false, leb-true, leb-false, eqb-true, eqb-false, not-false}
use Rattle.std.specs.Prelude.{Ok, Err}
use Rattle.std.proofs.Math.Bool.{and-true}
use Rattle.conditions.proofs.Tests.{decide, and-false, tests}
use Rattle.refusal.specs.declared.Reason.TheVariants as reason
use Rattle.refusal.specs.Refusals.{refused, first_refused}
use Rattle.refusal.proofs.Chains.{if-ok, and-ok}
use Rattle.refusal.proofs.First.{none-refused, refuses-none, first-refused, first-turn, first-hit, first-end}
use Rattle.rows.specs.declared.Row.{Row}
use Rattle.rows.specs.Rows.{total}
use Rattle.rows.specs.Lent.{rows}
use Rattle.maps.specs.Answers.{most_rows}
use Rattle.maps.specs.Spans.{Sound}
use Rattle.maps.proofs.Chains.{sound, sound-map}
use Rattle.maps.specs.declared.Range.{Range}
use Rattle.cuts.specs.Answers.{Inside, range_at, ranges_of, cuts_of, concat, range_refusal, ranges_refusal, cuts_fit, room_of, cuts_refusal}

-- ---- 50
inside : (t : ℕ) (r : Range) → range_refusal t r ≡ Ok tt → Inside t r
inside t r e =
    let o = if-ok _ _ _ tt e in
    let p = if-ok _ _ _ tt o.1 in
    record { some = leb-false r.to r.from o.0; within = ltb-false t r.to p.0 }

outside : (t : ℕ) (r : Range) → (Inside t r → ⊥) → range_refusal t r ≡ Err reason.BadRange
outside t r q =
    decide (leb r.to r.from) (λ x. rw x)
    (λ x. decide (ltb t r.to) (λ y. rw (x, y)) (λ y. absurd (q (record { some = leb-false r.to r.from x; within = ltb-false t r.to y }))))

accepted : (t : ℕ) (r : Range) → Inside t r → range_refusal t r ≡ Ok tt
accepted t r i = rw (lt-leb r.to r.from i.some, le-ltb t r.to i.within)

-- what stands past the end of a list of ranges, which no answer rests on
no_range : Range
no_range = record { from = 0; to = 0 }

-- all ranges
odd-rest : (n : ℕ) → eqb (n % 2) 1 ≡ false → n % 2 ≡ 0
odd-rest n e = decide (eqb (n % 2) 0) (λ z. eqb-true (n % 2) 0 z) (λ z. let a = eqb-false (n % 2) 1 e in let b = eqb-false (n % 2) 0 z in absurd (omega arith))

module _ (t : ℕ) (l : List ℕ) where
  read : (k : ℕ) → k < length l / 2 → get_or (ranges_of l) k no_range ≡ range_at l k
  read k h = get_or-map-range_with_len (range_at l) 0 (length l / 2) k _ no_range h refl ∙ ap (range_at l) (zero-add k)

  all_read : length (ranges_of l) ≡ length l / 2
  all_read = length-map-range_with_len (range_at l) 0 (length l / 2)

  pub ranges-odd : length l % 2 ≡ 1 → ranges_refusal t l ≡ refused reason.BadRange (length l / 2)
  ranges-odd e = rw (eq-eqb (length l % 2) 1 e)

  ranges-even : (length l % 2 ≡ 1 → ⊥) → ranges_refusal t l ≡ first_refused (range_refusal t) 0 (ranges_of l)
  ranges-even h = rw (ne_eqb (length l % 2) 1 h)

  pub ranges-unrefused : ranges_refusal t l ≡ Ok tt
      → (length l % 2 ≡ 0) × ((k : ℕ) → k < length l / 2 → Inside t (range_at l k))
  ranges-unrefused e =
      let o = if-ok _ _ _ tt e in (
        odd-rest (length l) o.0,
        λ k h. inside t (range_at l k) (rw (read k h) at (none-refused (range_refusal t) 0 (ranges_of l) no_range o.1 k (omega (arith, all_read)))),
      )

  -- a range of them, as it was read
  pub range-inside : ranges_refusal t l ≡ Ok tt → (k : ℕ) → k < length l / 2 → (r : Range) → r ≡ range_at l k
      → (r.from < r.to) × (r.to ≤ t)
  range-inside e k h r q = let i = (ranges-unrefused e).1 k h in rw q (i.some, i.within)

  pub ranges-accepted : length l % 2 ≡ 0 → ((k : ℕ) → k < length l / 2 → Inside t (range_at l k))
      → ranges_refusal t l ≡ Ok tt
  ranges-accepted e h =
      ranges-even (λ z. omega arith)
      ∙ refuses-none (range_refusal t) 0 (ranges_of l) no_range
      (λ k b. let c : k < length l / 2 = omega (arith, all_read) in rw (read k c) (accepted t (range_at l k) (h k c)))

  -- the first that leaves the map, or is empty
  pub ranges-first : (k : ℕ) → length l % 2 ≡ 0 → k < length l / 2 → ((j : ℕ) → j < k → Inside t (range_at l j))
      → (Inside t (range_at l k) → ⊥)
      → ranges_refusal t l ≡ refused reason.BadRange k
  ranges-first k e h p q =
      ranges-even (λ x. omega arith)
      ∙ first-refused (range_refusal t) 0 (ranges_of l) no_range k reason.BadRange (omega (arith, all_read))
      (λ j b. rw (read j (omega arith)) (accepted t (range_at l j) (p j b)))
      (rw (read k h) (outside t (range_at l k) q))
      ∙ ap (refused reason.BadRange) (zero-add k)

-- for the loop over ranges that were tested
pub ruleset within = (range-inside)

-- for the loop over the ranges
pub ruleset ranged = (first-turn, first-hit, first-end, tests)

-- ---- 52 of the room
-- room for n rows in words and shifts is room in rows
room-rows : (n nu ns : ℕ) → leb (5 * n) nu && leb n ns ≡ leb n (room_of nu ns)
room-rows n nu ns =
    decide (leb (5 * n) nu)
    (λ p.
    decide (leb n ns) (λ q. let a = leb-true (5 * n) nu p in let b = leb-true n ns q in rw (p, q) (sym (le-leb n (room_of nu ns) (omega arith))))
    (λ q. let b = leb-false n ns q in rw (p, q) (sym (lt-leb n (room_of nu ns) (omega arith)))))
    (λ p. let a = leb-false (5 * n) nu p in rw p (sym (lt-leb n (room_of nu ns) (omega arith))))

pub length-cuts : (m : List Row) (l : List ℕ) → length (cuts_of m (ranges_of l)) ≡ length l / 2
unfolding cuts_of
length-cuts m l = length-map (ranges_of l) _ ∙ length-map-range_with_len (range_at l) 0 (length l / 2)

-- ---- the chain
module _ (u : List ℕ) (s : List ℤ) (ranges : List ℕ) (nu ns nc : ℕ) where
  abbrev all : List (List Row)
  all = cuts_of (rows u s) (ranges_of ranges)

  -- no room for the counts
  pub counts-over : nc < length ranges / 2 → cuts_fit all nu ns nc ≡ false
  counts-over h =
      rw (lt-leb (length all) nc (omega (arith, length-cuts (rows u s) ranges)), and-false (leb (5 * length (concat all)) nu && leb (length (concat all)) ns))

  -- room for the counts, so that the rows alone are asked for
  pub rows-asked : length ranges / 2 ≤ nc → cuts_fit all nu ns nc ≡ leb (length (concat all)) (room_of nu ns)
  rows-asked h =
      rw (le-leb (length all) nc (omega (arith, length-cuts (rows u s) ranges)), room-rows (length (concat all)) nu ns, and-true)

  pub fit-facts : cuts_fit all nu ns nc ≡ true
      → (5 * length (concat all) ≤ nu) × (length (concat all) ≤ ns) × (length ranges / 2 ≤ nc)
  fit-facts e =
      let n = length (concat all) in
      let f = (and_parts (leb (5 * n) nu && leb n ns) (leb (length all) nc) e).0 in
      let c = leb-true (length all) nc (and_parts (leb (5 * n) nu && leb n ns) (leb (length all) nc) e).1 in (
        leb-true (5 * n) nu (and_parts (leb (5 * n) nu) (leb n ns) f).0,
        leb-true n ns (and_parts (leb (5 * n) nu) (leb n ns) f).1,
        omega (arith, length-cuts (rows u s) ranges),
      )

-- ---- cuts that aren't refused
pub record Cuttable (u : List ℕ) (s : List ℤ) (ranges : List ℕ) (nu ns nc : ℕ) : Type 0 where
  pub sound : Sound u s
  pub inside : (k : ℕ) → k < length ranges / 2 → Inside (total (rows u s)) (range_at ranges k)
  pub few : length s ≤ most_rows
  pub even : length ranges % 2 ≡ 0
  pub words : 5 * length (concat (cuts_of (rows u s) (ranges_of ranges))) ≤ nu
  pub shifts : length (concat (cuts_of (rows u s) (ranges_of ranges))) ≤ ns
  pub counts : length ranges / 2 ≤ nc

pub cuts-unrefused : (u : List ℕ) (s : List ℤ) (ranges : List ℕ) (nu ns nc : ℕ)
    → cuts_refusal u s ranges nu ns nc ≡ Ok tt → Cuttable u s ranges nu ns nc
cuts-unrefused u s ranges nu ns nc e =
    let e₀ = and-ok _ _ tt e in
    let e₁ = if-ok _ _ _ tt e₀.1 in
    let e₂ = and-ok _ _ tt e₁.1 in
    let r = ranges-unrefused (total (rows u s)) ranges e₂.0 in
    let f = fit-facts u s ranges nu ns nc (not-false (cuts_fit (cuts_of (rows u s) (ranges_of ranges)) nu ns nc) (if-ok _ _ _ tt e₂.1).0) in
    record {
      sound = sound u s e₀.0;
      inside = r.1;
      few = ltb-false most_rows (length s) e₁.0;
      even = r.0;
      words = f.0;
      shifts = f.1;
      counts = f.2;
    }

pub cuts-accepted : (u : List ℕ) (s : List ℤ) (ranges : List ℕ) (nu ns nc : ℕ) → Cuttable u s ranges nu ns nc
    → cuts_refusal u s ranges nu ns nc ≡ Ok tt
cuts-accepted u s ranges nu ns nc o =
    rw (
      sound-map u s o.sound,
      le-ltb most_rows (length s) o.few,
      ranges-accepted (total (rows u s)) ranges o.even o.inside,
      le-leb (5 * length (concat (cuts_of (rows u s) (ranges_of ranges)))) nu o.words,
      le-leb (length (concat (cuts_of (rows u s) (ranges_of ranges)))) ns o.shifts,
      le-leb (length (cuts_of (rows u s) (ranges_of ranges))) nc (omega (arith, length-cuts (rows u s) ranges, o.counts)),
    )

-- for the tests one after another, and what was tested
pub ruleset refusing = (counts-over, rows-asked, cuts-unrefused, tests)
