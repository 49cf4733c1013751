-- Loops over lent rows: judging, writing rows over what is lent, merging, a turn each. Assumes nothing.
use Rattle.std.proofs.Common.{◌≡◌, ℕ, ◌+◌, ◌-◌, ◌*◌, ◌%◌, ◌^◌, ◌<◌, ◌≤◌, true, false, List, [], ◌∷◌, ◌++◌, length, set, ℤ, sym, refl, ap, ◌∙◌, append_assoc, append-nil, add-one, zero-add, arith, length-append}
use Rattle.std.proofs.lemmas.List.FromFn.{length-map-range_with_len, map-range_with_len_more}
use Rattle.slices.proofs.Ranges.{run, run-cons, run-nil}
use lib.Seq.{sets}
use Rattle.std.specs.Prelude.{Result, Ok}
use Rattle.std.specs.Result.{result_and}
use Rattle.conditions.specs.Conditions.{max_u64}
use Rattle.refusal.specs.declared.Refusal.{Refusal}
use Rattle.refusal.specs.declared.Reason.TheVariants as reason
use Rattle.refusal.specs.Refusals.{refused}
use Rattle.slices.specs.Slices.{laid}
use Rattle.slices.proofs.Laid.{length-laid, set-laid, sets-laid}
use Rattle.rows.specs.declared.Row.{Row}
use Rattle.rows.specs.Rows.{total, ok_row, runs_on, glue, merge_into, merge}
use Rattle.rows.proofs.Merging.{runs_on-true}
use Rattle.rows.proofs.Well.{ok-facts}
use Rattle.rows.specs.Lent.{row_at, rows, row_words, words_of, shifts_of}
use Rattle.rows.proofs.Flat.{words_append, shifts-append, length-words, length-shifts}
use Rattle.maps.specs.Answers.{first_bad}
use Rattle.maps.specs.Spans.{Room}
use Rattle.maps.proofs.Chains.{sound}
use Rattle.maps.proofs.Spans.{row-source, row_out, span-clips}

-- row i as it was read, and the rows after it
read : (f : ℕ → Row) (i n : ℕ) (r : Row) → r ≡ f i → i < n → run f i (n - i) ≡ r ∷ run f (i + 1) (n - (i + 1))
read f i n r e h = run-cons f i n h ∙ ap (λ (x : Row). x ∷ run f (i + 1) (n - (i + 1))) (sym e)

-- judging
module _ (f : ℕ → Row) (p i n : ℕ) where
  module _ (r : Row) (e : r ≡ f i) (h : i < n) where
    pub judge-bad : {A : Type 0} (t : Result A Refusal) → ok_row p r ≡ false
        → result_and (first_bad p i (run f i (n - i))) t ≡ refused reason.BadRows i
    unfolding first_bad
    judge-bad t b = rw (read f i n r e h, b)

    -- the next frame is told by a sum that might have wrapped
    pub judge-ok : ok_row p r ≡ true
        → result_and (first_bad p i (run f i (n - i))) (Ok (p + total (run f i (n - i))))
        ≡ result_and (first_bad ((p + r.count) % 2 ^ 64) (i + 1) (run f (i + 1) (n - (i + 1)))) (Ok ((p + r.count) % 2 ^ 64 + total (run f (i + 1) (n - (i + 1)))))
    unfolding first_bad
    judge-ok b =
        let o = ok-facts p r b in
        let w : (p + r.count) % 2 ^ 64 ≡ p + r.count = omega (arith, o.out, o.last) in
        let g : p + (r.count + total (run f (i + 1) (n - (i + 1)))) ≡ p + r.count + total (run f (i + 1) (n - (i + 1))) = omega arith in
        rw (read f i n r e h, b, w, g, add-one)

  pub judge-end : n ≤ i → result_and (first_bad p i (run f i (n - i))) (Ok (p + total (run f i (n - i)))) ≡ Ok p
  unfolding first_bad
  judge-end h = let g : p + 0 ≡ p = omega arith in rw (run-nil f i n h, g)

-- for the loop
pub ruleset judged = (judge-bad, judge-ok, judge-end)

-- row x is laid after w others
module _ (m : List Row) (x : Row) (w : ℕ) (long : length m ≡ w) where
  words-put : (ou₀ ou : List ℕ) → ou ≡ laid (words_of m) ou₀ → 5 * w + 5 ≤ length ou₀
      → sets ou (5 * w) (row_words x) ≡ laid (words_of (m ++ x ∷ [])) ou₀
  words-put ou₀ ou e h =
      let n = length-words m in
      let k : 5 * w ≡ length (words_of m) = omega (arith, long) in
      ap (λ (l : List ℕ). sets l (5 * w) (row_words x)) e
      ∙ ap (λ (j : ℕ). sets (laid (words_of m) ou₀) j (row_words x)) k
      ∙ sets-laid (row_words x) (words_of m) ou₀ (omega arith)
      ∙ ap (λ (l : List ℕ). laid l ou₀) (sym (words_append m (x ∷ [])))

  shifts-put : (os₀ os : List ℤ) → os ≡ laid (shifts_of m) os₀ → w < length os₀
      → set os w x.shift ≡ laid (shifts_of (m ++ x ∷ [])) os₀
  shifts-put os₀ os e h =
      let n = length-shifts m in
      let k : w ≡ length (shifts_of m) = omega (arith, long) in
      ap (λ (l : List ℤ). set l w x.shift) e
      ∙ ap (λ (j : ℕ). set (laid (shifts_of m) os₀) j x.shift) k
      ∙ set-laid (shifts_of m) os₀ x.shift (omega arith)
      ∙ ap (λ (l : List ℤ). laid l os₀) (sym (shifts-append m (x ∷ [])))

-- rows f 0, f 1, .. are laid one after another
module _ (f : ℕ → Row) (i : ℕ) (x : Row) (e : x ≡ f i) where
  more : run f 0 i ++ x ∷ [] ≡ run f 0 (i + 1)
  more = ap (λ (y : Row). run f 0 i ++ y ∷ []) e ∙ sym (map-range_with_len_more f 0 i i (zero-add i))

  pub words-step : (ou₀ ou ou' : List ℕ) → ou ≡ laid (words_of (run f 0 i)) ou₀ → ou' ≡ sets ou (5 * i) (row_words x)
      → 5 * i + 5 ≤ length ou₀ → ou' ≡ laid (words_of (run f 0 (i + 1))) ou₀
  words-step ou₀ ou ou' d p h =
      p ∙ words-put (run f 0 i) x i (length-map-range_with_len f 0 i) ou₀ ou d h ∙ ap (λ (l : List Row). laid (words_of l) ou₀) more

  pub shifts-step : (os₀ os os' : List ℤ) → os ≡ laid (shifts_of (run f 0 i)) os₀ → os' ≡ set os i x.shift
      → i < length os₀ → os' ≡ laid (shifts_of (run f 0 (i + 1))) os₀
  shifts-step os₀ os os' d p h =
      p ∙ shifts-put (run f 0 i) x i (length-map-range_with_len f 0 i) os₀ os d h ∙ ap (λ (l : List Row). laid (shifts_of l) os₀) more

-- for the loops that write a map's rows, clipped or moved
pub ruleset writing = (sound, span-clips, row_out, words-step, shifts-step)

-- of the rows C, those but rest have been written over what was lent
pub record Written (C rest : List Row) (ou₀ : List ℕ) (os₀ : List ℤ) (ou : List ℕ) (os : List ℤ) (w : ℕ) : Type 0 where
  pub done : List Row
  pub so_far : done ++ rest ≡ C
  pub count : length done ≡ w
  pub words : ou ≡ laid (words_of done) ou₀
  pub shifts : os ≡ laid (shifts_of done) os₀

pub written_none : {C rest : List Row} (ou : List ℕ) (os : List ℤ) → rest ≡ C → Written C rest ou os ou os 0
written_none ou os e = record { done = []; so_far = e; count = refl; words = refl; shifts = refl }

module _ {C rest : List Row} {ou₀ : List ℕ} {os₀ : List ℤ} {ou : List ℕ} {os : List ℤ} {w : ℕ} (room : Room (length C) ou₀ os₀) (d : Written C rest ou₀ os₀ ou os w) where
  -- how many rows there are
  pub rows_all : w + length rest ≡ length C
  rows_all = let e = length-append d.done rest in omega (arith, d.count, ap length d.so_far)

  pub words-length : length ou ≡ length ou₀
  words-length =
      let e = length-words d.done in
      ap length d.words ∙ length-laid (words_of d.done) ou₀ (omega (arith, rows_all, room.words, d.count))

  pub shifts-length : length os ≡ length os₀
  shifts-length =
      let e = length-shifts d.done in
      ap length d.shifts ∙ length-laid (shifts_of d.done) os₀ (omega (arith, rows_all, room.shifts, d.count))

pub written_all : {C rest : List Row} {ou₀ : List ℕ} {os₀ : List ℤ} {ou : List ℕ} {os : List ℤ} {w : ℕ}
    → Written C rest ou₀ os₀ ou os w → rest ≡ []
    → (ou ≡ laid (words_of C) ou₀) × (os ≡ laid (shifts_of C) os₀)
written_all {C} {rest} {ou₀} {os₀} d z =
    let e : d.done ≡ C = sym (append-nil d.done) ∙ ap (λ (x : List Row). d.done ++ x) (sym z) ∙ d.so_far in
    (d.words ∙ ap (λ (x : List Row). laid (words_of x) ou₀) e, d.shifts ∙ ap (λ (x : List Row). laid (shifts_of x) os₀) e)

written-put : {C : List Row} {x : Row} {rest : List Row} {ou₀ : List ℕ} {os₀ : List ℤ} {ou : List ℕ} {os : List ℤ} {w : ℕ}
    → Room (length C) ou₀ os₀ → Written C (x ∷ rest) ou₀ os₀ ou os w
    → Written C rest ou₀ os₀ (sets ou (5 * w) (row_words x)) (set os w x.shift) (w + 1)
written-put {C} {x} {rest} {ou₀} {os₀} {ou} {os} {w} room d =
    let n = rows_all room d in
    record {
      done = d.done ++ x ∷ [];
      so_far = append_assoc d.done (x ∷ []) rest ∙ d.so_far;
      count = length-append d.done (x ∷ []) ∙ omega (arith, d.count);
      words = words-put d.done x w d.count ou₀ ou d.words (omega (arith, room.words));
      shifts = shifts-put d.done x w d.count os₀ os d.shifts (omega (arith, room.shifts));
    }

-- the next row has room, and is stored
module _ {C rest₀ rest : List Row} {y : Row} {ou₀ : List ℕ} {os₀ : List ℤ} {ou : List ℕ} {os : List ℤ} {w : ℕ} (room : Room (length C) ou₀ os₀) (d : Written C rest₀ ou₀ os₀ ou os w) (e : rest₀ ≡ y ∷ rest) where
  pub put-room : (5 * w + 5 ≤ length ou) × (w < length os)
  put-room = omega (arith, ap length e, rows_all room d, words-length room d, shifts-length room d, room.words, room.shifts)

  pub put_step : (ou' : List ℕ) (os' : List ℤ) → ou' ≡ sets ou (5 * w) (row_words y) → os' ≡ set os w y.shift
      → Written C rest ou₀ os₀ ou' os' (w + 1)
  put_step ou' os' eu es = rw (eu, es) (written-put room (rw e at d))

-- merging: c is the row that grows, and r row i as it was read
pub merge-start : (u : List ℕ) (s : List ℤ) (r : Row) → r ≡ row_at u s 0 → 0 < length s
    → merge_into r (run (row_at u s) 1 (length s - 1)) ≡ merge (rows u s)
merge-start u s r e h = let g : length s - 0 ≡ length s = omega arith in ap merge (sym (read (row_at u s) 0 (length s) r e h) ∙ ap (run (row_at u s) 0) g)

module _ (f : ℕ → Row) (i n : ℕ) (c : Row) where
  module _ (r : Row) (e : r ≡ f i) (h : i < n) where
    pub merge-glues : runs_on c r ≡ true
        → merge_into c (run f i (n - i)) ≡ merge_into (glue c r) (run f (i + 1) (n - (i + 1)))
    merge-glues b = rw (read f i n r e h, b)

    pub merge-parts : runs_on c r ≡ false
        → merge_into c (run f i (n - i)) ≡ c ∷ merge_into r (run f (i + 1) (n - (i + 1)))
    merge-parts b = rw (read f i n r e h, b)

  pub merge-end : n ≤ i → merge_into c (run f i (n - i)) ≡ c ∷ []
  merge-end h = rw (run-nil f i n h)

-- row c with row r after it still fits
pub glue-fits : (c r : Row) → runs_on c r ≡ true → r.first + r.count ≤ max_u64
    → (c.count + r.count ≤ max_u64) × (c.first + (c.count + r.count) ≤ max_u64)
glue-fits c r b h = let o = runs_on-true c r b in omega (arith, o.first)

-- for the loops that merge
pub ruleset merging = (sound, row-source, merge-start, merge-glues, merge-parts, merge-end, glue-fits)
