-- The rows of all cuts: counted cut by cut, and written one cut after the other over what is lent. Assumes nothing.
use Prim.Native.Nat.{ℕ, ◌+◌, ◌-◌, ◌*◌, ◌/◌, ◌≤◌, ◌<◌}
use Rattle.std.proofs.lemmas.List.{get_or-map}
use Rattle.std.proofs.lemmas.List.FromFn.{length-map-range_with_len, get_or-map-range_with_len}
use Rattle.slices.proofs.Ranges.{run, run-cons, run-nil}
use native.Mathlib.Nat.{le-div_iff_mul-le}
use native.Mathlib.Omega.{arith}
use mathlib.Core.Bool.{true, false}
use mathlib.Core.List.{List, [], ◌∷◌, ◌++◌, map, append_assoc}
use mathlib.Core.Path.{◌≡◌, sym, ◌∙◌, ap, refl}
use lib.IntN.{ℤ}
use lib.Dec.{leb}
use lib.ListN.{length, get_or, take, drop, length-append, length-map, length-drop}
use borrow.Author.Tests.{le-leb, lt-leb}
use Rattle.conditions.proofs.Tests.{same-leb}
use Rattle.slices.specs.Slices.{laid}
use Rattle.slices.proofs.Laid.{laid-laid}
use Rattle.slices.proofs.Parts.{from}
use Rattle.rows.specs.declared.Row.{Row}
use Rattle.rows.specs.Rows.{cut}
use Rattle.rows.specs.Lent.{row_at, rows, words_of, shifts_of}
use Rattle.rows.proofs.Demanded.{demanded}
use Rattle.rows.proofs.Flat.{words_append, shifts-append, length-words, length-shifts}
use Rattle.maps.specs.Spans.{Room}
use Rattle.maps.proofs.Chains.{some-rows}
use Rattle.maps.proofs.Spans.{span-length}
use Rattle.maps.proofs.Written.{Written, rows_all, words-length, shifts-length}
use Rattle.maps.specs.declared.Range.{Range}
use Rattle.cuts.proofs.Refused.{range-inside}
use Rattle.cuts.specs.Answers.{range_at, ranges_of, cuts_of, concat}

-- the rows of the cuts from range k on, of n ranges
abbrev pub rest : List Row → (ℕ → Range) → ℕ → ℕ → List Row
rest m f k n = concat (cuts_of m (run f k (n - k)))

module _ (m : List Row) (f : ℕ → Range) (k n : ℕ) where
  pub rest-next : k < n → rest m f k n ≡ cut (f k).from (f k).to m ++ rest m f (k + 1) n
  unfolding concat cuts_of
  rest-next h = ap (λ (l : List Range). concat (cuts_of m l)) (run-cons f k n h)

  pub rest-none : n ≤ k → rest m f k n ≡ []
  unfolding concat cuts_of
  rest-none h = ap (λ (l : List Range). concat (cuts_of m l)) (run-nil f k n h)

  -- counting: a cut's rows are taken off the room that is left
  module _ (left c : ℕ) (e : length (cut (f k).from (f k).to m) ≡ c) (h : k < n) where
    long : length (rest m f k n) ≡ c + length (rest m f (k + 1) n)
    long = ap length (rest-next h) ∙ length-append (cut (f k).from (f k).to m) (rest m f (k + 1) n) ∙ ap (λ (x : ℕ). x + length (rest m f (k + 1) n)) e

    pub count-over : left < c → leb (length (rest m f k n)) left ≡ false
    count-over l = lt-leb (length (rest m f k n)) left (omega (arith, long))

    pub count-on : c ≤ left → leb (length (rest m f (k + 1) n)) (left - c) ≡ leb (length (rest m f k n)) left
    count-on l = same-leb (length (rest m f (k + 1) n)) (left - c) (length (rest m f k n)) left (λ x. omega (arith, long)) (λ x. omega (arith, long))

  pub count-end : (left : ℕ) → n ≤ k → leb (length (rest m f k n)) left ≡ true
  count-end left h = le-leb (length (rest m f k n)) left (omega (arith, ap length (rest-none h)))

-- for the loop that counts
pub ruleset counting = (range-inside, span-length, count-over, count-on, count-end)

-- no cut has more rows than the map
cuts-few : (m : List Row) (l : List Range) → length (concat (cuts_of m l)) ≤ length l * length m
unfolding concat cuts_of
cuts-few m [] = omega arith
cuts-few m (r ∷ l) =
    let e = length-append (cut r.from r.to m) (concat (cuts_of m l)) in
    omega (arith, cuts-few m l, demanded.cut_rows m r.from r.to)

pub plain : (u : List ℕ) (s : List ℤ) (l : List ℕ) (room : ℕ) → 0 < length s → length l / 2 ≤ room / length s
    → true ≡ leb (length (concat (cuts_of (rows u s) (ranges_of l)))) room
plain u s l room some h =
    let n = length-map-range_with_len (range_at l) 0 (length l / 2) in
    let m = length-map-range_with_len (row_at u s) 0 (length s) in
    let e : length (ranges_of l) * length (rows u s) ≡ length l / 2 * length s = λ i. n i * m i in
    sym (le-leb (length (concat (cuts_of (rows u s) (ranges_of l)))) room (omega (arith, cuts-few (rows u s) (ranges_of l), e, (le-div_iff_mul-le {k = length s} {x = length l / 2} {y = room} some).0 h)))

pub ruleset plainly = (plain, some-rows)

-- ---- writing
-- how long a part from n on is
part-long : {A : Type 0} (l : List A) (n : ℕ) → length (take (length l - n) (drop n l)) ≡ length l - n
part-long l n = ap length (from n l) ∙ length-drop n l

-- the rows x are next, and are written over the part from row w on
module _ {C rest₀ : List Row} (x rest : List Row) {ou₀ : List ℕ} {os₀ : List ℤ} {ou : List ℕ} {os : List ℤ} {w : ℕ} (room : Room (length C) ou₀ os₀) (d : Written C rest₀ ou₀ os₀ ou os w) (e : rest₀ ≡ x ++ rest) where
  rows_next : w + (length x + length rest) ≡ length C
  rows_next = let n = ap length e ∙ length-append x rest in omega (arith, rows_all room d)

  pub room_next : (5 * (w + length x) ≤ length ou) × (w + length x ≤ length os)
  room_next = omega (arith, rows_next, words-length room d, shifts-length room d, room.words, room.shifts)

  pub part_room : {k : ℕ} → length x ≡ k
      → Room k (take (length ou - 5 * w) (drop (5 * w) ou)) (take (length os - w) (drop w os))
  part_room z = let r = room_next in record { words = omega (arith, r, part-long ou (5 * w)); shifts = omega (arith, r, part-long os w) }

  pub part-written : {k : ℕ} (ou' : List ℕ) (os' : List ℤ) → length x ≡ k
      → ou' ≡ laid (words_of x) (take (length ou - 5 * w) (drop (5 * w) ou)) → os' ≡ laid (shifts_of x) (take (length os - w) (drop w os))
      → Written C rest ou₀ os₀ (take (5 * w) ou ++ (ou' ++ drop (length ou - 5 * w) (drop (5 * w) ou))) (take w os ++ (os' ++ drop (length os - w) (drop w os))) (w + k)
  part-written {k} ou' os' z p q =
      let n = rows_next in
      let eu = length-words d.done in
      let es = length-shifts d.done in
      let xu = length-words x in
      let xs = length-shifts x in
      let ku : 5 * w ≡ length (words_of d.done) = omega (arith, d.count) in
      let ks : w ≡ length (shifts_of d.done) = omega (arith, d.count) in
      record {
        done = d.done ++ x;
        so_far = append_assoc d.done x rest ∙ ap (λ (l : List Row). d.done ++ l) (sym e) ∙ d.so_far;
        count = length-append d.done x ∙ omega (arith, d.count);
        words = laid-laid (words_of d.done) (words_of x) ou₀ ou ou' (5 * w) d.words ku (omega (arith, room.words)) p ∙ ap (λ (l : List ℕ). laid l ou₀) (sym (words_append d.done x));
        shifts = laid-laid (shifts_of d.done) (shifts_of x) os₀ os os' w d.shifts ks (omega (arith, room.shifts)) q ∙ ap (λ (l : List ℤ). laid l os₀) (sym (shifts-append d.done x));
      }

-- a cut, and its count
pub cut_at : (m : List Row) (f : ℕ → Range) (n k : ℕ) → k < n
    → get_or (cuts_of m (run f 0 n)) k [] ≡ cut (f k).from (f k).to m
unfolding cuts_of
cut_at m f n k h =
    let a = length-map-range_with_len f 0 n in
    let z : 0 + k ≡ k = omega arith in
    get_or-map (λ (r : Range). cut r.from r.to m) (run f 0 n) k (f k) [] (omega arith) ∙ ap (λ (r : Range). cut r.from r.to m) (get_or-map-range_with_len f 0 n k _ (f k) h refl ∙ ap f z)

pub count_at : (m : List Row) (f : ℕ → Range) (n k : ℕ) → k < n
    → get_or (map length (cuts_of m (run f 0 n))) k 0 ≡ length (cut (f k).from (f k).to m)
unfolding cuts_of
count_at m f n k h =
    let a = length-map-range_with_len f 0 n in
    get_or-map length (cuts_of m (run f 0 n)) k [] 0 (omega (arith, length-map (run f 0 n) (λ (r : Range). cut r.from r.to m))) ∙ ap length (cut_at m f n k h)
