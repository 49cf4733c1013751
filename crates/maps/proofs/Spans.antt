-- Runs of rows: where each row of a sound map lies, the row that holds a frame, and the rows that a cut takes. Assumes
-- nothing.
use Rattle.std.proofs.Common.{◌≡◌, ℕ, zero, suc, ◌+◌, ◌-◌, ◌<◌, ◌≤◌, min, max, true, false, List, [], ◌∷◌, ◌++◌, length, get_or, ℤ, sym, refl, ap, ◌∙◌, subst, ⊎_elim, append-nil, le_of_suc-le-suc, not-suc-le-zero, add-zero, arith, ltb-true, le-ltb, lt-ltb}
use Rattle.std.proofs.lemmas.List.FromFn.{length-map-range_with_len, get_or-map-range_with_len, map-range_with_len_more}
use Rattle.slices.proofs.Ranges.{run}
use Rattle.conditions.proofs.Tests.{le-or-lt, Test, was, wasnt, test}
use Rattle.rows.specs.declared.Row.{Row}
use Rattle.rows.specs.declared.Origin.{Origin}
use Rattle.rows.specs.Rows.{row_end, total, WellFrom, WellFormed, holds, origin_in, origin, overlaps, clip, cut}
use Rattle.rows.specs.Demands.{no_row}
use Rattle.rows.proofs.Origins.{holds-in, holds-lo, holds-hi}
use Rattle.rows.proofs.Demanded.{demanded}
use Rattle.rows.proofs.Joining.{append-total}
use Rattle.rows.proofs.Well.{OkRow, ok-facts}
use Rattle.std.specs.Prelude.{Ok, Some}
use Rattle.std.specs.Result.{result_and}
use Rattle.conditions.specs.Conditions.{max_u64}
use Rattle.rows.specs.Lent.{row_at, rows}
use Rattle.rows.specs.Begun.{out_at, OutsRise, LastBegun}
use Rattle.maps.specs.Answers.{origin_refusal, traced_as}
use Rattle.maps.specs.Spans.{Sound, Room, Holder, Span}
use Rattle.maps.proofs.Chains.{Cuttable}

module _ (f : ℕ → Row) where
  -- where row n begins
  abbrev start : ℕ → ℕ
  start n = total (run f 0 n)

  start-next : (n : ℕ) → start (suc n) ≡ start n + (f n).count
  start-next n =
      let e : suc n ≡ n + 1 = omega arith in
      ap start e ∙ ap total (map-range_with_len_more f 0 n n (omega arith)) ∙ append-total (run f 0 n) (f n ∷ []) ∙ omega arith

  start-adds : (i d : ℕ) → start i ≤ start (i + d)
  start-adds i zero = rw add-zero (omega arith)
  start-adds i (suc d) = let e : i + suc d ≡ suc (i + d) = omega arith in rw e (omega (arith, start-next (i + d), start-adds i d))

  start-rises : (i j : ℕ) → i ≤ j → start i ≤ start j
  start-rises i j h = subst (λ (k : ℕ). start i ≤ start k) (omega arith) (start-adds i (j - i))

  ok_from : (n i p k : ℕ) → WellFrom p (run f i n) → k < n → OkRow (p + total (run f i k)) (f (i + k))
  ok_from zero i p k w h = absurd (not-suc-le-zero h)
  ok_from (suc n) i p zero w h =
      let e : p ≡ p + 0 = omega arith in
      let g : i ≡ i + 0 = omega arith in
      subst (λ (x : ℕ). OkRow x (f (i + 0))) e (subst (λ (x : ℕ). OkRow p (f x)) g (ok-facts p (f i) w.0))
  ok_from (suc n) i p (suc k) w h =
      let e : p + (f i).count + total (run f (i + 1) k) ≡ p + ((f i).count + total (run f (i + 1) k)) = omega arith in
      let g : i + 1 + k ≡ i + suc k = omega arith in
      subst (λ (x : ℕ). OkRow x (f (i + suc k))) e (subst (λ (x : ℕ). OkRow (p + (f i).count + total (run f (i + 1) k)) (f x)) g (ok_from n (i + 1) (p + (f i).count) k w.1 (le_of_suc-le-suc h)))

  -- where a row of a well-formed map lies
  pub record Lies (k : ℕ) : Type 0 where
    pub begins : (f k).out ≡ start k
    pub ends : row_end (f k) ≡ start (suc k)
    pub some : 0 < (f k).count
    pub last : row_end (f k) ≤ max_u64
    pub source : (f k).first + (f k).count ≤ max_u64

  lies : (n k : ℕ) → WellFormed (run f 0 n) → k < n → Lies k
  lies n k w h =
      let e : 0 + k ≡ k = omega arith in
      let o : OkRow (0 + start k) (f k) = subst (λ (x : ℕ). OkRow (0 + start k) (f x)) e (ok_from n 0 0 k w h) in
      let z = start-next k in
      record { begins = omega (arith, o.out); ends = omega (arith, o.out); some = o.some; last = o.last; source = o.source }

  pub run-append : (n m i : ℕ) → run f i (n + m) ≡ run f i n ++ run f (i + n) m
  run-append zero m i =
      let e : 0 + m ≡ m = omega arith in
      let g : i ≡ i + 0 = omega arith in
      rw e (ap (λ (j : ℕ). run f j m) g)
  run-append (suc n) m i =
      let e : suc n + m ≡ suc (n + m) = omega arith in
      let g : i + 1 + n ≡ i + suc n = omega arith in
      rw e (ap (λ (l : List Row). f i ∷ l) (run-append n m (i + 1) ∙ ap (λ (j : ℕ). run f (i + 1) n ++ run f j m) g))

  module _ (a b : ℕ) where
    cut-none-run : (n i : ℕ) → ((j : ℕ) → i ≤ j → j < i + n → overlaps a b (f j) ≡ false) → cut a b (run f i n) ≡ []
    cut-none-run zero i h = refl
    cut-none-run (suc n) i h = rw (h i (omega arith) (omega arith)) (cut-none-run n (i + 1) (λ j l u. h j (omega arith) (omega arith)))

    cut-all-run : (n i x : ℕ) → ((j : ℕ) → x ≤ j → j < x + n → overlaps a b (f (i + j)) ≡ true)
        → cut a b (run f (i + x) n) ≡ run (λ j. clip a b (f (i + j))) x n
    cut-all-run zero i x h = refl
    cut-all-run (suc n) i x h =
        let e : i + x + 1 ≡ i + (x + 1) = omega arith in
        rw (h x (omega arith) (omega arith), e, cut-all-run n i (x + 1) (λ j l u. h j (omega arith) (omega arith)))

-- a cut of two parts is the cuts of both
cut-append : (x y : List Row) (a b : ℕ) → cut a b (x ++ y) ≡ cut a b x ++ cut a b y
cut-append [] y a b = refl
cut-append (r ∷ x) y a b = go (test (overlaps a b r)) (cut-append x y a b)
  where
    go : Test (overlaps a b r) → cut a b (x ++ y) ≡ cut a b x ++ cut a b y
        → cut a b (r ∷ x ++ y) ≡ cut a b (r ∷ x) ++ cut a b y
    go (was e) ih = rw (e, ih)
    go (wasnt e) ih = rw (e, ih)

module _ {u : List ℕ} {s : List ℤ} (m : Sound u s) where
  pub row_lies : (k : ℕ) → k < length s → Lies (row_at u s) k
  row_lies k h = lies (row_at u s) (length s) k m.well h

  -- the row's sums fit
  pub row-end : (k : ℕ) (r : Row) → r ≡ row_at u s k → k < length s → row_end r ≤ max_u64
  row-end k r e h = let l = row_lies k h in omega (arith, ap row_end e, l.last)

  pub row-source : (k : ℕ) (r : Row) → r ≡ row_at u s k → k < length s → r.first + r.count ≤ max_u64
  row-source k r e h = let l = row_lies k h in let z : r.first + r.count ≡ (row_at u s k).first + (row_at u s k).count = ap (λ (x : Row). x.first + x.count) e in omega (arith, l.source)

  -- the search for a row that holds a frame: rows begin one after another, the first at 0
  pub outs-rise : OutsRise u (length s)
  outs-rise = record {
    some = m.some;
    sizes = omega (arith, m.sizes);
    rising = λ i j h l. let p = row_lies i (omega arith) in let q = row_lies j l in omega (arith, p.begins, q.begins, start-rises (row_at u s) i j h);
  }

  pub from_zero : (k : ℕ) → out_at u 0 ≤ k
  from_zero k = let l = row_lies 0 m.some in omega (arith, l.begins)

  -- the last that begins at or before a frame of the map holds it
  pub last-holds : {k i : ℕ} → LastBegun u (length s) k i → k < total (rows u s) → Holder u s k i
  last-holds {k} {i} b t =
      let lies = row_lies i b.within in
      record {
        within = b.within;
        low = b.low;
        high = ⊎_elim
            (λ (z : length s ≤ suc i). let g : suc i ≡ length s = omega (arith, b.within) in omega (arith, lies.ends, ap (λ (n : ℕ). total (run (row_at u s) 0 n)) g))
            (λ (z : suc i < length s). let l = row_lies (suc i) z in let e : i + 1 ≡ suc i = omega arith in let w : k < (row_at u s (suc i)).out = subst (λ (n : ℕ). k < out_at u n) e (b.high (omega arith)) in omega (arith, lies.ends, l.begins))
            (le-or-lt (length s) (suc i));
      }

  -- the rows that a cut takes: from the one that holds a to the one that holds b - 1
  module _ (a b i j : ℕ) (h : a < b) (x : Holder u s a i) (y : Holder u s (b - 1) j) where
    pub holders-rise : i ≤ j
    holders-rise =
        ⊎_elim (λ (l : i ≤ j). l)
        (λ (l : j < i).
        let p = row_lies i x.within in
        let q = row_lies j y.within in
        absurd (omega (arith, p.begins, q.ends, start-rises (row_at u s) (suc j) i l, x.low, y.high)))
        (le-or-lt i j)

    before-none : (k : ℕ) → 0 ≤ k → k < 0 + i → overlaps a b (row_at u s k) ≡ false
    before-none k l t =
        let p = row_lies i x.within in
        let q = row_lies k (omega (arith, x.within)) in
        let z : row_end (row_at u s k) ≤ a = omega (arith, p.begins, q.ends, start-rises (row_at u s) (suc k) i (omega arith), x.low) in
        le-ltb (max a (row_at u s k).out) (min b (row_end (row_at u s k))) (omega arith)

    after_none : (k : ℕ) → i + (j - i + 1) ≤ k → k < i + (j - i + 1) + (length s - (i + (j - i + 1)))
        → overlaps a b (row_at u s k) ≡ false
    after_none k l t =
        let r = holders-rise in
        let p = row_lies j y.within in
        let q = row_lies k (omega (arith, y.within)) in
        let z : b ≤ (row_at u s k).out = omega (arith, p.ends, q.begins, start-rises (row_at u s) (suc j) k (omega arith), y.high) in
        le-ltb (max a (row_at u s k).out) (min b (row_end (row_at u s k))) (omega arith)

    inside : (k : ℕ) → k < j - i + 1 → overlaps a b (row_at u s (i + k)) ≡ true
    inside k l =
        let r = holders-rise in
        let w : i + k < length s = omega (arith, y.within) in
        let p = row_lies (i + k) w in
        let pi = row_lies i x.within in
        let pj = row_lies j y.within in
        let z₁ : a < row_end (row_at u s (i + k)) = omega (arith, p.ends, pi.ends, start-rises (row_at u s) (suc i) (suc (i + k)) (omega arith), x.high) in
        let z₂ : (row_at u s (i + k)).out < b = omega (arith, p.begins, pj.begins, start-rises (row_at u s) (i + k) j (omega arith), y.low) in
        lt-ltb (max a (row_at u s (i + k)).out) (min b (row_end (row_at u s (i + k)))) (omega (arith, p.some))

    pub spans : Span u s a b i (j - i + 1)
    spans =
        let r = holders-rise in
        let k = j - i + 1 in
        let f = row_at u s in
        let e : length s ≡ i + (k + (length s - (i + k))) = omega (arith, y.within) in
        let whole : rows u s ≡ run f 0 i ++ (run f (0 + i) k ++ run f (0 + i + k) (length s - (i + k))) =
        ap (run f 0) e ∙ run-append f i (k + (length s - (i + k))) 0 ∙ ap (λ (l : List Row). run f 0 i ++ l) (run-append f k (length s - (i + k)) (0 + i)) in
        let z : 0 + i ≡ i + 0 = omega arith in
        let z₂ : 0 + i + k ≡ i + k = omega arith in
        let left = cut-none-run f a b i 0 before-none in
        let middle : cut a b (run f (0 + i) k) ≡ run (λ x. clip a b (f (i + x))) 0 k = ap (λ (n : ℕ). cut a b (run f n k)) z ∙ cut-all-run f a b k i 0 (λ n l t. inside n (omega arith)) in
        let right : cut a b (run f (0 + i + k) (length s - (i + k))) ≡ [] = ap (λ (n : ℕ). cut a b (run f n (length s - (i + k)))) z₂ ∙ cut-none-run f a b (length s - (i + k)) (i + k) after_none in
        record {
          within = omega (arith, y.within);
          over = inside;
          is = ap (cut a b) whole ∙ cut-append (run f 0 i) (run f (0 + i) k ++ run f (0 + i + k) (length s - (i + k))) a b
              ∙ ap (λ (l : List Row). cut a b (run f 0 i) ++ l) (cut-append (run f (0 + i) k) (run f (0 + i + k) (length s - (i + k))) a b)
              ∙ simp (left, middle, right, append-nil);
        }

pub span-length : {u : List ℕ} {s : List ℤ} {a b i k : ℕ} → Span u s a b i k → length (cut a b (rows u s)) ≡ k
span-length {u} {s} {a} {b} {i} {k} x = ap length x.is ∙ length-map-range_with_len (λ j. clip a b (row_at u s (i + j))) 0 k

-- what a cut asks of each row that it takes
pub span-clips : {u : List ℕ} {s : List ℤ} {a b i k : ℕ} → Sound u s → Span u s a b i k → (w : ℕ) → w < k → (r : Row)
    → r ≡ row_at u s (i + w)
    → (max a r.out < min b (row_end r)) × (row_end r ≤ max_u64) × (r.first + r.count ≤ max_u64)
span-clips {u} {s} {a} {b} {i} m x w h r e =
    let l : i + w < length s = omega (arith, x.within) in
    (ltb-true (max a r.out) (min b (row_end r)) (ap (overlaps a b) e ∙ x.over w h), row-end m (i + w) r e l, row-source m (i + w) r e l)

-- frame k lies in one row, and in no other
pub record OneHolder (u : List ℕ) (s : List ℤ) (k : ℕ) : Type 0 where
  pub index : ℕ
  pub holder : Holder u s k index
  pub only : (j : ℕ) → j < length s → (row_at u s j).out ≤ k → k < row_end (row_at u s j) → j ≡ index

module _ {u : List ℕ} {s : List ℤ} (m : Sound u s) where
  -- a row begins before the map ends
  pub row_out : (k : ℕ) (r : Row) → r ≡ row_at u s k → k < length s → r.out ≤ total (rows u s)
  row_out k r e h = let l = row_lies m k h in omega (arith, ap (λ (x : Row). x.out) e, l.begins, start-rises (row_at u s) k (length s) (omega arith))

  row_is : (j : ℕ) → j < length s → get_or (rows u s) j no_row ≡ row_at u s j
  row_is j h = let z : 0 + j ≡ j = omega arith in get_or-map-range_with_len (row_at u s) 0 (length s) j _ no_row h refl ∙ ap (row_at u s) z

  holds_row : (k j : ℕ) → j < length s → (row_at u s j).out ≤ k → k < row_end (row_at u s j)
      → holds (get_or (rows u s) j no_row) k ≡ true
  holds_row k j h l t = ap (λ (r : Row). holds r k) (row_is j h) ∙ holds-in (row_at u s j) k l t

  -- the row that was found gives the frame's origin
  pub origin-held : (k i : ℕ) → Holder u s k i → origin (rows u s) k ≡ Some (origin_in (row_at u s i) k)
  origin-held k i x =
      let l = row_lies m i x.within in
      let n = length-map-range_with_len (row_at u s) 0 (length s) in
      let o = demanded.one_row (rows u s) k m.well (omega (arith, l.ends, start-rises (row_at u s) (suc i) (length s) (omega (arith, x.within)), x.high)) in
      let same : i ≡ o.index = o.only i (omega (arith, x.within)) (holds_row k i x.within x.low x.high) in
      o.gives ∙ ap (λ (j : ℕ). Some (origin_in (get_or (rows u s) j no_row) k)) (sym same) ∙ ap (λ (r : Row). Some (origin_in r k)) (row_is i x.within)

  -- each frame has one row that holds it
  pub row-holder : (k : ℕ) → k < total (rows u s) → OneHolder u s k
  row-holder k h =
      let n = length-map-range_with_len (row_at u s) 0 (length s) in
      let o = demanded.one_row (rows u s) k m.well h in
      let w : o.index < length s = omega (arith, o.within) in
      let e = ap (λ (r : Row). holds r k) (sym (row_is o.index w)) ∙ o.here in
      record {
        index = o.index;
        holder = record { within = w; low = holds-lo (row_at u s o.index) k e; high = holds-hi (row_at u s o.index) k e };
        only = λ j g l t. o.only j (omega arith) (holds_row k j g l t);
      }

-- what `origin` makes of the row that it found
module _ {u : List ℕ} {s : List ℤ} (m : Sound u s) {k i : ℕ} (x : Holder u s k i) (r : Row) (e : r ≡ row_at u s i) where
  pub held_low : r.out ≤ k
  held_low = rw e x.low

  pub held_fits : r.first + (k - r.out) ≤ max_u64
  held_fits = let h : k < row_end r = rw e x.high in omega (arith, held_low, row-source m i r e x.within)

  pub held-found : {o : Origin} → o ≡ origin_in r k → origin (rows u s) k ≡ Some o
  held-found f = origin-held m k i x ∙ ap Some (ap (λ (y : Row). origin_in y k) (sym e) ∙ sym f)

  pub held-traced : {o : Origin} → origin_refusal u s k ≡ Ok tt → o ≡ origin_in r k
      → Ok o ≡ result_and (origin_refusal u s k) (traced_as (origin (rows u s) k))
  held-traced a f = rw (a, origin-held m k i x, f, e)

pub taken-room : {u : List ℕ} {s : List ℤ} {a b i k : ℕ} {ou : List ℕ} {os : List ℤ}
    → Cuttable u s a b (length ou) (length os) → Span u s a b i k → Room k ou os
taken-room o x = let e = span-length x in record { words = omega (arith, o.room.words); shifts = omega (arith, o.room.shifts) }
