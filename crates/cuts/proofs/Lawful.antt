-- Every law of the cuts holds: the promise is opened, and the rows and counts of one cut are found among those of all.
-- Assumes nothing.
use Prim.Native.Nat.{ℕ, zero, suc, ◌+◌, ◌*◌, ◌/◌, ◌≤◌, ◌<◌}
use native.Mathlib.Nat.{not-suc-le-zero, le_of_suc-le-suc}
use native.Mathlib.Omega.{arith}
use mathlib.Core.List.{List, [], ◌∷◌, ◌++◌, map, append_assoc}
use mathlib.Core.Path.{◌≡◌, refl, sym, ◌∙◌, ap}
use lib.IntN.{ℤ}
use lib.ListN.{length, get_or, take, drop, length-append, length-map, get_or-append}
use lib.Seq.{take_at, drop_at, take_all, take-append-le}
use Rattle.std.specs.Prelude.{Result, Ok, Err}
use Rattle.std.specs.Result.{result_and}
use Rattle.std.specs.List.{sum}
use Rattle.std.proofs.lemmas.List.Sums.{sum_by-cons}
use Rattle.refusal.specs.declared.Refusal.{Refusal}
use Rattle.refusal.proofs.Chains.{err-of}
use Rattle.slices.specs.Slices.{laid, after}
use Rattle.rows.specs.declared.Row.{Row}
use Rattle.rows.specs.Rows.{cut}
use Rattle.rows.specs.Lent.{rows, words_of, shifts_of}
use Rattle.rows.proofs.Flat.{words_append, shifts-append, length-words, length-shifts}
use Rattle.maps.specs.Answers.{Cut}
use Rattle.maps.proofs.Chains.{lent, sound-lent}
use Rattle.maps.proofs.Lawful as maps
use Rattle.maps.proofs.ReadBack.{none, count, words_are, shifts-are, as_lent}
use Rattle.cuts.specs.Answers.{range_at, ranges_of, cuts_of, concat, cuts_refusal, Cuts}
use Rattle.cuts.specs.Laws.{rows_before, Accepted, CountsAsLent, CutsLaws}
use Rattle.cuts.proofs.Refused.{Cuttable, cuts-unrefused, cuts-accepted, length-cuts}
use Rattle.cuts.proofs.Rows.{cut_at, count_at}
use Rattle.cuts.proofs.Single.{one}
use Rattle.cuts.proofs.Which.{map_refused, torn_refused, range_refused, room_refused}

-- ---- one list of many
module _ {A : Type 0} where
  -- the lists before the k-th, it, and those after it
  parted : (l : List (List A)) (k : ℕ) → k < length l
      → concat l ≡ concat (take k l) ++ (get_or l k [] ++ concat (drop (suc k) l))
  unfolding concat
  parted [] k h = absurd (not-suc-le-zero h)
  parted (x ∷ l) zero h = refl
  parted (x ∷ l) (suc k) h = ap (λ (y : List A). x ++ y) (parted l k (le_of_suc-le-suc h)) ∙ sym (append_assoc x (concat (take k l)) (get_or l k [] ++ concat (drop (suc k) l)))

  -- how long those before it are
  length_before : (l : List (List A)) (k : ℕ) → length (concat (take k l)) ≡ sum (take k (map length l))
  unfolding concat
  length_before [] zero = refl
  length_before [] (suc k) = refl
  length_before (x ∷ l) zero = refl
  length_before (x ∷ l) (suc k) = length-append x (concat (take k l)) ∙ ap (λ (n : ℕ). length x + n) (length_before l k) ∙ sym (sum_by-cons (λ n. n) (length x) (take k (map length l)))

-- y lies in x ++ (y ++ z), of which what is after it is of no matter
found : {A : Type 0} (x y z o : List A) (b n : ℕ) → length x ≡ b → length y ≡ n
    → take n (drop b ((x ++ (y ++ z)) ++ o)) ≡ y
found x y z o b n p q =
    ap (λ l. take n (drop b l)) (append_assoc x (y ++ z) o)
    ∙ ap (take n) (drop_at x ((y ++ z) ++ o) b p)
    ∙ ap (take n) (append_assoc y z o)
    ∙ take_at y (z ++ o) n q

-- ---- an accepted call
module _ (u : List ℕ) (s : List ℤ) (ranges ou : List ℕ) (os : List ℤ) (counts : List ℕ) {n : ℕ} {ou' : List ℕ} {os' : List ℤ} {counts' : List ℕ} (p : Cuts u s ranges ou os counts (Ok n) ou' os' counts') where
  abbrev all : List (List Row)
  all = cuts_of (rows u s) (ranges_of ranges)

  free : cuts_refusal u s ranges (length ou) (length os) (length counts) ≡ Ok tt
  free = none p.placed

  can : Cuttable u s ranges (length ou) (length os) (length counts)
  can = cuts-unrefused u s ranges (length ou) (length os) (length counts) free

  the-words : ou' ≡ laid (words_of (concat all)) ou
  the-words = p.placed.words ∙ ap (λ (x : Result (Unit {0}) Refusal). after x (words_of (concat all)) ou) free

  the-shifts : os' ≡ laid (shifts_of (concat all)) os
  the-shifts = p.placed.shifts ∙ ap (λ (x : Result (Unit {0}) Refusal). after x (shifts_of (concat all)) os) free

  the-counts : counts' ≡ laid (map length all) counts
  the-counts = p.counted ∙ ap (λ (x : Result (Unit {0}) Refusal). after x (map length all) counts) free

  many : length (map length all) ≡ length ranges / 2
  many = length-map all length ∙ length-cuts (rows u s) ranges

  rows_before-are : (k : ℕ) → k ≤ length ranges / 2 → rows_before k counts' ≡ length (concat (take k all))
  rows_before-are k h =
      ap (rows_before k) the-counts ∙ ap sum (take-append-le k (map length all) (drop (length (map length all)) counts) (omega (arith, many))) ∙ sym (length_before all k)

  sum-all : n ≡ rows_before (length ranges / 2) counts'
  sum-all =
      let e = length-cuts (rows u s) ranges in
      count p.placed ∙ ap (λ (l : List (List Row)). length (concat l)) (sym (take_all (length ranges / 2) all (omega arith))) ∙ sym (rows_before-are (length ranges / 2) (omega arith))

  counts_past : drop (length ranges / 2) counts' ≡ drop (length ranges / 2) counts
  counts_past = ap (drop (length ranges / 2)) the-counts ∙ drop_at (map length all) (drop (length (map length all)) counts) (length ranges / 2) many ∙ ap (λ (k : ℕ). drop k counts) many

  module _ (k : ℕ) (h : k < length ranges / 2) where
    abbrev this : List Row
    this = cut (range_at ranges k).from (range_at ranges k).to (rows u s)

    count-is : get_or counts' k 0 ≡ length this
    count-is =
        ap (λ (l : List ℕ). get_or l k 0) the-counts ∙ get_or-append (map length all) (drop (length (map length all)) counts) 0 k (omega (arith, many))
        ∙ count_at (rows u s) (range_at ranges) (length ranges / 2) k h

    among : concat all ≡ concat (take k all) ++ (this ++ concat (drop (suc k) all))
    among = parted all k (omega (arith, length-cuts (rows u s) ranges)) ∙ ap (λ (l : List Row). concat (take k all) ++ (l ++ concat (drop (suc k) all))) (cut_at (rows u s) (range_at ranges) (length ranges / 2) k h)

    words-of : take (5 * length this) (drop (5 * rows_before k counts') ou') ≡ words_of this
    words-of =
        let x = concat (take k all) in
        let z = concat (drop (suc k) all) in
        let e : words_of (concat all) ≡ words_of x ++ (words_of this ++ words_of z) =
        ap words_of among ∙ words_append x (this ++ z) ∙ ap (λ (l : List ℕ). words_of x ++ l) (words_append this z) in
        let o = drop (length (words_of (concat all))) ou in
        ap (λ (l : List ℕ). take (5 * length this) (drop (5 * rows_before k counts') l)) (the-words ∙ ap (λ (l : List ℕ). l ++ o) e)
        ∙ found (words_of x) (words_of this) (words_of z) o (5 * rows_before k counts') (5 * length this) (omega (arith, length-words x, rows_before-are k (omega arith))) (length-words this)

    shifts_here : take (length this) (drop (rows_before k counts') os') ≡ shifts_of this
    shifts_here =
        let x = concat (take k all) in
        let z = concat (drop (suc k) all) in
        let e : shifts_of (concat all) ≡ shifts_of x ++ (shifts_of this ++ shifts_of z) =
        ap shifts_of among ∙ shifts-append x (this ++ z) ∙ ap (λ (l : List ℤ). shifts_of x ++ l) (shifts-append this z) in
        let o = drop (length (shifts_of (concat all))) os in
        ap (λ (l : List ℤ). take (length this) (drop (rows_before k counts') l)) (the-shifts ∙ ap (λ (l : List ℤ). l ++ o) e)
        ∙ found (shifts_of x) (shifts_of this) (shifts_of z) o (rows_before k counts') (length this) (omega (arith, length-shifts x, rows_before-are k (omega arith))) (length-shifts this)

    alone : {i : ℕ} {pu pu' : List ℕ} {ps ps' : List ℤ}
        → Cut u s (range_at ranges k).from (range_at ranges k).to pu ps (Ok i) pu' ps'
        → (i ≡ get_or counts' k 0) × (take (5 * i) pu' ≡ take (5 * i) (drop (5 * rows_before k counts') ou')) × (take i ps' ≡ take i (drop (rows_before k counts') os'))
    alone {i} q =
        let e = count q in (
          e ∙ sym count-is,
          words_are q ∙ sym words-of ∙ ap (λ (j : ℕ). take (5 * j) (drop (5 * rows_before k counts') ou')) (sym e),
          shifts-are q ∙ sym shifts_here ∙ ap (λ (j : ℕ). take j (drop (rows_before k counts') os')) (sym e),
        )

    answers : {pu pu' : List ℕ} {ps ps' : List ℤ} {r : Result ℕ Refusal} → 5 * get_or counts' k 0 ≤ length pu
        → get_or counts' k 0 ≤ length ps
        → Cut u s (range_at ranges k).from (range_at ranges k).to pu ps r pu' ps' → r ≡ Ok (get_or counts' k 0)
    answers {pu} {pu'} {ps} {ps'} {r} x y q =
        let i = can.inside k h in
        (maps.lawful).cut_accepts u s (range_at ranges k).from (range_at ranges k).to pu pu' ps ps' r (lent can.sound can.few) i.some i.within (omega (arith, count-is)) (omega (arith, count-is)) q
        ∙ ap Ok (sym count-is)

  what : Accepted u s ranges ou os counts
  what = record {
    map = lent can.sound can.few;
    pairs = can.even;
    inside = can.inside;
    words = can.words;
    shifts = can.shifts;
    counts_fit = can.counts;
  }

-- ---- any call
accept : {u : List ℕ} {s : List ℤ} {ranges ou : List ℕ} {os : List ℤ} {counts : List ℕ} {r : Result ℕ Refusal} {ou' : List ℕ} {os' : List ℤ} {counts' : List ℕ}
    → Accepted u s ranges ou os counts → Cuts u s ranges ou os counts r ou' os' counts' → r ≡ Ok (length (concat (cuts_of (rows u s) (ranges_of ranges))))
accept {u} {s} {ranges} {ou} {os} {counts} a p =
    p.placed.answer
    ∙ ap (λ (x : Result (Unit {0}) Refusal). result_and x (Ok (length (concat (cuts_of (rows u s) (ranges_of ranges))))))
    (cuts-accepted u s ranges (length ou) (length os) (length counts)
    (record {
      sound = sound-lent a.map;
      inside = a.inside;
      few = a.map.few;
      even = a.pairs;
      words = a.words;
      shifts = a.shifts;
      counts = a.counts_fit;
    }))

counts-kept : (u : List ℕ) (s : List ℤ) (ranges ou : List ℕ) (os : List ℤ) (counts : List ℕ) (r : Result ℕ Refusal) (ou' : List ℕ) (os' : List ℤ) (counts' : List ℕ)
    → Cuts u s ranges ou os counts r ou' os' counts' → CountsAsLent r (length ranges / 2) counts counts'
counts-kept u s ranges ou os counts (Ok n) ou' os' counts' p = counts_past u s ranges ou os counts p
counts-kept u s ranges ou os counts (Err e) ou' os' counts' p = rw (err-of _ _ e (sym p.placed.answer)) at p.counted

pub lawful : CutsLaws Cuts Cut
lawful = record {
  each = λ u ranges ou ou' counts counts' pu pu' s os os' ps ps' n k i p h q. alone u s ranges ou os counts p k h q;
  each_answers = λ u ranges ou ou' counts counts' pu pu' s os os' ps ps' n k r p h x y q. answers u s ranges ou os counts p k h x y q;
  in_all = λ u ranges ou ou' counts counts' s os os' n p. sum-all u s ranges ou os counts p;
  one = λ u ou ou' ou'' counts counts' s os os' os'' a b r q h p x. one u s a b ou os counts h p x;
  accepted = λ u ranges ou ou' counts counts' s os os' n p. what u s ranges ou os counts p;
  accepts = λ u ranges ou ou' counts counts' s os os' r a p. accept a p;
  map_refused = λ u ranges ou ou' counts counts' pu pu' s os os' ps ps' a b r q h p c. map_refused u s ranges ou os counts p a b pu ps h c;
  torn_refused = λ u ranges ou ou' counts counts' s os os' r m e p. torn_refused u s ranges ou os counts p m e;
  range_refused = λ u ranges ou ou' counts counts' s os os' k r m e h b q p. range_refused u s ranges ou os counts p m k e h b q;
  room_refused = λ u ranges ou ou' counts counts' s os os' r m e b q p. room_refused u s ranges ou os counts p m e b q;
  leaves = λ u ranges ou ou' counts counts' s os os' r p. (as_lent r p.placed, counts-kept u s ranges ou os counts r ou' os' counts' p);
}
