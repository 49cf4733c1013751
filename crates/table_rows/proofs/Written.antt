-- The words and shifts that `rows_of_table` writes are those of the rows. Assumes nothing.
use Prim.Native.Nat.{ℕ, ◌+◌, ◌*◌, ◌/◌, ◌≤◌, ◌<◌}
use Rattle.std.specs.List.{range_with_len}
use Rattle.std.proofs.lemmas.Simd.{map-map}
use native.Mathlib.Numerals.{add-one}
use native.Mathlib.Omega.{arith}
use mathlib.Core.Path.{◌≡◌, sym, ap, ◌∙◌}
use mathlib.Core.Bool.{Bool, true, false}
use mathlib.Core.List.{List, [], ◌∷◌, ◌++◌, map, map-append}
use lib.ListN.{length, get_or, set, take, length-map}
use lib.Seq.{sets, take-suc, length-take-le}
use lib.IntN.{ℤ}
use Rattle.std.specs.Prelude.{Result, Ok, Err, if◌then◌else◌}
use Rattle.refusal.specs.declared.Refusal.{Refusal}
use Rattle.refusal.specs.declared.Reason.TheVariants as reason
use Rattle.refusal.specs.Refusals.{refused}
use Rattle.slices.specs.Slices.{laid}
use Rattle.slices.proofs.Laid.{set-laid, sets-laid}
use Rattle.rows.specs.declared.Row.{Row}
use Rattle.rows.specs.Lent.{row_words, words_of, shifts_of}
use Rattle.rows.proofs.Flat.{words_append, shifts-append, length-words, length-shifts, five_at, words-read}
use Rattle.rules.specs.declared.Segment.{Segment}
use Rattle.rules.specs.Records.{Table, no_segment, nth}
use Rattle.rules.specs.Rules.{check_of}
use Rattle.rules.proofs.Answers.{check-first, then-rest}
use Rattle.table.specs.Layout.{segment_at, segments_of}
use Rattle.table.proofs.Lent.{even, segments_length}
use Rattle.table_rows.specs.Rows.{row_of, rows_of, too_small, rows_refusal, Rowed}

-- ---- words
read : (u : List ℕ) (t : List ℤ) (k : ℕ) → row_words (row_of (segment_at u t k)) ≡ five_at u k
unfolding row_of
read u t k =
    let e : k * 5 ≡ 5 * k = omega arith in
    ap (λ (b : ℕ). get_or u b 0 ∷ get_or u (b + 1) 0 ∷ get_or u (b + 2) 0 ∷ get_or u (b + 3) 0 ∷ get_or u (b + 4) 0 ∷ []) e

-- lent words are those of the rows
pub words-all : (u : List ℕ) (t : List ℤ) → length u ≡ length u / 5 * 5 → u ≡ words_of (map row_of (segments_of u t))
unfolding segments_of
words-all u t h =
    let n = length u / 5 in
    words-read u (λ k. row_of (segment_at u t k)) (read u t) n (omega arith)
    ∙ ap words_of (sym (map-map row_of (segment_at u t) (range_with_len 0 n)))

-- ---- one more row
module _ (l : List Segment) (k : ℕ) (h : k < length l) where
  abbrev so_far : List Row
  so_far = map row_of (take k l)

  one-more : map row_of (take (k + 1) l) ≡ so_far ++ row_of (nth l k) ∷ []
  one-more = ap (map row_of) (rw add-one (take-suc l k no_segment h)) ∙ map-append row_of (take k l) (nth l k ∷ [])

  length-so_far : length so_far ≡ k
  length-so_far = length-map (take k l) row_of ∙ length-take-le k l (omega arith)

  pub words-more : (o : List ℕ) {a b : List ℕ} → 5 * length l ≤ length o → a ≡ laid (words_of so_far) o
      → b ≡ sets a (5 * k) (row_words (row_of (nth l k)))
      → b ≡ laid (words_of (map row_of (take (k + 1) l))) o
  words-more o room s e =
      let x = row_of (nth l k) in
      let n = length-words so_far in
      let u : 5 * k ≡ length (words_of so_far) = omega (arith, length-so_far) in
      rw (e, s, u, one-more, words_append so_far (x ∷ [])) (sets-laid (row_words x) (words_of so_far) o (omega arith))

  pub shifts-more : (o : List ℤ) {a b : List ℤ} → length l ≤ length o → a ≡ laid (shifts_of so_far) o
      → b ≡ set a k (row_of (nth l k)).shift
      → b ≡ laid (shifts_of (map row_of (take (k + 1) l))) o
  shifts-more o room s e =
      let x = row_of (nth l k) in
      let u : k ≡ length (shifts_of so_far) = sym (length-shifts so_far ∙ length-so_far) in
      rw (e, s, one-more, shifts-append so_far (x ∷ [])) (ap (λ j. set (laid (shifts_of so_far) o) j x.shift) u ∙ set-laid (shifts_of so_far) o x.shift (omega arith))

-- ---- the answer
module _ (t : Table) (ou : List ℕ) (os : List ℤ) where
  at : Result (Unit {0}) Refusal → Type 0
  at r = rows_refusal t (length ou) (length os) ≡ r

  pub rows-refused : {why : Refusal} → check_of t ≡ Err why → Rowed t ou os (Err why) ou os
  unfolding at rows_refusal
  rows-refused {why} e = let q : at (Err why) = check-first _ _ e in record { answer = rw q; words = rw q; shifts = rw q }

  -- of n segments
  module _ {N n : ℕ} (e : check_of t ≡ Ok N) (m : n ≡ length t.segments) where
    then-room : {b : Bool} → too_small n (length ou) (length os) ≡ b → at (if b then refused reason.NoRoom 0 else Ok tt)
    unfolding at rows_refusal
    then-room h = then-rest _ _ e ∙ rw (← m, h)

    pub rows-small : too_small n (length ou) (length os) ≡ true → Rowed t ou os (refused reason.NoRoom 0) ou os
    unfolding at
    rows-small h = let q = then-room h in record { answer = rw q; words = rw q; shifts = rw q }

    pub rows_written : {ou' : List ℕ} {os' : List ℤ} → too_small n (length ou) (length os) ≡ false
        → ou' ≡ laid (words_of (map row_of t.segments)) ou → os' ≡ laid (shifts_of (map row_of t.segments)) os → Rowed t ou os (Ok n) ou' os'
    unfolding at rows_of
    rows_written h w v = let q = then-room h in record { answer = rw (q, m); words = rw q w; shifts = rw q v }

-- what the loops that write take from a turn, and what lent words are written by
pub ruleset writes = (words-more, shifts-more)

pub ruleset lent = (even, segments_length, words-all)
