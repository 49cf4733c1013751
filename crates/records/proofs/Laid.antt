-- The words of a list of records, read as a table, have one segment a record. Assumes nothing.
use Rattle.std.proofs.Common.{◌+◌, ◌≡◌, ℕ, zero, suc, ◌*◌, ◌/◌, ◌%◌, Bool, false, List, map, [], ◌∷◌, length, refl, ap, ◌∙◌, arith, eq-eqb}
use Rattle.slices.proofs.Ranges.{run}
use native.Mathlib.Numerals.{add-one, unary_clauses}
use Rattle.rules.specs.declared.Segment.{Segment}
use Rattle.table.specs.Layout.{segment_at, segments_of, uneven_rows, table_with, table_of}
use Rattle.records.specs.declared.TrimSegment.{TrimSegment}
use Rattle.records.specs.Records.{all_unsigned, all_signed}
use Rattle.records.specs.Segments.{segment_of}

-- segment k of the words
abbrev at : List TrimSegment → ℕ → Segment
at rs = segment_at (all_unsigned rs) (all_signed rs)

length-unsigned : (rs : List TrimSegment) → length (all_unsigned rs) ≡ length rs * 5
length-unsigned [] = refl
length-unsigned (r ∷ rs) = let e = length-unsigned rs in omega arith

length-signed : (rs : List TrimSegment) → length (all_signed rs) ≡ length rs * 7
length-signed [] = refl
length-signed (r ∷ rs) = let e = length-signed rs in omega arith

even : (rs : List TrimSegment) → uneven_rows (length (all_unsigned rs)) (length (all_signed rs)) ≡ false
even rs =
    let m = length rs in
    let a : m * 5 % 5 ≡ 0 = omega arith in
    let b : m * 7 % 7 ≡ 0 = omega arith in
    let c : m * 5 / 5 ≡ m * 7 / 7 = omega arith in
    rw (length-unsigned rs, length-signed rs, eq-eqb (m * 5 % 5) 0 a, eq-eqb (m * 7 % 7) 0 b, eq-eqb (m * 5 / 5) (m * 7 / 7) c)

-- ---- words read back
module _ (r : TrimSegment) (rs : List TrimSegment) where
  -- behind the first segment are those of the other records
  next : (k : ℕ) → at (r ∷ rs) (k + 1) ≡ at rs k
  next k =
      let u : suc k * 5 ≡ suc (suc (suc (suc (suc (k * 5))))) = omega arith in
      let t : suc k * 7 ≡ suc (suc (suc (suc (suc (suc (suc (k * 7))))))) = omega arith in
      rw (add-one, u, t) (simp unary_clauses)

  run-next : (i n : ℕ) → run (at (r ∷ rs)) (i + 1) n ≡ run (at rs) i n
  run-next i zero = refl
  run-next i (suc n) = λ j. next i j ∷ run-next (i + 1) n j

run-all : (rs : List TrimSegment) → run (at rs) 0 (length rs) ≡ map segment_of rs
run-all [] = refl
run-all (r ∷ rs) = ap (λ l. segment_of r ∷ l) (run-next r rs 0 (length rs) ∙ run-all rs)

segments-are : (rs : List TrimSegment) → segments_of (all_unsigned rs) (all_signed rs) ≡ map segment_of rs
unfolding segments_of
segments-are rs =
    let c : length rs * 5 / 5 ≡ length rs = omega arith in
    rw (length-unsigned rs, c) (run-all rs)

-- the table that the words of the records are
pub words_are : (sources text : List ℕ) (rs : List TrimSegment) (log : Bool)
    → table_with sources false (map segment_of rs) log text ≡ table_of sources (all_unsigned rs) (all_signed rs) log text
unfolding table_of
words_are sources text rs log = rw (even rs, segments-are rs) refl
