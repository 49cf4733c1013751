-- Rows of a lent map: the one that has a frame, those of a cut, and room for them. No public promise names these.
use Rattle.std.specs.Prelude.{◌≡◌, ℕ, ◌+◌, ◌*◌, ◌<◌, ◌≤◌, true, List, length, ℤ, Result, Ok, Err, map}
use Rattle.std.specs.List.{range_with_len}
use Rattle.refusal.specs.declared.Refusal.{Refusal}
use Rattle.rows.specs.Rows.{WellFormed, row_end, overlaps, clip, cut}
use Rattle.maps.specs.declared.Taken.{Taken}
use Rattle.rows.specs.Lent.{row_at, rows}
use Rattle.maps.specs.Answers.{cut_refusal}

-- a lent map that 51 doesn't refuse
pub record Sound (words : List ℕ) (shifts : List ℤ) : Type 0 where
  pub some : 0 < length shifts
  pub sizes : length words ≡ 5 * length shifts
  pub well : WellFormed (rows words shifts)

-- so many rows go into what is lent
pub record Room (count : ℕ) (out_words : List ℕ) (out_shifts : List ℤ) : Type 0 where
  pub words : 5 * count ≤ length out_words
  pub shifts : count ≤ length out_shifts

-- frame k lies in row i
pub record Holder (words : List ℕ) (shifts : List ℤ) (k i : ℕ) : Type 0 where
  pub within : i < length shifts
  pub low : (row_at words shifts i).out ≤ k
  pub high : k < row_end (row_at words shifts i)

-- the rows of a cut are those of so many rows of a map from row i on
pub record Span (words : List ℕ) (shifts : List ℤ) (start end i count : ℕ) : Type 0 where
  pub within : i + count ≤ length shifts
  pub over : (j : ℕ) → j < count → overlaps start end (row_at words shifts (i + j)) ≡ true
  pub is : cut start end (rows words shifts)
      ≡ map (λ j. clip start end (row_at words shifts (i + j))) (range_with_len 0 count)

-- what is planned for a cut: the rows that it takes, or the refusal
abbrev pub Planned : List ℕ → List ℤ → ℕ → ℕ → ℕ → ℕ → Result Taken Refusal → Type 0
Planned words shifts start end word_room shift_room (Ok part) =
    (cut_refusal words shifts start end word_room shift_room ≡ Ok tt)
    × Span words shifts start end part.first part.count
Planned words shifts start end word_room shift_room (Err refusal) =
    cut_refusal words shifts start end word_room shift_room ≡ Err refusal
