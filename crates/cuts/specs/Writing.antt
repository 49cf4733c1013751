-- Ranges that were tested, and what is written of their cuts. No public promise names these.
use Rattle.std.specs.Prelude.{ℕ, List, map, ◌≡◌, ℤ, length, Result, Ok, Err}
use Rattle.refusal.specs.declared.Refusal.{Refusal}
use Rattle.slices.specs.Slices.{laid}
use Rattle.rows.specs.declared.Row.{Row}
use Rattle.rows.specs.Lent.{words_of, shifts_of}
use Rattle.maps.specs.Maps.{rows_in}
use Rattle.cuts.specs.declared.Ranges.{Ranges}
use Rattle.cuts.specs.Answers.{ranges_of, cuts_of, concat}

-- the cuts of a map's ranges
abbrev pub asked : Ranges → List (List Row)
asked of = cuts_of (rows_in of.map) (ranges_of of.ranges.now)

-- words, shifts and ranges are the map and its ranges, or they are refused so
abbrev pub Accepting : Result (Unit {0}) Refusal → List ℕ → List ℤ → List ℕ → Result Ranges Refusal → Type 0
Accepting refusal words shifts ranges (Ok of) =
    (refusal ≡ Ok tt) × (of.map.words.now ≡ words) × (of.map.shifts.now ≡ shifts) × (of.ranges.now ≡ ranges)
Accepting refusal words shifts ranges (Err why) = refusal ≡ Err why

-- the rows of cuts were written, so many, and their counts
pub record AllWritten
    (asked : List (List Row))
    (out_words : List ℕ) (out_shifts : List ℤ) (counts : List ℕ)
    (count : ℕ)
    (out_words' : List ℕ) (out_shifts' : List ℤ) (counts' : List ℕ)
    : Type 0 where
  pub many : count ≡ length (concat asked)
  pub words : out_words' ≡ laid (words_of (concat asked)) out_words
  pub shifts : out_shifts' ≡ laid (shifts_of (concat asked)) out_shifts
  pub counted : counts' ≡ laid (map length asked) counts
