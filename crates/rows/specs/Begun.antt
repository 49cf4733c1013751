-- Where rows begin in lent words, and the last that has begun. No public promise names these.
use Rattle.std.specs.Prelude.{ℕ, ◌+◌, ◌*◌, ◌≤◌, ◌<◌, List, length, get_or}

-- where row k begins in the output
abbrev pub out_at : List ℕ → ℕ → ℕ
out_at words k = get_or words (5 * k + 3) 0

-- n rows, some of them, whose out firsts never fall
pub record OutsRise (words : List ℕ) (n : ℕ) : Type 0 where
  pub some : 0 < n
  pub sizes : 5 * n ≤ length words
  pub rising : (i j : ℕ) → i ≤ j → j < n → out_at words i ≤ out_at words j

-- a row is the last of n that begins at or before a frame
pub record LastBegun (words : List ℕ) (n frame row : ℕ) : Type 0 where
  pub within : row < n
  pub low : out_at words row ≤ frame
  pub high : row + 1 < n → frame < out_at words (row + 1)
