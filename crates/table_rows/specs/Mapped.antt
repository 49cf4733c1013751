-- What it is for an accepted table's rows to be a map of its frames.
use Rattle.std.specs.Prelude.{ℕ, ◌≡◌, length, Ok}
use Rattle.rows.specs.Rows.{total, WellFormed}
use Rattle.rows.specs.Lent.{rows, words_of, shifts_of}
use Rattle.rules.specs.Records.{Table}
use Rattle.rules.specs.Rules.{check_of}
use Rattle.table_rows.specs.Rows.{rows_of}

-- the rows of an accepted table of N frames are a well-formed map of N frames, one row a segment (RULES 13.3): the
-- contract of `accepted_rows_are_a_map`
pub record RowsAreMap (table : Table) : Type 0 where
  pub well : (N : ℕ) → check_of table ≡ Ok N → WellFormed (rows_of table)
  pub frames : (N : ℕ) → check_of table ≡ Ok N → total (rows_of table) ≡ N
  pub each : length (rows_of table) ≡ length table.segments
  -- the words and shifts that are written, lent as a map again, are these rows
  pub read : rows (words_of (rows_of table)) (shifts_of (rows_of table)) ≡ rows_of table
