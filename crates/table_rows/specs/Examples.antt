-- RULES 4.7: the rows of T. They are the contract of `worked_examples_hold`.
use Rattle.std.specs.Prelude.{ℕ, List, [], ◌∷◌, pos}
use Rattle.examples.specs.Worked.{Worked, is, AllRight}
use Rattle.rows.specs.declared.Row.{Row}
use Rattle.table.specs.Examples.{T}
use Rattle.table_rows.specs.Rows.{rows_of}

abbrev row : ℕ → ℕ → ℕ → ℕ → Row
row source first count out =
    record { source = source; first = first; count = count; out = out; flag = 0; shift = pos 0 }

abbrev pub maps : List (Worked (List Row))
maps = is (rows_of T) (row 0 10 30 0 ∷ row 1 5 20 30 ∷ []) ∷ []

abbrev pub WorkedExamples : Type 0
WorkedExamples = AllRight maps
