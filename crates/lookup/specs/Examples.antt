-- RULES 4.7: lookups in T, and which segments continue. They are the contract of `worked_examples_hold`.
use Rattle.std.specs.Prelude.{true, false, List, [], ◌∷◌, ◌++◌, ℤ, pos, neg_ℤ, ℕ, Bool, Result, Ok}
use Rattle.examples.specs.Worked.{Worked, is, AllRight}
use Rattle.refusal.specs.declared.Refusal.{Refusal}
use Rattle.rules.specs.Records.{Table}
use Rattle.rules.specs.Lookups.{segment_of_frame, segment_of_time, continues_at}
use Rattle.table.specs.Layout.{table_of}
use Rattle.table.specs.Examples.{source, words, T}

-- frames 29, 30 and 50; times -5 and 1,200,000
abbrev pub lookups : List (Worked (Result ℕ Refusal))
lookups =
    is (segment_of_frame T 29) (Ok 0)
    ∷ is (segment_of_frame T 30) (Ok 1)
    ∷ is (segment_of_frame T 50) (Ok 1)
    ∷ is (segment_of_time T (neg_ℤ (pos 5))) (Ok 0)
    ∷ is (segment_of_time T (pos 1200000)) (Ok 1)
    ∷ []

-- two parts of one source, whose frames run on, the first with a shift of 5 and the second with another
abbrev pub halves : ℤ → Table
halves shift =
    table_of (source 100 0 0 1 1 0) (words 0 10 30 0 1 ++ words 0 40 20 30 1)
    (pos 0 ∷ pos 0 ∷ pos 3 ∷ pos 0 ∷ pos 0 ∷ pos 0 ∷ pos 5
    ∷ pos 0 ∷ pos 3 ∷ pos 4 ∷ pos 0 ∷ pos 0 ∷ pos 0 ∷ shift ∷ []) false []

abbrev pub follows : List (Worked (Result Bool Refusal))
follows =
    is (continues_at T 1) (Ok false)
    ∷ is (continues_at (halves (pos 5)) 0) (Ok false)
    ∷ is (continues_at (halves (pos 5)) 1) (Ok true)
    ∷ is (continues_at (halves (pos 5)) 2) (Ok false)
    ∷ is (continues_at (halves (neg_ℤ (pos 5))) 1) (Ok false)
    ∷ []

abbrev pub WorkedExamples : Type 0
WorkedExamples = AllRight lookups × AllRight follows
