-- The two times of RULES 5.1, and some beside them: the contract of `worked_examples_hold`.
use Rattle.std.specs.Prelude.{ℕ, Bool, true, false, List, [], ◌∷◌}
use Rattle.examples.specs.Worked.{Worked, is, AllRight}
use Rattle.utc.specs.Utc.{utc_second}

-- T00:00:00Z, the end of a creation time
abbrev pub midnight : List ℕ
midnight = 84 ∷ 48 ∷ 48 ∷ 58 ∷ 48 ∷ 48 ∷ 58 ∷ 48 ∷ 48 ∷ 90 ∷ []

abbrev pub seconds : List (Worked Bool)
seconds =
    -- 0000-02-29T00:00:00Z
    is (utc_second (48 ∷ 48 ∷ 48 ∷ 48 ∷ 45 ∷ 48 ∷ 50 ∷ 45 ∷ 50 ∷ 57 ∷ midnight)) true
    -- 1900-02-29T00:00:00Z
    ∷ is (utc_second (49 ∷ 57 ∷ 48 ∷ 48 ∷ 45 ∷ 48 ∷ 50 ∷ 45 ∷ 50 ∷ 57 ∷ midnight)) false
    -- 2000-02-29T23:59:59Z
    ∷ is (utc_second (50 ∷ 48 ∷ 48 ∷ 48 ∷ 45 ∷ 48 ∷ 50 ∷ 45 ∷ 50 ∷ 57
    ∷ 84 ∷ 50 ∷ 51 ∷ 58 ∷ 53 ∷ 57 ∷ 58 ∷ 53 ∷ 57 ∷ 90 ∷ [])) true
    -- 2026-04-31T00:00:00Z
    ∷ is (utc_second (50 ∷ 48 ∷ 50 ∷ 54 ∷ 45 ∷ 48 ∷ 52 ∷ 45 ∷ 51 ∷ 49 ∷ midnight)) false
    -- 2026-11-15T24:00:00Z
    ∷ is (utc_second (50 ∷ 48 ∷ 50 ∷ 54 ∷ 45 ∷ 49 ∷ 49 ∷ 45 ∷ 49 ∷ 53
    ∷ 84 ∷ 50 ∷ 52 ∷ 58 ∷ 48 ∷ 48 ∷ 58 ∷ 48 ∷ 48 ∷ 90 ∷ [])) false
    -- 2026-11-15T04:20:60Z
    ∷ is (utc_second (50 ∷ 48 ∷ 50 ∷ 54 ∷ 45 ∷ 49 ∷ 49 ∷ 45 ∷ 49 ∷ 53
    ∷ 84 ∷ 48 ∷ 52 ∷ 58 ∷ 50 ∷ 48 ∷ 58 ∷ 54 ∷ 48 ∷ 90 ∷ [])) false
    -- 2026-11-15T04:20:00z
    ∷ is (utc_second (50 ∷ 48 ∷ 50 ∷ 54 ∷ 45 ∷ 49 ∷ 49 ∷ 45 ∷ 49 ∷ 53
    ∷ 84 ∷ 48 ∷ 52 ∷ 58 ∷ 50 ∷ 48 ∷ 58 ∷ 48 ∷ 48 ∷ 122 ∷ [])) false
    -- 2026-11-15T04:20:00
    ∷ is (utc_second (50 ∷ 48 ∷ 50 ∷ 54 ∷ 45 ∷ 49 ∷ 49 ∷ 45 ∷ 49 ∷ 53
    ∷ 84 ∷ 48 ∷ 52 ∷ 58 ∷ 50 ∷ 48 ∷ 58 ∷ 48 ∷ 48 ∷ [])) false
    -- 2026-00-15T04:20:00Z
    ∷ is (utc_second (50 ∷ 48 ∷ 50 ∷ 54 ∷ 45 ∷ 48 ∷ 48 ∷ 45 ∷ 49 ∷ 53
    ∷ 84 ∷ 48 ∷ 52 ∷ 58 ∷ 50 ∷ 48 ∷ 58 ∷ 48 ∷ 48 ∷ 90 ∷ [])) false
    -- 2026-13-15T04:20:00Z
    ∷ is (utc_second (50 ∷ 48 ∷ 50 ∷ 54 ∷ 45 ∷ 49 ∷ 51 ∷ 45 ∷ 49 ∷ 53
    ∷ 84 ∷ 48 ∷ 52 ∷ 58 ∷ 50 ∷ 48 ∷ 58 ∷ 48 ∷ 48 ∷ 90 ∷ [])) false
    ∷ []

abbrev pub WorkedExamples : Type 0
WorkedExamples = AllRight seconds
