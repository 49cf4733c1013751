-- Refusals, faults, rows and origins as lines.
use Rattle.std.specs.Prelude.{ℕ, ◌+◌, List, [], ◌∷◌, ◌++◌, ℤ, min, Result, Ok, Err, codes, decimal, if◌then◌else◌, ◌==◌}
use Rattle.std.specs.Fmt.{signed_decimal}
use Rattle.conditions.specs.Conditions.{max_u64}
use Rattle.refusal.specs.declared.Refusal.{Refusal}
use Rattle.refusal.specs.Reasons.{number}
use Rattle.rows.specs.declared.Row.{Row}
use Rattle.rows.specs.declared.Origin.{Origin}

-- a refusal, by its number and index
abbrev pub refusal_line : Refusal → List ℕ
refusal_line refusal = codes "refused " ++ (decimal (number refusal.reason) ++ (codes " at " ++ (decimal refusal.index ++ 10 ∷ [])))

-- what is wrong with a line, by its number
abbrev pub fault_line : ℕ → List ℕ → List ℕ
fault_line n what = codes "line " ++ (decimal n ++ (codes ": " ++ (what ++ 10 ∷ [])))

-- a shift, where there is one
abbrev pub shift_text : ℕ → ℤ → List ℕ
shift_text flag shift = if flag == 1 then codes ", shift " ++ signed_decimal shift else []

-- a row: its source, source frames, output frames, and its shift
abbrev pub row_line : Row → List ℕ
row_line row =
    codes "source " ++ (decimal row.source ++ (codes " frames " ++ (decimal row.first ++ (codes ".."
    ++ (decimal (min (row.first + row.count) max_u64) ++ (codes " at " ++ (decimal row.out ++ (codes ".."
    ++ (decimal (min (row.out + row.count) max_u64) ++ (shift_text row.flag row.shift ++ 10 ∷ []))))))))))

-- where a frame comes from, or why that isn't answered
abbrev pub origin_line : ℕ → Result Origin Refusal → List ℕ
origin_line frame (Ok origin) =
    codes "frame " ++ (decimal frame ++ (codes " is frame " ++ (decimal origin.frame ++ (codes " of source " ++ (decimal origin.source
    ++ (shift_text origin.flag origin.shift ++ 10 ∷ []))))))
origin_line frame (Err refusal) = refusal_line refusal
