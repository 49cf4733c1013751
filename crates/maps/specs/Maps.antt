-- The rows of a map that was tested, and what the test of one answers.
use Rattle.std.specs.Prelude.{◌≡◌, List, ℤ, Result, Ok, Err, ℕ}
use Rattle.refusal.specs.declared.Refusal.{Refusal}
use Rattle.rows.specs.declared.Row.{Row}
use Rattle.rows.specs.Lent.{rows}
use Rattle.maps.specs.declared.FrameMap.{FrameMap}
use Rattle.maps.specs.Answers.{map_refusal}

abbrev pub rows_in : FrameMap → List Row
rows_in map = rows map.words.now map.shifts.now

-- words and shifts are the map, or they are refused by 51
abbrev pub Opened : List ℕ → List ℤ → Result FrameMap Refusal → Type 0
Opened words shifts (Ok map) = (map.words.now ≡ words) × (map.shifts.now ≡ shifts)
Opened words shifts (Err refusal) = map_refusal words shifts ≡ Err refusal
