-- How a walk over boxes ends, how far it came, and that it stays within the bytes; for contracts of this crate and of
-- those above. No call's promise names these.
use Rattle.std.specs.Prelude.{ℕ, ◌+◌, ◌≤◌, Option, None, Some}
use Rattle.boxes.specs.declared.Header.{Header}
use Rattle.boxes.specs.declared.Header.TheVariants.{Whole, Short, Bad}
use Rattle.boxes.specs.declared.Walk.{Walk}
use Rattle.boxes.specs.declared.Walk.TheVariants.{Found, End, Bad as BadAt}
use Rattle.boxes.specs.declared.Place.{Place}

-- how a walk ends at a header that isn't whole
abbrev pub stop_at : Header → ℕ → Walk
stop_at Bad at = BadAt at
stop_at Short at = End
stop_at (Whole found) at = End

-- how far a walk came: the start of what it found, or the broken header's offset
abbrev pub offset_in : Walk → ℕ
offset_in (Found place) = place.start
offset_in End = 0
offset_in (BadAt at) = at

-- the part at a place lies within so many bytes
abbrev pub Within : ℕ → Option Place → Type 0
Within most (Some place) = place.start + place.len ≤ most
Within most None = Unit {0}

-- a walk stays within so many bytes: what it found, or the broken header's 8 bytes
abbrev pub WalkStays : ℕ → Walk → Type 0
WalkStays most (Found place) = place.start + place.len ≤ most
WalkStays most End = Unit {0}
WalkStays most (BadAt at) = at + 8 ≤ most
