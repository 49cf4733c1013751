use Rattle.std.proofs.Common.{◌≡◌, ◌-◌, ◌/◌, ◌≤◌, length}
use Rattle.boxes.specs.Boxes.{boxes_at, boxes_of}
use Rattle.boxes.specs.Places.{all_of, only_of}
use Rattle.boxes.proofs.Searches.{with_found}
use Rattle.boxes.proofs.mtrm.only_child.Given as goal

-- the only one of what was found and of what is left is the only one of all
abbrev pub invariant-loop-child : goal.invariant-loop-child
invariant-loop-child l = (l.at ≤ length l.bytes) × (only_of (with_found l.found (all_of l.kind (boxes_at l.bytes l.at))) ≡ only_of (all_of l.kind (boxes_of l.bytes)))

-- a turn for 8 of the bytes left
abbrev pub decreases-loop-child : goal.decreases-loop-child
decreases-loop-child l = (length l.bytes - l.at) / 8
