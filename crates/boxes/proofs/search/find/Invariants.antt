use Rattle.std.proofs.Common.{◌≡◌, ◌-◌, ◌/◌, ◌≤◌, length}
use Rattle.boxes.specs.Boxes.{boxes_at, boxes_of, searched, first_of}
use Rattle.boxes.proofs.search.find.Given as goal

-- the first box of the type from `at` on is the first of all
abbrev pub invariant-loop-child : goal.invariant-loop-child
invariant-loop-child l = (l.at ≤ length l.bytes) × (first_of l.kind (searched l.text_types (boxes_at l.bytes l.at)) ≡ first_of l.kind (searched l.text_types (boxes_of l.bytes)))

-- a turn for 8 of the bytes left
abbrev pub decreases-loop-child : goal.decreases-loop-child
decreases-loop-child l = (length l.bytes - l.at) / 8
