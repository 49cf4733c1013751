use Rattle.std.proofs.Common.{◌+◌, ◌≡◌, length}
use Rattle.json_walks.specs.Walks.{members_in}
use Rattle.json_walks.specs.Left.{members_left}
use Rattle.json_fields.specs.Sought.{told}
use Rattle.json_fields.proofs.Sought.{Noted}
use Rattle.json_fields.proofs.object.places.Given as goal

-- what is noted, and then what the members that are left give, is what all give
abbrev pub invariant-loop-m : goal.invariant-loop-m
invariant-loop-m g l =
    (length l.places ≡ g.row.N) × Noted l.text (told l.keys) (members_in l.left l.text (l.at + 1)) (members_left l.m-iterator) l.places
