use Rattle.std.proofs.Common.{◌≡◌, ◌≤◌, ◌+◌, ◌++◌, length, take, drop}
use Rattle.slices.specs.Slices.{laid}
use Rattle.json_walks.specs.Left.{items_left}
use Rattle.table_text.specs.Lists.{are_segments, places}
use Rattle.table_text.proofs.staging.segments_in.Given as goal

-- those left are segments exactly where all are, and with them they are all; and so is what is laid, where it has room
abbrev pub invariant-loop-at : goal.invariant-loop-at
invariant-loop-at l =
    (are_segments l.text (items_left l.at-iterator) ≡ are_segments l.text (places l.text l.list))
    × (l.count + length (items_left l.at-iterator) ≡ length (places l.text l.list))
    × (l.n ≤ length l.out)
    × (length (places l.text l.list) ≤ length l.fn.out → (l.n + length (items_left l.at-iterator) ≡ length (places l.text l.list))
    × (take l.n l.out ++ laid (items_left l.at-iterator) (drop l.n l.out) ≡ laid (places l.text l.list) l.fn.out))
