use Rattle.std.proofs.Common.{◌≡◌, ◌≤◌, ◌+◌, ◌*◌, ◌++◌, length, take, drop, map}
use Rattle.slices.specs.Slices.{laid}
use Rattle.json_walks.specs.Left.{items_left}
use Rattle.table_text.specs.Lists.{are_sources, places}
use Rattle.table_text.specs.Tables.{dates_in, all_sources}
use Rattle.table_text.specs.Layout.{staged_in}
use Rattle.table_text.proofs.staging.sources_in.Given as goal

-- those left are sources exactly where all are, and with them they are all; and so is what is laid, where it has room
abbrev pub invariant-loop-at : goal.invariant-loop-at
invariant-loop-at l =
    (are_sources l.text (items_left l.at-iterator) ≡ are_sources l.text (places l.text l.list))
    × (l.count + length (items_left l.at-iterator) ≡ length (places l.text l.list))
    × (l.dates + length (dates_in l.text (items_left l.at-iterator)) ≡ length (dates_in l.text (places l.text l.list)))
    × (l.n ≤ length l.out)
    × (13 * length (places l.text l.list) ≤ length l.fn.out → (l.n + 13 * length (items_left l.at-iterator) ≡ 13 * length (places l.text l.list))
    × (take l.n l.out ++ laid (all_sources (map (staged_in l.text) (items_left l.at-iterator))) (drop l.n l.out) ≡ laid
    (all_sources (map (staged_in l.text) (places l.text l.list))) l.fn.out))
