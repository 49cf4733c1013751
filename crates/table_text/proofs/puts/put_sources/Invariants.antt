use Rattle.std.proofs.Common.{◌≡◌, ◌+◌, ◌*◌, ◌++◌, length, take, drop}
use Rattle.slices.specs.Slices.{laid}
use Rattle.json_walks.specs.Left.{items_left}
use Rattle.table_text.specs.Lists.{places}
use Rattle.table_text.specs.Tables.{sources_in, dates_in, all_sources}
use Rattle.table_text.proofs.puts.put_sources.Given as goal

-- with those that are left they are all, and so is what is laid
abbrev pub invariant-loop-at : goal.invariant-loop-at
invariant-loop-at l =
    (l.n + 13 * length (items_left l.at-iterator) ≡ 13 * length (places l.text l.list))
    × (take l.n l.out ++ laid (all_sources (sources_in l.text l.from (items_left l.at-iterator))) (drop l.n l.out) ≡ laid
    (all_sources (sources_in l.text 0 (places l.text l.list))) l.fn.out)
    × (l.from + length (dates_in l.text (items_left l.at-iterator)) ≡ length (dates_in l.text (places l.text l.list)))
    × (take l.from l.dates ++ laid (dates_in l.text (items_left l.at-iterator)) (drop l.from l.dates) ≡ laid
    (dates_in l.text (places l.text l.list)) l.fn.dates)
