use Rattle.std.proofs.Common.{◌≡◌, ◌+◌, ◌*◌, ◌++◌, length, take, drop}
use Rattle.slices.specs.Slices.{laid}
use Rattle.json_walks.specs.Left.{items_left}
use Rattle.table_text.specs.Lists.{places}
use Rattle.table_text.specs.Tables.{names_in}
use Rattle.table_text.proofs.puts.put_names.Given as goal

-- with those that are left they are all, and so is what is laid
abbrev pub invariant-loop-at : goal.invariant-loop-at
invariant-loop-at l =
    (l.n + 2 * length (items_left l.at-iterator) ≡ 2 * length (places l.text l.list))
    × (take l.n l.out ++ laid (names_in l.text (items_left l.at-iterator)) (drop l.n l.out) ≡ laid (names_in l.text (places l.text l.list)) l.fn.out)
