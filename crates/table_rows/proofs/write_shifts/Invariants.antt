use Rattle.std.proofs.Common.{◌≡◌, ◌≤◌, map, take}
use Rattle.slices.specs.Slices.{laid}
use Rattle.rows.specs.Lent.{shifts_of}
use Rattle.table_rows.specs.Rows.{row_of}
use Rattle.table_rows.proofs.write_shifts.Given as goal

abbrev pub invariant-loop-k : goal.invariant-loop-k
invariant-loop-k g l = (l.k ≤ l.n) × (l.out ≡ laid (shifts_of (map row_of (take l.k l.accepted.table.now.segments))) l.fn.out)
