use Rattle.std.proofs.Common.{◌≡◌, ◌≤◌, ◌+◌, ◌++◌, length, take, drop, map, pos}
use Rattle.slices.specs.Slices.{laid}
use Rattle.tracks.specs.Tables.{entries_of, entry_total, per_frame, durations}
use Rattle.tracks.specs.Walking.{runs_left}
use Rattle.tracks.proofs.tables.lay.Given as goal

-- what is laid, then the values of the entries that are left, is the whole
abbrev pub invariant-loop-run : goal.invariant-loop-run
invariant-loop-run l =
    (l.sum ≤ l.most) × (l.sum + entry_total (runs_left l.run-iterator) ≡ entry_total (entries_of l.table.entries l.table.payload.now))
    × (l.sum ≤ length l.out → take l.sum l.out ++ laid (map pos (per_frame (runs_left l.run-iterator))) (drop l.sum l.out) ≡ laid (map pos (durations l.table.entries l.table.payload.now)) l.fn.out)
