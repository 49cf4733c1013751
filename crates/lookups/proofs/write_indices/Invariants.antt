use Rattle.std.proofs.Common.{◌≡◌, ◌++◌, ◌≤◌, length, map, take, drop}
use Rattle.lookups.specs.Pieces.{index_in, Covers}
use Rattle.lookups.proofs.write_indices.Given as goal

abbrev pub invariant-loop-k : goal.invariant-loop-k
invariant-loop-k g l = (l.k ≤ length l.frames) × (l.out ≡ take l.k (map (index_in l.accepted.table.now) l.frames) ++ drop l.k l.fn.out) × Covers l.accepted.table.now l.piece
