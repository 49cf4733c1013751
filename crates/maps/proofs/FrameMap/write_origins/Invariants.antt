use Rattle.std.proofs.Common.{◌≡◌, ◌≤◌, ◌<◌, ◌++◌, map, length, take, drop}
use Rattle.rows.specs.Lent.{rows}
use Rattle.maps.specs.Origins.{origin_at}
use Rattle.maps.proofs.FrameMap.write_origins.Given as goal

abbrev pub invariant-loop-k : goal.invariant-loop-k
invariant-loop-k l =
    record {
      within : l.k ≤ length l.frames;
      known : l.row < length l.self.shifts.now;
      written :
          l.out ≡ take l.k (map (origin_at (rows l.self.words.now l.self.shifts.now)) l.frames) ++ drop l.k l.fn.out;
    }
