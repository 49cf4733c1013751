use Rattle.std.proofs.Common.{length, ap, arith}
use Rattle.maps.proofs.Chains.{kept}
use Rattle.maps.proofs.Spans.{row-source}
use Rattle.maps.proofs.Written.{merge-start, merging}
use Rattle.maps.proofs.FrameMap.count_merge.Goals as goal

pub row-current-requires : goal.row-current-requires
row-current-requires c = (kept c.args.self).some

pub loop-i-init : goal.loop-i-init
loop-i-init c =
    let m = kept c.args.self in
    record {
      within = omega (arith, m.some);
      fewer = omega arith;
      fits = row-source m 0 c.row-current.result c.row-current.ensures m.some;
      left = omega (arith, ap length (merge-start c.args.self.words.now c.args.self.shifts.now c.row-current.result c.row-current.ensures m.some));
    }

pub loop-i-preserved-then-runs_on : goal.loop-i-preserved-then-runs_on
loop-i-preserved-then-runs_on c = record { within = omega arith; fewer = omega arith; fits = grind (arith, merging); left = grind (arith, merging) }

pub loop-i-preserved : goal.loop-i-preserved
loop-i-preserved c = record { within = omega arith; fewer = omega arith; fits = grind (arith, merging); left = grind (arith, merging) }
