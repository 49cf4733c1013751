use Rattle.std.proofs.Common.{sym}
use Rattle.conditions.proofs.Tests.{called}
use Rattle.rules.proofs.Fine.{front-none}
use Rattle.table.proofs.SegmentTable.has_fine_front.Goals as goal

pub returns : goal.returns
returns g c = λ e.
    let f = c.has_fine_sources.ensures e in
    record {
      words = f.words;
      none =
          front-none _ _ _ _ (rw (c.source_count-sources.ensures, c.segment_count-segments.ensures) at (called c.over_limit.ensures c.if-over_limit.false))
          (rw (c.source_count-sources.ensures, c.segment_count-segments.ensures) at c.if-sources-segments.false) (sym f.none);
    }
