use Rattle.std.proofs.Common.{arith}
use Rattle.maps.proofs.Chains.{kept}
use Rattle.maps.proofs.Spans.{outs-rise, from_zero, last-holds}
use Rattle.maps.proofs.FrameMap.row_of.Goals as goal

pub last_begun-requires : goal.last_begun-requires
last_begun-requires c = (outs-rise (kept c.args.self), from_zero (kept c.args.self) c.args.frame)

pub returns : goal.returns
returns c = last-holds (kept c.args.self) c.last_begun.ensures (omega (arith, c.args.self.counted, c.requires))
