use Rattle.maps.proofs.Chains.{kept}
use Rattle.maps.proofs.Spans.{holders-rise, spans}
use Rattle.maps.proofs.FrameMap.part.Goals as goal

pub overflow_sub-count : goal.overflow_sub-count
overflow_sub-count c = holders-rise (kept c.args.self) c.args.range.from c.args.range.to c.row_of-first.result c.row_of.result c.requires.0 c.row_of-first.ensures c.row_of.ensures

pub returns : goal.returns
returns c = spans (kept c.args.self) c.args.range.from c.args.range.to c.row_of-first.result c.row_of.result c.requires.0 c.row_of-first.ensures c.row_of.ensures
