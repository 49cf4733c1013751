use Rattle.std.proofs.Common.{rules, arith}
use Rattle.lookup.proofs.Found.{chained}
use Rattle.lookup.proofs.Last.{frames-in-turn, last-ended, outs-rise}
use Rattle.lookup.proofs.AcceptedSearches.segment_of_frame.Goals as goal

pub last_that-requires-clause-first : goal.last_that-requires-clause-first
last_that-requires-clause-first g c = λ i j h b x y. let r = outs-rise _ (chained _ c.args.self.now.checked) i j h (omega (arith, c.segment_count.ensures.is)) in search rules

pub returns : goal.returns
returns g c = last-ended (frames-in-turn (chained _ c.args.self.now.checked) _) (rw c.segment_count.ensures.is at c.last_that.ensures) (λ k b h e. search rules)
