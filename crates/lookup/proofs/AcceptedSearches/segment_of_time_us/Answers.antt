use Rattle.std.proofs.Common.{rules, arith}
use Rattle.lookup.proofs.Found.{timed}
use Rattle.lookup.proofs.Last.{times-in-turn, last-ended, starts_rise}
use Rattle.lookup.proofs.AcceptedSearches.segment_of_time_us.Goals as goal

pub last_that-requires-clause-first : goal.last_that-requires-clause-first
last_that-requires-clause-first g c = λ i j h b x y. let r = starts_rise _ (timed _ c.args.self.now.checked) i j h (omega (arith, c.segment_count.ensures.is)) in search rules

pub returns : goal.returns
returns g c = last-ended (times-in-turn (timed _ c.args.self.now.checked) _) (rw c.segment_count.ensures.is at c.last_that.ensures) (λ k b h e. search rules)
