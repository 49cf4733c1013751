-- What is searched by: segments that follow one another by their frames, and by their times. Those of an accepted table
-- do both. Assumes nothing.
use Rattle.std.specs.Prelude.{ℕ, ◌+◌, ◌<◌, ◌≡◌, pos, length, EachIndex, unsigned_abs}
use Rattle.conditions.specs.Conditions.{max_u64}
use Rattle.rules.specs.declared.Segment.{Segment}
use Rattle.rules.specs.Limits.{max_i64}
use Rattle.rules.specs.Records.{Table, segment, out_end, out_end_us}
use Rattle.rules.specs.Walks.{Ordered}

-- some segments, whose ends never fall, each of which begins where the one before it ends
pub record Chained (table : Table) : Type 0 where
  pub some : 0 < length table.segments
  pub ends : Ordered (λ k. out_end (segment table k)) (length table.segments) max_u64
  pub chained : (k : ℕ) → k + 1 < length table.segments → (segment table (k + 1)).words.out ≡ out_end (segment table k)

-- when a segment starts and when it ends in the output, where no time is negative
abbrev pub start_us : Segment → ℕ
start_us segment = unsigned_abs segment.stamps.out_start

abbrev pub end_us : Segment → ℕ
end_us segment = unsigned_abs segment.stamps.out_start + unsigned_abs segment.stamps.duration

-- segments of which no time is negative, whose ends never fall either, each of which starts when the one before it ends
pub record Timed (table : Table) : Type 0 where
  pub ends : Ordered (λ k. end_us (segment table k)) (length table.segments) max_i64
  pub plain : EachIndex table.segments (λ k. (segment table k).stamps.out_start ≡ pos (start_us (segment table k)))
  pub sum : EachIndex table.segments (λ k. out_end_us (segment table k) ≡ pos (end_us (segment table k)))
  pub chained : (k : ℕ) → k + 1 < length table.segments → start_us (segment table (k + 1)) ≡ end_us (segment table k)
