-- Words of inner contracts: what the walk finds that only asks whether nothing refuses.
use Rattle.std.specs.Prelude.{ℕ, ◌<◌, false, List, ◌≡◌, length, Result, Ok, Err}
use Rattle.std.specs.List.{list_any}
use Rattle.refusal.specs.declared.Refusal.{Refusal}
use Rattle.refusal.specs.Refusals.{first_refused}
use Rattle.rules.specs.declared.Source.{Source}
use Rattle.rules.specs.declared.Segment.{Segment}
use Rattle.table.specs.declared.walk.Walked.{Walked}
use Rattle.table.specs.declared.walk.Walked.TheVariants as found
use Rattle.rules.specs.Records.{Table, nth}
use Rattle.rules.specs.Rules.{bad_source, bad_segment, source_refusal, segment_refusal, malformed, front_refusal, check_of}
use Rattle.rules.specs.Walks.{walked, end_before}

-- neither 1 nor any of 4 to 7 holds of one of its sources
pub record FineSources (table : Table) : Type 0 where
  pub words : list_any (bad_source (length table.text)) table.sources ≡ false
  pub none : first_refused (source_refusal table.log table.text) 0 table.sources ≡ Ok tt

-- none of 1 to 8 holds, of lengths that fit, but for 1 of segments
pub record FineFront (table : Table) : Type 0 where
  pub words : list_any (bad_source (length table.text)) table.sources ≡ false
  pub none : front_refusal table.log table.text table.sources false (length table.segments) ≡ Ok tt

-- what comes before the segments: 1 to 8
abbrev pub front_of : Table → Result (Unit {0}) Refusal
front_of table = front_refusal table.log table.text table.sources (malformed table) (length table.segments)

-- neither 1, of segments, nor any of 9 to 17 holds, and they have n frames
pub record FineSegments (sources : List Source) (segments : List Segment) (n : ℕ) : Type 0 where
  pub flags : list_any bad_segment segments ≡ false
  pub frames : Ok n ≡ walked sources segments

-- neither 1 nor any of 9 to 17 holds of segment k
abbrev pub FineAt : List Source → List Segment → ℕ → Type 0
FineAt sources segments k =
    (bad_segment (nth segments k) ≡ false)
    × (segment_refusal sources (end_before segments k) (nth segments k) ≡ Ok tt)

-- segment k is the first of which 1 or one of 9 to 17 holds
pub record Stopped (sources : List Source) (segments : List Segment) (k : ℕ) : Type 0 where
  pub inside : k < length segments
  pub before : (j : ℕ) → j < k → FineAt sources segments j
  pub refused : FineAt sources segments k → ⊥

-- the frames of segments that all pass, or the first that doesn't
unfoldable pub Passed : List Source → List Segment → Result ℕ ℕ → Type 0
Passed sources segments (Ok n) = FineSegments sources segments n
Passed sources segments (Err k) = Stopped sources segments k

-- a table whose segments are walked, and the one at which that stops
pub record StoppedAt (table : Table) (k : ℕ) : Type 0 where
  pub even : table.uneven ≡ false
  pub fine : FineFront table
  pub stopped : Stopped table.sources table.segments k

-- what the first walk over a table finds; `InOrder` says nothing
unfoldable pub FirstWalk : Table → Walked → Type 0
FirstWalk table (found.Frames n) = Ok n ≡ check_of table
FirstWalk table (found.Stopped k) = StoppedAt table k
FirstWalk table found.InOrder = Unit {0}
