-- Each promise is the equation that is claimed, by computation. Assumes nothing.
use Prim.Native.Nat.{ℕ}
use mathlib.Core.Bool.{Bool}
use mathlib.Core.List.{List}
use mathlib.Core.Logic.{◌↔◌}
use Rattle.std.specs.Prelude.{Result}
use Rattle.refusal.specs.declared.Refusal.{Refusal}
use Rattle.records.specs.declared.TrimSegment.{TrimSegment}
use Rattle.records.specs.Records.{locate}
use Rattle.audit.specs.Calls as calls
use Rattle.audit.specs.Words.{SegmentOfFrame, in_words}
use Rattle.audit.specs.Claims.{Meanings}

is : {P : Type 0} → (P → P) × (P → P)
is = (λ x. x, λ x. x)

listed : (sources text : List ℕ) (rs : List TrimSegment) (log : Bool) (f : ℕ) (r : Result ℕ Refusal)
    → calls.SegmentOfFrameRecords sources text rs log f r ↔ SegmentOfFrame (in_words sources text rs log) f r
unfolding locate
listed sources text rs log f r = is

pub meant : Meanings
meant = record {
  ticks-to-us = λ t scale r. is;
  is-utc-second = λ b r. is;
  check = λ l r. is;
  segment-of-frame = λ l f r. is;
  segment-of-time-us = λ l t r. is;
  continues = λ l k r. is;
  rows-of-table = λ l ou ou' os os' r. is;
  segments-of-frames = λ l fs out out' r. is;
  validate = λ l video starts r. is;
  check-mcraw = λ l timestamps a b a' b' r. is;
  box-size = λ b remaining r. is;
  children = λ b at r. is;
  child-place = λ b kind r. is;
  child = λ b kind r. is;
  find-box-place = λ b start end kind text r. is;
  find-box = λ b start end kind text r. is;
  table-text-place = λ b r. is;
  table-text = λ b r. is;
  video-frame-times-of-moov = λ moov standard starts a b starts' a' b' r. is;
  mcraw-times = λ timestamps starts work starts' work' r. is;
  cut = λ u s a b ou ou' os os' r. is;
  cuts = λ u ranges s ou ou' os os' counts counts' r. is;
  join = λ u v s t ou ou' os os' r. is;
  merge = λ u s ou ou' os os' r. is;
  origin = λ u s f r. is;
  origins = λ u s fs out out' r. is;
  segment-of-frame-records = listed;
  read-table = λ text sources words stamps dates work sources' words' stamps' dates' work' r. is;
  source-names = λ text out work out' work' r. is;
  string-into = λ text at out out' r. is;
}
