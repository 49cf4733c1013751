-- THE TABLE OF RULES 3 in plain words, refusals 1 to 17: what each condition says of the records, and the order in
-- which they are tested. The words after a reason are RULES 2.4's, in short. Of every table what `check` answers is
-- proved right by them, as the contract of `refusals_are_right`. Sums of times are integers here, without bounds.
use Rattle.std.specs.Prelude.{ℕ, zero, suc, ◌+◌, ◌≤◌, ◌<◌, ◌≡◌, Bool, true, false, List, [], ◌∷◌, ◌++◌, ◌⊎◌, ◌↔◌, SomeIndex, length, take, drop, pos, ◌+ℤ◌, ◌<ℤ◌, ◌≤ℤ◌, Result, Ok}
use Rattle.conditions.specs.Conditions.{max_u64}
use Rattle.refusal.specs.declared.Reason.{Reason}
use Rattle.refusal.specs.declared.Reason.TheVariants as reason
use Rattle.refusal.specs.declared.Refusal.{Refusal}
use Rattle.refusal.specs.Refusals.{refused}
use Rattle.utc.specs.Utc.{utc_second}
use Rattle.rules.specs.declared.Source.{Source}
use Rattle.rules.specs.Limits.{max_sources, max_segments, max_i64}
use Rattle.rules.specs.declared.Segment.{Segment}
use Rattle.rules.specs.Records.{Table, source, segment, source_of, out_end, out_end_us, capture_end_us}

-- Malformed (1), of a source: a flag or kind is outside its set, or a present creation time's range leaves the text
abbrev pub BadWords : List ℕ → Source → Type 0
BadWords text source =
    (1 < source.dated) ⊎ (2 < source.kind) ⊎ (1 < source.imu_known)
    ⊎ ((source.dated ≡ 1) × (length text < source.from + source.size))

-- Malformed (1): a slice length is no multiple of its record, or the two segment slices disagree (`uneven`); or a
-- source has such words, or a segment a flag outside its set
abbrev pub Malformed : Table → Type 0
Malformed table =
    (table.uneven ≡ true)
    ⊎ SomeIndex table.sources (λ k. BadWords table.text (source table k))
    ⊎ SomeIndex table.segments (λ k. 1 < (segment table k).words.flag)

-- OverLimit (2): over 256 sources or 512 segments
abbrev pub OverLimit : Table → Type 0
OverLimit table = (max_sources < length table.sources) ⊎ (max_segments < length table.segments)

-- ZeroInSource (4): its frames, or a number of its frames a second, is 0
abbrev pub ZeroInSource : Source → Type 0
ZeroInSource source = (source.frames ≡ 0) ⊎ (source.numerator ≡ 0) ⊎ (source.denominator ≡ 0)

-- BadDate (5): its creation time fails the UTC rule
abbrev pub NotUtc : List ℕ → Source → Type 0
NotUtc text source = (source.dated ≡ 1) × (utc_second (take source.size (drop source.from text)) ≡ false)

-- BadClock (6): its clock rate has a 0, or its modulus is 0
abbrev pub BadClock : Source → Type 0
BadClock source =
    (source.kind ≡ 0 → ⊥) × ((source.ticks ≡ 0) ⊎ (source.per ≡ 0) ⊎ ((source.kind ≡ 2) × (source.modulus ≡ 0)))

-- NoClock (7): a log is named and it has no clock
abbrev pub NoClock : Bool → Source → Type 0
NoClock log source = (log ≡ true) × (source.kind ≡ 0)

-- FramesWrap (11): out first or source first plus frame count passes 2^64 - 1
abbrev pub Wraps : Segment → Type 0
Wraps segment = (max_u64 < out_end segment) ⊎ (max_u64 < segment.words.first + segment.words.count)

-- PastSource (12): source first plus frame count passes the source's frames
abbrev pub PastSource : Source → Segment → Type 0
PastSource source segment = source.frames < segment.words.first + segment.words.count

-- NegativeTime (13): any of the six times negative
abbrev pub Negative : Segment → Type 0
Negative segment =
    ((segment.stamps.source_start <ℤ pos 0) ⊎ (segment.stamps.out_start <ℤ pos 0))
    ⊎ ((segment.stamps.duration <ℤ pos 0) ⊎ (segment.stamps.source_capture_start <ℤ pos 0))
    ⊎ ((segment.stamps.out_capture_start <ℤ pos 0) ⊎ (segment.stamps.capture_duration <ℤ pos 0))

-- TooLate (14): source start plus duration, or source capture start plus capture duration, passes 2^63 - 1
abbrev pub SourceLate : Segment → Type 0
SourceLate segment =
    (pos max_i64 <ℤ (segment.stamps.source_start +ℤ segment.stamps.duration))
    ⊎ (pos max_i64 <ℤ (segment.stamps.source_capture_start +ℤ segment.stamps.capture_duration))

-- TooLate again, tested after 16: out start plus duration, or out capture start plus capture duration, does
abbrev pub OutLate : Segment → Type 0
OutLate segment = (pos max_i64 <ℤ out_end_us segment) ⊎ (pos max_i64 <ℤ capture_end_us segment)

-- FrameGap (15): its out first isn't the end before (0 for the first)
abbrev pub FrameGap : Table → ℕ → Type 0
FrameGap table zero = (segment table 0).words.out ≡ 0 → ⊥
FrameGap table (suc k) = (segment table (suc k)).words.out ≡ out_end (segment table k) → ⊥

-- TimeGap (16): its out start or its out capture start isn't the end before; the first is free
abbrev pub TimeGap : Table → ℕ → Type 0
TimeGap table zero = ⊥
TimeGap table (suc k) =
    ((segment table (suc k)).stamps.out_start ≡ out_end_us (segment table k) → ⊥)
    ⊎ ((segment table (suc k)).stamps.out_capture_start ≡ capture_end_us (segment table k) → ⊥)

-- BadShift (17): shift without clock, clock without shift, or a modulus with shift outside 0..modulus
abbrev pub BadShift : Source → Segment → Type 0
BadShift source segment =
    ((source.kind ≡ 0) × (segment.words.flag ≡ 1))
    ⊎ ((source.kind ≡ 0 → ⊥) × (segment.words.flag ≡ 0))
    ⊎ ((source.kind ≡ 2) × ((segment.stamps.shift <ℤ pos 0) ⊎ (pos source.modulus ≤ℤ segment.stamps.shift)))

-- a condition, with the reason and index of its refusal
pub record Test : Type 1 where
  pub holds : Type 0
  pub reason : Reason
  pub index : ℕ

-- a condition is refused for a reason, at i
abbrev pub given : Type 0 → Reason → ℕ → Test
given condition why i = record { holds = condition; reason = why; index = i }

-- what refuses source k: 4 to 7
abbrev pub of_source : Table → ℕ → List Test
of_source table k =
    given (ZeroInSource (source table k)) reason.ZeroInSource k
    ∷ given (NotUtc table.text (source table k)) reason.BadDate k
    ∷ given (BadClock (source table k)) reason.BadClock k
    ∷ given (NoClock table.log (source table k)) reason.NoClock k
    ∷ []

-- what refuses segment k: NoSuchSource (9), it names no source of the table; NoFrames (10), its frame count is 0; and
-- 11 to 17
abbrev pub of_segment : Table → ℕ → List Test
of_segment table k =
    given (length table.sources ≤ (segment table k).words.source) reason.NoSuchSource k
    ∷ given ((segment table k).words.count ≡ 0) reason.NoFrames k
    ∷ given (Wraps (segment table k)) reason.FramesWrap k
    ∷ given (PastSource (source_of table.sources (segment table k)) (segment table k)) reason.PastSource k
    ∷ given (Negative (segment table k)) reason.NegativeTime k
    ∷ given (SourceLate (segment table k)) reason.TooLate k
    ∷ given (FrameGap table k) reason.FrameGap k
    ∷ given (TimeGap table k) reason.TimeGap k
    ∷ given (OutLate (segment table k)) reason.TooLate k
    ∷ given (BadShift (source_of table.sources (segment table k)) (segment table k)) reason.BadShift k
    ∷ []

-- the tests of n records, from number i on
abbrev pub each : (ℕ → List Test) → ℕ → ℕ → List Test
each of i zero = []
each of i (suc n) = of i ++ each of (suc i) n

-- all tests, in the order of RULES 3.1; NoSources (3): no sources, NoSegments (8): no segments
abbrev pub tests : Table → List Test
tests table =
    given (Malformed table) reason.Malformed 0
    ∷ given (OverLimit table) reason.OverLimit 0
    ∷ given (length table.sources ≡ 0) reason.NoSources 0
    ∷ (each (of_source table) 0 (length table.sources)
    ++ (given (length table.segments ≡ 0) reason.NoSegments 0
    ∷ each (of_segment table) 0 (length table.segments)))

-- the condition of a reason holds at i, and none that is tested before it does
abbrev pub First : List Test → Reason → ℕ → Type 0
First [] why i = ⊥
First (test ∷ rest) why i =
    (test.holds × (why ≡ test.reason) × (i ≡ test.index)) ⊎ ((test.holds → ⊥) × First rest why i)

-- none holds
abbrev pub None : List Test → Type 0
None [] = Unit
None (test ∷ rest) = (test.holds → ⊥) × None rest

-- an answer is right by these conditions, where the segments have so many frames in total: it refuses for a reason at i
-- exactly when that reason's condition holds there and none that is tested before it does, and it accepts with the
-- total exactly when none holds
pub record Rightly (answer : Result ℕ Refusal) (conditions : List Test) (total : ℕ) : Type 0 where
  pub refuses : (why : Reason) (i : ℕ) → (answer ≡ refused why i) ↔ First conditions why i
  pub accepts : (frames : ℕ) → (answer ≡ Ok frames) ↔ (None conditions × (frames ≡ total))
