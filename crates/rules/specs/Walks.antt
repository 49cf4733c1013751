-- Words of inner contracts, here and of the crates above: a segment's turn, and what walks ask.
use Rattle.std.specs.Prelude.{ℕ, zero, suc, ◌+◌, ◌-◌, ◌≤◌, ◌<◌, ◌≡◌, Bool, true, false, not, ◌||◌, List, ℤ, length, Result, Ok, map, ◌==◌, nat_lt, nat_le, unsigned_abs}
use Rattle.std.specs.List.{range_with_len, count_by}
use Rattle.std.specs.Result.{result_and}
use Rattle.conditions.specs.Conditions.{past, max_u64}
use Rattle.refusal.specs.declared.Reason.{Reason}
use Rattle.refusal.specs.declared.Refusal.{Refusal}
use Rattle.rules.specs.declared.Source.{Source}
use Rattle.rules.specs.declared.Words.{Words}
use Rattle.rules.specs.declared.SixTimes.{SixTimes}
use Rattle.rules.specs.declared.Ends.{Ends}
use Rattle.rules.specs.declared.Stamps.{Stamps}
use Rattle.rules.specs.declared.Segment.{Segment}
use Rattle.rules.specs.Records.{nth, frame_total}
use Rattle.rules.specs.Rules.{bad_source, bad_segment, source_refusal, negative, stamp_times, too_late, apart, bad_shift, judged, ends_of, segment_refusal, ends, segments_from, start}

-- what refuses a segment of this source, 10 to 17, or where it ends
unfoldable pub turned : Source → Ends → Words → SixTimes → Result Ends Reason
turned source previous words times = result_and (judged source previous words times) (Ok (ends_of words times))

-- what refuses a segment, 9 to 17, or where it ends
unfoldable pub turn_of : List Source → Ends → Segment → Result Ends Reason
turn_of sources previous segment = result_and (segment_refusal sources previous segment) (Ok (ends segment))

-- what refuses the first of the segments that is refused, 9 to 17, or the frame total
unfoldable pub walked : List Source → List Segment → Result ℕ Refusal
walked sources segments = result_and (segments_from sources 0 start segments) (Ok (frame_total segments))

-- ---- what a walk asks that only asks whether nothing refuses: the order of the tests doesn't count

-- none of 10, 11, 12 and 15 holds of a segment after one whose frames end at `before`
pub record FineFrames (frames source_first count out_first before : ℕ) : Type 0 where
  pub some : (count == 0) ≡ false
  pub fits : (past out_first count max_u64 || past source_first count max_u64) ≡ false
  pub inside : past source_first count frames ≡ false
  pub next : not (out_first == before) ≡ false

-- too late (14) or apart (16): times after a segment that ends at `previous`
abbrev pub out_of_time : Ends → ℕ → ℕ → ℕ → ℕ → ℕ → ℕ → Bool
out_of_time previous source_start out_start duration source_capture_start out_capture_start capture_duration =
    apart previous.some previous.time previous.capture out_start out_capture_start
    || (too_late source_start duration source_capture_start capture_duration
    || too_late out_start duration out_capture_start capture_duration)

-- neither 1 holds of a segment's flag nor 17 of its shift
pub record FineShift (kind modulus flag : ℕ) (shift : ℤ) : Type 0 where
  pub flagged : nat_lt 1 flag ≡ false
  pub allowed : bad_shift kind modulus flag (negative shift) (unsigned_abs shift) ≡ false

-- a segment of this source, after one that ends at `previous`: neither 1 nor any of 10 to 17 holds, and it ends at `to`
pub record Passes (source : Source) (previous : Ends) (words : Words) (stamps : Stamps) (to : Ends) : Type 0 where
  pub flagged : nat_lt 1 words.flag ≡ false
  pub none : judged source previous words (stamp_times stamps) ≡ Ok tt
  pub end : to ≡ ends_of words (stamp_times stamps)

-- a flag outside its set (1) or one of 10 to 17 refuses it, and it has no end
pub record Stops (source : Source) (previous : Ends) (words : Words) (stamps : Stamps) (to : Ends) : Type 0 where
  pub refused : nat_lt 1 words.flag ≡ false → judged source previous words (stamp_times stamps) ≡ Ok tt → ⊥
  pub end : to ≡ start

-- one or the other, by whether it has an end
abbrev pub Passing : Source → Ends → Words → Stamps → Ends → Type 0
Passing source previous words stamps to =
    (to.some ≡ true → Passes source previous words stamps to)
    × (to.some ≡ false → Stops source previous words stamps to)

-- neither 1 nor any of 9 to 17 holds of a segment of one of the sources
pub record PassesOf (sources : List Source) (previous : Ends) (segment : Segment) (to : Ends) : Type 0 where
  pub flagged : bad_segment segment ≡ false
  pub none : segment_refusal sources previous segment ≡ Ok tt
  pub end : to ≡ ends segment

-- where it has an end; where it has none, 1 or one of 9 to 17 holds
abbrev pub PassingOf : List Source → Ends → Segment → Ends → Type 0
PassingOf sources previous segment to =
    (to.some ≡ true → PassesOf sources previous segment to)
    × (to.some ≡ false → bad_segment segment ≡ false → segment_refusal sources previous segment ≡ Ok tt → ⊥)

-- after k of n segments: what is left to walk gives the whole answer, and has the frames that are missing
pub record Walk (sources : List Source) (segment : ℕ → Segment) (n k : ℕ) (previous : Ends) : Type 0 where
  pub inside : k ≤ n
  pub same :
      segments_from sources k previous (map segment (range_with_len k (n - k)))
      ≡ segments_from sources 0 start (map segment (range_with_len 0 n))
  pub frames :
      previous.frame + frame_total (map segment (range_with_len k (n - k)))
      ≡ frame_total (map segment (range_with_len 0 n))

-- where a segment ends, an u64 holds
pub record EndFits (segment : Segment) : Type 0 where
  pub frame : segment.words.out + segment.words.count ≤ max_u64
  pub time : (stamp_times segment.stamps).out_start + (stamp_times segment.stamps).duration ≤ max_u64
  pub capture : (stamp_times segment.stamps).out_capture_start + (stamp_times segment.stamps).capture_duration ≤ max_u64

-- where the segment before number k ends
unfoldable pub end_before : List Segment → ℕ → Ends
end_before segments zero = start
end_before segments (suc k) = ends (nth segments k)

-- neither 1 nor any of 4 to 7 holds of a source
pub record FineSource (log : Bool) (text : List ℕ) (source : Source) : Type 0 where
  pub words : bad_source (length text) source ≡ false
  pub none : source_refusal log text source ≡ Ok tt

-- how many of n ends are at most a number
unfoldable pub ended_by : (ℕ → ℕ) → ℕ → ℕ → ℕ
ended_by end n number = count_by (λ k. nat_le (end k) number) (map (λ k. k) (range_with_len 0 n))

-- n ends of segments: none passes a limit, and they never fall
pub record Ordered (end : ℕ → ℕ) (n limit : ℕ) : Type 0 where
  pub fits : (k : ℕ) → k < n → end k ≤ limit
  pub rising : (i j : ℕ) → i ≤ j → j < n → end i ≤ end j
