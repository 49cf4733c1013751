-- HOW FAR TWO TABLES OF ONE VIDEO MAY DIFFER (RULES 6.4), of any two calls that judge a table. `Validate` and
-- `CheckMcraw` say which answers the calls allow of a table as it is lent. Every line is proved of calls that answer by
-- judge/specs/Judge.antt, as the contract of `tables_of_one_video`, and the audit claims it of the promises in the
-- source.
use Rattle.std.specs.Prelude.{ℕ, suc, ◌*◌, ◌<◌, List, [], ◌∷◌, ◌≡◌, ℤ, pos, ◌+ℤ◌, ◌-ℤ◌, ◌*ℤ◌, length, EachIndex, ◌≤ℤ◌, Result, Ok, unsigned_abs}
use Rattle.rules.specs.declared.Source.{Source}
use Rattle.refusal.specs.declared.Refusal.{Refusal}
use Rattle.rules.specs.Records.{Table, segment}
use Rattle.mcraw.specs.Mcraw.{nanoseconds, nominal}
use Rattle.judge.specs.declared.Video.{Video}
use Rattle.judge.specs.declared.Video.TheVariants.{Constant, Times}
use Rattle.judge.specs.Judge.{last_segment}
use Rattle.judge.specs.Grounds.{first_source}

-- they agree in every segment's frame fields: as many segments, and of each the same source first, frame count and out
-- first
pub record SameFrames (one other : Table) : Type 0 where
  pub many : length one.segments ≡ length other.segments
  pub first : EachIndex one.segments (λ k. (segment one k).words.first ≡ (segment other k).words.first)
  pub count : EachIndex one.segments (λ k. (segment one k).words.count ≡ (segment other k).words.count)
  pub out : EachIndex one.segments (λ k. (segment one k).words.out ≡ (segment other k).words.out)

-- they agree in every out start and in every duration except the last, and the last durations d and e satisfy
-- |d - e|·scale <= 2·nominal·1,000,000 + scale. Nothing is said of source times, capture times and shifts
pub record Alike (one other : Table) (scale : ℕ) (nominal : ℤ) : Type 0 where
  pub starts : EachIndex one.segments (λ k. (segment one k).stamps.out_start ≡ (segment other k).stamps.out_start)
  pub durations : (k : ℕ) → suc k < length one.segments
      → (segment one k).stamps.duration ≡ (segment other k).stamps.duration
  pub last : (pos (unsigned_abs
      ((last_segment one.segments).stamps.duration -ℤ (last_segment other.segments).stamps.duration)) *ℤ pos scale)
      ≤ℤ (pos 2 *ℤ nominal *ℤ pos 1000000 +ℤ pos scale)

-- the same frames a second, as a number: 25/1 and 50/2 are the same
abbrev pub SameFps : Source → Source → Type 0
SameFps one other = one.numerator * other.denominator ≡ other.numerator * one.denominator

-- if the judge accepts two tables for the same video, and they agree in the frame fields. M and N are their frame
-- totals; a and b, c and d the working slices that each is judged with, and a', b', c', d' these afterwards
pub record Differing {L : Type 0} (table : L → Table)
    (Validate : L → Video → List ℤ → Result ℕ Refusal → Type 0)
    (CheckMcraw : L → List ℤ → List ℤ → List ℤ → Result ℕ Refusal → List ℤ → List ℤ → Type 0)
    : Type 0 where
  -- a constant video; the starts that are lent beside it are no part of it
  pub constant : (one other : L) (frames numerator denominator M N : ℕ) (starts starts' : List ℤ)
      → Validate one (Constant frames numerator denominator) starts (Ok M)
      → Validate other (Constant frames numerator denominator) starts' (Ok N)
      → SameFrames (table one) (table other) → Alike (table one) (table other) numerator (pos denominator)
  -- a video given by its times
  pub times : (one other : L) (scale : ℕ) (end nominal : ℤ) (starts : List ℤ) (M N : ℕ)
      → Validate one (Times scale end nominal) starts (Ok M) → Validate other (Times scale end nominal) starts (Ok N)
      → SameFrames (table one) (table other) → Alike (table one) (table other) scale nominal
  -- a recording of several timestamps; each table is judged with working slices of its own
  pub recording : (one other : L) (timestamps a b a' b' c d c' d' : List ℤ) (M N : ℕ) → 1 < length timestamps
      → CheckMcraw one timestamps a b (Ok M) a' b' → CheckMcraw other timestamps c d (Ok N) c' d'
      → SameFrames (table one) (table other) → Alike (table one) (table other) nanoseconds (nominal timestamps)
  -- for a recording of one timestamp, also with the same frames a second of segment 0's source
  pub one_timestamp : (one other : L) (timestamp : ℤ) (a b a' b' c d c' d' : List ℤ) (M N : ℕ)
      → CheckMcraw one (timestamp ∷ []) a b (Ok M) a' b' → CheckMcraw other (timestamp ∷ []) c d (Ok N) c' d'
      → SameFrames (table one) (table other) → SameFps (first_source (table one)) (first_source (table other))
      → Alike (table one) (table other)
      (first_source (table one)).numerator (pos (first_source (table one)).denominator)
