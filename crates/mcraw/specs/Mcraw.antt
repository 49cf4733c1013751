-- The frame times of a MotionCam recording, of its frames' timestamps in nanoseconds: RULES 9.
use Rattle.std.specs.Prelude.{ℕ, ◌-◌, ◌/◌, ◌≡◌, ◌||◌, List, [], ◌∷◌, map, ℤ, pos, ◌+ℤ◌, ◌-ℤ◌, length, get_or, Result, Ok, Err, nat_lt, int_lt, if◌then◌else◌}
use Rattle.std.specs.Ordering.{int_eq}
use Rattle.std.specs.Result.{result_and}
use Rattle.refusal.specs.declared.Reason.{Reason}
use Rattle.refusal.specs.declared.Reason.TheVariants as reason
use Rattle.refusal.specs.declared.Refusal.{Refusal}
use Rattle.refusal.specs.Refusals.{refused, first_refused}
use Rattle.signed.specs.Signed.{is_outside}
use Rattle.slices.specs.Slices.{laid, zeros}
use Rattle.order.specs.Order.{sorted}
use Rattle.ticks.specs.declared.FrameTimes.{FrameTimes}

-- the most timestamps, and the timescale of a recording
abbrev pub most_timestamps : ℕ
most_timestamps = 16777216

abbrev pub nanoseconds : ℕ
nanoseconds = 1000000000

-- the intervals: each timestamp less the one before it
unfoldable pub gaps : List ℤ → List ℤ
gaps [] = []
gaps (x ∷ []) = []
gaps (x ∷ (y ∷ xs)) = (y -ℤ x) ∷ gaps (y ∷ xs)

abbrev pub first : List ℤ → ℤ
first timestamps = get_or timestamps 0 (pos 0)

abbrev pub last : List ℤ → ℤ
last timestamps = get_or timestamps (length timestamps - 1) (pos 0)

-- starts count from the first timestamp
unfoldable pub starts_of : List ℤ → List ℤ
starts_of timestamps = map (λ x. x -ℤ first timestamps) timestamps

unfoldable pub span : List ℤ → ℤ
span timestamps = last timestamps -ℤ first timestamps

-- the interval at floor((n - 2) / 2) in ascending order, counted from 0
unfoldable pub nominal : List ℤ → ℤ
nominal timestamps = get_or (sorted (gaps timestamps)) ((length timestamps - 2) / 2) (pos 0)

unfoldable pub end : List ℤ → ℤ
end timestamps = span timestamps +ℤ nominal timestamps

-- an interval of timestamps that fall is below 0
abbrev pub falls : ℤ → Result (Unit {0}) Reason
falls gap = if int_lt gap (pos 0) then Err reason.Falling else Ok tt

-- the first that is, at the index of its later timestamp
unfoldable pub fall_of : List ℤ → Result (Unit {0}) Refusal
fall_of timestamps = first_refused falls 1 (gaps timestamps)

-- the refusals in testing order, with so much room in starts and in the working slice
unfoldable pub refusal_of : List ℤ → ℕ → ℕ → Result (Unit {0}) Refusal
refusal_of timestamps starts work =
    if nat_lt most_timestamps (length timestamps) then refused reason.TooLong 0
    else if nat_lt (length timestamps) 2 then refused reason.Missing 0
    else result_and (fall_of timestamps)
    (if is_outside (span timestamps) then refused reason.Outside 0
    else if nat_lt starts (length timestamps) || nat_lt work (length timestamps) then refused reason.NoRoom 0
    else if int_eq (nominal timestamps) (pos 0) then refused reason.Missing 0
    else if is_outside (end timestamps) then refused reason.Outside 0
    else Ok tt)

-- frames, scale, nominal and end of timestamps that nothing refuses
unfoldable pub times_of : List ℤ → FrameTimes
times_of timestamps = record {
  frames = length timestamps;
  scale = nanoseconds;
  nominal = nominal timestamps;
  end = end timestamps;
}

unfoldable pub mcraw_times : List ℤ → ℕ → ℕ → Result FrameTimes Refusal
mcraw_times timestamps starts work = result_and (refusal_of timestamps starts work) (Ok (times_of timestamps))

-- what is written with an answer: the starts, or nothing
unfoldable pub starts_written : Result FrameTimes Refusal → List ℤ → List ℤ
starts_written (Ok times) timestamps = starts_of timestamps
starts_written (Err refusal) timestamps = []

-- the answer, and both lent slices afterwards
pub record McrawAnswers
    (timestamps starts work : List ℤ) (answered : Result FrameTimes Refusal) (starts' work' : List ℤ) : Type 0 where
  pub answer : answered ≡ mcraw_times timestamps (length starts) (length work)
  pub laid_out : starts' ≡ laid (starts_written answered timestamps) starts
  pub cleared : work' ≡ zeros work
