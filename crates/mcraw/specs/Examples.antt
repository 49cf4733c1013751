-- The example of RULES 9.3, and some beside it. They are the contract of `worked_examples_hold`.
use Rattle.std.specs.Prelude.{ℕ, List, [], ◌∷◌, ℤ, pos, neg_ℤ, Result, Ok}
use Rattle.examples.specs.Worked.{Worked, is, AllRight}
use Rattle.refusal.specs.declared.Reason.TheVariants as reason
use Rattle.refusal.specs.declared.Refusal.{Refusal}
use Rattle.refusal.specs.Refusals.{refused}
use Rattle.ticks.specs.declared.FrameTimes.{FrameTimes}
use Rattle.mcraw.specs.Mcraw.{mcraw_times, starts_written}

-- of timestamps, with room for so many in both slices: the answer, and the starts
abbrev pub answered : List ℤ → ℕ → Result FrameTimes Refusal × List ℤ
answered timestamps room =
    (mcraw_times timestamps room room, starts_written (mcraw_times timestamps room room) timestamps)

-- so many frames, the nominal interval and the end, in nanoseconds
abbrev pub timed : ℕ → ℤ → ℤ → Result FrameTimes Refusal
timed frames nominal end = Ok (record { frames = frames; scale = 1000000000; nominal = nominal; end = end })

abbrev pub recordings : List (Worked (Result FrameTimes Refusal × List ℤ))
recordings =
    -- nominal 10, end 35
    is (answered (pos 1000 ∷ pos 1010 ∷ pos 1025 ∷ []) 3) (timed 3 (pos 10) (pos 35), pos 0 ∷ pos 10 ∷ pos 25 ∷ [])
    -- the lower middle of two intervals, below 0 too, and the middle of three
    ∷ is (answered (neg_ℤ (pos 20) ∷ pos 10 ∷ pos 20 ∷ []) 3) (timed 3 (pos 10) (pos 50), pos 0 ∷ pos 30 ∷ pos 40 ∷ [])
    ∷ is (answered (pos 0 ∷ pos 9 ∷ pos 10 ∷ pos 15 ∷ []) 5)
    (timed 4 (pos 5) (pos 20), pos 0 ∷ pos 9 ∷ pos 10 ∷ pos 15 ∷ [])
    -- one timestamp, and none
    ∷ is (answered (pos 7 ∷ []) 3) (refused reason.Missing 0, [])
    ∷ is (answered [] 3) (refused reason.Missing 0, [])
    -- the second pair falls; a fall comes before a span that no i64 holds, and that before the room
    ∷ is (answered (pos 5 ∷ pos 5 ∷ pos 4 ∷ pos 3 ∷ []) 0) (refused reason.Falling 2, [])
    ∷ is (answered (neg_ℤ (pos 9223372036854775808) ∷ pos 0 ∷ []) 1) (refused reason.Outside 0, [])
    ∷ is (answered (neg_ℤ (pos 9223372036854775808) ∷ neg_ℤ (pos 1) ∷ []) 1) (refused reason.NoRoom 0, [])
    -- equal neighbours are allowed, but no nominal of 0
    ∷ is (answered (pos 5 ∷ pos 5 ∷ pos 6 ∷ []) 3) (refused reason.Missing 0, [])
    ∷ is (answered (pos 5 ∷ pos 5 ∷ pos 6 ∷ pos 7 ∷ []) 4) (timed 4 (pos 1) (pos 3), pos 0 ∷ pos 0 ∷ pos 1 ∷ pos 2 ∷ [])
    -- a span that an i64 holds, and an end that none does
    ∷ is (answered (neg_ℤ (pos 9223372036854775808) ∷ neg_ℤ (pos 1) ∷ []) 2) (refused reason.Outside 0, [])
    ∷ []

abbrev pub WorkedExamples : Type 0
WorkedExamples = AllRight recordings
