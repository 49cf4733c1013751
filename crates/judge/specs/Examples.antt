-- RULES 6.5's numbers on near ends, and some beside them on every refusal by a video; and some of recordings. They are
-- the contract of `worked_examples_hold`.
use Rattle.std.specs.Prelude.{ℕ, false, List, [], ◌∷◌, ℤ, pos, neg_ℤ, Result, Ok}
use Rattle.examples.specs.Worked.{Worked, is, AllRight}
use Rattle.refusal.specs.declared.Reason.TheVariants as reason
use Rattle.refusal.specs.declared.Refusal.{Refusal}
use Rattle.refusal.specs.Refusals.{refused}
use Rattle.rules.specs.Records.{Table}
use Rattle.table.specs.Layout.{table_of}
use Rattle.judge.specs.declared.Video.{Video}
use Rattle.judge.specs.declared.Video.TheVariants.{Nothing, Constant, Times}
use Rattle.judge.specs.Video.{shown_by}
use Rattle.judge.specs.Judge.{validate_of, check_mcraw}

-- one source of 100 frames at numerator / denominator, and one segment of its first frames, as many as `count`, with an
-- out start and a duration
abbrev pub one_segment : ℕ → ℕ → ℕ → ℤ → ℤ → Table
one_segment numerator denominator count out duration =
    table_of (100 ∷ numerator ∷ denominator ∷ 0 ∷ 0 ∷ 0 ∷ 0 ∷ 0 ∷ 0 ∷ 0 ∷ 0 ∷ 0 ∷ 0 ∷ []) (0 ∷ 0 ∷ count ∷ 0 ∷ 0 ∷ [])
    (pos 0 ∷ out ∷ duration ∷ pos 0 ∷ pos 0 ∷ pos 0 ∷ pos 0 ∷ []) false []

-- the same with a second segment of 20 frames, which starts where the first one ends
abbrev pub two_segments : ℕ → ℤ → ℤ → ℤ → Table
two_segments count first out second =
    table_of (100 ∷ 25 ∷ 1 ∷ 0 ∷ 0 ∷ 0 ∷ 0 ∷ 0 ∷ 0 ∷ 0 ∷ 0 ∷ 0 ∷ 0 ∷ []) (0 ∷ 10 ∷ count ∷ 0 ∷ 0 ∷ 0 ∷ 5 ∷ 20 ∷ count ∷ 0 ∷ [])
    (pos 0 ∷ pos 0 ∷ first ∷ pos 0 ∷ pos 0 ∷ pos 0 ∷ pos 0
    ∷ pos 0 ∷ out ∷ second ∷ pos 0 ∷ pos 0 ∷ pos 0 ∷ pos 0 ∷ []) false []

-- a table by a video with its starts; by timestamps, with room for so many in both working slices
abbrev pub judged_by : Table → Video → List ℤ → Result ℕ Refusal
judged_by table video starts = validate_of table (shown_by video starts)

abbrev pub recorded_by : Table → List ℤ → ℕ → Result ℕ Refusal
recorded_by table timestamps room = check_mcraw table timestamps room room

abbrev pub videos : List (Worked (Result ℕ Refusal))
videos =
    -- 30 frames at 30000/1001: ends 967,633 and 1,034,367 are near; 967,632 and 1,034,368 are 25
    is (judged_by (one_segment 30000 1001 30 (pos 0) (pos 967633)) (Constant 30 30000 1001) []) (Ok 30)
    ∷ is (judged_by (one_segment 30000 1001 30 (pos 0) (pos 1034367)) (Constant 30 30000 1001) []) (Ok 30)
    ∷ is (judged_by (one_segment 30000 1001 30 (pos 0) (pos 967632)) (Constant 30 30000 1001) [])
    (refused reason.EndNotNear 0)
    ∷ is (judged_by (one_segment 30000 1001 30 (pos 0) (pos 1034368)) (Constant 30 30000 1001) [])
    (refused reason.EndNotNear 0)
    -- no segments come before no video, no video before any other, and a rate over its limit before the frame count
    ∷ is (judged_by (table_of (100 ∷ 25 ∷ 1 ∷ 0 ∷ 0 ∷ 0 ∷ 0 ∷ 0 ∷ 0 ∷ 0 ∷ 0 ∷ 0 ∷ 0 ∷ []) [] [] false []) Nothing [])
    (refused reason.NoSegments 0)
    ∷ is (judged_by (one_segment 25 1 30 (pos 0) (pos 1200000)) Nothing []) (refused reason.NoVideo 0)
    ∷ is (judged_by (one_segment 25 1 30 (pos 0) (pos 1200000)) (Constant 31 4294967296 1) [])
    (refused reason.TooLarge 0)
    ∷ is (judged_by (one_segment 25 1 30 (pos 0) (pos 1200000)) (Constant 31 25 4294967296) [])
    (refused reason.TooLarge 0)
    ∷ is (judged_by (one_segment 25 1 30 (pos 1) (pos 1200000)) (Constant 31 25 1) [])
    (refused reason.OtherFrameCount 0)
    -- numerator 0; a start that differs; denominator 0
    ∷ is (judged_by (one_segment 25 1 30 (pos 0) (pos 1200000)) (Constant 30 0 1) []) (refused reason.NoFrameTime 0)
    ∷ is (judged_by (one_segment 25 1 30 (pos 1) (pos 1200000)) (Constant 30 25 1) []) (refused reason.OtherFrameTime 0)
    ∷ is (judged_by (one_segment 25 1 30 (pos 0) (pos 0)) (Constant 30 25 0) []) (Ok 30)
    -- 30 and 20 frames; the second segment starts elsewhere
    ∷ is (judged_by (two_segments 30 (pos 1200000) (pos 1200000) (pos 800000)) (Constant 50 25 1) []) (Ok 50)
    ∷ is (judged_by (two_segments 30 (pos 1200001) (pos 1200001) (pos 800000)) (Constant 50 25 1) [])
    (refused reason.OtherFrameTime 1)
    -- times: a half goes away from zero, starts may fall, no more are asked for than segments have; a timescale over
    -- its limit; a start outside i64
    ∷ is (judged_by (one_segment 25 1 2 (pos 1) (pos 1)) (Times 2000000 (pos 4) (pos 1)) (pos 1 ∷ neg_ℤ (pos 7) ∷ []))
    (Ok 2)
    ∷ is (judged_by (one_segment 25 1 2 (pos 0) (pos 1)) (Times 2000000 (pos 4) (pos 1)) (pos 1 ∷ pos 2 ∷ []))
    (refused reason.OtherFrameTime 0)
    ∷ is (judged_by (one_segment 25 1 2 (pos 0) (pos 1)) (Times 4294967296 (pos 4) (pos 1)) (pos 0 ∷ pos 2 ∷ []))
    (refused reason.TooLarge 0)
    ∷ is (judged_by (one_segment 25 1 2 (pos 0) (pos 1)) (Times 1 (pos 4) (pos 1)) (pos 9223372036855 ∷ pos 2 ∷ []))
    (refused reason.NoFrameTime 0)
    -- an end and a nominal below 0: |2·1·4000000 - 2·-1·1000000| is over -2·1000000 + 4000000
    ∷ is (judged_by (one_segment 25 1 1 (pos 0) (pos 1)) (Times 4000000 (neg_ℤ (pos 1)) (neg_ℤ (pos 1))) (pos 1 ∷ []))
    (refused reason.EndNotNear 0)
    ∷ []

abbrev pub recordings : List (Worked (Result ℕ Refusal))
recordings =
    -- three frames, one, none; then too little room, a fall, and a nominal of 0
    is (recorded_by (one_segment 25 1 3 (pos 0) (pos 0)) (pos 1000 ∷ pos 1010 ∷ pos 1025 ∷ []) 3) (Ok 3)
    ∷ is (recorded_by (one_segment 25 1 3 (pos 0) (pos 1)) (pos 1000 ∷ pos 1010 ∷ pos 1025 ∷ []) 3)
    (refused reason.EndNotNear 0)
    ∷ is (recorded_by (one_segment 25 1 1 (pos 0) (pos 40000)) (pos 7 ∷ []) 0) (Ok 1)
    ∷ is (recorded_by (one_segment 4294967296 1 1 (pos 0) (pos 0)) (pos 7 ∷ []) 0) (refused reason.TooLarge 0)
    ∷ is (recorded_by (one_segment 25 1 1 (pos 0) (pos 40000)) [] 0) (refused reason.NoRecordingTimes 0)
    ∷ is (recorded_by (one_segment 25 1 3 (pos 0) (pos 0)) (pos 1000 ∷ pos 1010 ∷ pos 1025 ∷ []) 2)
    (refused reason.NoRoom 0)
    ∷ is (recorded_by (one_segment 25 1 3 (pos 0) (pos 0)) (pos 1000 ∷ pos 1010 ∷ pos 1009 ∷ []) 2)
    (refused reason.Falling 2)
    ∷ is (recorded_by (one_segment 25 1 3 (pos 0) (pos 0)) (pos 1000 ∷ pos 1000 ∷ pos 1025 ∷ []) 3)
    (refused reason.NoRecordingTimes 0)
    ∷ is (recorded_by (one_segment 25 0 3 (pos 0) (pos 0)) [] 0) (refused reason.ZeroInSource 0)
    ∷ []

abbrev pub WorkedExamples : Type 0
WorkedExamples = AllRight videos × AllRight recordings
