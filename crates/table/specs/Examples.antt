-- T of RULES 3.6, and each refusal of a check: the contract of `worked_examples_hold`.
use Rattle.std.specs.Prelude.{ℕ, true, false, List, [], ◌∷◌, ◌++◌, take, replicate, ℤ, pos, neg_ℤ, Result, Ok}
use Rattle.examples.specs.Worked.{Worked, is, AllRight}
use Rattle.refusal.specs.declared.Reason.TheVariants as reason
use Rattle.refusal.specs.declared.Refusal.{Refusal}
use Rattle.refusal.specs.Refusals.{refused}
use Rattle.rules.specs.Records.{Table}
use Rattle.rules.specs.Rules.{check_of}
use Rattle.table.specs.Layout.{source_at, table_of}

-- a source of 25 frames a second: its frames, creation time and clock
abbrev pub source : ℕ → ℕ → ℕ → ℕ → ℕ → ℕ → List ℕ
source frames dated from kind ticks modulus =
    frames ∷ 25 ∷ 1 ∷ dated ∷ from ∷ 20 ∷ kind ∷ ticks ∷ 1 ∷ modulus ∷ 0 ∷ 0 ∷ 0 ∷ []

-- a source of so many bytes, with the flag of its origin, and its origin
abbrev pub placed : ℕ → ℕ → ℕ → List ℕ
placed file_size imu_known imu_origin = 100 ∷ 25 ∷ 1 ∷ 0 ∷ 0 ∷ 0 ∷ 0 ∷ 0 ∷ 0 ∷ 0 ∷ file_size ∷ imu_known ∷ imu_origin ∷ []

abbrev pub plain : ℕ → List ℕ
plain frames = source frames 0 0 0 0 0

abbrev pub sources : List ℕ
sources = plain 100 ++ plain 50

abbrev pub words : ℕ → ℕ → ℕ → ℕ → ℕ → List ℕ
words source first count out_first flag = source ∷ first ∷ count ∷ out_first ∷ flag ∷ []

abbrev pub segments : List ℕ
segments = words 0 10 30 0 0 ++ words 1 5 20 30 0

-- out start, duration, and source start; the capture times and the shift are 0
abbrev pub stamps : ℤ → ℤ → ℤ → List ℤ
stamps out_start duration source_start = source_start ∷ out_start ∷ duration ∷ pos 0 ∷ pos 0 ∷ pos 0 ∷ pos 0 ∷ []

abbrev pub first : List ℤ
first = stamps (pos 0) (pos 1200000) (pos 0)

abbrev pub all_stamps : List ℤ
all_stamps = first ++ stamps (pos 1200000) (pos 800000) (pos 0)

abbrev pub T : Table
T = table_of sources segments all_stamps false []

-- a check of a changed T
abbrev pub of : List ℕ → List ℕ → List ℤ → Result ℕ Refusal
of sources segments stamps = check_of (table_of sources segments stamps false [])

-- its first source another
abbrev pub from : List ℕ → Result ℕ Refusal
from changed = of (changed ++ plain 50) segments all_stamps

-- its second segment another
abbrev pub with : List ℕ → List ℤ → Result ℕ Refusal
with changed stamps = of sources (words 0 10 30 0 0 ++ changed) (first ++ stamps)

-- 0000-02-29T00:00:00Z, and then 1900-02-29T00:00:00Z
abbrev pub text : List ℕ
text =
    48 ∷ 48 ∷ 48 ∷ 48 ∷ 45 ∷ 48 ∷ 50 ∷ 45 ∷ 50 ∷ 57 ∷ 84 ∷ 48 ∷ 48 ∷ 58 ∷ 48 ∷ 48 ∷ 58 ∷ 48 ∷ 48 ∷ 90
    ∷ 49 ∷ 57 ∷ 48 ∷ 48 ∷ 45 ∷ 48 ∷ 50 ∷ 45 ∷ 50 ∷ 57 ∷ 84 ∷ 48 ∷ 48 ∷ 58 ∷ 48 ∷ 48 ∷ 58 ∷ 48 ∷ 48 ∷ 90 ∷ []

-- its first source made at the creation time that starts at a byte
abbrev pub made : ℕ → Result ℕ Refusal
made at = check_of (table_of (source 100 1 at 0 0 0 ++ plain 50) segments all_stamps false text)

-- a table of n sources, as the records that it holds, without segments
abbrev pub many : ℕ → Result ℕ Refusal
many n = check_of (record {
  uneven = false;
  log = false;
  text = [];
  sources = replicate n (source_at (plain 1) 0);
  segments = [];
})

-- its second segment of a source with a clock, the first without
abbrev pub clocked : ℕ → ℕ → ℤ → Result ℕ Refusal
clocked kind flag shift =
    of (plain 100 ++ source 50 0 0 kind 1 7) (words 0 10 30 0 0 ++ words 1 5 20 30 flag)
    (first ++ (pos 0 ∷ pos 1200000 ∷ pos 800000 ∷ pos 0 ∷ pos 0 ∷ pos 0 ∷ shift ∷ []))

-- the stamps of T's second segment
abbrev pub late : List ℤ
late = stamps (pos 1200000) (pos 800000) (pos 0)

-- the largest i64
abbrev pub largest : ℤ
largest = pos 0x7fff_ffff_ffff_ffff

abbrev pub checks : List (Worked (Result ℕ Refusal))
checks =
    is (check_of T) (Ok 50)
    ∷ is (made 0) (Ok 50)
    ∷ is (of (0 ∷ sources) segments all_stamps) (refused reason.Malformed 0)
    ∷ is (of sources (segments ++ segments) all_stamps) (refused reason.Malformed 0)
    ∷ is (from (source 100 2 0 0 0 0)) (refused reason.Malformed 0)
    ∷ is (from (source 100 0 0 3 0 0)) (refused reason.Malformed 0)
    ∷ is (made 21) (refused reason.Malformed 0)
    -- any size, and any origin, known or not; a flag outside its set; and sources of ten words
    ∷ is (from (placed 0xffff_ffff_ffff_ffff 1 0xffff_ffff_ffff_ffff)) (Ok 50)
    ∷ is (from (placed 7 0 5)) (Ok 50)
    ∷ is (from (placed 7 2 5)) (refused reason.Malformed 0)
    ∷ is (of (take 20 sources) segments all_stamps) (refused reason.Malformed 0)
    ∷ is (with (words 1 5 20 30 2) late) (refused reason.Malformed 0)
    ∷ is (many 257) (refused reason.OverLimit 0)
    ∷ is (many 256) (refused reason.NoSegments 0)
    ∷ is (of sources [] []) (refused reason.NoSegments 0)
    ∷ is (of [] segments all_stamps) (refused reason.NoSources 0)
    ∷ is (of (plain 100 ++ plain 0) segments all_stamps) (refused reason.ZeroInSource 1)
    ∷ is (made 20) (refused reason.BadDate 0)
    ∷ is (from (source 100 0 0 1 0 7)) (refused reason.BadClock 0)
    ∷ is (from (source 100 0 0 2 1 0)) (refused reason.BadClock 0)
    ∷ is (check_of (table_of sources segments all_stamps true [])) (refused reason.NoClock 0)
    ∷ is (many 257) (refused reason.OverLimit 0)
    ∷ is (many 256) (refused reason.NoSegments 0)
    ∷ is (of sources [] []) (refused reason.NoSegments 0)
    ∷ is (with (words 2 5 20 30 0) late) (refused reason.NoSuchSource 1)
    ∷ is (with (words 1 5 0 30 0) late) (refused reason.NoFrames 1)
    ∷ is (with (words 1 0xffff_ffff_ffff_ffff 1 30 0) late) (refused reason.FramesWrap 1)
    ∷ is (with (words 1 31 20 30 0) late) (refused reason.PastSource 1)
    ∷ is (with (words 1 5 20 30 0) (stamps (pos 1200000) (neg_ℤ (pos 1)) (pos 0))) (refused reason.NegativeTime 1)
    ∷ is (with (words 1 5 20 31 0) (stamps (pos 1200000) (pos 1) largest)) (refused reason.TooLate 1)
    ∷ is (with (words 1 5 20 31 0) (stamps (pos 1200001) (pos 800000) (pos 0))) (refused reason.FrameGap 1)
    ∷ is (with (words 1 5 20 30 0) (stamps (pos 1200001) largest (pos 0))) (refused reason.TimeGap 1)
    ∷ is (with (words 1 5 20 30 0) (stamps (pos 1200000) largest (pos 0))) (refused reason.TooLate 1)
    ∷ is (clocked 0 1 (pos 0)) (refused reason.BadShift 1)
    ∷ is (clocked 1 0 (pos 0)) (refused reason.BadShift 1)
    ∷ is (clocked 1 1 (neg_ℤ (pos 10))) (Ok 50)
    ∷ is (clocked 2 1 (pos 6)) (Ok 50)
    ∷ is (clocked 2 1 (pos 7)) (refused reason.BadShift 1)
    ∷ is (clocked 2 1 (neg_ℤ (pos 1))) (refused reason.BadShift 1)
    ∷ []

abbrev pub WorkedExamples : Type 0
WorkedExamples = AllRight checks
