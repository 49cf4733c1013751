-- THE RULES' EXAMPLES, and the auditor's clip and exports of docs/AUDIT.md, in one statement over a single list: what
-- EVERY call with these arguments answers.
use Rattle.std.specs.Prelude.{ℕ, ◌+◌, ◌*◌, ◌/◌, ◌%◌, Bool, true, false, List, [], ◌∷◌, ◌++◌, ◌≡◌, ℤ, pos, neg_ℤ, ◌-ℤ◌, replicate, length, take, Result, Ok, unsigned_abs}
use Rattle.refusal.specs.declared.Reason.{Reason}
use Rattle.refusal.specs.declared.Reason.TheVariants as reason
use Rattle.refusal.specs.declared.Refusal.{Refusal}
use Rattle.refusal.specs.Refusals.{refused}
use Rattle.ticks.specs.declared.FrameTimes.{FrameTimes}
use Rattle.rows.specs.declared.Row.{Row}
use Rattle.rows.specs.declared.Origin.{Origin as From}
use Rattle.rows.specs.Lent.{words_of, shifts_of}
use Rattle.judge.specs.declared.Video.{Video}
use Rattle.judge.specs.declared.Video.TheVariants.{Constant}
use Rattle.judge.specs.Judge.{last_segment}
use Rattle.boxes.specs.Bytes.{trak, mdia, hdlr, vide}
use Rattle.tracks.specs.Edits.{elst}
use Rattle.frame_times.specs.Times.{mvhd, mdhd, minf, stbl, stts, ctts, edts}
use Rattle.differ.specs.Differ.{SameFrames}
use Rattle.audit.specs.Calls.{TicksToUs, IsUtcSecond, Cut, Cuts, Join, Merge, Origin, Origins, VideoFrameTimesOfMoov, McrawTimes}
use Rattle.audit.specs.Words.{Lent, table, Check, SegmentOfFrame, SegmentOfTimeUs, RowsOfTable, SegmentsOfFrames, Validate, CheckMcraw, map_written}

pub data Example : Type 0 where
  -- so many ticks of a scale are so many microseconds
  ticks : (count : ℤ) (scale : ℕ) (is : Result ℤ Refusal) → Example
  -- bytes pass the UTC rule, or don't
  second : (bytes : List ℕ) (is : Bool) → Example
  -- a table is accepted with so many frames, or refused
  checked : (lent : Lent) (is : Result ℕ Refusal) → Example
  -- a table against a video without lent starts
  against : (lent : Lent) (video : Video) (is : Result ℕ Refusal) → Example
  -- a table against a recording of one timestamp, which needs no working slices
  filmed : (lent : Lent) (timestamp : ℤ) (is : Result ℕ Refusal) → Example
  -- two tables that agree in their frame fields, accepted for one constant video: their last durations are us apart,
  -- and us·numerator is so much below the bound of RULES 6.4
  exports : (one other : Lent) (frames numerator denominator us below : ℕ) → Example
  -- the segment of a frame, and of a time
  frame : (lent : Lent) (k : ℕ) (is : Result ℕ Refusal) → Example
  time : (lent : Lent) (us : ℤ) (is : Result ℕ Refusal) → Example
  -- the segments of a list of frames, put into this room, and what it holds then
  list : (lent : Lent) (frames room : List ℕ) (is : Result ℕ Refusal) (are : List ℕ) → Example
  -- the rows of a table
  map : (lent : Lent) (are : List Row) → Example
  -- the frames a to b of a map are these rows
  cut_to : (whole : List Row) (a b : ℕ) (are : List Row) → Example
  -- the cuts of ranges of a map, two words each, are these rows, so many of each; or are refused, with no room lent
  cuts_are : (whole : List Row) (ranges : List ℕ) (are : List Row) (counts : List ℕ) → Example
  cuts_refused : (whole : List Row) (ranges : List ℕ) (why : Reason) (index : ℕ) → Example
  -- two maps joined, and a map merged
  joins : (one other : List Row) (are : List Row) → Example
  merges : (whole : List Row) (are : List Row) → Example
  -- where a frame of a map comes from
  comes : (whole : List Row) (k : ℕ) (is : Result From Refusal) → Example
  -- where a list of frames comes from, put into this room, and what it holds then
  come : (whole : List Row) (frames : List ℕ) (room : List From) (is : Result ℕ Refusal) (are : List From) → Example
  -- the frame times of a moov, with offsets by the standard or not, and where each frame starts
  movie : (moov : List ℕ) (standard : Bool) (are : Result FrameTimes Refusal) (starts : List ℤ) → Example
  -- the times of a recording's timestamps, and where each frame starts
  recording : (timestamps : List ℤ) (are : Result FrameTimes Refusal) (starts : List ℤ) → Example

abbrev pub last_duration : Lent → ℤ
last_duration lent = (last_segment (table lent).segments).stamps.duration

-- every call with these arguments answers so, and writes the rows or starts into room for just them
abbrev pub Holds : Example → Type 0
Holds (ticks t scale us) = (r : Result ℤ Refusal) → TicksToUs t scale r → r ≡ us
Holds (second bytes is) = (r : Bool) → IsUtcSecond bytes r → r ≡ is
Holds (checked l is) = (r : Result ℕ Refusal) → Check l r → r ≡ is
Holds (against l video is) = (r : Result ℕ Refusal) → Validate l video [] r → r ≡ is
Holds (filmed l x is) = (r : Result ℕ Refusal) (a b : List ℤ) → CheckMcraw l (x ∷ []) [] [] r a b → r ≡ is
Holds (exports l m frames numerator denominator us below) =
    ((r : Result ℕ Refusal) → Validate l (Constant frames numerator denominator) [] r → r ≡ Ok frames)
    × ((r : Result ℕ Refusal) → Validate m (Constant frames numerator denominator) [] r → r ≡ Ok frames)
    × SameFrames (table l) (table m)
    × (unsigned_abs (last_duration l -ℤ last_duration m) ≡ us)
    × (us * numerator + below ≡ 2 * denominator * 1000000 + numerator)
Holds (frame l k is) = (r : Result ℕ Refusal) → SegmentOfFrame l k r → r ≡ is
Holds (time l us is) = (r : Result ℕ Refusal) → SegmentOfTimeUs l us r → r ≡ is
Holds (list l frames room is are) = (r : Result ℕ Refusal) (out : List ℕ) → SegmentsOfFrames l frames room r out
    → (r ≡ is) × (out ≡ are)
Holds (map l are) =
    (r : Result ℕ Refusal) (ou : List ℕ) (os : List ℤ)
    → RowsOfTable l (replicate (5 * length are) 0) (replicate (length are) (pos 0)) r ou os
    → (r ≡ Ok (length are)) × (map_written (length are) ou os ≡ are)
Holds (cut_to m a b are) =
    (r : Result ℕ Refusal) (ou : List ℕ) (os : List ℤ)
    → Cut (words_of m) (shifts_of m) a b (replicate (5 * length are) 0) (replicate (length are) (pos 0)) r ou os
    → (r ≡ Ok (length are)) × (map_written (length are) ou os ≡ are)
Holds (cuts_are m ranges are counts) =
    (r : Result ℕ Refusal) (ou : List ℕ) (os : List ℤ) (counts' : List ℕ)
    → Cuts (words_of m) (shifts_of m) ranges (replicate (5 * length are) 0) (replicate (length are) (pos 0))
    (replicate (length counts) 0) r ou os counts'
    → (r ≡ Ok (length are)) × (map_written (length are) ou os ≡ are) × (counts' ≡ counts)
Holds (cuts_refused m ranges why index) =
    (r : Result ℕ Refusal) (ou : List ℕ) (os : List ℤ) (counts' : List ℕ)
    → Cuts (words_of m) (shifts_of m) ranges [] [] [] r ou os counts' → r ≡ refused why index
Holds (joins m n are) =
    (r : Result ℕ Refusal) (ou : List ℕ) (os : List ℤ)
    → Join (words_of m) (shifts_of m) (words_of n) (shifts_of n) (replicate (5 * length are) 0)
    (replicate (length are) (pos 0)) r ou os
    → (r ≡ Ok (length are)) × (map_written (length are) ou os ≡ are)
Holds (merges m are) =
    (r : Result ℕ Refusal) (ou : List ℕ) (os : List ℤ)
    → Merge (words_of m) (shifts_of m) (replicate (5 * length are) 0) (replicate (length are) (pos 0)) r ou os
    → (r ≡ Ok (length are)) × (map_written (length are) ou os ≡ are)
Holds (comes m k is) = (r : Result From Refusal) → Origin (words_of m) (shifts_of m) k r → r ≡ is
Holds (come m frames room is are) =
    (r : Result ℕ Refusal) (out : List From) → Origins (words_of m) (shifts_of m) frames room r out
    → (r ≡ is) × (out ≡ are)
Holds (movie moov standard are starts) =
    (r : Result FrameTimes Refusal) (starts' a' b' : List ℤ)
    → VideoFrameTimesOfMoov moov standard (replicate (length starts) (pos 0)) (replicate (length starts) (pos 0))
    (replicate (length starts) (pos 0)) r starts' a' b'
    → (r ≡ are) × (starts' ≡ starts)
Holds (recording timestamps are starts) =
    (r : Result FrameTimes Refusal) (starts' work' : List ℤ)
    → McrawTimes timestamps (replicate (length timestamps) (pos 0))
    (replicate (length timestamps) (pos 0)) r starts' work'
    → (r ≡ are) × (starts' ≡ starts)

-- so many frames, at so many ticks a second, with this nominal duration and end
abbrev pub times : (frames scale : ℕ) (nominal end : ℤ) → Result FrameTimes Refusal
times frames scale nominal end = Ok (record { frames = frames; scale = scale; nominal = nominal; end = end })

-- a frame of a source, with a shift's flag and the shift
abbrev pub from : (source source_frame flag : ℕ) (shift : ℤ) → From
from source source_frame flag shift =
    record { source = source; frame = source_frame; flag = flag; shift = shift }

-- what is in the room before
abbrev pub nowhere : From
nowhere = from 7 7 7 (neg_ℤ (pos 7))

abbrev pub origin : (source source_frame flag : ℕ) (shift : ℤ) → Result From Refusal
origin source source_frame flag shift = Ok (from source source_frame flag shift)

-- ---- table T (RULES 3.6)
-- a row without shift, and one with
abbrev pub row : (source first count out : ℕ) → Row
row source first count out =
    record { source = source; first = first; count = count; out = out; flag = 0; shift = pos 0 }

abbrev pub shifted : (source first count out : ℕ) (shift : ℤ) → Row
shifted source first count out shift =
    record { source = source; first = first; count = count; out = out; flag = 1; shift = shift }

-- a source at 25/1: its frames; without creation time or clock, with the 20 bytes of text at 0 as creation time, and
-- with a clock of 1,000,000 ticks a second
abbrev pub plain : ℕ → List ℕ
plain frames = frames ∷ 25 ∷ 1 ∷ 0 ∷ 0 ∷ 0 ∷ 0 ∷ 0 ∷ 0 ∷ 0 ∷ 0 ∷ 0 ∷ 0 ∷ []

abbrev pub dated_source : ℕ → List ℕ
dated_source frames = frames ∷ 25 ∷ 1 ∷ 1 ∷ 0 ∷ 20 ∷ 0 ∷ 0 ∷ 0 ∷ 0 ∷ 0 ∷ 0 ∷ 0 ∷ []

abbrev pub clocked : ℕ → List ℕ
clocked frames = frames ∷ 25 ∷ 1 ∷ 0 ∷ 0 ∷ 0 ∷ 1 ∷ 1000000 ∷ 1 ∷ 0 ∷ 0 ∷ 0 ∷ 0 ∷ []

-- a segment's signed words: out start, duration and shift; the other times are 0
abbrev pub stamps : ℕ → ℕ → ℤ → List ℤ
stamps start duration shift = pos 0 ∷ pos start ∷ pos duration ∷ pos 0 ∷ pos 0 ∷ pos 0 ∷ shift ∷ []

abbrev pub T : List Row
T = row 0 10 30 0 ∷ row 1 5 20 30 ∷ []

-- T as a table of the source A and of B, with a text
abbrev pub table_t : List ℕ → List ℕ → Lent
table_t a text = record {
  sources = a ++ plain 50;
  words = words_of T;
  stamps = stamps 0 1200000 (pos 0) ++ stamps 1200000 800000 (pos 0);
  log = false;
  text = text;
}

-- T without creation times and clocks, so many frames in source B, and these rows in the place of its own
abbrev pub changed : ℕ → List Row → Lent
changed b rows = record {
  sources = plain 100 ++ plain b;
  words = words_of rows;
  stamps = stamps 0 1200000 (pos 0) ++ stamps 1200000 800000 (pos 0);
  log = false;
  text = [];
}

-- a segment of duration 0: of one source's frames 0 and 1 the first lasts 0..10 and the second 10..10; in the longer
-- table frame 2 lasts 10..20 after them
abbrev pub still : Lent
still = record {
  sources = plain 100;
  words = words_of (row 0 0 1 0 ∷ row 0 1 1 1 ∷ []);
  stamps = stamps 0 10 (pos 0) ++ stamps 10 0 (pos 0);
  log = false;
  text = [];
}

abbrev pub still_between : Lent
still_between = record {
  sources = plain 100;
  words = words_of (row 0 0 1 0 ∷ row 0 1 1 1 ∷ row 0 2 1 2 ∷ []);
  stamps = stamps 0 10 (pos 0) ++ stamps 10 0 (pos 0) ++ stamps 10 10 (pos 0);
  log = false;
  text = [];
}

-- 0000-02-29T00:00:00Z and 1900-02-29T00:00:00Z
abbrev pub leap_day : List ℕ
leap_day = 48 ∷ 48 ∷ 48 ∷ 48 ∷ 45 ∷ 48 ∷ 50 ∷ 45 ∷ 50 ∷ 57 ∷ 84 ∷ 48 ∷ 48 ∷ 58 ∷ 48 ∷ 48 ∷ 58 ∷ 48 ∷ 48 ∷ 90 ∷ []

abbrev pub not_leap_day : List ℕ
not_leap_day = 49 ∷ 57 ∷ 48 ∷ 48 ∷ 45 ∷ 48 ∷ 50 ∷ 45 ∷ 50 ∷ 57 ∷ 84 ∷ 48 ∷ 48 ∷ 58 ∷ 48 ∷ 48 ∷ 58 ∷ 48 ∷ 48 ∷ 90 ∷ []

-- a source of so many frames at numerator/denominator, all of which are one segment, with these signed words
abbrev pub whole_source : (frames numerator denominator : ℕ) → List ℤ → Lent
whole_source frames numerator denominator signed = record {
  sources = frames ∷ numerator ∷ denominator ∷ 0 ∷ 0 ∷ 0 ∷ 0 ∷ 0 ∷ 0 ∷ 0 ∷ 0 ∷ 0 ∷ 0 ∷ [];
  words = words_of (row 0 0 frames 0 ∷ []);
  stamps = signed;
  log = false;
  text = [];
}

-- 30 frames at 30000/1001, of which the one segment lasts so many microseconds; as a video
abbrev pub lasting : ℕ → Lent
lasting us = whole_source 30 30000 1001 (stamps 0 us (pos 0))

abbrev pub thirty : Video
thirty = Constant 30 30000 1001

-- the same frames; the source start and the capture times have ends at 2^63 - 1
abbrev pub elsewhere : Lent
elsewhere =
    whole_source 30 30000 1001
    (pos 9223372036853774807 ∷ pos 0 ∷ pos 1001000 ∷ pos 4611686018427387904 ∷ pos 4611686018427387904
    ∷ pos 4611686018427387903 ∷ pos 0 ∷ [])

-- ---- moovs
-- numbers as four bytes each, and a box
abbrev pub numbers : List ℕ → List ℕ
numbers [] = []
numbers (n ∷ l) = (n / 16777216 ∷ n / 65536 % 256 ∷ n / 256 % 256 ∷ n % 256 ∷ []) ++ numbers l

abbrev pub box_of : ℕ → List ℕ → List ℕ
box_of kind payload = numbers ((8 + length payload) ∷ kind ∷ []) ++ payload

-- a moov of one video track, with this for both timescales, of what its stbl has and of the box that may be absent,
-- edts
abbrev pub moov_at : ℕ → List ℕ → List ℕ → List ℕ
moov_at scale tables edit =
    box_of mvhd (numbers (0 ∷ 0 ∷ 0 ∷ scale ∷ []))
    ++ box_of trak
    (box_of mdia
    (box_of mdhd (numbers (0 ∷ 0 ∷ 0 ∷ scale ∷ []))
    ++ box_of hdlr (numbers (0 ∷ 0 ∷ vide ∷ []))
    ++ box_of minf (box_of stbl tables))
    ++ edit)

-- the same with both timescales 100
abbrev pub moov_with : List ℕ → List ℕ → List ℕ
moov_with = moov_at 100

-- the same of the entries of its stts, and of a ctts, which may be absent too
abbrev pub moov_of : List ℕ → List ℕ → List ℕ → List ℕ
moov_of durations offsets edit =
    moov_with (box_of stts (numbers (0 ∷ (length durations / 2) ∷ durations)) ++ offsets) edit

-- M1 and M2: durations 10, 10, 10, offsets 10, 30, 0; M2 has one edit, time 10, duration 0, rate 1
abbrev pub M : List ℕ → List ℕ
M edit = moov_of (3 ∷ 10 ∷ []) (box_of ctts (numbers (0 ∷ 3 ∷ 1 ∷ 10 ∷ 1 ∷ 30 ∷ 1 ∷ 0 ∷ []))) edit

abbrev pub M2 : List ℕ
M2 = M (box_of edts (box_of elst (numbers (0 ∷ 1 ∷ 0 ∷ 10 ∷ 0x10000 ∷ []))))

-- a time-lapse: three frames of 500,000,000 ticks at 1,000,000,000 a second, each with the offset 2,400,000,000, in a
-- ctts of a version; and an edit at that time
abbrev pub lapse : ℕ → List ℕ → List ℕ
lapse version edit =
    moov_at 1000000000
    (box_of stts (numbers (0 ∷ 1 ∷ 3 ∷ 500000000 ∷ []))
    ++ box_of ctts (numbers (version * 16777216 ∷ 1 ∷ 3 ∷ 2400000000 ∷ [])))
    edit

abbrev pub lapse_edit : List ℕ
lapse_edit = box_of edts (box_of elst (numbers (16777216 ∷ 1 ∷ 0 ∷ 0 ∷ 0 ∷ 2400000000 ∷ 0x10000 ∷ [])))

-- ---- the auditor's clip: three originals at 25/1 of 90,000, 60,000 and 45,000 frames, the second with a clock;
-- 108,500 frames are put out
abbrev pub clip_shift : ℤ
clip_shift = neg_ℤ (pos 1800)

abbrev pub clip_rows : List Row
clip_rows = row 0 1500 40000 0 ∷ shifted 1 12000 38500 40000 clip_shift ∷ row 2 0 30000 78500 ∷ []

abbrev pub clip_table : Lent
clip_table = record {
  sources = plain 90000 ++ clocked 60000 ++ plain 45000;
  words = words_of clip_rows;
  stamps = stamps 0 1600000000 (pos 0) ++ stamps 1600000000 1540000000 clip_shift
      ++ stamps 3140000000 1200000000 (pos 0);
  log = false;
  text = [];
}

-- its frames 5,000..105,000, and of those 10,000..90,000
abbrev pub clip_cut : List Row
clip_cut = row 0 6500 35000 0 ∷ shifted 1 12000 38500 35000 clip_shift ∷ row 2 0 26500 73500 ∷ []

abbrev pub clip_twice : List Row
clip_twice = row 0 16500 25000 0 ∷ shifted 1 12000 38500 25000 clip_shift ∷ row 2 0 16500 63500 ∷ []

-- its frames up to 50,000, and those after them
abbrev pub clip_head : List Row
clip_head = row 0 1500 40000 0 ∷ shifted 1 12000 10000 40000 clip_shift ∷ []

abbrev pub clip_tail : List Row
clip_tail = shifted 1 22000 28500 0 clip_shift ∷ row 2 0 30000 28500 ∷ []

abbrev pub examples : List Example
examples =
    -- 1001 ticks at 30000, 1 and -1 at 2,000,000, 1 at 4,000,000
    ticks (pos 1001) 30000 (Ok (pos 33367))
    ∷ ticks (pos 1) 2000000 (Ok (pos 1))
    ∷ ticks (neg_ℤ (pos 1)) 2000000 (Ok (neg_ℤ (pos 1)))
    ∷ ticks (pos 1) 4000000 (Ok (pos 0))
    -- 30 frames at 30000/1001: the ends 967,633 and 1,034,367 are near, 967,632 and 1,034,368 are 25
    ∷ against (lasting 967633) thirty (Ok 30)
    ∷ against (lasting 1034367) thirty (Ok 30)
    ∷ against (lasting 967632) thirty (refused reason.EndNotNear 0)
    ∷ against (lasting 1034368) thirty (refused reason.EndNotNear 0)
    -- a day that there was, and one that there wasn't: the UTC rule, and the creation time of T's source A
    ∷ second leap_day true
    ∷ second not_leap_day false
    ∷ checked (table_t (dated_source 100) leap_day) (Ok 50)
    ∷ checked (table_t (dated_source 100) not_leap_day) (refused reason.BadDate 0)
    -- T: frames 29, 30 and 50, times -5 and 1,200,000
    ∷ checked (table_t (plain 100) []) (Ok 50)
    ∷ frame (table_t (plain 100) []) 29 (Ok 0)
    ∷ frame (table_t (plain 100) []) 30 (Ok 1)
    ∷ frame (table_t (plain 100) []) 50 (Ok 1)
    ∷ time (table_t (plain 100) []) (neg_ℤ (pos 5)) (Ok 0)
    ∷ time (table_t (plain 100) []) (pos 1200000) (Ok 1)
    -- a segment of duration 0 holds no time: time 10 is past it, but where it is the last it is the answer
    ∷ time still (pos 10) (Ok 1)
    ∷ time still_between (pos 10) (Ok 2)
    -- T cut 25..40, that cut 3..8, and T cut 28..33
    ∷ map (table_t (plain 100) []) T
    ∷ cut_to T 25 40 (row 0 35 5 0 ∷ row 1 5 10 5 ∷ [])
    ∷ cut_to (row 0 35 5 0 ∷ row 1 5 10 5 ∷ []) 3 8 (row 0 38 2 0 ∷ row 1 5 3 2 ∷ [])
    ∷ cut_to T 28 33 (row 0 38 2 0 ∷ row 1 5 3 2 ∷ [])
    -- M1, M2, and durations 5, 7, 7, 5: nominal 5
    ∷ movie (M []) false (times 3 100 (pos 10) (pos 50)) (pos 10 ∷ pos 20 ∷ pos 40 ∷ [])
    ∷ movie M2 false (times 3 100 (pos 10) (pos 40)) (pos 0 ∷ pos 10 ∷ pos 30 ∷ [])
    ∷ movie (moov_of (1 ∷ 5 ∷ 2 ∷ 7 ∷ 1 ∷ 5 ∷ []) [] []) false (times 4 100 (pos 5) (pos 24))
    (pos 0 ∷ pos 5 ∷ pos 12 ∷ pos 19 ∷ [])
    -- nominal isn't the median: of durations 5, 5, 7, 8, 9 it is 5
    ∷ movie (moov_of (2 ∷ 5 ∷ 1 ∷ 7 ∷ 1 ∷ 8 ∷ 1 ∷ 9 ∷ []) [] []) false (times 5 100 (pos 5) (pos 34))
    (pos 0 ∷ pos 5 ∷ pos 10 ∷ pos 17 ∷ pos 25 ∷ [])
    -- a recording's timestamps 1000, 1010, 1025: nominal 10, end 35
    ∷ recording (pos 1000 ∷ pos 1010 ∷ pos 1025 ∷ []) (times 3 1000000000 (pos 10) (pos 35))
    (pos 0 ∷ pos 10 ∷ pos 25 ∷ [])
    -- the auditor's clip: accepted, its rows, cut twice and cut at once, and frame 41,200 of it: frame 28,200 of
    -- original 1, with the shift -1,800
    ∷ checked clip_table (Ok 108500)
    ∷ against clip_table (Constant 108500 25 1) (Ok 108500)
    ∷ map clip_table clip_rows
    ∷ cut_to clip_rows 5000 105000 clip_cut
    ∷ cut_to clip_cut 10000 90000 clip_twice
    ∷ cut_to clip_rows 15000 95000 clip_twice
    ∷ comes clip_twice 41200 (origin 1 28200 1 clip_shift)
    ∷ comes clip_rows 56200 (origin 1 28200 1 clip_shift)
    ∷ frame clip_table 56200 (Ok 1)
    -- its frames up to 50,000 and those after them, joined: four rows, which merged are the clip again
    ∷ cut_to clip_rows 0 50000 clip_head
    ∷ cut_to clip_rows 50000 108500 clip_tail
    ∷ joins clip_head clip_tail
    (row 0 1500 40000 0 ∷ shifted 1 12000 10000 40000 clip_shift ∷ shifted 1 22000 28500 50000 clip_shift
    ∷ row 2 0 30000 78500 ∷ [])
    ∷ merges
    (row 0 1500 40000 0 ∷ shifted 1 12000 10000 40000 clip_shift ∷ shifted 1 22000 28500 50000 clip_shift
    ∷ row 2 0 30000 78500 ∷ [])
    clip_rows
    -- a cut merges nothing, and neighbours whose shifts differ stay apart: an absent shift isn't a shift of 0
    ∷ cut_to (row 0 0 10 0 ∷ row 0 10 10 10 ∷ []) 0 20 (row 0 0 10 0 ∷ row 0 10 10 10 ∷ [])
    ∷ merges (row 0 0 10 0 ∷ row 0 10 10 10 ∷ []) (row 0 0 20 0 ∷ [])
    ∷ merges (row 0 0 10 0 ∷ shifted 0 10 10 10 (pos 0) ∷ []) (row 0 0 10 0 ∷ shifted 0 10 10 10 (pos 0) ∷ [])
    ∷ merges (shifted 0 0 10 0 (pos 5) ∷ shifted 0 10 10 10 (pos 6) ∷ [])
    (shifted 0 0 10 0 (pos 5) ∷ shifted 0 10 10 10 (pos 6) ∷ [])
    -- how far two tables may differ (RULES 6.4): at 30000/1001 the bound is reached up to the rounding, since one
    -- microsecond more would be 30,000 more; at 128/5 it is reached
    ∷ exports (lasting 967633) (lasting 1034367) 30 30000 1001 66734 10000
    ∷ exports (whole_source 2 128 5 (stamps 0 39062 (pos 0)))
    (whole_source 2 128 5 (stamps 0 117188 (pos 0))) 2 128 5 78126 0
    -- source and capture times aren't bound by it
    ∷ exports (lasting 1001000) elsewhere 30 30000 1001 0 2002030000
    -- of one timestamp the fps decides, so that it is asked to be the same: at 25/1 a frame lasts 40,000, at 1/1 a
    -- million
    ∷ filmed (whole_source 1 25 1 (stamps 0 40000 (pos 0))) (pos 7) (Ok 1)
    ∷ filmed (whole_source 1 1 1 (stamps 0 1000000 (pos 0))) (pos 7) (Ok 1)
    -- the segments of a list (RULES 4.4): T's frames in any order, and what lies past them; room that is too short; a
    -- table that is refused, of a list without frames
    ∷ list (table_t (plain 100) []) (49 ∷ 0 ∷ 30 ∷ 29 ∷ 18446744073709551615 ∷ []) (9 ∷ 9 ∷ 9 ∷ 9 ∷ 9 ∷ 9 ∷ []) (Ok 5)
    (1 ∷ 0 ∷ 1 ∷ 0 ∷ 1 ∷ 9 ∷ [])
    ∷ list (table_t (plain 100) []) (29 ∷ 30 ∷ []) (9 ∷ []) (refused reason.NoRoom 0) (9 ∷ [])
    ∷ list (table_t (plain 0) []) [] [] (refused reason.ZeroInSource 0) []
    -- missing or broken (RULES 7.6): of M1 the mvhd and 6 bytes, so that its boxes end there without a track; 10 bytes
    -- more, where the trak's header at 24 is broken; a broken one in the place of the stts; and in that of the edts,
    -- which may be absent
    ∷ movie (take 30 (M [])) false (refused reason.Missing 0) []
    ∷ movie (take 40 (M [])) false (refused reason.Broken 24) []
    ∷ movie (moov_with (numbers (7 ∷ stts ∷ [])) []) false (refused reason.Broken 100) []
    ∷ movie (M (numbers (7 ∷ edts ∷ []))) false (times 3 100 (pos 10) (pos 50)) (pos 10 ∷ pos 20 ∷ pos 40 ∷ [])
    -- offsets (RULES 8.4): the time-lapse by the standard, without an edit and with one; by the Rust its times are
    -- below 0, and no frame is kept; the versions 1, 2 and 255 are signed
    ∷ movie (lapse 0 []) true (times 3 1000000000 (pos 500000000) (pos 3900000000))
    (pos 2400000000 ∷ pos 2900000000 ∷ pos 3400000000 ∷ [])
    ∷ movie (lapse 0 lapse_edit) true (times 3 1000000000 (pos 500000000) (pos 1500000000))
    (pos 0 ∷ pos 500000000 ∷ pos 1000000000 ∷ [])
    ∷ movie (lapse 0 []) false (refused reason.Missing 0) (pos 0 ∷ pos 0 ∷ pos 0 ∷ [])
    ∷ movie (lapse 1 []) true (refused reason.Missing 0) (pos 0 ∷ pos 0 ∷ pos 0 ∷ [])
    ∷ movie (lapse 2 []) true (refused reason.Missing 0) (pos 0 ∷ pos 0 ∷ pos 0 ∷ [])
    ∷ movie (lapse 255 []) true (refused reason.Missing 0) (pos 0 ∷ pos 0 ∷ pos 0 ∷ [])
    -- T cut 25..40 and 28..33 in one call, and 28..30 and 25..40, each counted from its own a; no range at all; and of
    -- three the second past T's end, before the lack of room
    ∷ cuts_are T (25 ∷ 40 ∷ 28 ∷ 33 ∷ []) (row 0 35 5 0 ∷ row 1 5 10 5 ∷ row 0 38 2 0 ∷ row 1 5 3 2 ∷ []) (2 ∷ 2 ∷ [])
    ∷ cuts_are T (28 ∷ 30 ∷ 25 ∷ 40 ∷ []) (row 0 38 2 0 ∷ row 0 35 5 0 ∷ row 1 5 10 5 ∷ []) (1 ∷ 2 ∷ [])
    ∷ cuts_are T [] [] []
    ∷ cuts_refused T (0 ∷ 50 ∷ 20 ∷ 51 ∷ 7 ∷ 7 ∷ []) reason.BadRange 1
    ∷ cuts_refused T (0 ∷ 50 ∷ 20 ∷ []) reason.BadRange 1
    ∷ cuts_refused T (0 ∷ 50 ∷ []) reason.RowsDontFit 0
    -- T with an out first of 31 in segment 1, with 71 as the source first of segment 0, and with no frames in source B
    -- (RULES 3.6); its frame 49 (RULES 4.7); a recording that falls (RULES 9.3); and where frame 2 of T cut 28..33
    -- comes from (RULES 10.10)
    ∷ checked (changed 50 (row 0 10 30 0 ∷ row 1 5 20 31 ∷ [])) (refused reason.FrameGap 1)
    ∷ checked (changed 50 (row 0 71 30 0 ∷ row 1 5 20 30 ∷ [])) (refused reason.PastSource 0)
    ∷ checked (changed 0 T) (refused reason.ZeroInSource 1)
    ∷ frame (table_t (plain 100) []) 49 (Ok 1)
    ∷ recording (pos 1 ∷ pos 0 ∷ []) (refused reason.Falling 1) (pos 0 ∷ pos 0 ∷ [])
    ∷ comes (row 0 38 2 0 ∷ row 1 5 3 2 ∷ []) 2 (origin 1 5 0 (pos 0))
    -- the origins of T's frames 30, 29 and 49, with an entry of room left over; of no frame; and of three the second
    -- past T's end, before the lack of room, and then that
    ∷ come T (30 ∷ 29 ∷ 49 ∷ []) (nowhere ∷ nowhere ∷ nowhere ∷ nowhere ∷ []) (Ok 3)
    (from 1 5 0 (pos 0) ∷ from 0 39 0 (pos 0) ∷ from 1 24 0 (pos 0) ∷ nowhere ∷ [])
    ∷ come T [] [] (Ok 0) []
    ∷ come T (49 ∷ 50 ∷ 51 ∷ []) [] (refused reason.PastMap 1) []
    ∷ come T (0 ∷ 1 ∷ []) (nowhere ∷ []) (refused reason.NoRoom 0) (nowhere ∷ [])
    ∷ []
