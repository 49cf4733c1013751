-- Where the standard's reading of composition offsets and the Rust's are the same (RULES 8.4).
use Rattle.std.specs.Prelude.{ℕ, ◌<◌, ◌^◌, ◌≡◌, List, get_or, Some}
use Rattle.std.specs.List.{AllByRecursion}
use Rattle.boxes.specs.Bytes.{mdia}
use Rattle.boxes.specs.Places.{found_place, part_of, child_of}
use Rattle.boxes.specs.Tracks.{video_track}
use Rattle.tracks.specs.declared.entries.Run.{Run}
use Rattle.tracks.specs.Tables.{optional_entries, entries_of}
use Rattle.frame_times.specs.Times.{minf, stbl, ctts}

-- the ctts of a moov's first video track; empty where there is none
abbrev pub ctts_of : List ℕ → List ℕ
ctts_of moov =
    child_of ctts (child_of stbl (child_of minf (child_of mdia (part_of moov (found_place (video_track moov))))))

-- four bytes whose top bit isn't set
abbrev pub TopClear : ℕ → Type 0
TopClear word = word < 2 ^ 31

-- no entry of a whole ctts of version 0 has an offset with its top bit set: those for no frames, and those past the
-- last frame, count too
abbrev pub NoTopBit : List ℕ → Type 0
NoTopBit payload =
    (n : ℕ) → optional_entries payload ≡ Some n → get_or payload 0 0 ≡ 0
    → AllByRecursion (λ (run : Run). TopClear run.value) (entries_of n payload)
