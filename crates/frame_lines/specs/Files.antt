-- The frame times of a whole file: RULES 12.
use Rattle.std.specs.Prelude.{ℕ, true, List, [], length, take, drop, Result, Ok, Err}
use Rattle.boxes.specs.Bytes.{moov}
use Rattle.boxes.specs.Places.{find_box_place}
use Rattle.boxes.specs.declared.Place.{Place}
use Rattle.refusal.specs.declared.Refusal.{Refusal}
use Rattle.frame_times.specs.Times.{Outcome, times_of_moov}

-- of the moov at a place of the file, with composition offsets by the standard, or the refusal of that place
abbrev pub moov_times : List ℕ → ℕ → Result Place Refusal → Outcome
moov_times file room (Ok place) = times_of_moov true (take place.len (drop place.start file)) room
moov_times file room (Err refusal) = record { answer = Err refusal; starts = [] }

-- of the first moov among the file's boxes, whose types are text; 36 has its index in the file where no moov is found,
-- else in the moov
abbrev pub file_times : List ℕ → ℕ → Outcome
file_times file room = moov_times file room (find_box_place file 0 (length file) moov true)
