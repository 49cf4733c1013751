-- The frame times of a moov: what is answered, from its bytes down to its frames (RULES 8). With `standard` composition
-- offsets are read by the standard, else by the Rust (`offsets` of tracks/specs/Tables.antt); nothing else goes by it.
use Rattle.std.specs.Prelude.{ℕ, ◌+◌, min, ◌≡◌, Bool, ◌||◌, List, [], ◌∷◌, map, length, get_or, ℤ, pos, if◌then◌else◌, Option, Result, Ok, Err, ◌==◌, nat_lt, int_le}
use Rattle.std.specs.List.{list_any}
use Rattle.std.specs.Option.{ok_or}
use Rattle.conditions.specs.Results.{◌>>=◌, ◌>>◌}
use Rattle.refusal.specs.declared.Reason.{Reason}
use Rattle.refusal.specs.declared.Reason.TheVariants as reason
use Rattle.refusal.specs.declared.Refusal.{Refusal}
use Rattle.refusal.specs.Refusals.{refusal_at, refused}
use Rattle.signed.specs.Signed.{is_outside}
use Rattle.slices.specs.Slices.{laid, zeros}
use Rattle.order.specs.Order.{sorted, mode}
use Rattle.boxes.specs.Bytes.{mdia}
use Rattle.boxes.specs.Boxes.{most_bytes, boxes_of, first_of}
use Rattle.boxes.specs.Places.{bytes_at, child_of}
use Rattle.boxes.specs.Tracks.{video_track}
use Rattle.boxes.specs.declared.Place.{Place}
use Rattle.boxes.specs.declared.Walk.{Walk}
use Rattle.boxes.specs.declared.Walk.TheVariants.{Found, End, Bad as BadAt}
use Rattle.tracks.specs.declared.Edit.{Edit}
use Rattle.tracks.specs.Tables.{timescale, table_entries, optional_entries, entries_of, entry_total, durations, offsets}
use Rattle.tracks.specs.Edits.{edit_of}
use Rattle.ticks.specs.declared.FrameTimes.{FrameTimes}
use Rattle.frame_times.specs.Frames.{Frame, frames_from, kept, cts_of, last_of, end_of, capped, time_origin, moved_time}

-- `mvhd`, `mdhd`, `minf`, `stbl`, `stts`, `ctts` and `edts`, their four letters as a number
abbrev pub mvhd : ℕ
mvhd = 0x6d766864

abbrev pub mdhd : ℕ
mdhd = 0x6d646864

abbrev pub minf : ℕ
minf = 0x6d696e66

abbrev pub stbl : ℕ
stbl = 0x7374626c

abbrev pub stts : ℕ
stts = 0x73747473

abbrev pub ctts : ℕ
ctts = 0x63747473

abbrev pub edts : ℕ
edts = 0x65647473

-- an answer, and the starts that go with it: none with a refusal
pub record Outcome : Type 0 where
  pub answer : Result FrameTimes Refusal
  pub starts : List ℤ

-- a refusal: no starts go with it
abbrev pub no_times : Reason → Outcome
no_times why = record { answer = refused why 0; starts = [] }

-- the answer of an end and starts, where an i64 holds each
unfoldable pub placed : ℕ → ℤ → ℤ → List ℤ → Outcome
placed scale nominal end starts =
    if list_any is_outside (end ∷ starts) then no_times reason.Outside
    else record {
      answer = Ok (record { frames = length starts; scale = scale; nominal = nominal; end = end });
      starts = starts;
    }

-- the answer of kept frames: the first one's decode time, where the last one ends, and the composition times, ascending
abbrev pub shown_from : ℕ → ℤ → Edit → ℤ → List ℤ → ℤ → Outcome
shown_from scale nominal edit last times origin =
    placed scale nominal (moved_time origin edit.empty (capped edit.end last))
    (map (moved_time origin edit.empty) times)

unfoldable pub shown : ℕ → ℤ → Edit → ℤ → ℤ → List ℤ → Outcome
shown scale nominal edit first last times =
    shown_from scale nominal edit last times (time_origin edit (get_or times 0 (pos 0)) first)

-- none kept is refused, and so is a nominal duration that isn't above 0
unfoldable pub of_kept : ℕ → ℤ → Edit → List Frame → Outcome
of_kept scale nominal edit [] = no_times reason.Missing
of_kept scale nominal edit (frame ∷ more) =
    if int_le nominal (pos 0) then no_times reason.Missing
    else shown scale nominal edit (pos frame.decode) (end_of (last_of frame more)) (sorted (cts_of (frame ∷ more)))

-- of durations, offsets and an edit; nominal is the most frequent duration of all frames, of several the smallest
abbrev pub of_frames : ℕ → Edit → List ℕ → List ℤ → Outcome
of_frames scale edit durations offsets =
    of_kept scale (mode (map pos durations)) edit (kept edit (frames_from 0 durations offsets))

-- ---- steps that may be refused
abbrev pub refuse_if : Bool → Reason → Result (Unit {0}) Refusal
refuse_if test why = if test then refused why 0 else Ok tt

-- what has to be there, or 31
abbrev pub needed : {A : Type 0} → Option A → Result A Refusal
needed value = ok_or value (refusal_at reason.Missing 0)

-- a part of a moov: where in the moov it starts, and its bytes
pub record Part : Type 0 where
  pub base : ℕ
  pub bytes : List ℕ

abbrev pub whole_part : List ℕ → Part
whole_part moov = record { base = 0; bytes = moov }

abbrev pub inner_part : Part → Place → Part
inner_part part place = record { base = part.base + place.start; bytes = bytes_at part.bytes place }

-- the payload that a walk over a part found, which has to be there: 31 after a clean end, at a broken header 36 with
-- its offset in the moov (RULES 7.6)
abbrev pub found : Part → Walk → Result Part Refusal
found part (Found place) = Ok (inner_part part place)
found part End = refused reason.Missing 0
found part (BadAt at) = refused reason.Broken (part.base + at)

-- the payload of a part's first child of a type, by what `found` answers
abbrev pub child : (Part → Walk → Result Part Refusal) → Part → ℕ → Result Part Refusal
child found part kind = found part (first_of kind (boxes_of part.bytes))

-- a video track: the most frames that it may have, the movie's timescale and its own, and the payloads of its tables;
-- an edts or a ctts that is absent is empty
pub record Track : Type 0 where
  pub most_frames : ℕ
  pub movie : ℕ
  pub scale : ℕ
  pub edts : List ℕ
  pub ctts : List ℕ
  pub stts : List ℕ

-- A MOOV'S FIRST VIDEO TRACK, in the order of RULES 8.1 and 8.2, by what `found` answers
abbrev pub track_by : (Part → Walk → Result Part Refusal) → List ℕ → Result Track Refusal
track_by found moov = do
  refuse_if (nat_lt most_bytes (length moov)) reason.TooLong
  header ← child found (whole_part moov) mvhd
  movie ← needed (timescale header.bytes)
  track ← found (whole_part moov) (video_track moov)
  media ← child found track mdia
  header ← child found media mdhd
  scale ← needed (timescale header.bytes)
  refuse_if (scale == 0 || movie == 0) reason.Missing
  info ← child found media minf
  tables ← child found info stbl
  times ← child found tables stts
  Ok (record {
    most_frames = length moov;
    movie = movie;
    scale = scale;
    edts = child_of edts track.bytes;
    ctts = child_of ctts tables.bytes;
    stts = times.bytes;
  })

-- A TRACK'S TIMES, in the order of RULES 8.9: its durations, then its offsets and its edit list
abbrev pub times_in : Bool → ℕ → Track → Result Outcome Refusal
times_in standard room track = do
  entries ← needed (table_entries track.stts)
  refuse_if (nat_lt track.most_frames (entry_total (entries_of entries track.stts))) reason.Missing
  refuse_if (nat_lt room (entry_total (entries_of entries track.stts))) reason.NoRoom
  offset_entries ← needed (optional_entries track.ctts)
  edit ← needed (edit_of track.edts track.scale track.movie)
  Ok (of_frames track.scale edit (durations entries track.stts) (offsets standard offset_entries track.ctts))

-- an outcome that may be refused
abbrev pub outcome_of : Result Outcome Refusal → Outcome
outcome_of (Ok outcome) = outcome
outcome_of (Err refusal) = record { answer = Err refusal; starts = [] }

unfoldable pub times_of_moov : Bool → List ℕ → ℕ → Outcome
times_of_moov standard moov room = outcome_of (track_by found moov >>= times_in standard room)

-- the room that three slices have
abbrev pub room : List ℤ → List ℤ → List ℤ → ℕ
room starts first_work second_work = min (min (length starts) (length first_work)) (length second_work)

-- what `video_frame_times_of_moov` leaves, of a mode, a moov, starts and two working slices: what is said is the
-- answer, the starts are laid over what was lent, and both working slices are all zero
pub record MoovAnswers (standard : Bool) (moov : List ℕ) (lent first_work second_work : List ℤ)
    (said : Result FrameTimes Refusal) (after first_work' second_work' : List ℤ) : Type 0 where
  pub answer : said ≡ (times_of_moov standard moov (room lent first_work second_work)).answer
  pub starts : after ≡ laid (times_of_moov standard moov (room lent first_work second_work)).starts lent
  pub first_clear : first_work' ≡ zeros first_work
  pub second_clear : second_work' ≡ zeros second_work
