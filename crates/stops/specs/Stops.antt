-- WHAT 36 SAYS, AND THAT IT ONLY DIVIDES 31 (RULES 7.6), of any calls that answer by boxes/specs and frame_times/specs.
-- `Child`, `FindBox`, `Children` and `FrameTimesOf` say which answers the calls allow. Every line is proved of the
-- calls' promises, as the contracts of `stops_at_a_bad_header` and `only_divides`, and the audit claims it of the
-- promises in the source.
use Rattle.std.specs.Prelude.{ℕ, ◌+◌, ◌-◌, ◌≤◌, Bool, true, false, List, [], ◌∷◌, ◌⊎◌, ◌≡◌, ℤ, length, take, drop, Result}
use Rattle.slices.specs.Slices.{laid}
use Rattle.boxes.specs.Bytes.{be32_at, mdia}
use Rattle.boxes.specs.Boxes.{Boxes, clean, bad, box, header_at, boxes_of, is_text, searched, first_of}
use Rattle.boxes.specs.Tracks.{video_track}
use Rattle.boxes.specs.declared.Header.TheVariants.{Bad}
use Rattle.boxes.specs.declared.Place.{Place}
use Rattle.boxes.specs.declared.BoxAt.{BoxAt}
use Rattle.refusal.specs.declared.Reason.TheVariants as reason
use Rattle.refusal.specs.declared.Refusal.{Refusal}
use Rattle.refusal.specs.Refusals.{refused}
use Rattle.boxes.specs.declared.Walk.{Walk}
use Rattle.boxes.specs.declared.Walk.TheVariants.{Found, End, Bad as BadAt}
use Rattle.ticks.specs.declared.FrameTimes.{FrameTimes}
use Rattle.frame_times.specs.Times.{Part, whole_part, inner_part, mvhd, mdhd, minf, stbl, stts, room}
use Rattle.stops.specs.Undivided.{taken_back, child_undivided, find_box_undivided, children_undivided, times_undivided}

-- how some boxes end
unfoldable pub ending : Boxes → Walk
ending clean = End
ending (bad at) = BadAt at
ending (box at kind start len rest) = ending rest

-- a broken header: at least 8 bytes are there, and no size is whole there or fits; with text types also one whose type
-- isn't text
abbrev pub Broken : Bool → List ℕ → ℕ → Type 0
Broken text bytes at =
    (at + 8 ≤ length bytes)
    × ((header_at bytes at ≡ Bad) ⊎ ((text ≡ true) × (is_text (be32_at bytes (at + 4)) ≡ false)))

-- a walk over some bytes, from their start, comes to `at`, and stops at a broken header there
pub record StopsAt (text : Bool) (bytes : List ℕ) (at : ℕ) : Type 0 where
  pub comes : ending (searched text (boxes_of bytes)) ≡ BadAt at
  pub broken : Broken text bytes at

-- a search for a box that has to be there: the part of the moov that is walked over, and how the walk for the box ends
pub record Search : Type 0 where
  pub part : Part
  pub walk : Walk

abbrev pub search_for : ℕ → Part → Search
search_for kind part = record { part = part; walk = first_of kind (boxes_of part.bytes) }

-- the searches in the part that a walk found; none where it found none
abbrev pub found_in : Part → Walk → (Part → List Search) → List Search
found_in part (Found place) inner = inner (inner_part part place)
found_in part End inner = []
found_in part (BadAt at) inner = []

-- a search, and then those in what it finds
abbrev pub and_in : Search → (Part → List Search) → List Search
and_in search inner = search ∷ found_in search.part search.walk inner

-- the searches in a stbl, a minf, a mdia, a video track, and in a moov
abbrev pub in_tables : Part → List Search
in_tables part = search_for stts part ∷ []

abbrev pub in_info : Part → List Search
in_info part = and_in (search_for stbl part) in_tables

abbrev pub in_media : Part → List Search
in_media part = search_for mdhd part ∷ and_in (search_for minf part) in_info

abbrev pub in_track : Part → List Search
in_track part = and_in (search_for mdia part) in_media

abbrev pub search_for_video : List ℕ → Search
search_for_video moov = record { part = whole_part moov; walk = video_track moov }

abbrev pub searches : List ℕ → List Search
searches moov = search_for mvhd (whole_part moov) ∷ and_in (search_for_video moov) in_track

-- a search's walk stops at a broken header, which is at i of the moov
pub record StopsIn (moov : List ℕ) (i : ℕ) (search : Search) : Type 0 where
  pub lies : search.part.bytes ≡ take (length search.part.bytes) (drop search.part.base moov)
  pub from : search.part.base ≤ i
  pub there : i + 8 ≤ length moov
  pub walked : search.walk ≡ BadAt (i - search.part.base)
  pub stops : StopsAt false search.part.bytes (i - search.part.base)

-- P holds of one of some searches
abbrev pub OfOne : (Search → Type 0) → List Search → Type 0
OfOne P [] = ⊥
OfOne P (search ∷ more) = P search ⊎ OfOne P more

-- 36'S INDEX IS THE OFFSET OF A HEADER THAT IS THERE AND BROKEN, and the walk for the box stopped at it; where `child`
-- or `find_box` answers 31, all boxes were walked to a clean end
pub record Stopping
    (Child : List ℕ → ℕ → Result Place Refusal → Type 0)
    (FindBox : List ℕ → ℕ → ℕ → ℕ → Bool → Result Place Refusal → Type 0)
    (Children : List ℕ → ℕ → Result BoxAt Refusal → Type 0)
    (FrameTimesOf : List ℕ → Bool → List ℤ → List ℤ → List ℤ → Result FrameTimes Refusal
    → List ℤ → List ℤ → List ℤ → Type 0) : Type 0 where
  pub child : (bytes : List ℕ) (kind i : ℕ) → Child bytes kind (refused reason.Broken i) → StopsAt false bytes i
  pub child_end : (bytes : List ℕ) (kind i : ℕ) → Child bytes kind (refused reason.Missing i)
      → ending (boxes_of bytes) ≡ End
  -- in the range from start to end, at i of the whole
  pub find_box : (bytes : List ℕ) (start end kind : ℕ) (text : Bool) (i : ℕ)
      → FindBox bytes start end kind text (refused reason.Broken i)
      → (start ≤ i) × (i + 8 ≤ end) × StopsAt text (take (end - start) (drop start bytes)) (i - start)
  pub find_box_end : (bytes : List ℕ) (start end kind : ℕ) (text : Bool) (i : ℕ)
      → FindBox bytes start end kind text (refused reason.Missing i)
      → ending (searched text (boxes_of (take (end - start) (drop start bytes)))) ≡ End
  -- at the offset that was asked for
  pub children : (bytes : List ℕ) (at i : ℕ) → Children bytes at (refused reason.Broken i)
      → (i ≡ at) × Broken false bytes at
  pub frame_times : (moov : List ℕ) (standard : Bool) (starts first second starts' first' second' : List ℤ) (i : ℕ)
      → FrameTimesOf moov standard starts first second (refused reason.Broken i) starts' first' second'
      → OfOne (StopsIn moov i) (searches moov)

-- 31 IS DIVIDED, AND NOTHING ELSE: with 36 taken back to 31 every answer is the undivided one, and so are the starts.
-- So 31 or 36 is given exactly where the undivided answer is 31, and frame times that are given are the undivided ones
pub record Dividing
    (Child : List ℕ → ℕ → Result Place Refusal → Type 0)
    (FindBox : List ℕ → ℕ → ℕ → ℕ → Bool → Result Place Refusal → Type 0)
    (Children : List ℕ → ℕ → Result BoxAt Refusal → Type 0)
    (FrameTimesOf : List ℕ → Bool → List ℤ → List ℤ → List ℤ → Result FrameTimes Refusal
    → List ℤ → List ℤ → List ℤ → Type 0) : Type 0 where
  pub child : (bytes : List ℕ) (kind : ℕ) (answer : Result Place Refusal) → Child bytes kind answer
      → taken_back answer ≡ child_undivided bytes kind
  pub find_box : (bytes : List ℕ) (start end kind : ℕ) (text : Bool) (answer : Result Place Refusal)
      → FindBox bytes start end kind text answer → taken_back answer ≡ find_box_undivided bytes start end kind text
  pub children : (bytes : List ℕ) (at : ℕ) (answer : Result BoxAt Refusal) → Children bytes at answer
      → taken_back answer ≡ children_undivided bytes at
  pub frame_times : (moov : List ℕ) (standard : Bool) (starts first second starts' first' second' : List ℤ)
      (answer : Result FrameTimes Refusal)
      → FrameTimesOf moov standard starts first second answer starts' first' second'
      → (taken_back answer ≡ (times_undivided standard moov (room starts first second)).answer)
      × (starts' ≡ laid (times_undivided standard moov (room starts first second)).starts starts)
