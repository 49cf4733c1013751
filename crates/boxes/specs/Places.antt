-- A part of the caller's own bytes, and what each search answers: a part's place, or a refusal. RULES 7.3 to 7.7.
use Rattle.std.specs.Prelude.{ℕ, ◌+◌, ◌-◌, List, [], ◌∷◌, Bool, ◌≡◌, length, take, drop, if◌then◌else◌, Option, None, Some, Result, Ok, Err, ◌==◌, nat_lt}
use Rattle.std.specs.Borrow.{Bor}
use Rattle.std.specs.Option.{ok_or}
use Rattle.refusal.specs.declared.Reason.TheVariants as reason
use Rattle.refusal.specs.declared.Refusal.{Refusal}
use Rattle.refusal.specs.Refusals.{refusal_at, refused}
use Rattle.boxes.specs.Bytes.{moov, udta, mtrm}
use Rattle.boxes.specs.Boxes.{most_bytes, Boxes, clean, bad, box, boxes_of, searched, textual, place, first_of}
use Rattle.boxes.specs.declared.Place.{Place}
use Rattle.boxes.specs.declared.Walk.{Walk}
use Rattle.boxes.specs.declared.Walk.TheVariants.{Found, End, Bad as BadAt}

-- the place of what a walk found; none, however the boxes end without it
abbrev pub found_place : Walk → Option Place
found_place (Found place) = Some place
found_place End = None
found_place (BadAt at) = None

-- the place of what a walk found; without it 31 after a clean end, 36 at a broken header, with its offset (RULES 7.6)
abbrev pub place_of : Walk → Result Place Refusal
place_of (Found place) = Ok place
place_of End = refused reason.Missing 0
place_of (BadAt at) = refused reason.Broken at

-- a place in a part that starts at `by`, as a place in the whole
abbrev pub place_moved : ℕ → Place → Place
place_moved by inner = place (by + inner.start) inner.len

-- how a walk in such a part ends, with offsets in the whole
abbrev pub moved_walk : ℕ → Walk → Walk
moved_walk by (Found place) = Found (place_moved by place)
moved_walk by End = End
moved_walk by (BadAt at) = BadAt (by + at)

-- the bytes at a place
abbrev pub bytes_at : List ℕ → Place → List ℕ
bytes_at bytes place = take place.len (drop place.start bytes)

-- the same of a place that may be lacking: no bytes then
abbrev pub part_of : List ℕ → Option Place → List ℕ
part_of bytes (Some place) = bytes_at bytes place
part_of bytes None = []

-- where a part starts; 0 where there is none
abbrev pub start_of : Option Place → ℕ
start_of (Some place) = place.start
start_of None = 0

-- the part of a whole at a place: its bytes, and it lies in the memory of the whole, so far after the first byte there
pub record PartAt (whole : Bor (List ℕ)) (at : Option Place) (part : Bor (List ℕ)) : Type 0 where
  pub bytes : part.now ≡ part_of whole.now at
  pub place : part.ref_ptr ≡ (whole.ref_ptr.0, whole.ref_ptr.1 + start_of at)

-- a place that may be refused, moved likewise
abbrev pub moved_place : ℕ → Result Place Refusal → Result Place Refusal
moved_place by (Ok place) = Ok (place_moved by place)
moved_place by (Err refusal) = Err refusal

-- what a search in the part at a place answers, as a place in the whole
abbrev pub in_part : List ℕ → Result Place Refusal → (List ℕ → Result Place Refusal) → Result Place Refusal
in_part bytes (Ok place) search = moved_place place.start (search (bytes_at bytes place))
in_part bytes (Err refusal) search = Err refusal

-- where the payload of the first child of a type lies; none, however the boxes end without it
abbrev pub child_in : ℕ → List ℕ → Option Place
child_in kind bytes = found_place (first_of kind (boxes_of bytes))

abbrev pub child_of : ℕ → List ℕ → List ℕ
child_of kind bytes = part_of bytes (child_in kind bytes)

-- `child`
abbrev pub child_place : List ℕ → ℕ → Result Place Refusal
child_place payload kind =
    if nat_lt most_bytes (length payload) then refused reason.TooLong 0
    else place_of (first_of kind (boxes_of payload))

-- `find_box`, in the bytes from `start` to `end`; with text types a type that isn't text is a broken header
unfoldable pub find_box_place : List ℕ → ℕ → ℕ → ℕ → Bool → Result Place Refusal
find_box_place bytes start end kind text =
    if nat_lt most_bytes (length bytes) then refused reason.TooLong 0
    else if nat_lt (length bytes) end then refused reason.BadSearch 0
    else if nat_lt end start then refused reason.BadSearch 0
    else place_of (moved_walk start (first_of kind (searched text (boxes_of (take (end - start) (drop start bytes))))))

-- the payloads of all boxes of a type
unfoldable pub all_of : ℕ → Boxes → List Place
all_of kind clean = []
all_of kind (bad at) = []
all_of kind (box at found start len rest) =
    if found == kind then place start len ∷ all_of kind rest
    else all_of kind rest

-- the only one of some places
abbrev pub only_of : List Place → Result Place Refusal
only_of [] = refused reason.NoTable 0
only_of (only ∷ []) = Ok only
only_of (first ∷ second ∷ more) = refused reason.SeveralTables 0

-- the only MTRM of the first udta of a moov
unfoldable pub table_in : List ℕ → Result Place Refusal
table_in payload =
    in_part payload (ok_or (child_in udta payload) (refusal_at reason.NoTable 0))
    (λ inner. only_of (all_of mtrm (boxes_of inner)))

-- `table_text`, in the first moov of a file, with text types (RULES 7.5)
abbrev pub table_text_place : List ℕ → Result Place Refusal
table_text_place file =
    if nat_lt most_bytes (length file) then refused reason.TooLong 0
    else in_part file (ok_or (found_place (first_of moov (textual (boxes_of file)))) (refusal_at reason.NoTable 0))
    table_in
