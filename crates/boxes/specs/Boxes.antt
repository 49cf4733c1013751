-- The boxes of some bytes, and how they end: RULES 7.1 to 7.4 and 7.9, of ISO/IEC 14496-12, 4.2.
use Rattle.std.specs.Prelude.{ℕ, zero, suc, ◌+◌, ◌-◌, ◌/◌, ◌%◌, List, Bool, true, false, ◌&&◌, length, drop, if◌then◌else◌, Option, None, Some, Result, Ok, ◌==◌, nat_lt, nat_le}
use Rattle.std.specs.Option.{ok_or}
use Rattle.refusal.specs.declared.Reason.TheVariants as reason
use Rattle.refusal.specs.declared.Refusal.{Refusal}
use Rattle.refusal.specs.Refusals.{refusal_at, refused}
use Rattle.boxes.specs.Bytes.{be32_at, be64_at}
use Rattle.boxes.specs.declared.BoxSize.{BoxSize}
use Rattle.boxes.specs.declared.Header.{Header}
use Rattle.boxes.specs.declared.Header.TheVariants.{Whole, Short, Bad}
use Rattle.boxes.specs.declared.BoxAt.{BoxAt}
use Rattle.boxes.specs.declared.Place.{Place}
use Rattle.boxes.specs.declared.Walk.{Walk}
use Rattle.boxes.specs.declared.Walk.TheVariants.{Found, End, Bad as BadAt}

-- the most bytes that a call takes
abbrev pub most_bytes : ℕ
most_bytes = 16777216

-- a size and its header's, where the size is at least that and at most what remains
abbrev pub fitting_in : ℕ → ℕ → ℕ → Option BoxSize
fitting_in remaining header size =
    if nat_lt size header then None
    else if nat_lt remaining size then None
    else Some (record { size = size; header = header })

-- The size of the box at the start of some bytes, and of its header, where so many bytes remain to the end of what it
-- is in. Size 0 is what remains, and size 1 stands in the eight bytes after the type (RULES 7.1).
unfoldable pub size_of : List ℕ → ℕ → Option BoxSize
size_of bytes remaining =
    if nat_lt (length bytes) 4 then None
    else if be32_at bytes 0 == 0 then fitting_in remaining 8 remaining
    else if be32_at bytes 0 == 1 then
    (if nat_lt (length bytes) 16 then None else fitting_in remaining 16 (be64_at bytes 8))
    else fitting_in remaining 8 (be32_at bytes 0)

-- the same for a caller's bytes, which may be too long
abbrev pub box_size : List ℕ → ℕ → Result BoxSize Refusal
box_size bytes remaining =
    if nat_lt most_bytes (length bytes) then refused reason.TooLong 0
    else ok_or (size_of bytes remaining) (refusal_at reason.Missing 0)

-- where the payload and the next box are, for a box of a type at `at`
abbrev pub header_by : ℕ → ℕ → Option BoxSize → Header
header_by at kind None = Bad
header_by at kind (Some box) =
    Whole (record { kind = kind; start = at + box.header; len = box.size - box.header; next = at + box.size })

-- the header at `at`, where all that remains is at hand
unfoldable pub header_at : List ℕ → ℕ → Header
header_at bytes at =
    if nat_lt (length bytes - at) 8 then Short
    else header_by at (be32_at bytes (at + 4)) (size_of (drop at bytes) (length bytes - at))

-- the box of a header at `at`; missing where fewer than 8 bytes are left, broken at a broken header, with its offset
abbrev pub reached_by : Header → ℕ → Result BoxAt Refusal
reached_by Short at = refused reason.Missing 0
reached_by Bad at = refused reason.Broken at
reached_by (Whole found) at = Ok found

-- `children`, the box at an offset
abbrev pub children_at : List ℕ → ℕ → Result BoxAt Refusal
children_at payload at =
    if nat_lt most_bytes (length payload) then refused reason.TooLong 0
    else if nat_lt (length payload) at then refused reason.BadSearch 0
    else reached_by (header_at payload at) at

-- The boxes of some bytes, in order, and how they end: fewer than 8 bytes are left, or at `at` stands a broken header.
pub data Boxes : Type 0 where
  clean : Boxes
  bad : (at : ℕ) → Boxes
  box : (at kind start len : ℕ) → Boxes → Boxes

-- the boxes from `at` on, by the header there and the boxes after it
abbrev pub after_header : Header → ℕ → (ℕ → Boxes) → Boxes
after_header Short at next = clean
after_header Bad at next = bad at
after_header (Whole found) at next = box at found.kind found.start found.len (next found.next)

-- the boxes from `at` on, so many at most
unfoldable pub boxes_from : ℕ → List ℕ → ℕ → Boxes
boxes_from zero bytes at = clean
boxes_from (suc most) bytes at = after_header (header_at bytes at) at (boxes_from most bytes)

-- the boxes from `at` on: a box has 8 bytes at least, so there are no more of them than bytes
unfoldable pub boxes_at : List ℕ → ℕ → Boxes
boxes_at bytes at = boxes_from (length bytes - at) bytes at

abbrev pub boxes_of : List ℕ → Boxes
boxes_of bytes = boxes_at bytes 0

-- a byte of text, and a type whose four bytes are text
abbrev pub text_byte : ℕ → Bool
text_byte byte = nat_le 0x20 byte && nat_le byte 0x7e

unfoldable pub is_text : ℕ → Bool
is_text kind =
    text_byte (kind / 16777216)
    && (text_byte (kind / 65536 % 256) && (text_byte (kind / 256 % 256) && text_byte (kind % 256)))

-- the boxes up to the first whose type isn't text, which ends them as a broken header does
unfoldable pub textual : Boxes → Boxes
textual clean = clean
textual (bad at) = bad at
textual (box at kind start len rest) =
    if is_text kind then box at kind start len (textual rest)
    else bad at

-- the boxes that a search goes through, with text types or without
abbrev pub searched : Bool → Boxes → Boxes
searched true boxes = textual boxes
searched false boxes = boxes

-- so many bytes from `start` on
abbrev pub place : ℕ → ℕ → Place
place start len = record { start = start; len = len }

-- the first box that passes a test on its type, its payload's start and its payload's length, or how the boxes end
unfoldable pub first_such : (ℕ → ℕ → ℕ → Bool) → Boxes → Walk
first_such test clean = End
first_such test (bad at) = BadAt at
first_such test (box at kind start len rest) =
    if test kind start len then Found (place start len)
    else first_such test rest

-- the first box of a type
abbrev pub first_of : ℕ → Boxes → Walk
first_of kind = first_such (λ found start len. found == kind)
