-- Worked examples of boxes and of the searches for them. They are the contract of `worked_examples_hold`.
use Rattle.std.specs.Prelude.{ℕ, true, false, List, [], ◌∷◌, ◌++◌, Result, Ok}
use Rattle.examples.specs.Worked.{Worked, is, AllRight}
use Rattle.refusal.specs.declared.Reason.TheVariants as reason
use Rattle.refusal.specs.declared.Refusal.{Refusal}
use Rattle.refusal.specs.Refusals.{refused}
use Rattle.boxes.specs.Bytes.{mtrm}
use Rattle.boxes.specs.Boxes.{Boxes, clean, bad, box, boxes_of, place, box_size}
use Rattle.boxes.specs.Places.{child_place, find_box_place, table_text_place}
use Rattle.boxes.specs.declared.BoxSize.{BoxSize}
use Rattle.boxes.specs.declared.Place.{Place}

-- an MTRM with the payload `{}`, and the same with a 64-bit size
abbrev pub table : List ℕ
table = 0 ∷ 0 ∷ 0 ∷ 10 ∷ 0x4d ∷ 0x54 ∷ 0x52 ∷ 0x4d ∷ 0x7b ∷ 0x7d ∷ []

abbrev pub large : List ℕ
large =
    0 ∷ 0 ∷ 0 ∷ 1 ∷ 0x4d ∷ 0x54 ∷ 0x52 ∷ 0x4d
    ∷ 0 ∷ 0 ∷ 0 ∷ 0 ∷ 0 ∷ 0 ∷ 0 ∷ 18 ∷ 0x7b ∷ 0x7d ∷ []

-- a free box of so many bytes, of which 8 are here; a udta and a moov that take what remains
abbrev pub free : ℕ → List ℕ
free size = 0 ∷ 0 ∷ 0 ∷ size ∷ 0x66 ∷ 0x72 ∷ 0x65 ∷ 0x65 ∷ []

abbrev pub in_udta : List ℕ → List ℕ
in_udta inside = 0 ∷ 0 ∷ 0 ∷ 0 ∷ 0x75 ∷ 0x64 ∷ 0x74 ∷ 0x61 ∷ inside

abbrev pub in_moov : List ℕ → List ℕ
in_moov inside = 0 ∷ 0 ∷ 0 ∷ 0 ∷ 0x6d ∷ 0x6f ∷ 0x6f ∷ 0x76 ∷ inside

abbrev pub file : List ℕ → List ℕ
file inside = free 8 ++ in_moov (in_udta inside)

-- a box whose type ends with a byte
abbrev pub typed : ℕ → List ℕ
typed byte = 0 ∷ 0 ∷ 0 ∷ 8 ∷ 0x66 ∷ 0x72 ∷ 0x65 ∷ byte ∷ []

-- how the boxes end: three bytes are left; a size below its header; a size that passes the bytes
abbrev pub walks : List (Worked Boxes)
walks =
    is (boxes_of (free 8 ++ table ++ (9 ∷ 9 ∷ 9 ∷ []))) (box 0 0x66726565 8 0 (box 8 mtrm 16 2 clean))
    ∷ is (boxes_of (free 8 ++ free 7)) (box 0 0x66726565 8 0 (bad 8))
    ∷ is (boxes_of (free 9)) (bad 0)
    ∷ []

-- four bytes are enough for a 32-bit size; size 0 is what remains, which is 8 at least
abbrev pub sizes : List (Worked (Result BoxSize Refusal))
sizes =
    is (box_size (0 ∷ 0 ∷ 0 ∷ 20 ∷ []) 20) (Ok (record { size = 20; header = 8 }))
    ∷ is (box_size (0 ∷ 0 ∷ 0 ∷ 0 ∷ []) 7) (refused reason.Missing 0)
    ∷ []

abbrev pub places : List (Worked (Result Place Refusal))
places =
    -- a 64-bit size has a header of 16
    is (child_place large mtrm) (Ok (place 16 2))
    -- a child is missing where the boxes end cleanly, and can't be had where a broken header stands before it
    ∷ is (child_place (free 8 ++ (9 ∷ 9 ∷ 9 ∷ [])) mtrm) (refused reason.Missing 0)
    ∷ is (child_place (free 8 ++ free 7 ++ table) mtrm) (refused reason.Broken 8)
    -- places are those in the whole; a range that ends past the bytes, or before it starts, is 42
    ∷ is (find_box_place (free 8 ++ table) 8 18 mtrm true) (Ok (place 16 2))
    ∷ is (find_box_place (free 8 ++ free 8 ++ free 7 ++ table) 8 34 mtrm true) (refused reason.Broken 16)
    ∷ is (find_box_place table 0 11 mtrm false) (refused reason.BadSearch 0)
    ∷ is (find_box_place table 9 8 mtrm false) (refused reason.BadSearch 0)
    -- with text types 7E hex is passed, and 7F ends the search
    ∷ is (find_box_place (typed 0x7e ++ table) 0 18 mtrm true) (Ok (place 16 2))
    ∷ is (find_box_place (typed 0x7f ++ table) 0 18 mtrm true) (refused reason.Broken 0)
    -- one MTRM is answered; none and two are refused
    ∷ is (table_text_place (file table)) (Ok (place 32 2))
    ∷ is (table_text_place (file (free 8))) (refused reason.NoTable 0)
    ∷ is (table_text_place (file (large ++ table))) (refused reason.SeveralTables 0)
    ∷ []

abbrev pub WorkedExamples : Type 0
WorkedExamples = AllRight walks × AllRight sizes × AllRight places
