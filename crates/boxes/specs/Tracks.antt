-- The first video track of a moov: RULES 7.8, of ISO/IEC 14496-12, 8.3.1, 8.4.1, 8.4.3.
use Rattle.std.specs.Prelude.{ℕ, List, Bool, false, length, if◌then◌else◌, ◌==◌, nat_lt}
use Rattle.boxes.specs.Bytes.{be32_at, trak, mdia, hdlr, vide}
use Rattle.boxes.specs.Boxes.{boxes_of, place, first_such}
use Rattle.boxes.specs.Places.{bytes_at, child_of}
use Rattle.boxes.specs.declared.Walk.{Walk}

-- a track whose first mdia's first hdlr has `vide` at 8 (8.4.3: version and flags, four bytes, then the handler's type)
abbrev pub is_video : List ℕ → Bool
is_video track =
    let handler = child_of hdlr (child_of mdia track) in
    if nat_lt (length handler) 12 then false
    else be32_at handler 8 == vide

-- the same of a box of a moov, where it is a trak
abbrev pub is_video_track : List ℕ → ℕ → ℕ → ℕ → Bool
is_video_track moov kind start len =
    if kind == trak then is_video (bytes_at moov (place start len))
    else false

-- the first video track of a moov
abbrev pub video_track : List ℕ → Walk
video_track moov = first_such (is_video_track moov) (boxes_of moov)
