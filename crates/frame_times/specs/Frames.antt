-- The frames of a track: when each is decoded and composed, which of them an edit keeps, and where those lie. RULES 8.4
-- to 8.7, of ISO/IEC 14496-12, 8.6.1 and 8.6.6.
use Rattle.std.specs.Prelude.{ℕ, ◌+◌, Bool, true, false, List, [], ◌∷◌, map, filter, fold, get_or, drop, Option, None, Some, ℤ, pos, ◌+ℤ◌, ◌-ℤ◌, if◌then◌else◌, int_lt, int_le}
use Rattle.std.specs.Int.{int_min, int_max}
use Rattle.tracks.specs.declared.Edit.{Edit}

-- a frame: its decode time, its composition time, its duration
pub record Frame : Type 0 where
  pub decode : ℕ
  pub cts : ℤ
  pub duration : ℕ

-- The frames in decode order, from a decode time on. The durations add up to the decode times; a composition time is
-- the decode time plus the offset. There are as many frames as durations: more offsets are ignored, and a frame that
-- has none gets 0.
unfoldable pub frames_from : ℕ → List ℕ → List ℤ → List Frame
frames_from time [] offsets = []
frames_from time (span ∷ spans) offsets =
    record { decode = time; cts = pos time +ℤ get_or offsets 0 (pos 0); duration = span }
    ∷ frames_from (time + span) spans (drop 1 offsets)

-- before the media end; an open one is never reached
abbrev pub before_end : Option ℤ → ℤ → Bool
before_end None cts = true
before_end (Some end) cts = int_lt cts end

-- kept: time <= cts < media end
abbrev pub in_edit : Edit → ℤ → Bool
in_edit edit cts =
    if int_le edit.time cts then before_end edit.end cts
    else false

-- the frames that are kept
unfoldable pub kept : Edit → List Frame → List Frame
kept edit frames = filter (λ (frame : Frame). in_edit edit frame.cts) frames

-- their composition times
abbrev pub cts_of : List Frame → List ℤ
cts_of frames = map (λ (frame : Frame). frame.cts) frames

-- the last of a frame and more: the one with the largest cts, and of equals the later in decode order
unfoldable pub last_of : Frame → List Frame → Frame
last_of frame more = fold (λ (last next : Frame). if int_le last.cts next.cts then next else last) frame more

-- where a frame ends
abbrev pub end_of : Frame → ℤ
end_of frame = frame.cts +ℤ pos frame.duration

-- capped at the media end
abbrev pub capped : Option ℤ → ℤ → ℤ
capped None time = time
capped (Some end) time = int_min time end

-- with an edit the larger of the least kept cts and the decode time of the first kept frame, without one 0
abbrev pub time_origin : Edit → ℤ → ℤ → ℤ
time_origin edit least first =
    if edit.edited then int_max least first
    else pos 0

-- minus origin plus empty ticks
abbrev pub moved_time : ℤ → ℤ → ℤ → ℤ
moved_time origin empty time = (time -ℤ origin) +ℤ empty
