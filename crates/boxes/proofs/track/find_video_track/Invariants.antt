use Rattle.std.proofs.Common.{◌≡◌, ◌-◌, ◌/◌, ◌≤◌, length}
use Rattle.boxes.specs.Boxes.{boxes_at, first_such}
use Rattle.boxes.specs.Tracks.{is_video_track, video_track}
use Rattle.boxes.proofs.track.find_video_track.Given as goal

-- the first video track from `at` on is the first of all
abbrev pub invariant-loop-child : goal.invariant-loop-child
invariant-loop-child l = (l.at ≤ length l.moov) × (first_such (is_video_track l.moov) (boxes_at l.moov l.at) ≡ video_track l.moov)

-- a turn for 8 of the bytes left
abbrev pub decreases-loop-child : goal.decreases-loop-child
decreases-loop-child l = (length l.moov - l.at) / 8
