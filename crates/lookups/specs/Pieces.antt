-- Words of the contracts inside this crate: the frames that lie in one segment.
use Rattle.std.specs.Prelude.{ℕ, ◌+◌, ◌≤◌, ◌<◌, ◌≡◌, length, ◌==◌, if◌then◌else◌}
use Rattle.conditions.specs.Conditions.{max_u64}
use Rattle.rules.specs.Lookups.{ended, over_by}
use Rattle.rules.specs.Records.{Table, segment}
use Rattle.lookups.specs.declared.Piece.{Piece}

-- the segment that has a frame, as the single lookup answers it
abbrev pub index_in : Table → ℕ → ℕ
index_in table frame = ended (over_by frame) table.segments

-- where the frames of segment k end: the last segment has all frames past it too, of which the largest number alone is
-- left to the search
abbrev pub piece_end : Table → ℕ → ℕ
piece_end table k = if k + 1 == length table.segments then max_u64 else (segment table (k + 1)).words.out

abbrev pub piece_at : Table → ℕ → Piece
piece_at table k = record { index = k; from = (segment table k).words.out; end = piece_end table k }

-- each frame of a piece has its index
pub record Covers (table : Table) (piece : Piece) : Type 0 where
  pub known : piece.index < length table.segments
  pub each : (frame : ℕ) → piece.from ≤ frame → frame < piece.end → index_in table frame ≡ piece.index
