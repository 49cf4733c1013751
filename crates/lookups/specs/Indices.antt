-- RULES 4.4: the segment of each frame of a list, and what `segments_of_frames` answers and leaves in the lent room.
use Rattle.std.specs.Prelude.{ℕ, List, map, ◌≡◌, length, Result, Ok, nat_lt, if◌then◌else◌}
use Rattle.std.specs.Result.{result_and}
use Rattle.refusal.specs.declared.Refusal.{Refusal}
use Rattle.refusal.specs.declared.Reason.TheVariants as reason
use Rattle.refusal.specs.Refusals.{refused}
use Rattle.slices.specs.Slices.{after}
use Rattle.rules.specs.Records.{Table}
use Rattle.rules.specs.Rules.{refusal}
use Rattle.rules.specs.Lookups.{ended, over_by}

-- of each frame, what the single lookup answers: the number of segments that have ended, at most the last index
unfoldable pub indices_of : Table → List ℕ → List ℕ
indices_of table frames = map (λ frame. ended (over_by frame) table.segments) frames

-- the check's, then 32: n indices don't go into the lent room
unfoldable pub indices_refusal : Table → ℕ → ℕ → Result (Unit {0}) Refusal
indices_refusal table n room = result_and (refusal table) (if nat_lt room n then refused reason.NoRoom 0 else Ok tt)

-- the segments of these frames were asked for: the answer, which is how many there are, and the room lent for their
-- indices, before and afterwards
pub record Indexing (table : Table) (frames out : List ℕ) (result : Result ℕ Refusal) (out' : List ℕ) : Type 0 where
  pub answer : result ≡ result_and (indices_refusal table (length frames) (length out)) (Ok (length frames))
  pub indices : out' ≡ after (indices_refusal table (length frames) (length out)) (indices_of table frames) out
