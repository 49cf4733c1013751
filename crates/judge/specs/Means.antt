-- WHAT IT MEANS THAT A TABLE IS ACCEPTED FOR A VIDEO OR A RECORDING, by RULES 6.2 and 6.3. It is proved that `validate`
-- accepts exactly the tables that fit their video, and `check_mcraw` exactly those that are recorded: the contracts of
-- `accepted_tables_fit_their_video` and `accepted_tables_fit_their_recording`.
use Rattle.std.specs.Prelude.{ℕ, suc, ◌<◌, ◌≡◌, true, false, List, ◌⊎◌, ℤ, pos, ◌+ℤ◌, ◌-ℤ◌, ◌*ℤ◌, length, EachIndex, ◌≤ℤ◌, Ok, unsigned_abs}
use Rattle.signed.specs.Rounded.{rounded}
use Rattle.rules.specs.Records.{Table, segment, out_end, out_end_us}
use Rattle.rules.specs.Rules.{check_of}
use Rattle.mcraw.specs.Mcraw.{nanoseconds, starts_of, nominal, end, refusal_of}
use Rattle.judge.specs.Video.{Shown, timed}
use Rattle.judge.specs.Judge.{last_segment, single}

pub record Fits (table : Table) (shown : Shown) (total : ℕ) : Type 0 where
  -- refusals 1 to 17 don't hold; there is a video, and none of its numbers is over its limit
  pub checked : check_of table ≡ Ok total
  pub given : shown.given ≡ true
  pub in_limits : shown.over ≡ false
  -- the segments cover the video's frames exactly: from frame 0, each on from the one before it, to the frame count
  pub first : (segment table 0).words.out ≡ 0
  pub next : (k : ℕ) → suc k < length table.segments → (segment table (suc k)).words.out ≡ out_end (segment table k)
  pub some : EachIndex table.segments (λ k. 0 < (segment table k).words.count)
  pub last : out_end (last_segment table.segments) ≡ shown.frames
  pub frames : total ≡ shown.frames
  -- each segment starts at the time of its first frame in µs, to the nearest whole number, halves away from zero
  pub scaled : 0 < shown.scale
  pub starts : EachIndex table.segments (λ k. (segment table k).stamps.out_start
      ≡ rounded (shown.time (segment table k).words.out *ℤ pos 1000000) shown.scale)
  -- |2·end_us·scale - 2·end·1,000,000| ≤ 2·nominal·1,000,000 + scale
  pub near : pos (unsigned_abs
      (pos 2 *ℤ out_end_us (last_segment table.segments) *ℤ pos shown.scale -ℤ pos 2 *ℤ shown.end *ℤ pos 1000000))
      ≤ℤ (pos 2 *ℤ shown.nominal *ℤ pos 1000000 +ℤ pos shown.scale)

-- it fits the recording of timestamps, with so much room: of one, a frame at the rate of segment 0's source; else their
-- times, which nothing refuses
abbrev pub Recorded : Table → List ℤ → ℕ → ℕ → ℕ → Type 0
Recorded table timestamps first_room second_room total =
    ((length timestamps ≡ 1) × Fits table (single table.sources table.segments) total)
    ⊎ ((length timestamps ≡ 1 → ⊥)
    × (refusal_of timestamps first_room second_room ≡ Ok tt)
    × Fits table (timed (starts_of timestamps) nanoseconds (end timestamps) (nominal timestamps)) total)
