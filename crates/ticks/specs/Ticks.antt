-- Time of a frame: ticks of a scale in microseconds (RULES 5.2), and what is near the end of a video (RULES 5.3).
-- And an edit's time in media ticks (RULES 8.5).
use Rattle.std.specs.Prelude.{ℕ, ◌+◌, ◌*◌, ◌/◌, ◌^◌, Bool, ℤ, pos, ◌+ℤ◌, ◌-ℤ◌, ◌*ℤ◌, if◌then◌else◌, Option, Some, None, Result, Ok, ◌==◌, nat_lt, int_le, unsigned_abs}
use Rattle.refusal.specs.declared.Refusal.{Refusal}
use Rattle.refusal.specs.declared.Reason.TheVariants as reason
use Rattle.refusal.specs.Refusals.{refused}
use Rattle.signed.specs.Signed.{as_i64}
use Rattle.signed.specs.Rounded.{rounded}

-- the largest scale
abbrev pub largest_scale : ℕ
largest_scale = 4294967295

-- ticks × 1,000,000 / scale to the nearest whole number, halves away from zero; none at scale 0 or outside i64
unfoldable pub micros_of : ℤ → ℕ → Option ℤ
micros_of ticks scale = if scale == 0 then None else as_i64 (rounded (ticks *ℤ pos 1000000) scale)

-- the same, as a call answers it
unfoldable pub us_of : Option ℤ → Result ℤ Refusal
us_of (Some time) = Ok time
us_of None = refused reason.NoFrameTime 0

unfoldable pub ticks_to_us : ℤ → ℕ → Result ℤ Refusal
ticks_to_us ticks scale =
    if nat_lt largest_scale scale then refused reason.TooLarge 0
    else us_of (micros_of ticks scale)

-- |2·end_us·scale - 2·end·1,000,000| ≤ 2·nominal·1,000,000 + scale
unfoldable pub ends_near : ℤ → ℤ → ℤ → ℕ → Bool
ends_near end_us end nominal scale =
    int_le (pos (unsigned_abs (pos 2 *ℤ end_us *ℤ pos scale -ℤ pos 2 *ℤ end *ℤ pos 1000000)))
    (pos 2 *ℤ nominal *ℤ pos 1000000 +ℤ pos scale)

-- a duration of the movie in the media's ticks: floor((duration × timescale + floor(movie / 2)) / movie)
abbrev pub edit_ticks : ℕ → ℕ → ℕ → ℕ
edit_ticks duration timescale movie = (duration * timescale + movie / 2) / movie

-- the same where an i64 holds it
unfoldable pub media_ticks : ℕ → ℕ → ℕ → Option ℕ
media_ticks duration timescale movie =
    if nat_lt (edit_ticks duration timescale movie) (2 ^ 63) then Some (edit_ticks duration timescale movie)
    else None
