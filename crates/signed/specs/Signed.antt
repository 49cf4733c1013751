-- Integers that an i64 holds, and the integer of a sign and a magnitude.
use Rattle.std.specs.Prelude.{ℕ, ◌-◌, ◌^◌, Bool, true, false, ◌||◌, ℤ, pos, neg_ℤ, Option, Some, None, if◌then◌else◌, int_lt}

-- no i64 holds z: it is below -2^63 or above 2^63 - 1
abbrev pub is_outside : ℤ → Bool
is_outside z = int_lt z (neg_ℤ (pos (2 ^ 63))) || int_lt (pos (2 ^ 63 - 1)) z

-- z, where an i64 holds it
abbrev pub as_i64 : ℤ → Option ℤ
as_i64 z = if is_outside z then None else Some z

-- the integer with a magnitude and a sign: true for below 0
abbrev pub with_sign : Bool → ℕ → ℤ
with_sign true magnitude = neg_ℤ (pos magnitude)
with_sign false magnitude = pos magnitude
