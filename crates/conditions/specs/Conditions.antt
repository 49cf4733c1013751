-- Sums that pass a limit.
use Rattle.std.specs.Prelude.{ℕ, ◌+◌, Bool, nat_lt}

-- the largest u64, 2^64 - 1
abbrev pub max_u64 : ℕ
max_u64 = 0xffff_ffff_ffff_ffff

-- a and b together pass a limit
unfoldable pub past : ℕ → ℕ → ℕ → Bool
past a b limit = nat_lt limit (a + b)
