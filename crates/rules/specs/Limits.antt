-- The limits that 2 and 14 hold a table to, RULES 11 and 2.4.
use Rattle.std.specs.Prelude.{ℕ}

abbrev pub max_sources : ℕ
max_sources = 256

abbrev pub max_segments : ℕ
max_segments = 512

-- 2^63 - 1
abbrev pub max_i64 : ℕ
max_i64 = 0x7fff_ffff_ffff_ffff
