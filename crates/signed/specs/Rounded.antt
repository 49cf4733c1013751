-- Quotients to the nearest whole number, halves away from zero.
use Rattle.std.specs.Prelude.{ℕ, suc, ◌+◌, ◌*◌, ◌/◌, ℤ, pos, negsuc, neg_ℤ}

-- dividend / divisor to the nearest whole number, halves up
abbrev pub nearest : ℕ → ℕ → ℕ
nearest dividend divisor = (2 * dividend + divisor) / (2 * divisor)

-- the same of a dividend that may be below 0, halves away from zero
abbrev pub rounded : ℤ → ℕ → ℤ
rounded (pos dividend) divisor = pos (nearest dividend divisor)
rounded (negsuc n) divisor = neg_ℤ (pos (nearest (suc n) divisor))
