-- How much a case may ask for.
use Rattle.std.specs.Prelude.{ℕ}

-- the most elements of a slice that is lent
abbrev pub most_lent : ℕ
most_lent = 65536
