-- The numbers that the structs hold.
use Rattle.std.specs.Prelude.{◌≡◌, ℕ, ◌+◌, ◌*◌, ◌^◌, ◌<◌, ℤ}
use Rattle.signed.specs.Signed.{with_sign}
use Rattle.wide.specs.declared.Wide.{Wide}
use Rattle.wide.specs.declared.Big.{Big}

-- high * 2^64 + low
abbrev pub value : Wide → ℕ
value a = a.high * 2 ^ 64 + a.low

-- the integer of a sign and a magnitude
abbrev pub number : Big → ℤ
number big = with_sign big.negative (value big.magnitude)

-- numbers whose lower words fit are the same where their values are
abbrev pub OneForm : Type 0
OneForm = (a b : Wide) → a.low < 2 ^ 64 → b.low < 2 ^ 64 → value a ≡ value b → a ≡ b
