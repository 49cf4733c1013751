-- One step of a long division in base 2^32.
use Rattle.std.specs.Prelude.{◌≡◌, ℕ, ◌+◌, ◌*◌, ◌^◌, ◌<◌}
use Rattle.wide.specs.declared.Digit.{Digit}

-- the remainder so far and the next digit, divided: a digit of the quotient, and a remainder below the divisor
pub record Divided (rest digit divisor : ℕ) (answer : Digit) : Type 0 where
  pub is : answer.quotient * divisor + answer.rest ≡ rest * 2 ^ 32 + digit
  pub left : answer.rest < divisor
  pub small : answer.quotient < 2 ^ 32

-- where the divisor has at most 32 bits, so has the remainder, and one word holds it with the next digit
abbrev pub OneWord : Type 0
OneWord =
    (rest digit divisor : ℕ) → rest < divisor → digit < 2 ^ 32 → divisor < 2 ^ 32 → rest * 2 ^ 32 + digit < 2 ^ 64
