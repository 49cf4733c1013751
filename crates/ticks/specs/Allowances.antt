-- How far an end may be off, as a difference of two numbers, and numbers small enough to be added or multiplied; for
-- contracts inside this crate.
use Rattle.std.specs.Prelude.{◌≡◌, ℕ, ◌^◌, ◌<◌, ℤ, pos, ◌-ℤ◌, int_lt, unsigned_abs}
use Rattle.wide.specs.declared.Big.{Big}
use Rattle.wide.specs.Value.{value}
use Rattle.ticks.specs.declared.Allowance.{Allowance}

-- the most ticks whose product with 1,000,000 fits 63 bits with its sign
abbrev pub small_ticks : ℕ
small_ticks = 4611686018427

-- z as a difference of two numbers, each with room to be added to others
pub record Allowed (z : ℤ) (allowance : Allowance) : Type 0 where
  pub is : pos (value allowance.plus) -ℤ pos (value allowance.minus) ≡ z
  pub plus_lt : value allowance.plus < 2 ^ 118
  pub minus_lt : value allowance.minus < 2 ^ 118

-- numbers of which any three have a sum below 2^128
pub record Addable (a b plus minus : ℕ) : Type 0 where
  pub a_lt : a < 2 ^ 118
  pub b_lt : b < 2 ^ 118
  pub plus_lt : plus < 2 ^ 118
  pub minus_lt : minus < 2 ^ 118

-- an i64 as a sign and a magnitude of two words
abbrev pub big_of : ℤ → Big
big_of z = record { negative = int_lt z (pos 0); magnitude = record { high = 0; low = unsigned_abs z } }
