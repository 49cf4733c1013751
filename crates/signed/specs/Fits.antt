-- What contracts inside crates say of a number that an i64 holds. No public promise names this.
use Rattle.std.specs.Prelude.{◌<◌, ◌^◌, ℤ}
use Rattle.std.specs.Int.Signed.{mag}

-- an i64 holds z, in the words of the machine's rules, whose `mag` is n of n and of -(n + 1)
abbrev pub I64 : ℤ → Type 0
I64 z = mag z < 2 ^ 63
