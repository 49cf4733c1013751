-- Whole numbers: no fraction, no exponent, and not too many digits.
use Rattle.std.specs.Prelude.{if◌then◌else◌, Option, Some, None, option_and_then, ℕ, ◌-◌, ◌==◌, ◌&&◌, List, take, drop, leb, ℤ}
use Rattle.json_tokens.specs.Text.{Got}
use Rattle.json_tokens.specs.Numbers.{Figure, number_at}
use Rattle.signed.specs.Signed.{as_i64, with_sign}
use Rattle.json_fields.specs.declared.Whole.{Whole}

abbrev pub max_u64 : ℕ
max_u64 = 0xffff_ffff_ffff_ffff

unfoldable pub fitting : ℕ → Option ℕ
fitting n = if leb n max_u64 then Some n else None

-- the bytes of a text from one offset to another
abbrev pub span : List ℕ → ℕ → ℕ → List ℕ
span text i e = take (e - i) (drop i text)

-- the sign and the digits of a number that is whole; digits past 2^64 - 1 are too many
unfoldable pub whole_of : Figure → Option Whole
whole_of f = if f.plain then option_and_then (λ n. Some (record { negative = f.minus; size = n })) (fitting f.int) else None

unfoldable pub whole_in : Got Figure → Option Whole
whole_in None = None
whole_in (Some (f, e)) = whole_of f

-- the Rust's as_u64: no minus
unfoldable pub u64_of : Whole → Option ℕ
u64_of w = if w.negative then None else Some w.size

-- its as_i64: within 64 bits, and not -0
unfoldable pub i64_of : Whole → Option ℤ
i64_of w = if w.negative && w.size == 0 then None else as_i64 (with_sign w.negative w.size)

-- of the number at an offset
abbrev pub u64_at : List ℕ → ℕ → Option ℕ
u64_at text at = option_and_then u64_of (whole_in (number_at text at))

abbrev pub i64_at : List ℕ → ℕ → Option ℤ
i64_at text at = option_and_then i64_of (whole_in (number_at text at))
