-- Words as numbers: decimal digits, and `-` before them where a number may be below 0.
use Rattle.std.specs.Prelude.{ℕ, Bool, not, ◌||◌, true, false, List, drop, get_or, length, if◌then◌else◌, ℤ, Result, Ok, Err, ◌==◌, nat_le}
use Rattle.std.specs.Char.{is_ascii_digit}
use Rattle.std.specs.List.{list_all}
use Rattle.std.specs.Option.{ok_or}
use Rattle.std.specs.Str.Parse.{digits_value}
use Rattle.conditions.specs.Conditions.{max_u64}
use Rattle.conditions.specs.Results.{◌>>=◌}
use Rattle.signed.specs.Signed.{as_i64, with_sign}
use Rattle.steps.specs.declared.Fault.{Fault}
use Rattle.steps.specs.declared.Fault.TheVariants.{Unknown, Large}

-- a word as a number
abbrev pub number_in : List ℕ → Result ℕ Fault
number_in word =
    if length word == 0 || not (list_all is_ascii_digit word) then Err Unknown
    else if nat_le (digits_value 10 word) max_u64 then Ok (digits_value 10 word) else Err Large

-- a number with a sign, true for below 0
abbrev pub signed_as : Bool → Result ℕ Fault → Result ℤ Fault
signed_as negative number = number >>= (λ size. ok_or (as_i64 (with_sign negative size)) Large)

-- a word as a signed number
abbrev pub integer_in : List ℕ → Result ℤ Fault
integer_in word =
    if get_or word 0 0 == 45 then signed_as true (number_in (drop 1 word)) else signed_as false (number_in word)
