-- A number by its decimal digits, a turn each. Assumes nothing.
use Rattle.std.proofs.Common.{ℕ, ◌+◌, ◌*◌, ◌≤◌, ◌<◌, ◌≡◌, List, length, take, get_or, ap, sym, ◌∙◌, arith}
use Rattle.std.proofs.lemmas.List.{take_all}
use Rattle.std.specs.Char.{digit_value}
use Rattle.std.specs.Str.Parse.{digits_value}
use Rattle.std.proofs.lemmas.Int.Digits.{digits_value_more}
use Rattle.std.proofs.lemmas.Str.Parse.{digits_value-take-le}

module _ (digits : List ℕ) (i number : ℕ) (e : number ≡ digits_value 10 (take i digits)) where
  pub more : i < length digits → number * 10 + digit_value (get_or digits i 0) ≡ digits_value 10 (take (i + 1) digits)
  more h = rw e (sym (digits_value_more 10 digits i h))

  pub at-least : i < length digits → number * 10 + digit_value (get_or digits i 0) ≤ digits_value 10 digits
  at-least h = rw (more h) (digits_value-take-le 10 digits (i + 1) (omega arith))

  pub all : length digits ≤ i → number ≡ digits_value 10 digits
  all h = e ∙ ap (digits_value 10) (take_all i digits h)
